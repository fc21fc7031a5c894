-- Without rules, below a root without quantifiers, equality and parameters each branch is so, and where no formula of the
-- root is deeper than 2,000, none is.
use Rattle.std.proofs.Common.{◌≡◌, ℕ, ◌≤◌, Bool, false, ◌||◌, subst, List, [], ◌∷◌, inl, inr, Contains, Some}
use Rattle.zm_logic.specs.Tree.{Form}
use Rattle.zm_logic.specs.Measure.{depth}
use Rattle.zm_logic.specs.Parameter.{HasNoParameter}
use Rattle.zm_logic.specs.Truth.{IsQuantifierFree}
use Rattle.zm_logic.proofs.Sames.{Contains-here, Contains-there}
use Rattle.param_store.specs.RawOffers.{Act, split}
use Rattle.branch.specs.Branch.{extend}
use Rattle.branch.specs.Setting.{Setting}
use Rattle.branch.specs.BranchOffers.{Kind}
use Rattle.branch.specs.Offers.{normals, IsOfferAt}
use Rattle.branch.specs.Tableau.{Node, Children, Leaf, given, skips, enter, enter_child, after, IsLawful, AreLawful, IsTableau, current_leaf}
use Rattle.branch.specs.Introduced.{Above}
use Rattle.branch.specs.Facts.{EachBranch, EachBelow}
use Rattle.branch.specs.QuantifierFree.{AreQuantifierFree, AreShallow}
use Rattle.branch.proofs.Branches.{extend-cases}
use Rattle.branch.proofs.Children.{OfParts, split_all}
use Rattle.branch.proofs.Grows.{all_of, all_in}
use Rattle.branch.proofs.Splits.{split_depth, offer_at}
use Rattle.branch.proofs.Stopped.{at_current}

-- a fact of a branch that passes to the branches of the children of each offer
module _ (s : Setting) (P : List Form → Type 0)
    (passes : (t b : List Form) (k : ℕ) (kind : Kind) (act : Act) (ns : Children) → P b → IsOfferAt s t b k kind act (given ns) → (c : List Form) → Contains (normals (given ns)) c → P (extend b c)) where
  abbrev Holds : List Form → List Above → List Form → Type 0
  Holds t above b = P b

  mutual
    each_branch : (n : Node) (t : List Form) (above : List Above) (b : List Form) → P b → IsLawful s t b n → EachBranch Holds t above b n
    each_branch (Node.step k c a ns) t above b h l =
        (h, each_below ns t (record { kind = c; act = a } ∷ above) b (passes t b k c a ns h l.1) false l.2)
    each_branch (Node.closed c) t above b h l = h
    each_branch Node.opened t above b h l = h
    each_branch Node.skipped t above b h l = tt

    each_below : (ns : Children) (t : List Form) (above : List Above) (b : List Form) → ((c : List Form) → Contains (normals (given ns)) c → P (extend b c))
        → (i : Bool) → AreLawful s t b i ns → EachBelow Holds t above b ns
    each_below Children.none t above b h i l = tt
    each_below (Children.more r f n ns) t above b h i l = (
      each_branch n (enter_child t f n) above (extend b f) (h f (Contains-here f (normals (given ns)))) l.1,
      each_below ns (after (enter_child t f n) n) above b (λ c m. h c (Contains-there f (normals (given ns)) c m)) (i || skips s.prunes b f n) l.2,
    )

  pub tableau_has : (root : List Form) (tree : Node) → P root → IsTableau s root tree → EachBranch Holds (enter [] root) [] root tree
  tableau_has root tree h t = each_branch tree (enter [] root) [] root h t.lawful

  pub leaf_has : (root : List Form) (tree : Node) (leaf : Leaf) → P root → IsTableau s root tree → current_leaf root tree ≡ Some leaf → P leaf.branch
  leaf_has root tree leaf h t e = let x = at_current Holds tree (enter [] root) [] root 0 leaf (tableau_has root tree h t) e in x.1

abbrev IsFree : Form → Type 0
IsFree f = IsQuantifierFree f × HasNoParameter f

free_parts : OfParts IsFree
free_parts = record { up = λ f h. h; down = λ f h. h; first = λ c f g h. (h.0.0, h.1.0); second = λ c f g h. (h.0.1, h.1.1) }

pub extend_free : (b c : List Form) → AreQuantifierFree b → AreQuantifierFree c → AreQuantifierFree (extend b c)
extend_free b c p q = record {
  free = λ f m. elim (extend-cases b c f m) [ inl i ↦ p.free f i | inr i ↦ q.free f i ];
  parameters = λ f m. elim (extend-cases b c f m) [ inl i ↦ p.parameters f i | inr i ↦ q.parameters f i ];
}

pub extend_shallow : (b c : List Form) → AreShallow b → AreShallow c → AreShallow (extend b c)
extend_shallow b c p q f m = elim (extend-cases b c f m) [ inl i ↦ p f i | inr i ↦ q f i ]

module _ (s : Setting) (unruled : s.rules ≡ []) where
  pub children_free : (t b : List Form) (k : ℕ) (kind : Kind) (act : Act) (ns : Children) → AreQuantifierFree b → IsOfferAt s t b k kind act (given ns)
      → (c : List Form) → Contains (normals (given ns)) c → AreQuantifierFree c
  children_free t b k kind act ns q at c m =
      let x = offer_at s unruled t b k kind act (given ns) q at in
      let all = all_in IsFree (split x.form) (split_all IsFree free_parts x.form (q.free x.form x.stands, q.parameters x.form x.stands)) c (subst (λ z. Contains z c) x.brings m) in
      record { free = λ f i. (all_of IsFree c all f i).0; parameters = λ f i. (all_of IsFree c all f i).1 }

  children_shallow : (t b : List Form) (k : ℕ) (kind : Kind) (act : Act) (ns : Children) → AreQuantifierFree b → AreShallow b → IsOfferAt s t b k kind act (given ns)
      → (c : List Form) → Contains (normals (given ns)) c → AreShallow c
  children_shallow t b k kind act ns q d at c m f i =
      let x = offer_at s unruled t b k kind act (given ns) q at in
      let P : Form → Type 0 = λ y. depth y ≤ 2000 in
      all_of P c (all_in P (split x.form) (split_depth 2000 x.form (d x.form x.stands)) c (subst (λ z. Contains z c) x.brings m)) f i

  abbrev IsShallowFree : List Form → Type 0
  IsShallowFree b = AreQuantifierFree b × AreShallow b

  passes : (t b : List Form) (k : ℕ) (kind : Kind) (act : Act) (ns : Children) → AreQuantifierFree b × AreShallow b → IsOfferAt s t b k kind act (given ns)
      → (c : List Form) → Contains (normals (given ns)) c → AreQuantifierFree (extend b c) × AreShallow (extend b c)
  passes t b k kind act ns h at c m = (
    extend_free b c h.0 (children_free t b k kind act ns h.0 at c m),
    extend_shallow b c h.1 (children_shallow t b k kind act ns h.0 h.1 at c m),
  )

  pub tableau_free : (root : List Form) (tree : Node) → AreQuantifierFree root → AreShallow root → IsTableau s root tree
      → EachBranch (λ t above b. AreQuantifierFree b × AreShallow b) (enter [] root) [] root tree
  tableau_free root tree q d t = tableau_has s IsShallowFree passes root tree (q, d) t

  pub leaf_free : (root : List Form) (tree : Node) (leaf : Leaf) → AreQuantifierFree root → AreShallow root → IsTableau s root tree
      → current_leaf root tree ≡ Some leaf → AreQuantifierFree leaf.branch × AreShallow leaf.branch
  leaf_free root tree leaf q d t e = leaf_has s IsShallowFree passes root tree leaf (q, d) t e
