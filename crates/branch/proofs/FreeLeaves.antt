-- Without rules, below a root without an equality the current leaf's branch and its table have none.
use Rattle.std.proofs.Common.{◌≡◌, ℕ, ◌+◌, Bool, true, false, ◌||◌, cond, refl, subst, ◌∙◌, List, [], Option, None, Some}
use Rattle.std.specs.Option.{option_or}
use Rattle.std.proofs.lemmas.List.Elements.{All-head, All-tail}
use Rattle.std.proofs.lemmas.Option.{same_Some}
use Rattle.zm_logic.specs.Tree.{Form}
use Rattle.branch.specs.Branch.{extend}
use Rattle.branch.specs.Setting.{Setting}
use Rattle.branch.specs.Offers.{Child}
use Rattle.branch.specs.Tableau.{Node, Children, Leaf, given, is_skipped, skips, enter, enter_child, after, after_all, IsLawful, AreLawful, IsTableau, current, current_of, current_leaf}
use Rattle.branch.specs.EqualityFree.{AreEqualityFree}
use Rattle.branch.proofs.EqualityFree.{none_free, enter_free, extend_free}
use Rattle.branch.proofs.FreeOffers.{HasFreeChildren, taken_free}

enter_child_free : (t f : List Form) (n : Node) → AreEqualityFree t → AreEqualityFree f → AreEqualityFree (enter_child t f n)
enter_child_free t f n h k = go (is_skipped n)
  where
    go : (v : Bool) → AreEqualityFree (cond v t (enter t f))
    go true = h
    go false = enter_free t f h k

abbrev IsFreeChild : Child → Type 0
IsFreeChild c = AreEqualityFree c.normal

module _ (s : Setting) (unruled : s.rules ≡ []) where
  mutual
    after_free : (n : Node) (t b : List Form) → AreEqualityFree t → AreEqualityFree b → IsLawful s t b n → AreEqualityFree (after t n)
    after_free (Node.step k c a ns) t b h g l = after_all_free ns t b h g (taken_free s unruled t b k c a (given ns) l.1 g h) false l.2
    after_free (Node.closed c) t b h g l = h
    after_free Node.opened t b h g l = h
    after_free Node.skipped t b h g l = h

    after_all_free : (ns : Children) (t b : List Form) → AreEqualityFree t → AreEqualityFree b → HasFreeChildren (given ns) → (i : Bool) → AreLawful s t b i ns
        → AreEqualityFree (after_all t ns)
    after_all_free Children.none t b h g c i l = h
    after_all_free (Children.more r f n ns) t b h g c i l =
        let x = All-head IsFreeChild (record { raw = r; normal = f }) (given ns) c in
        let y = All-tail IsFreeChild (record { raw = r; normal = f }) (given ns) c in
        after_all_free ns (after (enter_child t f n) n) b (after_free n (enter_child t f n) (extend b f) (enter_child_free t f n h x) (extend_free b f g x) l.1) g y
        (i || skips s.prunes b f n) l.2

  abbrev IsFreeLeaf : Leaf → Type 0
  IsFreeLeaf leaf = AreEqualityFree leaf.branch × AreEqualityFree leaf.table

  mutual
    current_free : (n : Node) (t b : List Form) (d : ℕ) (leaf : Leaf) → AreEqualityFree t → AreEqualityFree b → IsLawful s t b n
        → current t b d n ≡ Some leaf → AreEqualityFree leaf.branch × AreEqualityFree leaf.table
    current_free (Node.step k c a ns) t b d leaf h g l e =
        current_of_free ns t b (d + 1) leaf h g (taken_free s unruled t b k c a (given ns) l.1 g h) false l.2 e
    current_free (Node.closed c) t b d leaf h g l e = absurd (let q = e in cc)
    current_free Node.opened t b d leaf h g l e = subst IsFreeLeaf (same_Some (record { branch = b; above = d; table = t }) leaf e) (g, h)
    current_free Node.skipped t b d leaf h g l e = absurd (let q = e in cc)

    current_of_free : (ns : Children) (t b : List Form) (d : ℕ) (leaf : Leaf) → AreEqualityFree t → AreEqualityFree b → HasFreeChildren (given ns)
        → (i : Bool) → AreLawful s t b i ns → current_of t b d ns ≡ Some leaf → AreEqualityFree leaf.branch × AreEqualityFree leaf.table
    current_of_free Children.none t b d leaf h g c i l e = absurd (let q = e in cc)
    current_of_free (Children.more r f n ns) t b d leaf h g c i l e =
        let x = All-head IsFreeChild (record { raw = r; normal = f }) (given ns) c in
        let y = All-tail IsFreeChild (record { raw = r; normal = f }) (given ns) c in
        let u = enter_child_free t f n h x in
        let v = extend_free b f g x in
        go (current (enter_child t f n) (extend b f) d n) refl e
        (λ q. current_free n (enter_child t f n) (extend b f) d leaf u v l.1 q)
        (λ q. current_of_free ns (after (enter_child t f n) n) b d leaf (after_free n (enter_child t f n) (extend b f) u v l.1) g y (i || skips s.prunes b f n) l.2 q)
      where
        go : (o : Option Leaf) → current (enter_child t f n) (extend b f) d n ≡ o → option_or o (current_of (after (enter_child t f n) n) b d ns) ≡ Some leaf
            → (current (enter_child t f n) (extend b f) d n ≡ Some leaf → AreEqualityFree leaf.branch × AreEqualityFree leaf.table)
            → (current_of (after (enter_child t f n) n) b d ns ≡ Some leaf → AreEqualityFree leaf.branch × AreEqualityFree leaf.table)
            → AreEqualityFree leaf.branch × AreEqualityFree leaf.table
        go None q z here later = later z
        go (Some m) q z here later = here (q ∙ z)

  pub leaf_free : (root : List Form) (tree : Node) (leaf : Leaf) → AreEqualityFree root → IsTableau s root tree → current_leaf root tree ≡ Some leaf
      → AreEqualityFree leaf.branch × AreEqualityFree leaf.table
  leaf_free root tree leaf h t e = current_free tree (enter [] root) root 0 leaf (enter_free [] root none_free h) h t.lawful e
