-- A Step over ids with Open leaves below it, and its tree.
use Rattle.std.proofs.Common.{ℕ, zero, suc, ◌≡◌, ◌+◌, ◌<◌, ◌≤◌, refl, ap, sym, subst, ◌∙◌, arith, List, [], ◌∷◌, ◌++◌, length, map, take, get_or, slice_get, Some}
use Rattle.std.proofs.Math.Seq.{take-length}
use Rattle.std.proofs.lemmas.Option.{same_Some}
use Rattle.term_store.specs.Trees.{Tables}
use Rattle.term_store.specs.declared.ids.FormId.{FormId}
use Rattle.param_store.specs.View.{forms_of, lists_of, HasForms, HasLists}
use Rattle.branch.specs.declared.listed.Listed.{Listed}
use Rattle.branch.specs.declared.node.Child as code_child
use Rattle.branch.specs.Ids.{Node, Children, children_of, child_ids, tree_of, trees_of, HasNode, HasNodes}
use Rattle.branch.specs.Listed as listed
use Rattle.branch.specs.Listed.{IsListed}
use Rattle.branch.specs.Replaced.{opening}
use Rattle.branch.specs.Tableau as tableau
use Rattle.branch.specs.Tableau.{count, count_all, picks, picks_all, height, height_all}
use Rattle.branch.specs.Offers as offers
use Rattle.branch.specs.Stepping.{open_leaf, open_leaves, step_ids}

-- one leaf more
open_next : (i : ℕ) (rs ns : List (List FormId)) (d b : List FormId) → i < length rs → length ns ≡ length rs
    → open_leaves (take (suc i) rs) (take (suc i) ns) ≡ open_leaves (take i rs) (take i ns) ++ open_leaf (get_or rs i d) (get_or ns i b) ∷ []
open_next i [] ns d b h e = absurd (omega (arith, h))
open_next i (r ∷ rs) [] d b h e = absurd (omega (arith, e))
open_next zero (r ∷ rs) (n ∷ ns) d b h e = refl
open_next (suc i) (r ∷ rs) (n ∷ ns) d b h e = ap (λ cs. open_leaf r n ∷ cs) (open_next i rs ns d b (omega (arith, h)) (omega (arith, e)))

open_more : (i : ℕ) (rs ns : List (List FormId)) (d b : List FormId) → i < length rs → length ns ≡ length rs
    → open_leaves (take (i + 1) rs) (take (i + 1) ns) ≡ open_leaves (take i rs) (take i ns) ++ open_leaf (get_or rs i d) (get_or ns i b) ∷ []
open_more i rs ns d b h e =
    let n : i + 1 ≡ suc i = omega arith in
    ap (λ j. open_leaves (take j rs) (take j ns)) n ∙ open_next i rs ns d b h e

map_push : (cs : List code_child.Child) (c : code_child.Child) → map child_ids (cs ++ c ∷ []) ≡ map child_ids cs ++ child_ids c ∷ []
map_push [] c = refl
map_push (b ∷ cs) c = ap (λ xs. child_ids b ∷ xs) (map_push cs c)

pub open_pushed : (cs new : List code_child.Child) (c : code_child.Child) (i : ℕ) (rs ns : List (List FormId)) (r f : List FormId) → i < length rs → length ns ≡ length rs
    → map child_ids cs ≡ open_leaves (take i rs) (take i ns) → child_ids c ≡ open_leaf r f → r ≡ get_or rs i r → f ≡ get_or ns i f → new ≡ cs ++ c ∷ []
    → map child_ids new ≡ open_leaves (take (i + 1) rs) (take (i + 1) ns)
open_pushed cs new c i rs ns r f h e before here p q n =
    ap (map child_ids) n ∙ map_push cs c ∙ ap (λ xs. xs ++ child_ids c ∷ []) before
    ∙ ap (λ x. open_leaves (take i rs) (take i ns) ++ x ∷ []) (here ∙ ap (λ x. open_leaf x f) p ∙ ap (open_leaf (get_or rs i r)) q)
    ∙ sym (open_more i rs ns r f h e)

pub open_all : (cs : List code_child.Child) (i : ℕ) (rs ns : List (List FormId)) → length rs ≤ i → length ns ≡ length rs → i ≤ length rs
    → map child_ids cs ≡ open_leaves (take i rs) (take i ns) → map child_ids cs ≡ open_leaves rs ns
open_all cs i rs ns h e k before =
    let x : i ≡ length rs = omega (arith, h, k) in
    let y : i ≡ length ns = omega (arith, x, e) in
    before ∙ ap (λ zs. open_leaves zs (take i ns)) (ap (λ j. take j rs) x ∙ take-length rs) ∙ ap (open_leaves rs) (ap (λ j. take j ns) y ∙ take-length ns)

-- the first one
pub first_open : (rs ns : List (List FormId)) (f : List FormId) → length ns ≡ length rs → slice_get ns 0 ≡ Some f
    → (r : List FormId) × (ms : Children) × (children_of (open_leaves rs ns) ≡ Children.more r f Node.opened ms)
first_open [] [] f e h = absurd (let q = h in cc)
first_open [] (n ∷ ns) f e h = absurd (omega (arith, e))
first_open (r ∷ rs) [] f e h = absurd (omega (arith, e))
first_open (r ∷ rs) (n ∷ ns) f e h = (r, children_of (open_leaves rs ns), ap (λ x. Children.more r x Node.opened (children_of (open_leaves rs ns))) (same_Some n f h))

pub first_has : (s : Tables) (ns : List (List FormId)) (f : List FormId) → HasLists s ns → slice_get ns 0 ≡ Some f → HasForms s f
first_has s [] f h e = absurd (let q = e in cc)
first_has s (n ∷ ns) f h e = subst (HasForms s) (same_Some n f e) h.0

module _ (s : Tables) where
  -- the trees are the Open children of the offer
  open_trees : (rs ns : List (List FormId)) → trees_of s (children_of (open_leaves rs ns)) ≡ opening (listed.children_of (lists_of s rs) (lists_of s ns))
  open_trees [] [] = refl
  open_trees [] (n ∷ ns) = refl
  open_trees (r ∷ rs) [] = refl
  open_trees (r ∷ rs) (n ∷ ns) = ap (tableau.Children.more (forms_of s r) (forms_of s n) tableau.Node.opened) (open_trees rs ns)

  pub step_tree : (pick : ℕ) (l : Listed) → tree_of s (step_ids pick l)
      ≡ tableau.Node.step pick (listed.listed_of s l).kind (listed.listed_of s l).act (opening (listed.listed_of s l).children)
  step_tree pick l = ap (tableau.Node.step pick (listed.listed_of s l).kind (listed.listed_of s l).act) (open_trees l.raw l.normal)

  open_has : (rs ns : List (List FormId)) → HasLists s rs → HasLists s ns → HasNodes s (children_of (open_leaves rs ns))
  open_has [] ns h k = tt
  open_has (r ∷ rs) [] h k = tt
  open_has (r ∷ rs) (n ∷ ns) h k = (h.0, k.0, tt, open_has rs ns h.1 k.1)

  pub step_has : (pick : ℕ) (l : Listed) → IsListed s l → HasNode s (step_ids pick l)
  step_has pick l h = (h.act, open_has l.raw l.normal h.raw h.normal)

-- no Step is below it
opening_picks : (cs : List offers.Child) → picks_all (opening cs) ≡ []
opening_picks [] = refl
opening_picks (c ∷ cs) = opening_picks cs

opening_count : (cs : List offers.Child) → count_all (opening cs) ≡ 0
opening_count [] = refl
opening_count (c ∷ cs) = let e = opening_count cs in omega (arith, e)

opening_height : (cs : List offers.Child) → height_all (opening cs) ≡ 0
opening_height [] = refl
opening_height (c ∷ cs) = let e = opening_height cs in omega (arith, e)

module _ (s : Tables) (pick : ℕ) (l : Listed) where
  pub step_picks : picks (tree_of s (step_ids pick l)) ≡ pick ∷ []
  step_picks = ap picks (step_tree s pick l) ∙ ap (λ ks. pick ∷ ks) (opening_picks (listed.listed_of s l).children)

  pub step_count : count (tree_of s (step_ids pick l)) ≡ 1
  step_count = ap count (step_tree s pick l) ∙ ap (λ n. 1 + n) (opening_count (listed.listed_of s l).children)

  pub step_height : height (tree_of s (step_ids pick l)) ≡ 1
  step_height = ap height (step_tree s pick l) ∙ ap (λ n. 1 + n) (opening_height (listed.listed_of s l).children)
