-- With enough Steps a search stops saturated or not at all.
use Rattle.std.proofs.Common.{◌≡◌, ◌≢◌, ℕ, ◌+◌, ◌*◌, ◌≤◌, ◌<◌, refl, sym, subst, ◌∙◌, arith, List, [], Some, All}
use Rattle.std.proofs.lemmas.Nat.{mul-le}
use Rattle.zm_logic.specs.Tree.{Form, Problem}
use Rattle.zm_logic.specs.Problem.{IsTypedProblem}
use Rattle.zm_logic.specs.Truth.{IsQuantifierFree, refuted}
use Rattle.branch.specs.Branch.{extend}
use Rattle.branch.specs.Setting.{Setting}
use Rattle.branch.specs.Normal.{Fault}
use Rattle.branch.specs.Tableau.{Node, Leaf, IsTableau, enter, count, current_leaf}
use Rattle.branch.specs.Stopping.{IsRoot, Cause, HasOffer, StopsAt, StopsInside, Stopped}
use Rattle.branch.specs.QuantifierFree.{AreQuantifierFree, AreShallow, useful_splits}
use Rattle.branch.proofs.Splits.{offers_are, no_fault, root_itself, no_root_fault}
use Rattle.branch.proofs.FreeBranches.{leaf_free}
use Rattle.branch.proofs.FreeRoots.{root_free}
use Rattle.search.specs.Need.{weights, all_leaves, need}
use Rattle.search.specs.Laws as laws
use Rattle.search.proofs.Load.{load, spread, load_extend, spread_extend}
use Rattle.search.proofs.Bound.{bound, strict, above, above_none}

-- what the root has to do is what the formulas weigh
root_load : (given root : List Form) → extend [] given ≡ root → load root root ≤ weights given
root_load given root e = subst (λ b. load b b ≤ weights given) e (let q = load_extend (extend [] given) [] given in omega arith)

root_spread : (given root : List Form) → extend [] given ≡ root → spread root root ≤ all_leaves given
root_spread given root e = subst (λ b. spread b b ≤ all_leaves given) e (let q = spread_extend (extend [] given) [] given in omega arith)

root_need : (given root : List Form) → extend [] given ≡ root → load root root * spread root root ≤ need given
root_need given root e = mul-le (load root root) (spread root root) (weights given) (all_leaves given) (root_load given root e) (root_spread given root e)

at_most : (c l n : ℕ) → c ≤ l → l ≤ n → c ≤ n
at_most c l n h k = omega arith

steps_left : (c l n b : ℕ) → c + 1 ≤ l → l ≤ n → n ≤ b → c ≡ b → ⊥
steps_left c l n b h k i e = omega arith

places_left : (a l r w : ℕ) → a + l ≤ 0 + r → r ≤ w → w ≤ 512 → 0 < l → a ≡ 512 → ⊥
places_left a l r w h k i j e = omega arith

module _ (p : Problem) (s : Setting) (typed : IsTypedProblem p) (free : All IsQuantifierFree (refuted p)) (unruled : s.rules ≡ []) where
  is_bounded : (root : List Form) (tree : Node) → IsRoot s (refuted p) root → IsTableau s root tree → count tree ≤ need (refuted p)
  is_bounded root tree is t =
      let q = root_free p s root typed free unruled is in
      at_most (count tree) (load root root * spread root root) (need (refuted p)) (bound s unruled tree (enter [] root) root q.0 t.lawful)
      (root_need (refuted p) root (root_itself s unruled (refuted p) root is))

  -- an offer of the leaf's branch is a useful alpha or beta formula
  is_useful : (leaf : Leaf) → AreQuantifierFree leaf.branch → HasOffer s leaf → useful_splits leaf.branch ≢ []
  is_useful leaf q h e = h.2 (offers_are s unruled leaf.table leaf.branch h.0 q h.1 ∙ e)

  module _ (root : List Form) (budget : ℕ) (tree : Node) (is : IsRoot s (refuted p) root) (t : IsTableau s root tree)
      (few : weights (refuted p) ≤ 512) (enough : need (refuted p) ≤ budget) where
    not_spent : (leaf : Leaf) → AreQuantifierFree leaf.branch → current_leaf root tree ≡ Some leaf → HasOffer s leaf → count tree ≡ budget → ⊥
    not_spent leaf q e h u =
        let r = root_free p s root typed free unruled is in
        steps_left (count tree) (load root root * spread root root) (need (refuted p)) budget
        (strict s unruled tree (enter [] root) root 0 leaf r.0 t.lawful e (is_useful leaf q h))
        (root_need (refuted p) root (root_itself s unruled (refuted p) root is)) enough u

    not_long : (leaf : Leaf) → AreQuantifierFree leaf.branch → current_leaf root tree ≡ Some leaf → HasOffer s leaf → leaf.above ≡ 512 → ⊥
    not_long leaf q e h u =
        let r = root_free p s root typed free unruled is in
        places_left leaf.above (load leaf.branch leaf.branch) (load root root) (weights (refuted p))
        (above s unruled tree (enter [] root) root 0 leaf r.0 t.lawful e)
        (root_load (refuted p) root (root_itself s unruled (refuted p) root is)) few (above_none leaf.branch (is_useful leaf q h)) u

    saturated_at : (leaf : Leaf) (why : Cause) → current_leaf root tree ≡ Some leaf → AreQuantifierFree leaf.branch → AreShallow leaf.branch
        → StopsAt s budget (count tree) leaf why → why ≡ Cause.saturated
    saturated_at leaf (Cause.rewrites f) e q d h = absurd (no_fault s unruled leaf.table leaf.branch (Fault.rewrites f) q d h)
    saturated_at leaf (Cause.deep at) e q d h = absurd (no_fault s unruled leaf.table leaf.branch (Fault.deep at) q d h)
    saturated_at leaf Cause.saturated e q d h = refl
    saturated_at leaf Cause.steps e q d h = absurd (not_spent leaf q e h.0 h.1)
    saturated_at leaf Cause.branch_length e q d h = absurd (not_long leaf q e h.0 h.2)

    saturated_inside : (why : Cause) → StopsInside s (refuted p) budget tree why → why ≡ Cause.saturated
    saturated_inside why h =
        let same : h.root ≡ root = sym (root_itself s unruled (refuted p) h.root h.is_root) ∙ root_itself s unruled (refuted p) root is in
        let e : current_leaf root tree ≡ Some h.leaf = subst (λ b. current_leaf b tree ≡ Some h.leaf) same h.is_current in
        let r = root_free p s root typed free unruled is in
        let x = leaf_free s unruled root tree h.leaf r.0 r.1 t e in
        saturated_at h.leaf why e x.0 x.1 h.stops

  saturates : (root : List Form) (budget : ℕ) (tree : Node) (why : Cause) → IsRoot s (refuted p) root → IsTableau s root tree
      → weights (refuted p) ≤ 512 → need (refuted p) ≤ budget → Stopped s (refuted p) budget tree why → why ≡ Cause.saturated
  saturates root budget tree why is t few enough (Stopped.inside h) = saturated_inside root budget tree is t few enough why h
  saturates root budget tree why is t few enough (Stopped.at_root before fault h e) = absurd (no_root_fault s unruled (refuted p) before fault h)

pub need_bounds_tableaux : laws.NeedBoundsTableaux
need_bounds_tableaux p s root tree typed free unruled is t = is_bounded p s typed free unruled root tree is t

pub enough_steps_saturate : laws.EnoughStepsSaturate
enough_steps_saturate p s root budget tree why typed free unruled is t few enough h = saturates p s typed free unruled root budget tree why is t few enough h
