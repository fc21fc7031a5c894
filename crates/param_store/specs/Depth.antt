-- The depth of the deepest formula of an offer's children.
use Rattle.std.specs.Prelude.{ℕ, max, List, [], ◌∷◌}
use Rattle.zm_logic.specs.Tree.{Form}
use Rattle.zm_logic.specs.Measure.{depth}
use Rattle.param_store.specs.RawOffers.{Raw}

abbrev pub deepest_form : List Form → ℕ
deepest_form [] = 0
deepest_form (f ∷ fs) = max (depth f) (deepest_form fs)

abbrev pub deepest_child : List (List Form) → ℕ
deepest_child [] = 0
deepest_child (c ∷ cs) = max (deepest_form c) (deepest_child cs)

abbrev pub deepest : List Raw → ℕ
deepest [] = 0
deepest (r ∷ rs) = max (deepest_child r.children) (deepest rs)
