-- Marks of the indices that occur in a pattern, each at the place of its number.
use Rattle.std.specs.Prelude.{Bool, true, List, slice_set}
use Rattle.lp_terms.specs.Term.{Lp}

-- a pattern holds no binder
abbrev pub marked : Lp → List Bool → List Bool
marked (Lp.index i) marks = slice_set marks i true
marked (Lp.app f a) marks = marked a (marked f marks)
marked Lp.sort marks = marks
marked (Lp.const name) marks = marks
marked (Lp.free n) marks = marks
marked (Lp.abs a b) marks = marks
marked (Lp.prod a b) marks = marks
