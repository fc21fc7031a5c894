-- Rules whose sides can be stored.
use Rattle.std.specs.Prelude.{◌≤◌, List, [], ◌∷◌}
use Rattle.zm_logic.specs.Tree.{Side, Rule}
use Rattle.zm_logic.specs.Measure.{term_depth, depth}

-- the side is no deeper than 2,000
abbrev pub IsShallowSide : Side → Type 0
IsShallowSide (Side.of_term a) = term_depth a ≤ 2000
IsShallowSide (Side.of_form f) = depth f ≤ 2000

-- no side of a rule is deeper than 2,000
abbrev pub AreShallow : List Rule → Type 0
AreShallow [] = Unit {0}
AreShallow (r ∷ rules) = IsShallowSide r.left × IsShallowSide r.right × AreShallow rules
