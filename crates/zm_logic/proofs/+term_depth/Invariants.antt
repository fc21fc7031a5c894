use Rattle.std.proofs.Common.{◌≡◌, take, min, ◌-◌, ◌^◌}
use Rattle.zm_logic.specs.View.{terms_tree}
use Rattle.zm_logic.specs.Measure as measure
use Rattle.zm_logic.proofs.+term_depth.Given as goal

abbrev pub invariant-measures::terms_depth-loop-u : goal.invariant-measures::terms_depth-loop-u
invariant-measures::terms_depth-loop-u l = l.all ≡ min (measure.terms_depth (terms_tree (take l.u-index l.u-items))) (2 ^ 64 - 1)
