use Rattle.std.proofs.Common.{◌≡◌, take, min, ◌-◌, ◌^◌}
use Rattle.zm_logic.specs.View.{terms_tree}
use Rattle.zm_logic.specs.Measure as measure
use Rattle.zm_logic.proofs.+term_size.Given as goal

abbrev pub invariant-measures::terms_size-loop-u : goal.invariant-measures::terms_size-loop-u
invariant-measures::terms_size-loop-u l = l.all ≡ min (measure.terms_size (terms_tree (take l.u-index l.u-items))) (2 ^ 64 - 1)
