use Rattle.std.proofs.Common.{◌+◌, ◌*◌, max}
use Rattle.zm_logic.specs.Measure.{depth}
use Rattle.term_store.specs.Trees.{form_of}
use Rattle.branch.proofs.sizes.+form_size.Given as goal

abbrev pub decreases-form_size : goal.decreases-form_size
decreases-form_size l = 3 * depth (form_of l.store.now l.id) + 1

abbrev pub decreases-new_size : goal.decreases-new_size
decreases-new_size l = 3 * depth (form_of l.store.now l.id)

abbrev pub decreases-one_size : goal.decreases-one_size
decreases-one_size l = 3 * depth (form_of l.store.now l.f) + 2

abbrev pub decreases-two_size : goal.decreases-two_size
decreases-two_size l = 3 * max (depth (form_of l.store.now l.f)) (depth (form_of l.store.now l.g)) + 2

abbrev pub decreases-over_size : goal.decreases-over_size
decreases-over_size l = 3 * depth (form_of l.store.now l.f) + 2
