use Rattle.std.proofs.Common.{◌+◌, ◌*◌}
use Rattle.term_store.proofs.store.Store.+enter_form.Given as goal

abbrev pub decreases-enter_form : goal.decreases-enter_form
decreases-enter_form l = 3 * l.room

abbrev pub decreases-enter_not : goal.decreases-enter_not
decreases-enter_not l = 3 * l.room + 2

abbrev pub decreases-enter_binary : goal.decreases-enter_binary
decreases-enter_binary l = 3 * l.room + 2

abbrev pub decreases-enter_quantified : goal.decreases-enter_quantified
decreases-enter_quantified l = 3 * l.room + 2

abbrev pub decreases-enter_quantified_types : goal.decreases-enter_quantified_types
decreases-enter_quantified_types l = 3 * l.room + 2

abbrev pub decreases-enter_two : goal.decreases-enter_two
decreases-enter_two l = 3 * l.room + 1

abbrev pub decreases-enter_body : goal.decreases-enter_body
decreases-enter_body l = 3 * l.room + 1
