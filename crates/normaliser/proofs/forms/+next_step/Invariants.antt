use Rattle.std.proofs.Common.{◌+◌, ◌*◌}
use Rattle.zm_logic.specs.Measure.{size}
use Rattle.zm_logic.specs.View.{form_tree}
use Rattle.normaliser.proofs.forms.+next_step.Given as goal

abbrev pub decreases-next_step : goal.decreases-next_step
decreases-next_step l = 5 * size (form_tree l.form.now) + 1

abbrev pub decreases-next_part : goal.decreases-next_part
decreases-next_part l = 5 * size (form_tree l.form.now)

abbrev pub decreases-next_boxed : goal.decreases-next_boxed
decreases-next_boxed l = 5 * size (form_tree l.form.now) + 2

abbrev pub decreases-not_part : goal.decreases-not_part
decreases-not_part l = 5 * size (form_tree l.form.now) + 4

abbrev pub decreases-binary_part : goal.decreases-binary_part
decreases-binary_part l = 5 * size (form_tree l.first.now) + 5 * size (form_tree l.second.now) + 4

abbrev pub decreases-second_part : goal.decreases-second_part
decreases-second_part l = 5 * size (form_tree l.first.now) + 5 * size (form_tree l.second.now) + 3

abbrev pub decreases-quantified_part : goal.decreases-quantified_part
decreases-quantified_part l = 5 * size (form_tree l.body.now) + 4

abbrev pub decreases-quantified_types_part : goal.decreases-quantified_types_part
decreases-quantified_types_part l = 5 * size (form_tree l.body.now) + 4
