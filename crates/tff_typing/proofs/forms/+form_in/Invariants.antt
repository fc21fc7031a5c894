use Rattle.std.proofs.Common.{◌+◌, ◌*◌, max}
use Rattle.tptp_reader.specs.Raw.{raw_depth}
use Rattle.tptp_reader.specs.View.{raw_form_tree}
use Rattle.tff_typing.proofs.forms.+form_in.Given as goal

abbrev pub decreases-form_in : goal.decreases-form_in
decreases-form_in l = 2 * raw_depth (raw_form_tree l.raw.now)

abbrev pub decreases-negation : goal.decreases-negation
decreases-negation l = 2 * raw_depth (raw_form_tree l.body.now) + 1

abbrev pub decreases-binary : goal.decreases-binary
decreases-binary l = 2 * max (raw_depth (raw_form_tree l.first.now)) (raw_depth (raw_form_tree l.second.now)) + 1

abbrev pub decreases-quantified : goal.decreases-quantified
decreases-quantified l = 2 * raw_depth (raw_form_tree l.body.now) + 1
