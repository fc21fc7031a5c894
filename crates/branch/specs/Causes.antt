-- The cause for which a search stops, as its value in the code has it.
use Rattle.zm_logic.specs.View.{form_tree, side_tree}
use Rattle.branch.specs.declared.why.Why.{Why}
use Rattle.branch.specs.declared.why.Why.TheVariants as whys
use Rattle.branch.specs.Stopping.{Cause}

abbrev pub cause_of : Why → Cause
cause_of whys.Steps = Cause.steps
cause_of whys.BranchLength = Cause.branch_length
cause_of (whys.Rewrites from) = Cause.rewrites (form_tree from)
cause_of (whys.Deep at) = Cause.deep (side_tree at)
cause_of whys.Saturated = Cause.saturated
