use Rattle.std.proofs.Common.{◌≡◌, drop}
use Rattle.zm_logic.specs.View.{form_tree}
use Rattle.lp_translation.specs.ViewOldest.{forms_of, wants}
use Rattle.lp_translation.proofs.hypotheses.is_wanted.Given as goal

-- what is left to look at decides
abbrev pub invariant-loop-other : goal.invariant-loop-other
invariant-loop-other l = wants (forms_of (drop l.other-index l.wanted)) (form_tree l.form) ≡ wants (forms_of l.wanted) (form_tree l.form)
