use Rattle.std.proofs.Common.{List, ap, sym, ◌∙◌}
use Rattle.std.specs.Borrow.{Bor}
use Rattle.zm_logic.specs.View.{form_tree}
use Rattle.zm_logic.specs.declared.tree.Form as code
use Rattle.lp_translation.specs.View.{found_proof, with_fact}
use Rattle.lp_translation.specs.ViewOldest.{oldest_or, wants, forms_of}
use Rattle.lp_translation.specs.declared.hypotheses.Fact.{Fact}
use Rattle.lp_translation.proofs.BuildingHypotheses.{looked_wanted, forms_push}
use Rattle.lp_translation.proofs.hypotheses.look.Goals as goal

pub returns-in_ok-push-in-Converted : goal.returns-in_ok-push-in-Converted
returns-in_ok-push-in-Converted c = λ hs.
    ap (λ (x : Fact). oldest_or (with_fact hs x) (forms_of c.args.wanted.now.items) (found_proof c.args.found)) c.in-Converted.is
    ∙ looked_wanted (form_tree c.in-Converted.from.now) (form_tree c.in-Converted.to.now) hs (forms_of c.args.wanted.now.items)
    (forms_of c.push.new.self.items) (found_proof c.args.found)
    (sym c.if-is_wanted-2.true ∙ c.is_wanted-in-Converted.ensures
    ∙ ap (λ (ws : List (Bor code.Form)). wants (forms_of ws) (form_tree c.in-Converted.to.now)) c.as_slice-in-Converted.ensures.value)
    (forms_push _ _ _ c.in_ok-push-in-Converted.ensures.items)
