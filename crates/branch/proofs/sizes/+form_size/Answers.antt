use Rattle.std.proofs.Common.{◌≡◌, ◌∙◌}
use Rattle.std.proofs.lemmas.Result.{IfOk-weaker}
use Rattle.zm_logic.specs.Measure.{size}
use Rattle.term_store.specs.Trees.{form_of}
use Rattle.branch.specs.Listed.{capped}
use Rattle.branch.proofs.sizes.+form_size.Goals as goal

pub form_size-returns-clause-value : goal.form_size-returns-clause-value
form_size-returns-clause-value t c =
    IfOk-weaker c.keep_form.result (λ n. n ≡ c.in_ok-size.size) (λ n. n ≡ capped (size (form_of c.args.store.now c.args.id)))
    (λ n e. e ∙ c.in_ok-size.ensures.value) c.keep_form.ensures.value

pub form_size-returns-clause-knows : goal.form_size-returns-clause-knows
form_size-returns-clause-knows t c = c.keep_form.ensures.knows c.args.store.now c.requires.has c.in_ok-size.ensures.value c.in_ok-size.ensures.knows
