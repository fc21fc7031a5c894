-- The formulas of the table are distinct, so each has its place as its number.
use Rattle.std.proofs.Common.{◌≡◌, List, IfSome, subst, ◌∙◌}
use Rattle.term_store.specs.declared.ids.FormId.{FormId}
use Rattle.param_store.specs.Numbers.{number_in}
use Rattle.param_store.proofs.Numbers.{number_given}
use Rattle.param_store.proofs.params.Params.form_of.Goals as goal

pub returns-clause-number : goal.returns-clause-number
returns-clause-number c =
    let P : List FormId → Type 0 = λ ids. IfSome c.copied.result (λ f. number_in ids f ≡ c.args.number) in
    subst P c.self.view_is (number_given c.self.inside.forms.keys c.args.number c.copied.result c.len.ensures.unique (c.copied.ensures ∙ c.get_index.ensures.key))
