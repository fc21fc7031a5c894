use Rattle.std.proofs.Common.{◌≡◌, false, cond, sym, ap, ◌∙◌, subst, ◌∷◌, ◌++◌, []}
use Rattle.std.proofs.lemmas.List.{map-append}
use Rattle.zm_logic.specs.Same.{has}
use Rattle.term_store.specs.Trees.{form_of}
use Rattle.param_store.specs.View.{forms_of, HasForms}
use Rattle.branch.proofs.Held.{held_push}
use Rattle.pruning.proofs.uses.push_unless.Goals as goal

pub returns-clause-forms : goal.returns-clause-forms
returns-clause-forms c =
    let s = c.args.store.now in
    let f = form_of s c.args.form in
    let old = forms_of s c.args.all.now in
    let lacks : has (forms_of s c.args.known.now) f ≡ false = sym c.has.ensures ∙ c.if-has.false in
    ap (forms_of s) c.in_ok-push.ensures.ok ∙ (map-append (form_of s) c.args.all.now (c.args.form ∷ []) ∙ sym (ap (λ b. cond b old (old ++ f ∷ [])) lacks))

pub returns-clause-has : goal.returns-clause-has
returns-clause-has c =
    subst (HasForms c.args.store.now) (sym c.in_ok-push.ensures.ok) (held_push c.args.store.now c.args.all.now c.args.form c.requires.all c.requires.form)
