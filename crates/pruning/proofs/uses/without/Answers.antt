use Rattle.std.proofs.Common.{◌++◌, ◌∷◌, [], cond, not, sym, ap, ◌∙◌, get_or}
use Rattle.zm_logic.specs.Same.{has}
use Rattle.term_store.specs.Trees.{form_of}
use Rattle.term_store.specs.declared.ids.FormId.{FormId}
use Rattle.param_store.specs.View.{forms_of}
use Rattle.branch.proofs.Held.{held_at}
use Rattle.pruning.proofs.Ids.{without_more}
use Rattle.pruning.proofs.uses.without.Goals as goal

abbrev none : FormId
none = record { 0 = 0 }

pub push_unless-requires-clause-form : goal.push_unless-requires-clause-form
push_unless-requires-clause-form c =
    held_at c.args.store.now c.args.forms.now c.loop-form.form-index none c.requires.forms c.loop-form-test.true

pub loop-form-preserved : goal.loop-form-preserved
loop-form-preserved c =
    let s = c.args.store.now in
    let known = forms_of s c.args.known.now in
    let f = form_of s (get_or c.args.forms.now c.loop-form.form-index none) in
    record {
      forms = c.in_ok-push_unless.ensures.forms
          ∙ (ap (λ fs. cond (has known f) fs (fs ++ f ∷ [])) c.loop-form.invariant.forms
          ∙ sym (without_more s known c.args.forms.now c.loop-form.form-index none c.loop-form-test.true));
      has = c.in_ok-push_unless.ensures.has;
    }
