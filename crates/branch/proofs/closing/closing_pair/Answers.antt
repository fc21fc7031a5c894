use Rattle.std.proofs.Common.{◌≡◌, None, get_or, take, ap, sym, subst, ◌∙◌, rules}
use Rattle.std.specs.Option.{option_map}
use Rattle.term_store.specs.Trees.{form_of}
use Rattle.term_store.specs.declared.ids.FormId.{FormId}
use Rattle.param_store.specs.View.{forms_of}
use Rattle.branch.specs.Branch as spec
use Rattle.branch.specs.Earlier.{AreEarlier}
use Rattle.branch.specs.Ids.{closing_of}
use Rattle.branch.proofs.Held.{held_at, held_front, forms_front}
use Rattle.branch.proofs.Noted.{rest_on}
use Rattle.branch.proofs.closing.closing_pair.Goals as goal

abbrev none : FormId
none = record { 0 = 0 }

pub closing_noted-requires-clause-earlier : goal.closing_noted-requires-clause-earlier
closing_noted-requires-clause-earlier c = held_front c.args.store.now c.args.forms.now c.loop-place.place c.requires

pub closing_noted-requires-clause-later : goal.closing_noted-requires-clause-later
closing_noted-requires-clause-later c = held_at c.args.store.now c.args.forms.now c.loop-place.place none c.requires c.loop-place-test.true

pub note_earlier-requires-clause-form : goal.note_earlier-requires-clause-form
note_earlier-requires-clause-form c = held_at c.args.store.now c.args.forms.now c.loop-place.place none c.requires c.loop-place-test.true

pub loop-place-preserved : goal.loop-place-preserved
loop-place-preserved c =
    let s = c.args.store.now in
    let forms = c.args.forms.now in
    let i = c.loop-place.place in
    let n : c.closing_noted.result ≡ None = search rules in
    let e : spec.closing_at (forms_of s (take i forms)) (form_of s (get_or forms i none)) ≡ None =
    sym c.closing_noted.ensures.value ∙ ap (option_map (closing_of s)) n in
    record {
      rest = c.loop-place.invariant.rest ∙ rest_on s forms i none c.loop-place-test.true e;
      noted = subst (λ fs. AreEarlier s fs c.note_earlier.new.earlier) (sym (forms_front s forms i none c.loop-place-test.true))
          (c.in_ok-note_earlier.ensures (forms_of s (take i forms)) c.loop-place.invariant.noted);
    }
