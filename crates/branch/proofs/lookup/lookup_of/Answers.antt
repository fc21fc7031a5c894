use Rattle.std.proofs.Common.{◌≡◌, false, get_or, length, take, ap, subst, ◌∙◌, arith}
use Rattle.std.proofs.lemmas.List.{take_all}
use Rattle.zm_logic.specs.Same.{has}
use Rattle.term_store.specs.Trees.{form_of}
use Rattle.term_store.specs.declared.ids.FormId.{FormId}
use Rattle.param_store.specs.View.{forms_of}
use Rattle.branch.specs.Left.{form_at}
use Rattle.branch.specs.Lookup.{Skips, is_plain, is_denial}
use Rattle.branch.proofs.Adding.{map_at}
use Rattle.branch.proofs.Found.{found_more}
use Rattle.branch.proofs.Held.{held_at}
use Rattle.branch.proofs.Skipped.{places_more}
use Rattle.branch.proofs.lookup.lookup_of.Goals as goal

abbrev none : FormId
none = record { 0 = 0 }

pub note_form-requires-clause-form : goal.note_form-requires-clause-form
note_form-requires-clause-form c = held_at c.args.store.now c.args.forms.now c.loop-place.place none c.requires c.loop-place-test.true

pub loop-place-preserved : goal.loop-place-preserved
loop-place-preserved c =
    let s = c.args.store.now in
    let forms = c.args.forms.now in
    let i = c.loop-place.place in
    let f = form_of s (get_or forms i none) in
    let same : form_at (forms_of s forms) i ≡ f = map_at s forms i none c.loop-place-test.true in
    record {
      has_found = c.in_ok-note_form.ensures.has_found;
      found = found_more s forms c.loop-place.lookup.found c.note_form.new.lookup.found i none c.loop-place-test.true c.loop-place.invariant.found
          c.in_ok-note_form.ensures.found;
      plain = places_more (λ k. is_plain (form_at (forms_of s forms) k)) (is_plain f) c.loop-place.lookup.plain c.note_form.new.lookup.plain i
          c.loop-place.invariant.plain (ap is_plain same) c.in_ok-note_form.ensures.plain;
      denied = places_more (λ k. is_denial (form_at (forms_of s forms) k)) (is_denial f) c.loop-place.lookup.denied c.note_form.new.lookup.denied i
          c.loop-place.invariant.denied (ap is_denial same) c.in_ok-note_form.ensures.denied;
    }

pub returns : goal.returns
returns c =
    let s = c.args.store.now in
    let forms = c.args.forms.now in
    let l = c.loop-place.lookup in
    let end : c.loop-place.place ≡ length forms = omega arith in
    let all : take c.loop-place.place forms ≡ forms = take_all c.loop-place.place forms c.loop-place-test.false in
    record {
      has_found = c.loop-place.invariant.has_found;
      found = λ f. c.loop-place.invariant.found f ∙ ap (λ ids. has (forms_of s ids) f) all;
      plain = subst (Skips (λ i. is_plain (form_at (forms_of s forms) i) ≡ false) 0 l.plain) end c.loop-place.invariant.plain;
      denied = subst (Skips (λ i. is_denial (form_at (forms_of s forms) i) ≡ false) 0 l.denied) end c.loop-place.invariant.denied;
    }
