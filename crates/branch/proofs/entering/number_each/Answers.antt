use Rattle.std.proofs.Common.{sym, subst, get_or}
use Rattle.term_store.specs.Trees.{form_of}
use Rattle.term_store.specs.declared.ids.FormId.{FormId}
use Rattle.param_store.specs.RawOffers.{is_quantified}
use Rattle.param_store.specs.View.{forms_of, HasForms}
use Rattle.branch.proofs.Held.{held_at}
use Rattle.branch.proofs.Entered.{held_numbers, still_front, more_numbered}
use Rattle.branch.proofs.entering.number_each.Goals as goal

abbrev none : FormId
none = record { 0 = 0 }

pub number-requires : goal.number-requires
number-requires c = held_at c.args.store.now c.args.forms.now c.loop-form.form-index none c.requires.forms c.loop-form-test.true

pub loop-form-preserved : goal.loop-form-preserved
loop-form-preserved c =
    let s = c.args.store.now in
    let i = c.loop-form.form-index in
    let x = get_or c.args.forms.now i none in
    let ids = c.loop-form.params in
    let v = is_quantified (form_of s x) in
    let now = c.in_ok-number.ensures.numbers in
    let here = held_at s c.args.forms.now i none c.requires.forms c.loop-form-test.true in
    record {
      entered = more_numbered s c.shared.ensures (forms_of s c.args.params.now) ids c.number.new.params c.args.forms.now i none c.loop-form.invariant.has here
          c.loop-form-test.true c.loop-form.invariant.entered now;
      kept = still_front v c.args.params.now ids c.number.new.params x c.loop-form.invariant.kept now;
      has = subst (HasForms s) (sym now) (held_numbers s v ids x c.loop-form.invariant.has here);
    }

pub returns-in_err-number-clause-has : goal.returns-in_err-number-clause-has
returns-in_err-number-clause-has c = subst (HasForms c.args.store.now) (sym c.in_err-number.ensures.refused) c.loop-form.invariant.has
