use Rattle.std.proofs.Common.{get_or, take, ap, sym, ◌∙◌}
use Rattle.zm_logic.specs.Measure.{size}
use Rattle.term_store.specs.Trees.{form_of}
use Rattle.term_store.specs.declared.ids.FormId.{FormId}
use Rattle.param_store.specs.View.{forms_of}
use Rattle.branch.specs.Listed.{capped, forms_size}
use Rattle.branch.proofs.Sizing.{capped_sum, forms_size_more}
use Rattle.branch.proofs.Useful.{form_at_place}
use Rattle.branch.proofs.listed.child_size.Goals as goal

abbrev none : FormId
none = record { 0 = 0 }

pub form_size-requires-clause-has : goal.form_size-requires-clause-has
form_size-requires-clause-has c = form_at_place c.args.store.now c.args.child.now c.loop-form.form-index none c.loop-form-test.true c.requires.has

pub loop-form-preserved : goal.loop-form-preserved
loop-form-preserved c =
    let s = c.args.store.now in
    let child = c.args.child.now in
    let i = c.loop-form.form-index in
    let sum = capped_sum c.loop-form.all c.in_ok-size.size (forms_size (forms_of s (take i child))) (size (form_of s (get_or child i none)))
    c.loop-form.invariant.sized c.in_ok-size.ensures.value in
    record {
      sized = c.saturating_add-all.ensures ∙ (sum ∙ sym (ap capped (forms_size_more s child i none c.loop-form-test.true)));
      knows = c.in_ok-size.ensures.knows;
    }
