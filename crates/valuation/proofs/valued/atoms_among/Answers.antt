use Rattle.std.proofs.Common.{◌∙◌, ap, sym, get_or}
use Rattle.term_store.specs.Trees.{form_of}
use Rattle.term_store.specs.declared.ids.FormId.{FormId}
use Rattle.branch.proofs.Held.{held_at}
use Rattle.valuation.specs.Valuation.{with_atom}
use Rattle.valuation.proofs.Parts.{more_among}
use Rattle.valuation.proofs.valued.atoms_among.Goals as goal

abbrev none : FormId
none = record { 0 = 0 }

pub add_atom-requires : goal.add_atom-requires
add_atom-requires c = held_at c.args.store.now c.args.forms.now c.loop-form.form-index none c.requires c.loop-form-test.true

pub loop-form-preserved : goal.loop-form-preserved
loop-form-preserved c =
    let s = c.args.store.now in
    let i = c.loop-form.form-index in
    c.in_ok-add_atom.ensures
    ∙ (ap (λ fs. with_atom fs (form_of s (get_or c.args.forms.now i none))) c.loop-form.invariant
    ∙ sym (more_among s c.args.forms.now i none c.loop-form-test.true))
