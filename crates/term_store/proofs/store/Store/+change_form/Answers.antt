-- What was made stays while more is made.
use Rattle.std.proofs.Common.{◌+◌, ◌<◌, max, ap, sym, subst, arith, rules}
use Rattle.zm_logic.specs.Measure.{type_depth, depth}
use Rattle.term_store.specs.Trees.{type_of, form_of}
use Rattle.term_store.specs.Change.{changed_type, changed_form, change_of, IsFormId}
use Rattle.term_store.specs.Fault.{IfTooDeep}
use Rattle.term_store.proofs.Kept.{extends_more, still_form, kept_form}
use Rattle.term_store.proofs.Stays.{on_ok, type_id_stays, form_id_stays, if_deeper}
use Rattle.term_store.proofs.Changes.{change_stays, knows_stays, form_goal, forms_noted}
use Rattle.term_store.proofs.store.Store.+change_form.Goals as goal

pub change_form-returns-in-Some-clause-made : goal.change_form-returns-in-Some-clause-made
change_form-returns-in-Some-clause-made t c = (c.requires.knows.forms _ c.in-Some.made (sym c.in-Some.ensures)).1

pub change_form-returns-clause-knows : goal.change_form-returns-clause-knows
change_form-returns-clause-knows t c =
    let s = c.args.self.now in
    let now = c.changed_form.new.self in
    let made = c.in_ok-made.ensures in
    let same = form_goal s now made.kept c.args.change.now c.requires.part c.args.at c.args.id c.requires.has in
    let here = subst (λ x. IsFormId now x c.in_ok-made.made) (sym same) made.made in
    let has = still_form s now made.kept c.args.id c.requires.has in
    let map = c.changed_form.new.memo in
    record {
      types = made.knows.types;
      terms = made.knows.terms;
      forms = forms_noted map.forms c.note.new.made _ c.in_ok-made.made.0 c.in_ok-note.ensures.noted now c.args.change.now made.knows.forms (has, here);
    }

pub change_not-returns-clause-knows : goal.change_not-returns-clause-knows
change_not-returns-clause-knows t c =
    let changed = c.in_ok-f.ensures in
    let part = change_stays c.args.self.now c.change_form.new.self changed.kept c.args.change.now c.requires.part in
    let knows = knows_stays c.change_form.new.self c.put_not.new.self c.put_not.ensures.kept c.args.change.now part c.change_form.new.memo changed.knows in
    on_ok knows c.put_not.result

pub change_binary-returns-clause-knows : goal.change_binary-returns-clause-knows
change_binary-returns-clause-knows t c =
    let changed = c.in_ok-f.ensures in
    let part = change_stays c.args.self.now c.change_two.new.self changed.kept c.args.change.now c.requires.part in
    let knows = knows_stays c.change_two.new.self c.put_binary.new.self c.put_binary.ensures.kept c.args.change.now part c.change_two.new.memo changed.knows in
    on_ok knows c.put_binary.result

pub change_quantified-returns-clause-knows : goal.change_quantified-returns-clause-knows
change_quantified-returns-clause-knows t c =
    let changed = c.in_ok-ty.ensures in
    let part = change_stays c.args.self.now c.change_body.new.self changed.kept c.args.change.now c.requires.part in
    let knows = knows_stays c.change_body.new.self c.put_quantified.new.self c.put_quantified.ensures.kept c.args.change.now part c.change_body.new.memo changed.knows in
    on_ok knows c.put_quantified.result

pub change_quantified_types-returns-clause-knows : goal.change_quantified_types-returns-clause-knows
change_quantified_types-returns-clause-knows t c =
    let changed = c.in_ok-f.ensures in
    let part = change_stays c.args.self.now c.change_form.new.self changed.kept c.args.change.now c.requires.part in
    let knows = knows_stays c.change_form.new.self c.put_quantified_types.new.self c.put_quantified_types.ensures.kept c.args.change.now part c.change_form.new.memo changed.knows in
    on_ok knows c.put_quantified_types.result

pub change_two-change_form-requires-2 : goal.change_two-change_form-requires-2
change_two-change_form-requires-2 t c =
    let s = c.args.self.now in
    let m = c.change_form.new.self in
    let kept = c.in_ok-f.ensures.kept in
    let same = ap depth (kept_form s m kept c.args.g c.requires.has_other) in
    (omega (arith, same, c.decreases), (still_form s m kept c.args.g c.requires.has_other, (change_stays s m kept c.args.change.now c.requires.part, (omega (arith, same, c.requires.room_other), c.in_ok-f.ensures.knows))))

pub change_two-returns-in_err-g-clause-deep : goal.change_two-returns-in_err-g-clause-deep
change_two-returns-in_err-g-clause-deep t c =
    let s = c.args.self.now in
    let m = c.change_form.new.self in
    let k = c.args.at in
    let same = ap depth (form_goal s m c.in_ok-f.ensures.kept c.args.change.now c.requires.part k c.args.g c.requires.has_other) in
    let first = depth (changed_form k (change_of s c.args.change.now) (form_of s c.args.f)) in
    let second = depth (changed_form k (change_of s c.args.change.now) (form_of s c.args.g)) in
    let deep : IfTooDeep (2000 < max first second) c.in_err-g.field-0.0 =
    if_deeper (2000 < depth (changed_form k (change_of m c.args.change.now) (form_of m c.args.g))) _ (λ h. omega (arith, h, same)) c.in_err-g.field-0.0 c.in_err-g.ensures.deep in
    search rules

pub change_two-returns-in_err-g-clause-kept : goal.change_two-returns-in_err-g-clause-kept
change_two-returns-in_err-g-clause-kept t c =
    extends_more c.args.self.now c.change_form.new.self c.change_form-2.new.self c.in_ok-f.ensures.kept c.in_err-g.ensures.kept

pub change_two-returns-clause-made : goal.change_two-returns-clause-made
change_two-returns-clause-made t c =
    let goal = changed_form c.args.at (change_of c.args.self.now c.args.change.now) (form_of c.args.self.now c.args.f) in
    form_id_stays c.change_form.new.self c.change_form-2.new.self c.in_ok-g.ensures.kept goal c.in_ok-f.f c.in_ok-f.ensures.made

pub change_two-returns-clause-made_other : goal.change_two-returns-clause-made_other
change_two-returns-clause-made_other t c =
    let same = form_goal c.args.self.now c.change_form.new.self c.in_ok-f.ensures.kept c.args.change.now c.requires.part c.args.at c.args.g c.requires.has_other in
    subst (λ x. IsFormId c.change_form-2.new.self x c.in_ok-g.g) same c.in_ok-g.ensures.made

pub change_two-returns-clause-kept : goal.change_two-returns-clause-kept
change_two-returns-clause-kept t c =
    extends_more c.args.self.now c.change_form.new.self c.change_form-2.new.self c.in_ok-f.ensures.kept c.in_ok-g.ensures.kept

pub change_body-change_form-requires : goal.change_body-change_form-requires
change_body-change_form-requires t c =
    let s = c.args.self.now in
    let m = c.change_ty.new.self in
    let kept = c.in_ok-ty.ensures.kept in
    let same = ap depth (kept_form s m kept c.args.f c.requires.has_body) in
    (omega (arith, same, c.decreases), (still_form s m kept c.args.f c.requires.has_body, (change_stays s m kept c.args.change.now c.requires.part, (omega (arith, same, c.requires.room), c.in_ok-ty.ensures.knows))))

pub change_body-returns-in_err-f-clause-deep : goal.change_body-returns-in_err-f-clause-deep
change_body-returns-in_err-f-clause-deep t c =
    let s = c.args.self.now in
    let m = c.change_ty.new.self in
    let k = c.args.at in
    let same = ap depth (form_goal s m c.in_ok-ty.ensures.kept c.args.change.now c.requires.part (k + 1) c.args.f c.requires.has_body) in
    let first = type_depth (changed_type k (change_of s c.args.change.now) (type_of s c.args.ty)) in
    let second = depth (changed_form (k + 1) (change_of s c.args.change.now) (form_of s c.args.f)) in
    let deep : IfTooDeep (2000 < max first second) c.in_err-f.field-0.0 =
    if_deeper (2000 < depth (changed_form (k + 1) (change_of m c.args.change.now) (form_of m c.args.f))) _ (λ h. omega (arith, h, same)) c.in_err-f.field-0.0 c.in_err-f.ensures.deep in
    search rules

pub change_body-returns-in_err-f-clause-kept : goal.change_body-returns-in_err-f-clause-kept
change_body-returns-in_err-f-clause-kept t c =
    extends_more c.args.self.now c.change_ty.new.self c.change_form.new.self c.in_ok-ty.ensures.kept c.in_err-f.ensures.kept

pub change_body-returns-clause-made : goal.change_body-returns-clause-made
change_body-returns-clause-made t c =
    let goal = changed_type c.args.at (change_of c.args.self.now c.args.change.now) (type_of c.args.self.now c.args.ty) in
    type_id_stays c.change_ty.new.self c.change_form.new.self c.in_ok-f.ensures.kept goal c.in_ok-ty.ty c.in_ok-ty.ensures.made

pub change_body-returns-clause-made_body : goal.change_body-returns-clause-made_body
change_body-returns-clause-made_body t c =
    let same = form_goal c.args.self.now c.change_ty.new.self c.in_ok-ty.ensures.kept c.args.change.now c.requires.part (c.args.at + 1) c.args.f c.requires.has_body in
    subst (λ x. IsFormId c.change_form.new.self x c.in_ok-f.f) same c.in_ok-f.ensures.made

pub change_body-returns-clause-kept : goal.change_body-returns-clause-kept
change_body-returns-clause-kept t c =
    extends_more c.args.self.now c.change_ty.new.self c.change_form.new.self c.in_ok-ty.ensures.kept c.in_ok-f.ensures.kept

pub change_not-returns-clause-kept : goal.change_not-returns-clause-kept
change_not-returns-clause-kept t c =
    extends_more c.args.self.now c.change_form.new.self c.put_not.new.self c.in_ok-f.ensures.kept c.put_not.ensures.kept

pub change_binary-returns-clause-kept : goal.change_binary-returns-clause-kept
change_binary-returns-clause-kept t c =
    extends_more c.args.self.now c.change_two.new.self c.put_binary.new.self c.in_ok-f.ensures.kept c.put_binary.ensures.kept

pub change_quantified-returns-clause-kept : goal.change_quantified-returns-clause-kept
change_quantified-returns-clause-kept t c =
    extends_more c.args.self.now c.change_body.new.self c.put_quantified.new.self c.in_ok-ty.ensures.kept c.put_quantified.ensures.kept

pub change_quantified_types-returns-clause-kept : goal.change_quantified_types-returns-clause-kept
change_quantified_types-returns-clause-kept t c =
    extends_more c.args.self.now c.change_form.new.self c.put_quantified_types.new.self c.in_ok-f.ensures.kept c.put_quantified_types.ensures.kept
