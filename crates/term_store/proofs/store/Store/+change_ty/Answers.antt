-- What was made stays while more is made.
use Rattle.std.proofs.Common.{◌+◌, ◌<◌, List, [], ◌∷◌, ◌++◌, get_or, length, take, ap, sym, subst, arith, rules}
use Rattle.zm_logic.specs.Tree as tree
use Rattle.zm_logic.specs.Measure.{type_depth, types_depth}
use Rattle.term_store.specs.declared.ids.TyId.{TyId}
use Rattle.term_store.specs.Node.{TypesBelow, types_at}
use Rattle.term_store.specs.Trees.{type_of, all_trees}
use Rattle.term_store.specs.Change.{changed_type, changed_types, change_of, IsTypeId, AreTypeIds}
use Rattle.term_store.specs.Fault.{IfTooDeep}
use Rattle.term_store.proofs.Loops.{type_below_at}
use Rattle.term_store.proofs.Kept.{extends_more, still_type, kept_type}
use Rattle.term_store.proofs.Stays.{type_ids_stay, type_ids_push, on_ok, if_deeper, type_depth_at_within}
use Rattle.term_store.proofs.Changes.{change_stays, knows_stays, type_goal, types_noted, changed_types_more, changed_type_within}
use Rattle.term_store.proofs.store.Store.+change_ty.Goals as goal

pub change_ty-returns-in-Some-clause-made : goal.change_ty-returns-in-Some-clause-made
change_ty-returns-in-Some-clause-made t c = (c.requires.knows.types _ c.in-Some.made (sym c.in-Some.ensures)).1

pub change_ty-returns-clause-knows : goal.change_ty-returns-clause-knows
change_ty-returns-clause-knows t c =
    let s = c.args.self.now in
    let now = c.changed_ty.new.self in
    let made = c.in_ok-made.ensures in
    let same = type_goal s now made.kept c.args.change.now c.requires.part c.args.at c.args.id c.requires.has in
    let here = subst (λ x. IsTypeId now x c.in_ok-made.made) (sym same) made.made in
    let has = still_type s now made.kept c.args.id c.requires.has in
    let map = c.changed_ty.new.memo in
    record {
      types = types_noted map.types c.note.new.made _ c.in_ok-made.made.0 c.in_ok-note.ensures.noted now c.args.change.now made.knows.types (has, here);
      terms = made.knows.terms;
      forms = made.knows.forms;
    }

pub change_tys-change_ty-requires : goal.change_tys-change_ty-requires
change_tys-change_ty-requires t c =
    let s = c.args.self.now in
    let m = c.loop-id.self in
    let ids = c.as_slice-id-items.result.now in
    let id = get_or ids c.loop-id.id-index (record { 0 = 0 }) in
    let kept = c.loop-id.invariant.kept in
    let below = subst (TypesBelow (length s.types)) (sym c.as_slice-id-items.ensures) c.requires.below in
    let has = type_below_at (length s.types) ids below c.loop-id.id-index (record { 0 = 0 }) c.loop-id-test.true in
    let same = ap type_depth (kept_type s m kept id has) in
    let less = type_depth_at_within (all_trees s).types ids c.loop-id.id-index (record { 0 = 0 }) c.loop-id-test.true in
    let whole = ap (λ is. types_depth (types_at (all_trees s).types is)) c.as_slice-id-items.ensures in
    (omega (arith, same, less, whole, c.decreases), (still_type s m kept id has, (change_stays s m kept c.args.change.now c.requires.part, c.loop-id.invariant.knows)))

pub change_tys-returns-in_err-changed-clause-deep : goal.change_tys-returns-in_err-changed-clause-deep
change_tys-returns-in_err-changed-clause-deep t c =
    let s = c.args.self.now in
    let m = c.loop-id.self in
    let ids = c.as_slice-id-items.result.now in
    let id = get_or ids c.loop-id.id-index (record { 0 = 0 }) in
    let below = subst (TypesBelow (length s.types)) (sym c.as_slice-id-items.ensures) c.requires.below in
    let has = type_below_at (length s.types) ids below c.loop-id.id-index (record { 0 = 0 }) c.loop-id-test.true in
    let same = ap type_depth (type_goal s m c.loop-id.invariant.kept c.args.change.now c.requires.part c.args.at id has) in
    let within = changed_type_within c.args.at (change_of s c.args.change.now) (all_trees s).types ids c.loop-id.id-index (record { 0 = 0 }) c.loop-id-test.true in
    let all = ap (λ is. types_depth (changed_types c.args.at (change_of s c.args.change.now) (types_at (all_trees s).types is))) c.as_slice-id-items.ensures in
    let deep : IfTooDeep (2000 < types_depth (changed_types c.args.at (change_of s c.args.change.now) (types_at (all_trees s).types c.args.ids.now))) c.in_err-changed.field-0.0 =
    if_deeper (2000 < type_depth (changed_type c.args.at (change_of m c.args.change.now) (type_of m id))) _ (λ h. omega (arith, h, same, within, all)) c.in_err-changed.field-0.0 c.in_err-changed.ensures.deep in
    search rules

pub change_tys-returns-in_err-push-clause-kept : goal.change_tys-returns-in_err-push-clause-kept
change_tys-returns-in_err-push-clause-kept t c =
    extends_more c.args.self.now c.loop-id.self c.change_ty.new.self c.loop-id.invariant.kept c.in_ok-changed.ensures.kept

pub change_tys-loop-id-preserved : goal.change_tys-loop-id-preserved
change_tys-loop-id-preserved t c =
    let s = c.args.self.now in
    let m = c.loop-id.self in
    let n = c.change_ty.new.self in
    let before = c.loop-id.invariant in
    let made = c.in_ok-changed.ensures in
    let ids = c.as_slice-id-items.result.now in
    let i = c.loop-id.id-index in
    let id = get_or ids i (record { 0 = 0 }) in
    let below = subst (TypesBelow (length s.types)) (sym c.as_slice-id-items.ensures) c.requires.below in
    let has = type_below_at (length s.types) ids below i (record { 0 = 0 }) c.loop-id-test.true in
    let goal = changed_type c.args.at (change_of s c.args.change.now) (type_of s id) in
    let same = type_goal s m before.kept c.args.change.now c.requires.part c.args.at id has in
    let here = subst (λ x. IsTypeId n x c.in_ok-changed.changed) same made.made in
    let first = changed_types c.args.at (change_of s c.args.change.now) (types_at (all_trees s).types (take i ids)) in
    let still = type_ids_stay m n made.kept first c.loop-id.all before.made in
    let pushed = type_ids_push n first goal c.loop-id.all c.in_ok-changed.changed still here in
    let whole = changed_types_more c.args.at (change_of s c.args.change.now) (all_trees s).types ids i (record { 0 = 0 }) c.loop-id-test.true in
    let As : tree.Tys → Type 0 = λ xs. AreTypeIds n xs (c.loop-id.all ++ c.in_ok-changed.changed ∷ []) in
    let Ids : List TyId → Type 0 = λ is. AreTypeIds n (changed_types c.args.at (change_of s c.args.change.now) (types_at (all_trees s).types (take (i + 1) ids))) is in
    record {
      made = subst Ids (sym c.in_ok-push.ensures.ok) (subst As whole pushed);
      kept = extends_more s m n before.kept made.kept;
      knows = made.knows;
    }

pub changed_ty-returns-in-Param-clause-knows : goal.changed_ty-returns-in-Param-clause-knows
changed_ty-returns-in-Param-clause-knows t c =
    let knows = knows_stays c.args.self.now c.changed_param.new.self c.changed_param.ensures.kept c.args.change.now c.requires.part c.args.memo.now c.requires.knows in
    on_ok knows c.changed_param.result

pub changed_ty-returns-clause-knows : goal.changed_ty-returns-clause-knows
changed_ty-returns-clause-knows t c =
    let changed = c.in_ok-changed.ensures in
    let part = change_stays c.args.self.now c.change_tys.new.self changed.kept c.args.change.now c.requires.part in
    let knows = knows_stays c.change_tys.new.self c.put_ty.new.self c.put_ty.ensures.kept c.args.change.now part c.change_tys.new.memo changed.knows in
    on_ok knows c.put_ty.result
