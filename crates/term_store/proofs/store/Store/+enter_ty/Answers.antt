-- The ids so far stay while one more type is entered.
use Rattle.std.proofs.Common.{◌+◌, ◌<◌, List, [], ◌∷◌, ◌++◌, take, ap, sym, subst, ◌∙◌, arith, rules}
use Rattle.zm_logic.specs.Tree as tree
use Rattle.zm_logic.specs.Measure.{type_depth, types_depth}
use Rattle.zm_logic.specs.View.{type_tree, types_tree}
use Rattle.zm_logic.proofs.Lists.{with_type, types_depth_more}
use Rattle.term_store.specs.declared.ids.TyId.{TyId}
use Rattle.term_store.specs.Change.{AreTypeIds}
use Rattle.term_store.specs.Fault.{IfTooDeep}
use Rattle.term_store.proofs.Kept.{extends_more}
use Rattle.term_store.proofs.Stays.{type_ids_stay, type_ids_push, types_tree_more, type_depth_within, if_deeper}
use Rattle.term_store.proofs.store.Store.+enter_ty.Goals as goal

pub enter_tys-returns-in_err-id-clause-deep : goal.enter_tys-returns-in_err-id-clause-deep
enter_tys-returns-in_err-id-clause-deep t c =
    let ts = c.as_slice-ty-items.result.now in
    let within = type_depth_within ts c.loop-ty.ty-index c.ty-item.result c.loop-ty-test.true in
    let same = ap (λ x. type_depth (type_tree x)) c.ty-item.is in
    let all = ap (λ xs. types_depth (types_tree xs)) c.as_slice-ty-items.ensures in
    let deep : IfTooDeep (c.args.room < types_depth (types_tree c.args.types.now)) c.in_err-id.field-0.0 =
    if_deeper (c.args.room < type_depth (type_tree c.ty-item.result)) _ (λ h. omega (arith, h, within, same, all)) c.in_err-id.field-0.0 c.in_err-id.ensures.deep in
    search rules

pub enter_tys-loop-ty-preserved : goal.enter_tys-loop-ty-preserved
enter_tys-loop-ty-preserved t c =
    let ts = c.as_slice-ty-items.result.now in
    let i = c.loop-ty.ty-index in
    let before = c.loop-ty.invariant in
    let made = c.in_ok-id.ensures in
    let new = c.enter_ty.new.self in
    let first = types_tree (take i ts) in
    let kept = type_ids_stay c.loop-ty.self new made.kept first c.loop-ty.all before.made in
    let pushed = type_ids_push new first (type_tree c.ty-item.result) c.loop-ty.all c.in_ok-id.id kept made.made in
    let more = types_tree_more ts i c.ty-item.result c.loop-ty-test.true in
    let whole = ap (λ x. with_type first (type_tree x)) c.ty-item.is ∙ sym more in
    let depths = types_depth_more ts i c.ty-item.result c.loop-ty-test.true in
    let same = ap (λ x. type_depth (type_tree x)) c.ty-item.is in
    let As : tree.Tys → Type 0 = λ xs. AreTypeIds new xs (c.loop-ty.all ++ c.in_ok-id.id ∷ []) in
    let Ids : List TyId → Type 0 = λ is. AreTypeIds new (types_tree (take (i + 1) ts)) is in
    record {
      made = subst Ids (sym c.in_ok-push.ensures.ok) (subst As whole pushed);
      fits = omega (arith, depths, same, before.fits, made.fits);
      kept = extends_more c.args.self.now c.loop-ty.self new before.kept made.kept;
    }
