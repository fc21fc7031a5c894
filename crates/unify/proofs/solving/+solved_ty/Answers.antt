use Rattle.std.proofs.Common.{ℕ, ◌≡◌, ◌≢◌, ◌+◌, ◌<◌, List, [], ◌∷◌, ◌++◌, IfOk, IfErr, get_or, length, take, ap, sym, subst, ◌∙◌, arith, rules}
use Rattle.zm_logic.specs.Tree.{Ty, Tys}
use Rattle.zm_logic.specs.Measure.{type_depth, types_depth}
use Rattle.term_store.specs.Change.{IsTypeId, AreTypeIds}
use Rattle.term_store.specs.Fault.{IfTooDeep}
use Rattle.term_store.specs.Node.{TypesBelow, types_at}
use Rattle.term_store.specs.Trees.{type_of, all_trees}
use Rattle.term_store.specs.declared.ids.TyId.{TyId}
use Rattle.term_store.proofs.Loops.{type_below_at}
use Rattle.term_store.proofs.Kept.{extends_more, still_type}
use Rattle.term_store.proofs.Stays.{type_ids_stay, type_ids_push, if_deeper, err_deeper}
use Rattle.unify.specs.Binding.{solved_type}
use Rattle.unify.specs.View.{latest}
use Rattle.unify.specs.Solving.{all_types}
use Rattle.unify.proofs.Building.{have_kept, type_goal, type_within, type_positive, all_types_more}
use Rattle.unify.proofs.Whole.{some_of, none_of, lawful_kept, type_head_solved, type_is_leaf, con_deeper, con_whole, con_head}
use Rattle.unify.proofs.solving.+solved_ty.Goals as goal

pub solved_ty-returns-in_err-left-clause-deep : goal.solved_ty-returns-in_err-left-clause-deep
solved_ty-returns-in_err-left-clause-deep t c =
    let goal = type_depth (solved_type (latest c.args.store.now c.args.made.now) (type_of c.args.store.now c.args.id)) in
    let p = type_positive (solved_type (latest c.args.store.now c.args.made.now) (type_of c.args.store.now c.args.id)) in
    let deep : IfTooDeep (c.args.room < goal) c.in_err-left.field-0.0 =
    if_deeper (c.args.room ≡ 0) _ (λ e. omega (arith, e, p)) c.in_err-left.field-0.0 c.in_err-left.ensures.deep in
    search rules

pub solved_ty-returns-in-Some-clause-made : goal.solved_ty-returns-in-Some-clause-made
solved_ty-returns-in-Some-clause-made t c =
    let k = c.requires.knows.types c.ty_head-head.result c.in-Some.whole (sym c.in-Some.ensures) in
    (k.1.0, k.1.1 ∙ type_head_solved c.args.store.now c.args.made.now c.requires.lawful c.args.id c.ty_head-head.result c.ty_head-head.ensures.tree)

pub solved_ty-returns-in_err-types-in-Some-2-clause-deep : goal.solved_ty-returns-in_err-types-in-Some-2-clause-deep
solved_ty-returns-in_err-types-in-Some-2-clause-deep t c =
    let s = c.args.store.now in let made = c.args.made.now in
    let is = some_of (λ p. type_of s c.ty_head-head.result ≡ Ty.con p.0.0 (types_at (all_trees s).types p.1)) c.in_ok-symbol.field-0 _ c.in-Some-2.is c.in_ok-symbol.ensures.some in
    let deep : IfTooDeep (c.args.room < type_depth (solved_type (latest s made) (type_of s c.args.id))) c.in_err-types-in-Some-2.field-0.0 =
    if_deeper (c.in_ok-left.left < types_depth (all_types (latest s made) (types_at (all_trees s).types c.in-Some-2.types))) _
    (con_deeper s made c.requires.lawful c.args.id c.ty_head-head.result c.ty_head-head.ensures.tree c.in-Some-2.symbol.0 c.in-Some-2.types is c.in_ok-left.left c.args.room c.in_ok-left.ensures.ok)
    c.in_err-types-in-Some-2.field-0.0 c.in_err-types-in-Some-2.ensures.deep in
    search rules

pub solved_ty-keep_ty-requires-clause-has : goal.solved_ty-keep_ty-requires-clause-has
solved_ty-keep_ty-requires-clause-has t c =
    still_type c.args.store.now c.solved_tys.new.store c.in_ok-types-in-Some-2.ensures.kept c.ty_head-head.result c.ty_head-head.ensures.has

pub solved_ty-keep_ty-requires-clause-have : goal.solved_ty-keep_ty-requires-clause-have
solved_ty-keep_ty-requires-clause-have t c =
    have_kept c.args.store.now c.solved_tys.new.store c.in_ok-types-in-Some-2.ensures.kept c.args.made.now c.requires.have

pub solved_ty-keep_ty-requires-clause-solved : goal.solved_ty-keep_ty-requires-clause-solved
solved_ty-keep_ty-requires-clause-solved t c =
    let s = c.args.store.now in let made = c.args.made.now in
    let is = some_of (λ p. type_of s c.ty_head-head.result ≡ Ty.con p.0.0 (types_at (all_trees s).types p.1)) c.in_ok-symbol.field-0 _ c.in-Some-2.is c.in_ok-symbol.ensures.some in
    con_head s made c.requires.lawful c.args.id c.ty_head-head.result c.ty_head-head.ensures.tree c.in-Some-2.symbol.0 c.in-Some-2.types is
    c.solved_tys.new.store c.in_ok-types-in-Some-2.ensures.kept c.requires.have c.in_ok-types-in-Some-2.types c.in_ok-types-in-Some-2.ensures.made c.ty_head-head.ensures.has

pub solved_ty-returns-in_ok-types-in-Some-2-clause-made : goal.solved_ty-returns-in_ok-types-in-Some-2-clause-made
solved_ty-returns-in_ok-types-in-Some-2-clause-made t c =
    let s = c.args.store.now in let made = c.args.made.now in
    let is = some_of (λ p. type_of s c.ty_head-head.result ≡ Ty.con p.0.0 (types_at (all_trees s).types p.1)) c.in_ok-symbol.field-0 _ c.in-Some-2.is c.in_ok-symbol.ensures.some in
    let whole = con_whole s made c.requires.lawful c.args.id c.ty_head-head.result c.ty_head-head.ensures.tree c.in-Some-2.symbol.0 c.in-Some-2.types is
    c.solved_tys.new.store c.in_ok-types-in-Some-2.ensures.kept c.requires.have c.in_ok-types-in-Some-2.types c.in_ok-types-in-Some-2.ensures.made in
    subst (λ (z : Ty). IfOk c.keep_ty.result (IsTypeId c.keep_ty.new.store z)) whole c.keep_ty.ensures.made

pub solved_ty-returns-in_ok-types-in-Some-2-clause-deep : goal.solved_ty-returns-in_ok-types-in-Some-2-clause-deep
solved_ty-returns-in_ok-types-in-Some-2-clause-deep t c =
    let s = c.args.store.now in let made = c.args.made.now in
    let is = some_of (λ p. type_of s c.ty_head-head.result ≡ Ty.con p.0.0 (types_at (all_trees s).types p.1)) c.in_ok-symbol.field-0 _ c.in-Some-2.is c.in_ok-symbol.ensures.some in
    let whole = con_whole s made c.requires.lawful c.args.id c.ty_head-head.result c.ty_head-head.ensures.tree c.in-Some-2.symbol.0 c.in-Some-2.types is
    c.solved_tys.new.store c.in_ok-types-in-Some-2.ensures.kept c.requires.have c.in_ok-types-in-Some-2.types c.in_ok-types-in-Some-2.ensures.made in
    let d = subst (λ (z : Ty). IfErr c.keep_ty.result (IfTooDeep (2000 < type_depth z))) whole c.keep_ty.ensures.deep in
    err_deeper _ _ (λ h. omega (arith, h, c.requires.room)) c.keep_ty.result d

pub solved_ty-returns-in-None-clause-made : goal.solved_ty-returns-in-None-clause-made
solved_ty-returns-in-None-clause-made t c =
    let s = c.args.store.now in
    let is = none_of ((n : ℕ) (ts : Tys) → type_of s c.ty_head-head.result ≢ Ty.con n ts) c.in_ok-symbol.field-0 c.in-None.is c.in_ok-symbol.ensures.none in
    (c.ty_head-head.ensures.has, type_is_leaf s c.args.made.now c.requires.lawful c.args.id c.ty_head-head.result c.ty_head-head.ensures.tree is)

pub solved_tys-solved_ty-requires : goal.solved_tys-solved_ty-requires
solved_tys-solved_ty-requires t c =
    let s = c.args.store.now in
    let m = c.loop-id.store in
    let made = c.args.made.now in
    let kept = c.loop-id.invariant.kept in
    let ids = c.as_slice-id-items.result.now in
    let below = subst (TypesBelow (length s.types)) (sym c.as_slice-id-items.ensures) c.requires.below in
    let has = type_below_at (length s.types) ids below c.loop-id.id-index (record { 0 = 0 }) c.loop-id-test.true in (
      omega (arith, c.decreases),
      (
        still_type s m kept (get_or ids c.loop-id.id-index (record { 0 = 0 })) has,
        (have_kept s m kept made c.requires.have, (lawful_kept s m kept made c.requires.have c.requires.lawful, (c.loop-id.invariant.knows, c.requires.room))),
      ),
    )

pub solved_tys-returns-in_err-whole-clause-deep : goal.solved_tys-returns-in_err-whole-clause-deep
solved_tys-returns-in_err-whole-clause-deep t c =
    let s = c.args.store.now in
    let m = c.loop-id.store in
    let made = c.args.made.now in
    let ids = c.as_slice-id-items.result.now in
    let id = get_or ids c.loop-id.id-index (record { 0 = 0 }) in
    let below = subst (TypesBelow (length s.types)) (sym c.as_slice-id-items.ensures) c.requires.below in
    let has = type_below_at (length s.types) ids below c.loop-id.id-index (record { 0 = 0 }) c.loop-id-test.true in
    let same = ap type_depth (type_goal s m c.loop-id.invariant.kept made c.requires.have id has) in
    let within = type_within (latest s made) (all_trees s).types ids c.loop-id.id-index (record { 0 = 0 }) c.loop-id-test.true in
    let all = ap (λ is. types_depth (all_types (latest s made) (types_at (all_trees s).types is))) c.as_slice-id-items.ensures in
    let deep : IfTooDeep (c.args.room < types_depth (all_types (latest s made) (types_at (all_trees s).types c.args.ids.now))) c.in_err-whole.field-0.0 =
    if_deeper (c.args.room < type_depth (solved_type (latest m made) (type_of m id))) _ (λ h. omega (arith, h, same, within, all)) c.in_err-whole.field-0.0 c.in_err-whole.ensures.deep in
    search rules

pub solved_tys-returns-in_err-push-clause-kept : goal.solved_tys-returns-in_err-push-clause-kept
solved_tys-returns-in_err-push-clause-kept t c =
    extends_more c.args.store.now c.loop-id.store c.solved_ty.new.store c.loop-id.invariant.kept c.in_ok-whole.ensures.kept

pub solved_tys-loop-id-preserved : goal.solved_tys-loop-id-preserved
solved_tys-loop-id-preserved t c =
    let s = c.args.store.now in
    let m = c.loop-id.store in
    let n = c.solved_ty.new.store in
    let made = c.args.made.now in
    let before = c.loop-id.invariant in
    let now = c.in_ok-whole.ensures in
    let ids = c.as_slice-id-items.result.now in
    let i = c.loop-id.id-index in
    let id = get_or ids i (record { 0 = 0 }) in
    let below = subst (TypesBelow (length s.types)) (sym c.as_slice-id-items.ensures) c.requires.below in
    let has = type_below_at (length s.types) ids below i (record { 0 = 0 }) c.loop-id-test.true in
    let goal = solved_type (latest s made) (type_of s id) in
    let same = type_goal s m before.kept made c.requires.have id has in
    let here = subst (λ (x : Ty). IsTypeId n x c.in_ok-whole.whole) same now.made in
    let first = all_types (latest s made) (types_at (all_trees s).types (take i ids)) in
    let still = type_ids_stay m n now.kept first c.loop-id.all before.made in
    let pushed = type_ids_push n first goal c.loop-id.all c.in_ok-whole.whole still here in
    let all = all_types_more (latest s made) (all_trees s).types ids i (record { 0 = 0 }) c.loop-id-test.true in
    let As : Tys → Type 0 = λ xs. AreTypeIds n xs (c.loop-id.all ++ c.in_ok-whole.whole ∷ []) in
    let Ids : List TyId → Type 0 = λ is. AreTypeIds n (all_types (latest s made) (types_at (all_trees s).types (take (i + 1) ids))) is in
    record {
      made = subst Ids (sym c.in_ok-push.ensures.ok) (subst As (sym all) pushed);
      kept = extends_more s m n before.kept now.kept;
      knows = now.knows;
    }
