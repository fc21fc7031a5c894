use Rattle.std.proofs.Common.{ℕ, ◌≡◌, ◌≢◌, ◌++◌, ◌∷◌, [], true, sym, ap, subst, ◌∙◌, arith}
use Rattle.indexmap.specs.IndexSet.{contains}
use Rattle.term_store.specs.Trees.{type_of}
use Rattle.term_store.specs.declared.ids.TyId.{TyId}
use Rattle.unify.specs.Binding.{solved_type}
use Rattle.unify.specs.View.{latest}
use Rattle.unify.specs.Occurs.{TypeLacks}
use Rattle.unify.specs.Task.{same_pair, HasSide, HasTask, MakesBinding}
use Rattle.unify.specs.declared.binding.Binding.{Binding}
use Rattle.unify.specs.declared.binding.Binding.TheVariants.{OfType}
use Rattle.unify.specs.declared.task.Task.TheVariants.{Types}
use Rattle.unify.proofs.HeadSteps.{id_of}
use Rattle.unify.proofs.StateFacts.{task_has, head_side, if_step}
use Rattle.unify.proofs.TypeSteps.{types_equal, types_bind_left, types_bind_right, types_clash_left, types_clash_right, types_clash, types_split}
use Rattle.unify.proofs.types.solve_types.Goals as goal

pub returns-then-left-right : goal.returns-then-left-right
returns-then-left-right c =
    let s = c.args.store.now in let made = c.args.made.now in let known = c.args.known.now in let rest = c.args.tasks.now.items in
    let i = c.args.sides.0 in let j = c.args.sides.1 in let left = c.ty_head-left.result in let right = c.ty_head-right.result in
    let l = c.requires.state in let p = c.ty_head-left.ensures.tree in let q = c.ty_head-right.ensures.tree in
    types_equal s made known rest i j left right l p q (ap (solved_type (latest s made)) (ap (type_of s) (ap (λ (n : ℕ). id_of n) c.if-left-right.true)))

pub returns-then-contains : goal.returns-then-contains
returns-then-contains c =
    let s = c.args.store.now in let made = c.args.made.now in let known = c.args.known.now in let rest = c.args.tasks.now.items in
    let i = c.args.sides.0 in let j = c.args.sides.1 in let left = c.ty_head-left.result in let right = c.ty_head-right.result in
    let l = c.requires.state in let p = c.ty_head-left.ensures.tree in let q = c.ty_head-right.ensures.tree in
    let h : contains same_pair known.types (record { left = left.0; right = right.0 }) ≡ true = sym c.contains.ensures ∙ c.if-contains.true in
    types_equal s made known rest i j left right l p q (l.known.types (record { left = left.0; right = right.0 }) h)

pub returns-in-Some : goal.returns-in-Some
returns-in-Some c =
    let s = c.args.store.now in let made = c.args.made.now in let known = c.args.known.now in let rest = c.args.tasks.now.items in
    let i = c.args.sides.0 in let j = c.args.sides.1 in let left = c.ty_head-left.result in let right = c.ty_head-right.result in
    let l = c.requires.state in let p = c.ty_head-left.ensures.tree in let q = c.ty_head-right.ensures.tree in
    let d : type_of s left ≢ type_of s right =
    λ y. (let w = ap (λ (x : TyId). x.0) (c.shared.ensures.types left right c.ty_head-left.ensures.has c.ty_head-right.ensures.has y) in omega (arith, w)) in
    let sides : HasTask s (Types i j) = task_has s made known rest (Types i j) l in
    let has_left : HasSide s left = head_side s made l.have i left sides.0 c.ty_head-left.ensures.has p in
    let has_right : HasSide s right = head_side s made l.have j right sides.1 c.ty_head-right.ensures.has q in
    let m = c.in-Some.meta in
    if_step (λ (b : Binding). (b ≡ OfType m right) × TypeLacks s (latest s made) m right) (λ (b : Binding). MakesBinding s made (rest ++ Types i j ∷ []) b known rest) c.in_ok-bind.field-0
    (λ z. absurd z)
    (λ b z. subst (λ (x : Binding). MakesBinding s made (rest ++ Types i j ∷ []) x known rest) (sym z.0) (types_bind_left s made known rest i j left right l p q m has_right c.in-Some.ensures.some z.1))
    (λ z. types_clash_left s made known rest i j left right l p q m d c.in-Some.ensures.some z)
    c.in_ok-bind.ensures

pub returns-in-Some-ty_meta : goal.returns-in-Some-ty_meta
returns-in-Some-ty_meta c =
    let s = c.args.store.now in let made = c.args.made.now in let known = c.args.known.now in let rest = c.args.tasks.now.items in
    let i = c.args.sides.0 in let j = c.args.sides.1 in let left = c.ty_head-left.result in let right = c.ty_head-right.result in
    let l = c.requires.state in let p = c.ty_head-left.ensures.tree in let q = c.ty_head-right.ensures.tree in
    let d : type_of s left ≢ type_of s right =
    λ y. (let w = ap (λ (x : TyId). x.0) (c.shared.ensures.types left right c.ty_head-left.ensures.has c.ty_head-right.ensures.has y) in omega (arith, w)) in
    let sides : HasTask s (Types i j) = task_has s made known rest (Types i j) l in
    let has_left : HasSide s left = head_side s made l.have i left sides.0 c.ty_head-left.ensures.has p in
    let has_right : HasSide s right = head_side s made l.have j right sides.1 c.ty_head-right.ensures.has q in
    let m = c.in-Some-ty_meta.meta in
    if_step (λ (b : Binding). (b ≡ OfType m left) × TypeLacks s (latest s made) m left) (λ (b : Binding). MakesBinding s made (rest ++ Types i j ∷ []) b known rest) c.in_ok-bind-2.field-0
    (λ z. absurd z)
    (λ b z. subst (λ (x : Binding). MakesBinding s made (rest ++ Types i j ∷ []) x known rest) (sym z.0) (types_bind_right s made known rest i j left right l p q m has_left c.in_default.ensures.none c.in-Some-ty_meta.ensures.some z.1))
    (λ z. types_clash_right s made known rest i j left right l p q m d c.in_default.ensures.none c.in-Some-ty_meta.ensures.some z)
    c.in_ok-bind-2.ensures

pub returns : goal.returns
returns c =
    let s = c.args.store.now in let made = c.args.made.now in let known = c.args.known.now in let rest = c.args.tasks.now.items in
    let i = c.args.sides.0 in let j = c.args.sides.1 in let left = c.ty_head-left.result in let right = c.ty_head-right.result in
    let l = c.requires.state in let p = c.ty_head-left.ensures.tree in let q = c.ty_head-right.ensures.tree in
    let d : type_of s left ≢ type_of s right =
    λ y. (let w = ap (λ (x : TyId). x.0) (c.shared.ensures.types left right c.ty_head-left.ensures.has c.ty_head-right.ensures.has y) in omega (arith, w)) in
    let sides : HasTask s (Types i j) = task_has s made known rest (Types i j) l in
    let has_left : HasSide s left = head_side s made l.have i left sides.0 c.ty_head-left.ensures.has p in
    let has_right : HasSide s right = head_side s made l.have j right sides.1 c.ty_head-right.ensures.has q in
    let after = c.split.new.tasks.items in
    if_step (λ (b : Binding). ⊥) (λ (b : Binding). MakesBinding s made (rest ++ Types i j ∷ []) b known after) c.in_ok-split.field-0
    (λ z. types_split s made known rest i j left right l p q after d has_left has_right z)
    (λ b z. absurd z)
    (λ z. types_clash s made known rest i j left right l p q d c.in_default.ensures.none c.in_default-ty_meta.ensures.none z)
    c.in_ok-split.ensures
