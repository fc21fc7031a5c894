use Rattle.std.proofs.Common.{ℕ, ◌≡◌, ◌≢◌, ◌++◌, ◌∷◌, [], true, sym, ap, subst, ◌∙◌, arith}
use Rattle.indexmap.specs.IndexSet.{contains}
use Rattle.term_store.specs.Trees.{type_of, term_of}
use Rattle.term_store.specs.declared.ids.TermId.{TermId}
use Rattle.unify.specs.Binding.{solved_term}
use Rattle.unify.specs.View.{latest}
use Rattle.unify.specs.Occurs.{TermLacks}
use Rattle.unify.specs.Task.{same_pair, MakesBinding}
use Rattle.unify.specs.declared.binding.Binding.{Binding}
use Rattle.unify.specs.declared.binding.Binding.TheVariants.{OfTerm}
use Rattle.unify.specs.declared.task.Task.TheVariants.{Terms}
use Rattle.unify.proofs.TermWalk.{term_id}
use Rattle.unify.proofs.StateFacts.{if_step}
use Rattle.unify.proofs.TermSteps.{terms_equal, terms_bind_left, terms_bind_right, terms_clash_left, terms_clash_right, terms_clash, terms_split}
use Rattle.unify.proofs.terms.solve_terms.Goals as goal

pub returns-then-left-right : goal.returns-then-left-right
returns-then-left-right c =
    let s = c.args.store.now in let made = c.args.made.now in let known = c.args.known.now in let rest = c.args.tasks.now.items in
    let i = c.args.sides.0 in let j = c.args.sides.1 in let left = c.term_head-left.result in let right = c.term_head-right.result in
    let l = c.requires.state in let p = c.term_head-left.ensures.tree in let q = c.term_head-right.ensures.tree in
    terms_equal s made known rest i j left right l p q (ap (solved_term (latest s made)) (ap (term_of s) (ap (λ (n : ℕ). term_id n) c.if-left-right.true)))

pub returns-then-contains : goal.returns-then-contains
returns-then-contains c =
    let s = c.args.store.now in let made = c.args.made.now in let known = c.args.known.now in let rest = c.args.tasks.now.items in
    let i = c.args.sides.0 in let j = c.args.sides.1 in let left = c.term_head-left.result in let right = c.term_head-right.result in
    let l = c.requires.state in let p = c.term_head-left.ensures.tree in let q = c.term_head-right.ensures.tree in
    let h : contains same_pair known.terms (record { left = left.0; right = right.0 }) ≡ true = sym c.contains.ensures ∙ c.if-contains.true in
    terms_equal s made known rest i j left right l p q (l.known.terms (record { left = left.0; right = right.0 }) h)

pub returns-in-Some : goal.returns-in-Some
returns-in-Some c =
    let s = c.args.store.now in let made = c.args.made.now in let known = c.args.known.now in let rest = c.args.tasks.now.items in
    let i = c.args.sides.0 in let j = c.args.sides.1 in let left = c.term_head-left.result in let right = c.term_head-right.result in
    let l = c.requires.state in let p = c.term_head-left.ensures.tree in let q = c.term_head-right.ensures.tree in
    let d : term_of s left ≢ term_of s right =
    λ y. (let w = ap (λ (x : TermId). x.0) (c.shared.ensures.terms left right c.term_head-left.ensures.has c.term_head-right.ensures.has y) in omega (arith, w)) in
    let m = c.in-Some.meta.0 in let t = c.in-Some.meta.1 in
    if_step (λ (b : Binding). (b ≡ OfTerm m t right) × TermLacks s (latest s made) m (type_of s t) right) (λ (b : Binding). MakesBinding s made (rest ++ Terms i j ∷ []) b known rest) c.in_ok-bind.field-0
    (λ z. absurd z)
    (λ b z. subst (λ (x : Binding). MakesBinding s made (rest ++ Terms i j ∷ []) x known rest) (sym z.0)
    (terms_bind_left s made known rest i j left right l p q m t (c.in-Some.ensures.has, c.term_head-right.ensures.has) c.in-Some.ensures.some z.1))
    (λ z. terms_clash_left s made known rest i j left right l p q m (type_of s t) d c.in-Some.ensures.some z)
    c.in_ok-bind.ensures

pub returns-in-Some-term_meta : goal.returns-in-Some-term_meta
returns-in-Some-term_meta c =
    let s = c.args.store.now in let made = c.args.made.now in let known = c.args.known.now in let rest = c.args.tasks.now.items in
    let i = c.args.sides.0 in let j = c.args.sides.1 in let left = c.term_head-left.result in let right = c.term_head-right.result in
    let l = c.requires.state in let p = c.term_head-left.ensures.tree in let q = c.term_head-right.ensures.tree in
    let d : term_of s left ≢ term_of s right =
    λ y. (let w = ap (λ (x : TermId). x.0) (c.shared.ensures.terms left right c.term_head-left.ensures.has c.term_head-right.ensures.has y) in omega (arith, w)) in
    let m = c.in-Some-term_meta.meta.0 in let t = c.in-Some-term_meta.meta.1 in
    if_step (λ (b : Binding). (b ≡ OfTerm m t left) × TermLacks s (latest s made) m (type_of s t) left) (λ (b : Binding). MakesBinding s made (rest ++ Terms i j ∷ []) b known rest) c.in_ok-bind-2.field-0
    (λ z. absurd z)
    (λ b z. subst (λ (x : Binding). MakesBinding s made (rest ++ Terms i j ∷ []) x known rest) (sym z.0)
    (terms_bind_right s made known rest i j left right l p q m t (c.in-Some-term_meta.ensures.has, c.term_head-left.ensures.has) c.in_default.ensures.none c.in-Some-term_meta.ensures.some z.1))
    (λ z. terms_clash_right s made known rest i j left right l p q m (type_of s t) d c.in_default.ensures.none c.in-Some-term_meta.ensures.some z)
    c.in_ok-bind-2.ensures

pub returns : goal.returns
returns c =
    let s = c.args.store.now in let made = c.args.made.now in let known = c.args.known.now in let rest = c.args.tasks.now.items in
    let i = c.args.sides.0 in let j = c.args.sides.1 in let left = c.term_head-left.result in let right = c.term_head-right.result in
    let l = c.requires.state in let p = c.term_head-left.ensures.tree in let q = c.term_head-right.ensures.tree in
    let d : term_of s left ≢ term_of s right =
    λ y. (let w = ap (λ (x : TermId). x.0) (c.shared.ensures.terms left right c.term_head-left.ensures.has c.term_head-right.ensures.has y) in omega (arith, w)) in
    let after = c.split.new.tasks.items in
    if_step (λ (b : Binding). ⊥) (λ (b : Binding). MakesBinding s made (rest ++ Terms i j ∷ []) b known after) c.in_ok-split.field-0
    (λ z. terms_split s made known rest i j left right l p q after d c.term_head-left.ensures.has c.term_head-right.ensures.has z)
    (λ b z. absurd z)
    (λ z. terms_clash s made known rest i j left right l p q d c.in_default.ensures.none c.in_default-term_meta.ensures.none z)
    c.in_ok-split.ensures
