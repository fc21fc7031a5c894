-- The variables of the code's scope.
use Rattle.std.proofs.Common.{◌≡◌, ℕ, ◌+◌, ◌<◌, true, false, bytes_eq, Option, Some, List, [], ◌∷◌, ◌++◌, length, get_or, take, refl, arith, length-take}
use Rattle.std.proofs.lemmas.List.{take_more}
use Rattle.std.proofs.lemmas.Option.{slice_get-get_or}
use Rattle.tff_typing.specs.declared.scope.Variable.{Variable}
use Rattle.tff_typing.specs.Scope as scope
use Rattle.tff_typing.specs.Scope.{look_up}
use Rattle.tff_typing.specs.View.{variable_tree, onto, scope_tree, bound_in, bound_at}

onto_push : (s : scope.Scope) (vs : List Variable) (v : Variable) → onto s (vs ++ v ∷ []) ≡ variable_tree v ∷ onto s vs
onto_push s [] v = refl
onto_push s (x ∷ xs) v = onto_push (variable_tree x ∷ s) xs v

length_onto : (s : scope.Scope) (vs : List Variable) → length (onto s vs) ≡ length s + length vs
length_onto s [] = omega arith
length_onto s (v ∷ vs) = omega (arith, length_onto (variable_tree v ∷ s) vs)

pub length_scope : (vs : List Variable) → length (scope_tree vs) ≡ length vs
length_scope vs = omega (arith, length_onto [] vs)

pub look_up_hit : (vs : List Variable) (i : ℕ) (d : Variable) (x : List ℕ) → i < length vs → d ≡ get_or vs i d
    → bytes_eq d.name.now x ≡ true
    → look_up (scope_tree (take (i + 1) vs)) x ≡ bound_in vs (Some i)
look_up_hit vs i d x l g h =
    let t = take_more vs i d l in
    let p = onto_push [] (take i vs) d in
    let n : length (scope_tree (take i vs)) ≡ i = omega (arith, length_scope (take i vs), length-take {A = Variable}) in
    rw (t, ← g, p, h, n, slice_get-get_or vs i d l, ← g) refl

pub look_up_miss : (vs : List Variable) (i : ℕ) (d : Variable) (x : List ℕ) (found : Option ℕ) → i < length vs
    → d ≡ get_or vs i d → bytes_eq d.name.now x ≡ false
    → look_up (scope_tree (take i vs)) x ≡ bound_in vs found
    → look_up (scope_tree (take (i + 1) vs)) x ≡ bound_in vs found
look_up_miss vs i d x found l g h e =
    let t = take_more vs i d l in
    let p = onto_push [] (take i vs) d in
    rw (t, ← g, p, h) e

-- what a place of the code's scope, or table, holds
pub bound_got : (vs : List Variable) (i : ℕ) (v : Variable) → i < length vs → v ≡ get_or vs i v
    → bound_in vs (Some i) ≡ Some (bound_at i v)
bound_got vs i v l g = rw (slice_get-get_or vs i v l, ← g) refl

pub scope_push : (vs : List Variable) (v : Variable) → scope_tree (vs ++ v ∷ []) ≡ variable_tree v ∷ scope_tree vs
scope_push vs v = onto_push [] vs v
