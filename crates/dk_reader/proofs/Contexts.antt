-- What is known of a context, taken type by type, is what is known of it as a whole.
use Rattle.std.proofs.Common.{◌≡◌, ℕ, max, Bool, true, false, cond, List, [], ◌∷◌, ◌++◌, append_assoc, Some, refl, sym, ◌∙◌, ap, arith}
use Rattle.std.specs.Prelude.{nat_lt, ◌||◌}
use Rattle.std.proofs.lemmas.Bool.Decides.{nat_tests}
use Rattle.std.proofs.lemmas.List.{append-nil}
use Rattle.lp_terms.specs.Term.{Lp}
use Rattle.dk_text.specs.Grammar.{Raw, Binding, binding}
use Rattle.dk_text.specs.Names.{Scope, Resolved, known, unknown, and_then, resolved, resolved_context}
use Rattle.dk_text.specs.Refusals.{nesting, context_nesting}
use Rattle.dk_reader.specs.Pieces.{deep, shallow, piece_at, piece_of}
use Rattle.dk_reader.specs.Parts.{Context, deep_context, shallow_context, context_at, extended, scope_behind, context_behind}

pub scope_more : (scope : Scope) (bs : List Binding) (x : List ℕ) (a : Raw) → scope_behind scope (bs ++ binding x a ∷ []) ≡ Some x ∷ scope_behind scope bs
scope_more scope [] x a = refl
scope_more scope (binding y b ∷ bs) x a = scope_more (Some y ∷ scope) bs x a

pub context_more : (declared : List (List ℕ)) (scope : Scope) (c : Context) (bs : List Binding) (x : List ℕ) (a : Raw) →
    context_behind declared scope c (bs ++ binding x a ∷ []) ≡ extended (context_behind declared scope c bs) (piece_of declared (scope_behind scope bs) a)
context_more declared scope c [] x a = refl
context_more declared scope c (binding y b ∷ bs) x a = context_more declared (Some y ∷ scope) (extended c (piece_of declared scope b)) bs x a

-- Steps that may meet an unknown name

pub then_same : {A B : Type 0} (r : Resolved A) (f g : A → Resolved B) → ((x : A) → f x ≡ g x) → and_then r f ≡ and_then r g
then_same (known x) f g h = h x
then_same (unknown left) f g h = refl

pub then_then : {A B C : Type 0} (r : Resolved A) (f : A → Resolved B) (g : B → Resolved C) → and_then (and_then r f) g ≡ and_then r (λ x. and_then (f x) g)
then_then (known x) f g = refl
then_then (unknown left) f g = refl

pub context_same : {A : Type 0} (declared : List (List ℕ)) (scope : Scope) (bs : List Binding) (f g : Scope → List Lp → Resolved A) →
    ((inner : Scope) (cs : List Lp) → f inner cs ≡ g inner cs) → resolved_context declared scope bs f ≡ resolved_context declared scope bs g
context_same declared scope [] f g h = h scope []
context_same declared scope (binding x a ∷ bs) f g h =
    then_same (resolved declared scope a) (λ c. resolved_context declared (Some x ∷ scope) bs (λ inner cs. f inner (c ∷ cs)))
    (λ c. resolved_context declared (Some x ∷ scope) bs (λ inner cs. g inner (c ∷ cs)))
    (λ c. context_same declared (Some x ∷ scope) bs (λ inner cs. f inner (c ∷ cs)) (λ inner cs. g inner (c ∷ cs)) (λ inner cs. h inner (c ∷ cs)))

-- a context is resolved, and then what follows in its scope
pub context_then : {A : Type 0} (declared : List (List ℕ)) (scope : Scope) (bs : List Binding) (before : List Lp → List Lp) (next : Scope → List Lp → Resolved A) →
    resolved_context declared scope bs (λ inner cs. next inner (before cs))
    ≡ and_then (resolved_context declared scope bs (λ inner cs. known (before cs))) (λ cs. next (scope_behind scope bs) cs)
context_then declared scope [] before next = refl
context_then declared scope (binding x a ∷ bs) before next =
    then_same (resolved declared scope a) (λ c. resolved_context declared (Some x ∷ scope) bs (λ inner cs. next inner (before (c ∷ cs))))
    (λ c. and_then (resolved_context declared (Some x ∷ scope) bs (λ inner cs. known (before (c ∷ cs)))) (λ cs. next (scope_behind (Some x ∷ scope) bs) cs))
    (λ c. context_then declared (Some x ∷ scope) bs (λ cs. before (c ∷ cs)) next)
    ∙ sym (then_then (resolved declared scope a) (λ c. resolved_context declared (Some x ∷ scope) bs (λ inner cs. known (before (c ∷ cs)))) (λ cs. next (scope_behind (Some x ∷ scope) bs) cs))

-- The nesting of two

pub deeper_of_two : (n m : ℕ) → nat_lt 8000 (max n m) ≡ (nat_lt 8000 n || nat_lt 8000 m)
deeper_of_two n m = cases (nat_lt 8000 n) (nat_lt 8000 m) refl refl
  where
    cases : (d e : Bool) → nat_lt 8000 n ≡ d → nat_lt 8000 m ≡ e → nat_lt 8000 (max n m) ≡ (d || e)
    cases true e p q = grind (arith, nat_tests)
    cases false true p q = grind (arith, nat_tests)
    cases false false p q = grind (arith, nat_tests)

-- one more type
more_types : Resolved (List Lp) → Resolved Lp → Resolved (List Lp)
more_types ts v = and_then ts (λ types. and_then v (λ type. known (types ++ type ∷ [])))

extended_in : (n m : ℕ) (ts : Resolved (List Lp)) (v : Resolved Lp) (d e : Bool) → nat_lt 8000 n ≡ d → nat_lt 8000 m ≡ e →
    extended (cond d deep_context (shallow_context ts)) (cond e deep (shallow m v)) ≡ cond (d || e) deep_context (shallow_context (more_types ts v))
unfolding more_types
extended_in n m ts v true true p q = refl
extended_in n m ts v true false p q = refl
extended_in n m ts v false true p q = refl
extended_in n m ts v false false p q = refl

extended_at : (n m : ℕ) (ts : Resolved (List Lp)) (v : Resolved Lp) → extended (context_at n ts) (piece_at m v) ≡ context_at (max n m) (more_types ts v)
extended_at n m ts v =
    extended_in n m ts v (nat_lt 8000 n) (nat_lt 8000 m) refl refl
    ∙ ap (λ b. cond b deep_context (shallow_context (more_types ts v))) (sym (deeper_of_two n m))

max_same : (n m k : ℕ) → max (max n m) k ≡ max n (max m k)
max_same n m k = omega arith

max_zero : (n : ℕ) → max n 0 ≡ n
max_zero n = omega arith

then_nothing : (ts : Resolved (List Lp)) → ts ≡ and_then ts (λ types. known (types ++ []))
then_nothing (known types) = ap known (sym (append-nil types))
then_nothing (unknown left) = refl

-- the types of the bindings, behind these
types_behind : List (List ℕ) → Scope → List Binding → List Lp → Resolved (List Lp)
types_behind declared scope bs types = resolved_context declared scope bs (λ inner cs. known (types ++ cs))

types_step : (declared : List (List ℕ)) (scope : Scope) (bs : List Binding) (x : List ℕ) (ts : Resolved (List Lp)) (v : Resolved Lp) →
    and_then (more_types ts v) (λ types. types_behind declared (Some x ∷ scope) bs types)
    ≡ and_then ts (λ types. and_then v (λ c. resolved_context declared (Some x ∷ scope) bs (λ inner cs. known (types ++ c ∷ cs))))
unfolding more_types types_behind
types_step declared scope bs x (unknown left) v = refl
types_step declared scope bs x (known types) (unknown left) = refl
types_step declared scope bs x (known types) (known c) =
    context_same declared (Some x ∷ scope) bs (λ inner cs. known ((types ++ c ∷ []) ++ cs)) (λ inner cs. known (types ++ c ∷ cs)) (λ inner cs. ap known (append_assoc types (c ∷ []) cs))

behind_is : (declared : List (List ℕ)) (scope : Scope) (bs : List Binding) (n : ℕ) (ts : Resolved (List Lp)) →
    context_behind declared scope (context_at n ts) bs ≡ context_at (max n (context_nesting bs)) (and_then ts (λ types. types_behind declared scope bs types))
unfolding types_behind
behind_is declared scope [] n ts = ap (λ m. context_at m ts) (sym (max_zero n)) ∙ ap (λ r. context_at (max n 0) r) (then_nothing ts)
behind_is declared scope (binding x a ∷ bs) n ts =
    let v : Resolved Lp = resolved declared scope a in
    let m : ℕ = nesting a in
    ap (λ c. context_behind declared (Some x ∷ scope) c bs) (extended_at n m ts v)
    ∙ behind_is declared (Some x ∷ scope) bs (max n m) (more_types ts v)
    ∙ ap (λ k. context_at k (and_then (more_types ts v) (λ types. types_behind declared (Some x ∷ scope) bs types))) (max_same n m (context_nesting bs))
    ∙ ap (λ r. context_at (max n (max m (context_nesting bs))) r) (types_step declared scope bs x ts v)

-- what is known of a context as a whole
pub context_is : (declared : List (List ℕ)) (bs : List Binding) →
    context_behind declared [] (shallow_context (known [])) bs ≡ context_at (context_nesting bs) (resolved_context declared [] bs (λ inner cs. known cs))
unfolding types_behind
context_is declared bs =
    behind_is declared [] bs 0 (known [])
    ∙ ap (λ k. context_at k (resolved_context declared [] bs (λ inner cs. known cs))) (none_before (context_nesting bs))
  where
    none_before : (n : ℕ) → max 0 n ≡ n
    none_before n = omega arith
