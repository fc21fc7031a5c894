-- The variables of the code's list of types, and what indices stand for.
use Rattle.std.proofs.Common.{ℕ, zero, suc, ◌≡◌, ◌≢◌, ◌≤◌, ◌<◌, ◌+◌, ◌-◌, ◌⊎◌, inl, inr, List, [], ◌∷◌, ◌++◌, length, Some, None, cond, ◌==◌, refl, sym, ap, ◌∙◌, arith}
use Rattle.std.specs.Prelude.{slice_get, remove, unwrap_or}
use Rattle.std.specs.Option.{option_map, option_or}
use Rattle.std.proofs.lemmas.Option.{slice_get-map}
use Rattle.std.proofs.lemmas.List.{length-map, map-append}
use Rattle.lp_terms.specs.declared.term.Lp as code
use Rattle.lp_terms.specs.View.{term_of, terms_of}
use Rattle.lp_terms.specs.Term.{Lp}
use Rattle.lp_terms.specs.Term as lp
use Rattle.lp_terms.specs.Typing.{Context, Class}
use Rattle.lp_terms.specs.Reduction.{instance_at, AreClosed}
use Rattle.lp_terms.specs.WellFormed.{rule_variables}
use Rattle.lp_terms.proofs.Terms.{same_number, other_number}
use Rattle.lp_reduce.specs.Put.{put}
use Rattle.lp_reduce.proofs.Puts.{put_instance, put_from, put_below}
use Rattle.dk_checker.specs.Found.{Found, Stop}
use Rattle.dk_checker.specs.Asking.{depth, or_unbound, of_variable, type_of_variable}
use Rattle.dk_checker.specs.View.{binding, context_of, variables}

-- how many variables there are
depth_binding : (n : ℕ) (g : Context) (ts : List Lp) → depth (binding n g ts) ≡ depth g + length ts
depth_binding n g [] = omega arith
depth_binding n g (t ∷ ts) = depth_binding (suc n) (Context.bind n t g) ts ∙ omega arith

pub depth_context : (ts : List code.Lp) → depth (context_of ts) ≡ length ts
depth_context ts = depth_binding 0 Context.empty (terms_of ts) ∙ (let z : 0 + length (terms_of ts) ≡ length (terms_of ts) = omega arith in z) ∙ length-map ts term_of

-- one more
binding_push : (n : ℕ) (g : Context) (ts : List Lp) (a : Lp) → binding n g (ts ++ a ∷ []) ≡ Context.bind (n + length ts) a (binding n g ts)
binding_push n g [] a = ap (λ k. Context.bind k a g) (let e : n ≡ n + 0 = omega arith in e)
binding_push n g (t ∷ ts) a =
    binding_push (suc n) (Context.bind n t g) ts a
    ∙ ap (λ k. Context.bind k a (binding (suc n) (Context.bind n t g) ts)) (let e : suc n + length ts ≡ n + suc (length ts) = omega arith in e)

pub context_push : (ts : List code.Lp) (x : code.Lp) → context_of (ts ++ x ∷ []) ≡ Context.bind (depth (context_of ts)) (term_of x) (context_of ts)
context_push ts x =
    ap (binding 0 Context.empty) (map-append term_of ts (x ∷ []))
    ∙ binding_push 0 Context.empty (terms_of ts) (term_of x)
    ∙ ap (λ k. Context.bind k (term_of x) (context_of ts)) ((let z : 0 + length (terms_of ts) ≡ length (terms_of ts) = omega arith in z) ∙ length-map ts term_of ∙ sym (depth_context ts))

pub length_push : {A : Type 0} (ts : List A) (x : A) → length (ts ++ x ∷ []) ≡ suc (length ts)
length_push [] x = refl
length_push (t ∷ ts) x = ap suc (length_push ts x)

pub last_removed : {A : Type 0} (ts : List A) (x : A) → remove (ts ++ x ∷ []) (length ts) ≡ ts
last_removed [] x = refl
last_removed (t ∷ ts) x = ap (λ us. t ∷ us) (last_removed ts x)

pub last_got : {A : Type 0} (ts : List A) (x : A) → slice_get (ts ++ x ∷ []) (length ts) ≡ Some x
last_got [] x = refl
last_got (t ∷ ts) x = last_got ts x

-- looking a variable up
skipped : (g : Context) (n i : ℕ) (t : Lp) → n ≢ i → type_of_variable (Context.bind n t g) i ≡ type_of_variable g i
skipped g n i t h = ap (λ b. cond b (Some t) (type_of_variable g i)) (other_number n i h)

looked_before : (n : ℕ) (g : Context) (ts : List Lp) (i : ℕ) → i < n → type_of_variable (binding n g ts) i ≡ type_of_variable g i
looked_before n g [] i h = refl
looked_before n g (t ∷ ts) i h = looked_before (suc n) (Context.bind n t g) ts i (omega arith) ∙ skipped g n i t (omega arith)

looked_up : (n : ℕ) (g : Context) (ts : List Lp) (i j : ℕ) → i ≡ n + j → type_of_variable (binding n g ts) i ≡ option_or (slice_get ts j) (type_of_variable g i)
looked_up n g [] i j e = refl
looked_up n g (t ∷ ts) i zero e =
    looked_before (suc n) (Context.bind n t g) ts i (omega arith)
    ∙ ap (λ b. cond b (Some t) (type_of_variable g i)) (ap (λ k. n == k) (let f : i ≡ n = omega arith in f) ∙ same_number n)
looked_up n g (t ∷ ts) i (suc j) e =
    looked_up (suc n) (Context.bind n t g) ts i j (omega arith)
    ∙ ap (option_or (slice_get ts j)) (skipped g n i t (omega arith))

pub variable_found : (ts : List code.Lp) (i : ℕ) → of_variable (context_of ts) (Lp.free i) ≡ or_unbound (option_or (option_map term_of (slice_get ts i)) None)
variable_found ts i =
    ap or_unbound (looked_up 0 Context.empty (terms_of ts) i i (omega arith) ∙ ap (λ o. option_or o None) (slice_get-map term_of ts i))

pub bound_variable : (ts : List code.Lp) (i : ℕ) (t : code.Lp) → slice_get ts i ≡ Some t → of_variable (context_of ts) (Lp.free i) ≡ Found.gives (Class.of (term_of t))
bound_variable ts i t h = variable_found ts i ∙ ap (λ o. or_unbound (option_or (option_map term_of o) None)) h

pub unbound_variable : (ts : List code.Lp) (i : ℕ) → slice_get ts i ≡ None → of_variable (context_of ts) (Lp.free i) ≡ Found.stops Stop.unbound
unbound_variable ts i h = variable_found ts i ∙ ap (λ o. or_unbound (option_or (option_map term_of o) None)) h

-- what indices stand for
pub variables_closed : (d c : ℕ) → AreClosed (variables d c)
variables_closed d zero = tt
variables_closed zero (suc c) = tt
variables_closed (suc d) (suc c) = (lp.IsClosedAt.free, variables_closed d c)

pub with_variables : (d c : ℕ) (t : Lp) → put 0 (variables d c) t ≡ instance_at 0 (variables d c) t
with_variables d c t = put_instance (variables d c) (variables_closed d c) 0 t

variable_at : (d c j : ℕ) → j < c → j < d → slice_get (variables d c) j ≡ Some (Lp.free (d - j - 1))
variable_at d zero j h i = absurd (omega arith)
variable_at zero (suc c) j h i = absurd (omega arith)
variable_at (suc d) (suc c) zero h i = ap (λ n. Some (Lp.free n)) (let e : d ≡ suc d - 0 - 1 = omega arith in e)
variable_at (suc d) (suc c) (suc j) h i =
    variable_at d c j (omega arith) (omega arith) ∙ ap (λ n. Some (Lp.free n)) (let e : d - j - 1 ≡ suc d - suc j - 1 = omega arith in e)

no_variable : (d c j : ℕ) → (c ≤ j) ⊎ (d ≤ j) → slice_get (variables d c) j ≡ None
no_variable d zero j h = refl
no_variable zero (suc c) j h = refl
no_variable (suc d) (suc c) zero h = elim h [ inl i ↦ absurd (omega (arith, i)) | inr i ↦ absurd (omega (arith, i)) ]
no_variable (suc d) (suc c) (suc j) h = no_variable d c j (elim h [ inl i ↦ inl (omega (arith, i)) | inr i ↦ inr (omega (arith, i)) ])

pub variable_within : (d c at i j : ℕ) → at ≤ i → i - at ≡ j → j < c → j < d → put at (variables d c) (Lp.index i) ≡ Lp.free (d - j - 1)
variable_within d c at i j h e k l = put_from at (variables d c) i j h e ∙ ap (λ o. unwrap_or o (Lp.index i)) (variable_at d c j k l)

pub variable_past : (d c at i j : ℕ) → at ≤ i → i - at ≡ j → (c ≤ j) ⊎ (d ≤ j) → put at (variables d c) (Lp.index i) ≡ Lp.index i
variable_past d c at i j h e k = put_from at (variables d c) i j h e ∙ ap (λ o. unwrap_or o (Lp.index i)) (no_variable d c j k)

pub variable_inside : (d c at i : ℕ) → i < at → put at (variables d c) (Lp.index i) ≡ Lp.index i
variable_inside d c at i h = put_below at (variables d c) i h

-- a rule's variables
pub rule_variables_are : (types : List Lp) (k n : ℕ) → n ≡ k + length types → rule_variables types k (variables k k) ≡ variables n n
rule_variables_are [] k n e = ap (λ m. variables m m) (let f : k ≡ n = omega arith in f)
rule_variables_are (type ∷ types) k n e = rule_variables_are types (suc k) n (omega arith)
