-- What the code's answers tell, one after the other.
use Rattle.std.proofs.Common.{ℕ, suc, ◌≡◌, List, [], ◌∷◌, ◌++◌, reverse, Some, refl, sym, ap, ◌∙◌, subst, arith}
use Rattle.std.specs.Prelude.{Result, Ok, Err}
use Rattle.std.proofs.lemmas.List.{reverse-append}
use Rattle.lp_terms.specs.Term as plain
use Rattle.lp_terms.specs.Signature.{Entry}
use Rattle.lp_terms.specs.Typing.{Class}
use Rattle.lp_reduce.specs.Normal.{normal, normal_of, CanMake}
use Rattle.lp_reduce.proofs.Counted.{spent_exactly}
use Rattle.dk_checker.specs.declared.stop.Stop.{Stop}
use Rattle.dk_checker.specs.declared.stop.Stop.TheVariants as stops
use Rattle.dk_checker.specs.Found.{Found, and_then, part, here, in_part, at_place}
use Rattle.dk_checker.specs.Found as found
use Rattle.dk_checker.specs.Asking.{or_spent, normal_form, asks_body}
use Rattle.dk_checker.specs.Told.{abstraction_found}
use Rattle.dk_checker.specs.View.{halt_of, IsStop, Stopped, Tells, IsInPart, InPart}

pub path_grows : (path : List ℕ) (i : ℕ) → reverse (path ++ i ∷ []) ≡ i ∷ reverse path
path_grows path i = reverse-append path (i ∷ [])

two_stops : {A : Type 0} (s : found.Stop) → s ≡ found.Stop.unbound → s ≡ found.Stop.spent plain.Lp.sort → A
two_stops s e f = absurd (grind (arith, e, f))

-- a stop goes on
pub stopped_then : {A B : Type 0} (m : Found A) (f : A → Found B) (e : Stop) → Stopped m e → Stopped (and_then m f) e
stopped_then m f stops.Memory h = tt
stopped_then m f (stops.Halted k) h = ap (λ x. and_then x f) h

pub stopped_part : {A : Type 0} (i : ℕ) (m : Found A) (e d : Stop) → IsInPart i e d → Stopped m e → Stopped (part i m) d
stopped_part i m e stops.Memory f h = tt
stopped_part i m stops.Memory (stops.Halted k) f h = two_stops (halt_of k) (f found.Stop.unbound tt) (f (found.Stop.spent plain.Lp.sort) tt)
stopped_part i m (stops.Halted l) (stops.Halted k) f h = ap (part i) h ∙ ap Found.stops (sym (f (halt_of l) refl))

pub stopped_here : {A : Type 0} (m : Found A) (e d : Stop) → ((s : found.Stop) → IsStop s e → IsStop (at_place s) d) → Stopped m e → Stopped (here m) d
stopped_here m e stops.Memory f h = tt
stopped_here m stops.Memory (stops.Halted k) f h = two_stops (halt_of k) (f found.Stop.unbound tt) (f (found.Stop.spent plain.Lp.sort) tt)
stopped_here m (stops.Halted l) (stops.Halted k) f h = ap here h ∙ ap Found.stops (sym (f (halt_of l) refl))

pub stopped_by : {A : Type 0} (s : found.Stop) (e : Stop) → IsStop s e → (m : Found A) → m ≡ Found.stops s → Stopped m e
stopped_by s stops.Memory h m e = tt
stopped_by s (stops.Halted k) h m e = e ∙ ap Found.stops (sym h)

pub stopped_of : {A : Type 0} (m n : Found A) (e : Stop) → m ≡ n → Stopped n e → Stopped m e
stopped_of m n e p h = subst (λ x. Stopped x e) (sym p) h

-- an answer goes on
pub tells_then : {A B C : Type 0} (view : C → B) (m : Found A) (f : A → Found B) (x : A) (r : Result C Stop) → m ≡ Found.gives x → Tells view (f x) r → Tells view (and_then m f) r
tells_then view m f x r e h = subst (λ y. Tells view (and_then y f) r) (sym e) h

pub tells_of : {B C : Type 0} (view : C → B) (m n : Found B) (r : Result C Stop) → m ≡ n → Tells view n r → Tells view m r
tells_of view m n r e h = subst (λ x. Tells view x r) (sym e) h

pub tells_part : {A B : Type 0} (view : A → B) (i : ℕ) (m : Found B) (given result : Result A Stop) → Tells view m given → InPart i given result → Tells view (part i m) result
tells_part view i m (Ok x) result h p = subst (λ r. Tells view (part i m) r) (sym p) (ap (part i) h)
tells_part view i m (Err e) result h p = subst (λ r. Tells view (part i m) r) (sym p.1) (stopped_part i m e p.0 p.2 h)

pub part_then : {A B : Type 0} (i : ℕ) (m : Found A) (f : A → Found B) → part i (and_then m f) ≡ and_then (part i m) (λ x. part i (f x))
part_then i (Found.gives x) f = refl
part_then i (Found.stops s) f = refl

-- normal forms
pub normal_told : (sigma : List Entry) (n limit : ℕ) (t u : plain.Lp) (k : ℕ) → normal sigma n limit t ≡ Some (normal_of u k) → normal_form sigma limit n t ≡ Found.gives u
normal_told sigma n limit t u k e = ap (or_spent t) e

pub spent_told : (sigma : List Entry) (n limit : ℕ) (t : plain.Lp) → CanMake sigma n (suc limit) t → normal_form sigma limit n t ≡ Found.stops (found.Stop.spent t)
spent_told sigma n limit t h = ap (or_spent t) ((spent_exactly sigma n limit t).1 h)

-- under a binder, in part 1
pub binder_abstraction : {A : Type 0} (n : ℕ) (x : Found A) (m : Found Class) (d : plain.Lp) →
    and_then x (λ _. and_then (part 1 (and_then m asks_body)) (λ b. Found.gives (Class.of (plain.Lp.prod d (plain.close_at 0 n b)))))
    ≡ and_then (and_then x (λ _. part 1 (and_then m (λ c. Found.gives (d, c))))) (abstraction_found n)
binder_abstraction n (Found.stops s) m d = refl
binder_abstraction n (Found.gives y) (Found.stops s) d = refl
binder_abstraction n (Found.gives y) (Found.gives c) d = refl

pub binder_product : {A : Type 0} (x : Found A) (m : Found Class) (d : plain.Lp) (f : Class → Found Class) →
    and_then x (λ _. part 1 (and_then m f))
    ≡ and_then {A = plain.Lp × Class} (and_then x (λ _. part 1 (and_then m (λ c. Found.gives (d, c))))) (λ p. part 1 (f p.1))
binder_product (Found.stops s) m d f = refl
binder_product (Found.gives y) (Found.stops s) d f = refl
binder_product (Found.gives y) (Found.gives c) d f = refl
