-- Answers, one after the other.
use Rattle.std.proofs.Common.{ℕ, ◌≡◌, Bool, true, false, cond, refl}
use Rattle.lp_terms.specs.Term.{Lp}
use Rattle.dk_checker.specs.Found.{Found, and_then, part, here, IfGives}
use Rattle.dk_checker.specs.Asking.{on_product}

pub if_then : {A B : Type 0} (P : B → Type 0) (m : Found A) (f : A → Found B) → IfGives m (λ x. IfGives (f x) P) → IfGives (and_then m f) P
if_then P (Found.gives x) f p = p
if_then P (Found.stops s) f p = tt

pub if_part : {A : Type 0} (P : A → Type 0) (i : ℕ) (m : Found A) → IfGives m P → IfGives (part i m) P
if_part P i (Found.gives x) p = p
if_part P i (Found.stops s) p = tt

pub if_here : {A : Type 0} (P : A → Type 0) (m : Found A) → IfGives m P → IfGives (here m) P
if_here P (Found.gives x) p = p
if_here P (Found.stops s) p = tt

pub if_each : {A : Type 0} (P Q : A → Type 0) (m : Found A) → IfGives m P → ((x : A) → P x → Q x) → IfGives m Q
if_each P Q (Found.gives x) p f = f x p
if_each P Q (Found.stops s) p f = tt

-- in a part, then on
pub if_part_then : {A B : Type 0} (P : A → Type 0) (Q : B → Type 0) (i : ℕ) (m : Found A) (f : A → Found B) → IfGives m P → ((x : A) → P x → IfGives (f x) Q) → IfGives (and_then (part i m) f) Q
if_part_then P Q i m f p g = if_then Q (part i m) f (if_each P (λ x. IfGives (f x) Q) (part i m) (if_part P i m p) g)

pub if_then_each : {A B : Type 0} (P : A → Type 0) (Q : B → Type 0) (m : Found A) (f : A → Found B) → IfGives m P → ((x : A) → P x → IfGives (f x) Q) → IfGives (and_then m f) Q
if_then_each P Q m f p g = if_then Q m f (if_each P (λ x. IfGives (f x) Q) m p g)

pub if_cond : {A : Type 0} (P : A → Type 0) (b : Bool) (x y : Found A) → (b ≡ true → IfGives x P) → IfGives y P → IfGives (cond b x y) P
if_cond P true x y f q = f refl
if_cond P false x y f q = q

pub if_product : {A : Type 0} (P : A → Type 0) (t : Lp) (f : Lp → Lp → Found A) (other : Found A) → ((a b : Lp) → t ≡ Lp.prod a b → IfGives (f a b) P) → IfGives other P → IfGives (on_product t f other) P
if_product P (Lp.prod a b) f other p q = p a b refl
if_product P Lp.sort f other p q = q
if_product P (Lp.const name) f other p q = q
if_product P (Lp.free n) f other p q = q
if_product P (Lp.index i) f other p q = q
if_product P (Lp.app g a) f other p q = q
if_product P (Lp.abs a t) f other p q = q
