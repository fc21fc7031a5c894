-- What follows where an outcome is a tree.
use Rattle.std.proofs.Common.{◌≡◌, Bool, true, false, if◌then◌else◌, Ok, Err, refl}
use Rattle.tff_typing.specs.Fault.{Fault, Outcome, ◌>>=◌}

abbrev fault : {A : Type 0} → Fault → Outcome A
fault e = Err e

pub no_ok : {A : Type 0} (e : Fault) (y : A) → fault {A = A} e ≡ Ok y → ⊥
no_ok e y h = cc

-- both steps gave something
pub both_ok : {A B : Type 0} (r : Outcome A) (f : A → Outcome B) (y : B) → (r >>= f) ≡ Ok y
    → (x : A) × (r ≡ Ok x) × (f x ≡ Ok y)
both_ok (Ok x) f y h = (x, refl, h)
both_ok (Err e) f y h = absurd (no_ok e y h)

abbrev ok : {A : Type 0} → A → Outcome A
ok x = Ok x

pub ok_same : {A : Type 0} (x y : A) → ok x ≡ Ok y → x ≡ y
ok_same x y h = cc

-- the test held where anything was given
pub test_held : {A : Type 0} (b : Bool) (r : Outcome A) (e : Fault) (y : A) → (if b then r else Err e) ≡ Ok y
    → (b ≡ true) × (r ≡ Ok y)
test_held true r e y h = (refl, h)
test_held false r e y h = absurd (no_ok e y h)
