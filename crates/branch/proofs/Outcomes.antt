-- What holds after a call, whatever it answers.
use Rattle.std.proofs.Common.{◌≡◌, sym, subst, Result, Ok, Err, OnOk, OnErr, IfErr}

pub after_either : {A E P : Type 0} (r : Result A E) → OnOk r P → OnErr r P → P
after_either (Ok x) h k = h
after_either (Err e) h k = k

pub if_err_is : {A E : Type 0} (r : Result A E) (P : E → Type 0) (y e : E) → r ≡ Err y → y ≡ e → P e → IfErr r P
if_err_is r P y e h k p = subst (λ z. IfErr z P) (sym h) (subst P (sym k) p)

pub on_either : {A E P Q R : Type 0} (r : Result A E) → (P → R) → (Q → R) → OnOk r P → OnErr r Q → R
on_either (Ok x) f g h k = f h
on_either (Err e) f g h k = g k
