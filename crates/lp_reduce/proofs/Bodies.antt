-- The next step of a binder from that of its opened body.
use Rattle.std.proofs.Common.{ℕ, suc, ◌≡◌, List, [], ◌∷◌, Option, Some, None, sym, ap, ap₂, ◌∙◌}
use Rattle.std.specs.Option.{option_map}
use Rattle.lp_terms.specs.Term.{Lp, opened, closed}
use Rattle.lp_terms.specs.Signature.{Entry}
use Rattle.lp_reduce.specs.Step.{next_step}
use Rattle.lp_reduce.proofs.Composed.{body_next}

pub body_steps : (sigma : List Entry) (n m : ℕ) (t o : Lp) (r : Option Lp) → suc n ≡ m → o ≡ opened t (Lp.free n) → r ≡ next_step sigma m [] o →
    option_map (λ v. closed n v) r ≡ option_map (λ v. closed n v) (next_step sigma (suc n) (Lp.free n ∷ []) t)
body_steps sigma n m t o r e f g =
    ap (option_map (λ v. closed n v)) (g ∙ ap₂ (λ k x. next_step sigma k [] x) (sym e) f ∙ sym (body_next sigma n t))
