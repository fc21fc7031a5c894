-- A refusal for depth, and a bound, by another depth.
use Rattle.std.proofs.Common.{◌≡◌}
use Rattle.term_store.specs.declared.opening.Redex.{Redex}
use Rattle.param_store.specs.declared.fault.OfferFault.{OfferFault}
use Rattle.param_store.specs.declared.fault.OfferFault.TheVariants as faults
use Rattle.param_store.specs.Fault.{IfDeepAt}

pub deep_more : (place : Redex) (P Q : Type 0) → (P → Q) → (fault : OfferFault) → IfDeepAt (λ at. (at ≡ place) × P) fault → IfDeepAt (λ at. (at ≡ place) × Q) fault
deep_more place P Q to faults.Memory h = tt
deep_more place P Q to (faults.Deep at) h = (h.0, to h.1)
