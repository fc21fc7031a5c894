-- Where offers were refused for their depth.
use Rattle.term_store.specs.declared.opening.Redex.{Redex}
use Rattle.param_store.specs.declared.fault.OfferFault.{OfferFault}
use Rattle.param_store.specs.declared.fault.OfferFault.TheVariants as faults

-- what holds of the place that is named
abbrev pub IfDeepAt : (Redex → Type 0) → OfferFault → Type 0
IfDeepAt P faults.Memory = Unit {0}
IfDeepAt P (faults.Deep at) = P at
