-- One list of bindings.
use Rattle.std.proofs.Common.{◌≡◌, List}
use Rattle.unify.specs.Binding.{Binding}

abbrev pub IsOne : (List Binding → Type 0) → Type 0
IsOne Unifies = (made also : List Binding) → Unifies made → Unifies also → made ≡ also
