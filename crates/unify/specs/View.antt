-- The trees of the code's bindings.
use Rattle.std.specs.Prelude.{◌<◌, List, [], ◌∷◌}
use Rattle.zm_logic.specs.Measure.{type_depth}
use Rattle.term_store.specs.Trees.{Tables, HasType, HasTerm, type_of, term_of}
use Rattle.unify.specs.Binding as trees
use Rattle.unify.specs.declared.binding.Binding.{Binding}
use Rattle.unify.specs.declared.binding.Binding.TheVariants.{OfTerm, OfType}

-- the binding's ids are those of the store, and a metavariable over terms with a bound type as its own may stand there, too
abbrev pub HasBinding : Tables → Binding → Type 0
HasBinding s (OfTerm m t u) = HasType s t × HasTerm s u
HasBinding s (OfType m t) = HasType s t × (type_depth (type_of s t) < 2000)

-- the binding
abbrev pub binding_of : Tables → Binding → trees.Binding
binding_of s (OfTerm m t u) = trees.Binding.of_term m (type_of s t) (term_of s u)
binding_of s (OfType m t) = trees.Binding.of_type m (type_of s t)

-- bindings in the order in which they are made, behind earlier ones; the latest stands first
abbrev pub latest_on : Tables → List trees.Binding → List Binding → List trees.Binding
latest_on s before [] = before
latest_on s before (b ∷ bs) = latest_on s (binding_of s b ∷ before) bs

abbrev pub latest : Tables → List Binding → List trees.Binding
latest s bs = latest_on s [] bs
