-- What the calls answer: bindings in the order in which they were made, solved, or the first that is too deep.
use Rattle.std.specs.Prelude.{ℕ, ◌≡◌, ◌<◌, ◌≤◌, List, ◌∷◌, ◌++◌, map, reverse, All}
use Rattle.zm_logic.specs.Tree.{Term}
use Rattle.zm_logic.specs.Measure.{type_depth, term_depth}
use Rattle.term_store.specs.Trees.{Tables, HasType, HasTerm, term_of}
use Rattle.term_store.specs.declared.ids.TermId.{TermId}
use Rattle.unify.specs.Binding as trees
use Rattle.unify.specs.View.{binding_of}
use Rattle.unify.specs.declared.binding.Binding.{Binding}
use Rattle.unify.specs.declared.binding.Binding.TheVariants.{OfTerm, OfType}
use Rattle.unify.specs.declared.binding.MguFault.{MguFault}
use Rattle.unify.specs.declared.binding.MguFault.TheVariants as faults

-- the binding with all bindings put into its right side
abbrev pub solved_binding : List trees.Binding → trees.Binding → trees.Binding
solved_binding bs (trees.Binding.of_type m u) = trees.Binding.of_type m (trees.solved_type bs u)
solved_binding bs (trees.Binding.of_term m k u) = trees.Binding.of_term m k (trees.solved_term bs u)

-- how deep its right side is then
abbrev pub solved_depth : List trees.Binding → trees.Binding → ℕ
solved_depth bs (trees.Binding.of_type m u) = type_depth (trees.solved_type bs u)
solved_depth bs (trees.Binding.of_term m k u) = term_depth (trees.solved_term bs u)

-- the term that names the binding: its right side as made, or a metavariable with it as its type
abbrev pub name_of : trees.Binding → Term
name_of (trees.Binding.of_type m u) = Term.meta m u
name_of (trees.Binding.of_term m k u) = u

-- the ids are those of the store
abbrev pub HasIds : Tables → Binding → Type 0
HasIds s (OfTerm m t u) = HasType s t × HasTerm s u
HasIds s (OfType m t) = HasType s t

-- the answer lists the bindings, the latest of which stands first, in the order in which they were made, solved
pub record IsAnswer (s : Tables) (made : List trees.Binding) (answer : List Binding) : Type 0 where
  pub has : All (HasIds s) answer
  pub solved : map (binding_of s) answer ≡ map (solved_binding made) (reverse made)
  pub bounded : All (λ b. solved_depth made b ≤ 2000) (reverse made)

-- the first binding in order whose solved right side is deeper than 2,000 is named
pub record IsTooDeep (s : Tables) (made : List trees.Binding) (at : TermId) : Type 0 where
  pub before : List trees.Binding
  pub binding : trees.Binding
  pub after : List trees.Binding
  pub order : reverse made ≡ before ++ binding ∷ after
  pub bounded : All (λ b. solved_depth made b ≤ 2000) before
  pub deep : 2000 < solved_depth made binding
  pub has : HasTerm s at
  pub named : term_of s at ≡ name_of binding

-- what holds of the term that a fault names
abbrev pub IfDeepAt : (TermId → Type 0) → MguFault → Type 0
IfDeepAt P faults.Memory = Unit {0}
IfDeepAt P (faults.Deep at) = P at
