-- The instance of a binding over ids.
use Rattle.std.proofs.Common.{ℕ, ◌≡◌, true, cond, Option, List, [], slice_get, option_map, ap, sym, ◌∙◌}
use Rattle.zm_logic.specs.Tree as tree
use Rattle.term_store.specs.Trees.{Tables, form_of, type_of, term_of}
use Rattle.term_store.specs.Open.{part_of}
use Rattle.term_store.specs.declared.ids.FormId.{FormId}
use Rattle.term_store.specs.declared.ids.TermId.{TermId}
use Rattle.term_store.specs.declared.ids.TyId.{TyId}
use Rattle.term_store.specs.declared.opening.Opening.TheVariants as openings
use Rattle.param_store.specs.View.{forms_of}
use Rattle.unify.specs.View.{binding_of}
use Rattle.unify.specs.declared.binding.Binding.{Binding}
use Rattle.unify.specs.declared.binding.Binding.TheVariants.{OfTerm, OfType}
use Rattle.equality_rules.specs.Typed.{has_type}
use Rattle.equality_rules.specs.Instances.{instance, instance_of}
use Rattle.equality_rules.proofs.Offers.{form_at_number}

module _ (symbols : List tree.Symbol) (s : Tables) (ids : List FormId) (b : Binding) (m : ℕ) where
  pub of_type_gives : (k : TyId) (o : Option FormId) → b ≡ OfType m k → o ≡ slice_get ids m
      → instance_of (option_map (form_of s) o) (part_of s (openings.OfType k)) ≡ instance symbols (forms_of s ids) (binding_of s b)
  of_type_gives k o e f =
      ap (λ x. instance_of x (part_of s (openings.OfType k))) (form_at_number s ids m o f)
      ∙ ap (λ x. instance symbols (forms_of s ids) (binding_of s x)) (sym e)

  pub of_term_gives : (k : TyId) (u : TermId) (o : Option FormId) → b ≡ OfTerm m k u → o ≡ slice_get ids m
      → true ≡ has_type symbols (term_of s u) (type_of s k)
      → instance_of (option_map (form_of s) o) (part_of s (openings.OfTerm u)) ≡ instance symbols (forms_of s ids) (binding_of s b)
  of_term_gives k u o e f h =
      ap (λ x. instance_of x (part_of s (openings.OfTerm u))) (form_at_number s ids m o f)
      ∙ ap (λ y. cond y (instance_of (slice_get (forms_of s ids) m) (part_of s (openings.OfTerm u))) []) h
      ∙ ap (λ x. instance symbols (forms_of s ids) (binding_of s x)) (sym e)
