-- The sizes of the trees of a store, as they are kept.
use Rattle.std.specs.Prelude.{ℕ, ◌≡◌, Some, nat_eq}
use Rattle.indexmap.specs.IndexMap.{get}
use Rattle.zm_logic.specs.Measure.{type_size, term_size, size}
use Rattle.term_store.specs.Trees.{Tables, HasType, HasTerm, HasForm, type_of, term_of, form_of}
use Rattle.term_store.specs.declared.ids.TyId.{TyId}
use Rattle.term_store.specs.declared.ids.TermId.{TermId}
use Rattle.term_store.specs.declared.ids.FormId.{FormId}
use Rattle.branch.specs.declared.sizes.Sizes.{Sizes}
use Rattle.branch.specs.Listed.{capped}

-- whatever is kept is the size of the tree
pub record KnowsSizes (s : Tables) (kept : Sizes) : Type 0 where
  pub types : (i : TyId) (n : ℕ) → get (λ x y. nat_eq x.0 y.0) kept.types i ≡ Some n → HasType s i × (n ≡ capped (type_size (type_of s i)))
  pub terms : (i : TermId) (n : ℕ) → get (λ x y. nat_eq x.0 y.0) kept.terms i ≡ Some n → HasTerm s i × (n ≡ capped (term_size (term_of s i)))
  pub forms : (i : FormId) (n : ℕ) → get (λ x y. nat_eq x.0 y.0) kept.forms i ≡ Some n → HasForm s i × (n ≡ capped (size (form_of s i)))
