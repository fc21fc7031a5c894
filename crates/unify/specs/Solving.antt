-- Trees with all bindings put in, as they are kept while they are made.
use Rattle.std.specs.Prelude.{◌≡◌, Some, nat_eq, List}
use Rattle.indexmap.specs.IndexMap.{get}
use Rattle.zm_logic.specs.Tree.{Tys, Terms}
use Rattle.term_store.specs.Change.{IsTypeId, IsTermId}
use Rattle.term_store.specs.Trees.{Tables, HasType, HasTerm, type_of, term_of}
use Rattle.term_store.specs.declared.ids.TyId.{TyId}
use Rattle.term_store.specs.declared.ids.TermId.{TermId}
use Rattle.unify.specs.Binding.{Binding, solved_type, solved_term, unifier}
use Rattle.unify.specs.Substitution.{put_types, put_terms}
use Rattle.unify.specs.declared.solving.Solved.{Solved}

-- lists of trees with all bindings put in
abbrev pub all_types : List Binding → Tys → Tys
all_types bs ts = put_types (unifier bs) ts

abbrev pub all_terms : List Binding → Terms → Terms
all_terms bs us = put_terms (unifier bs) us

-- whatever is kept is solved
pub record KnowsSolved (s : Tables) (bs : List Binding) (kept : Solved) : Type 0 where
  pub types : (i r : TyId) → get (λ x y. nat_eq x.0 y.0) kept.types i ≡ Some r → HasType s i × IsTypeId s (solved_type bs (type_of s i)) r
  pub terms : (i r : TermId) → get (λ x y. nat_eq x.0 y.0) kept.terms i ≡ Some r → HasTerm s i × IsTermId s (solved_term bs (term_of s i)) r
