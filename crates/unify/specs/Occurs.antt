-- Walks through trees with all bindings put in, in search of a metavariable.
use Rattle.std.specs.Prelude.{ℕ, ◌≡◌, ◌+◌, ◌<◌, Bool, true, false, List, [], ◌∷◌, ◌++◌, nat_eq}
use Rattle.indexmap.specs.IndexSet.{IndexSet, contains}
use Rattle.zm_logic.specs.Tree.{Ty}
use Rattle.term_store.specs.Trees.{Tables, HasType, HasTerm, type_of, term_of}
use Rattle.term_store.specs.declared.ids.TyId.{TyId}
use Rattle.term_store.specs.declared.ids.TermId.{TermId}
use Rattle.unify.specs.Binding.{Binding, solved_type, solved_term}
use Rattle.unify.specs.Unification.{LacksTypeMeta, LacksTermMeta}
use Rattle.unify.specs.Weight.{type_weight, term_weight}
use Rattle.unify.specs.Pending.{Each, AllAsked, IsMarked}
use Rattle.unify.specs.declared.ty_occurs.TyVisit.{TyVisit}
use Rattle.unify.specs.declared.ty_occurs.TyVisit.TheVariants as ty_visits
use Rattle.unify.specs.declared.term_occurs.TermVisit.{TermVisit}
use Rattle.unify.specs.declared.term_occurs.TermVisit.TheVariants as term_visits

-- yes or no
abbrev pub IfFound : Type 0 → Type 0 → Bool → Type 0
IfFound P Q true = P
IfFound P Q false = Q

-- the parts are entered
abbrev pub entered_types : List TyId → List TyVisit
entered_types [] = []
entered_types (i ∷ is) = ty_visits.Enter i ∷ entered_types is

abbrev pub entered_terms : List TermId → List TermVisit
entered_terms [] = []
entered_terms (i ∷ is) = term_visits.Enter i ∷ entered_terms is

module _ (s : Tables) (bs : List Binding) where
  module _ (m : ℕ) where
    -- the metavariable doesn't occur in the type
    abbrev pub TypeLacks : TyId → Type 0
    TypeLacks i = LacksTypeMeta m (solved_type bs (type_of s i))

    -- whatever the set has lacks it
    abbrev pub LackTypes : {S : Type 0} → IndexSet TyId S → Type 0
    LackTypes known = (i : TyId) → contains (λ x y. nat_eq x.0 y.0) known i ≡ true → HasType s i × TypeLacks i

    abbrev pub AsksType : Unit {0} → TyVisit → Type 0
    AsksType a (ty_visits.Enter i) = TypeLacks i
    AsksType a (ty_visits.Leave i) = Unit {0}

    abbrev pub GivesType : Unit {0} → TyVisit → Type 0
    GivesType a (ty_visits.Enter i) = Unit {0}
    GivesType a (ty_visits.Leave i) = TypeLacks i

  abbrev pub HasTyVisit : TyVisit → Type 0
  HasTyVisit (ty_visits.Enter i) = HasType s i
  HasTyVisit (ty_visits.Leave i) = HasType s i

  -- the work that is left
  abbrev pub types_load : List TyVisit → ℕ
  types_load [] = 0
  types_load (ty_visits.Enter i ∷ vs) = type_weight (solved_type bs (type_of s i)) + type_weight (solved_type bs (type_of s i)) + types_load vs
  types_load (ty_visits.Leave i ∷ vs) = 1 + types_load vs

  -- a type gives way to its parts
  pub record EntersType (m : ℕ) (i : TyId) (old new : List TyVisit) : Type 0 where
    pub more : List TyVisit
    pub grown : new ≡ old ++ more
    pub back : AllAsked (AsksType m) (GivesType m) tt more → TypeLacks m i
    pub forth : TypeLacks m i → AllAsked (AsksType m) (GivesType m) tt more
    pub marked : IsMarked (AsksType m) (GivesType m) more
    pub has : Each HasTyVisit more
    pub lighter : types_load more < type_weight (solved_type bs (type_of s i)) + type_weight (solved_type bs (type_of s i))

  module _ (m : ℕ) (k : Ty) where
    -- the metavariable doesn't occur in the term
    abbrev pub TermLacks : TermId → Type 0
    TermLacks i = LacksTermMeta m k (solved_term bs (term_of s i))

    abbrev pub LackTerms : {S : Type 0} → IndexSet TermId S → Type 0
    LackTerms known = (i : TermId) → contains (λ x y. nat_eq x.0 y.0) known i ≡ true → HasTerm s i × TermLacks i

    abbrev pub AsksTerm : Unit {0} → TermVisit → Type 0
    AsksTerm a (term_visits.Enter i) = TermLacks i
    AsksTerm a (term_visits.Leave i) = Unit {0}

    abbrev pub GivesTerm : Unit {0} → TermVisit → Type 0
    GivesTerm a (term_visits.Enter i) = Unit {0}
    GivesTerm a (term_visits.Leave i) = TermLacks i

  abbrev pub HasTermVisit : TermVisit → Type 0
  HasTermVisit (term_visits.Enter i) = HasTerm s i
  HasTermVisit (term_visits.Leave i) = HasTerm s i

  abbrev pub terms_load : List TermVisit → ℕ
  terms_load [] = 0
  terms_load (term_visits.Enter i ∷ vs) = term_weight (solved_term bs (term_of s i)) + term_weight (solved_term bs (term_of s i)) + terms_load vs
  terms_load (term_visits.Leave i ∷ vs) = 1 + terms_load vs

  -- a term gives way to its arguments
  pub record EntersTerm (m : ℕ) (k : Ty) (i : TermId) (old new : List TermVisit) : Type 0 where
    pub more : List TermVisit
    pub grown : new ≡ old ++ more
    pub back : AllAsked (AsksTerm m k) (GivesTerm m k) tt more → TermLacks m k i
    pub forth : TermLacks m k i → AllAsked (AsksTerm m k) (GivesTerm m k) tt more
    pub marked : IsMarked (AsksTerm m k) (GivesTerm m k) more
    pub has : Each HasTermVisit more
    pub lighter : terms_load more < term_weight (solved_term bs (term_of s i)) + term_weight (solved_term bs (term_of s i))
