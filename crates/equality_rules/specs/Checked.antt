-- What one test of types keeps.
use Rattle.std.specs.Prelude.{◌≡◌, true, List, nat_eq}
use Rattle.indexmap.specs.IndexSet.{IndexSet, contains}
use Rattle.zm_logic.specs.Tree.{Symbol}
use Rattle.term_store.specs.Trees.{Tables, type_of, term_of}
use Rattle.term_store.specs.declared.ids.TyId.{TyId}
use Rattle.term_store.specs.declared.ids.TermId.{TermId}
use Rattle.equality_rules.specs.Typed.{is_type}
use Rattle.equality_rules.specs.Heads.{is_typed}
use Rattle.equality_rules.specs.declared.checked.Checked.{Checked}

-- whatever is kept is well typed
abbrev pub AreTypes : {S : Type 0} → Tables → List Symbol → IndexSet TyId S → Type 0
AreTypes s symbols kept = (i : TyId) → contains (λ x y. nat_eq x.0 y.0) kept i ≡ true → is_type symbols (type_of s i) ≡ true

abbrev pub AreTyped : {S : Type 0} → Tables → List Symbol → IndexSet TermId S → Type 0
AreTyped s symbols kept = (i : TermId) → contains (λ x y. nat_eq x.0 y.0) kept i ≡ true → is_typed symbols (term_of s i) ≡ true

pub record IsRight (s : Tables) (symbols : List Symbol) (kept : Checked) : Type 0 where
  pub types : AreTypes s symbols kept.types
  pub terms : AreTyped s symbols kept.terms
