-- Formulas that reached their normal forms, as a normaliser keeps them.
use Rattle.std.specs.Prelude.{ℕ, ◌≡◌, Bool, nat_eq, List, Some}
use Rattle.indexmap.specs.IndexMap.{get}
use Rattle.zm_logic.specs.Tree.{Rule}
use Rattle.term_store.specs.Trees.{Tables, HasForm, form_of}
use Rattle.term_store.specs.declared.ids.FormId.{FormId}
use Rattle.rule_index.specs.View.{rules_of}
use Rattle.normaliser.specs.NormalForm.{Answer, normal_form}
use Rattle.normaliser.specs.declared.keeping.Normaliser.{Normaliser}

abbrev pub same_id : FormId → FormId → Bool
same_id i j = nat_eq i.0 j.0

-- the second formula of a store is the normal form of the first one, which as many steps lead to and no fewer
pub record IsReached (rules : List Rule) (s : Tables) (form normal : FormId) (steps : ℕ) : Type 0 where
  pub has : HasForm s form
  pub has_normal : HasForm s normal
  pub exact : normal_form rules steps (form_of s form) ≡ Answer.reached (form_of s normal) steps

-- the rules that a normaliser goes by
abbrev pub normaliser_rules : Normaliser → List Rule
normaliser_rules n = rules_of n.index

-- for each formula that is kept, its normal form is kept with the exact count
abbrev pub Knows : Tables → Normaliser → Type 0
Knows s n = (i : FormId) (r : FormId × ℕ) → get same_id n.kept i ≡ Some r → IsReached (normaliser_rules n) s i r.0 r.1
