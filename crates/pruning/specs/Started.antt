-- Where a tableau was begun.
use Rattle.std.specs.Prelude.{◌≡◌, List, [], ◌∷◌, ◌++◌, map}
use Rattle.zm_logic.specs.Tree.{Form, Problem}
use Rattle.rule_select.specs.Selection.{Selection, kept_premises}
use Rattle.param_store.specs.View.{forms_of}
use Rattle.branch.specs.State.{State, setting, given_forms, normal_ids, tree}
use Rattle.sequent_proof.specs.Tree.{DTree}
use Rattle.pruning.specs.Trees.{tableau_derivation}

-- what is refuted: the kept premises in order, and then the negated conjecture
abbrev pub end_sequent : Problem → Selection → List Form
end_sequent p s = map (λ premise. premise.form) (kept_premises p s) ++ Form.negation p.conjecture ∷ []

-- The tableau was started from a problem and a selection of its rules.
pub record IsStartedFrom (p : Problem) (s : Selection) (t : State) : Type 0 where
  pub symbols : (setting t).symbols ≡ p.symbols
  pub rules : (setting t).rules ≡ s.rules
  pub given : given_forms t ≡ end_sequent p s

-- the normal forms of the formulas that it began with
abbrev pub normal_forms : State → List Form
normal_forms t = forms_of t.store (normal_ids t)

-- its derivation
abbrev pub derivation : State → DTree
derivation t = tableau_derivation (given_forms t) (normal_forms t) (tree t)
