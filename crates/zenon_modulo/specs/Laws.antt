-- Statements about the definitions, for contracts to name.
use Rattle.std.specs.Prelude.{ℕ, ◌≡◌, true, false, List, Option}
use Rattle.zm_base.specs.Library.{NamedFile}
use Rattle.zm_logic.specs.Tree.{Problem}
use Rattle.zm_logic.specs.Problem.{IsTypedProblem}
use Rattle.lp_terms.specs.WellFormed.{IsWellFormed}
use Rattle.rule_select.specs.Selection.{all_kept}
use Rattle.branch.specs.Tableau.{Node, IsTableau, is_finished}
use Rattle.lp_signature.specs.Problem.{signature}
use Rattle.lp_translation.specs.Goal.{IsGoalFile}
use Rattle.zenon_modulo.specs.Words.{Word, Operand, Command, Misuse, IsCommand, IsMisuse}
use Rattle.zenon_modulo.specs.Fragments.{is_built}
use Rattle.zenon_modulo.specs.Input.{Spells, Explains}
use Rattle.zenon_modulo.specs.Answer.{Explanation}
use Rattle.zenon_modulo.specs.ProofFile.{proof_entries}
use Rattle.zenon_modulo.specs.Claims.{setting, root}

-- the text of an operand spells at most one problem
abbrev pub SpelledProblemsAreEqual : Type 0
SpelledProblemsAreEqual = (operand : Operand) (files : List NamedFile) (text : Option (List ℕ)) (p q : Problem)
    → Spells operand files text p → Spells operand files text q → p ≡ q

-- An operand whose text spells a problem is refused for one cause alone: that the problem isn't built.
abbrev pub SpelledProblemsAreAccepted : Type 0
SpelledProblemsAreAccepted = (operand : Operand) (files : List NamedFile) (text : Option (List ℕ)) (p : Problem) (e : Explanation)
    → Spells operand files text p → Explains operand files text e → (e ≡ Explanation.not_built) × (is_built p ≡ false)

-- at most one thing is wrong with an input
abbrev pub ExplanationsAreEqual : Type 0
ExplanationsAreEqual = (operand : Operand) (files : List NamedFile) (text : Option (List ℕ)) (d e : Explanation)
    → Explains operand files text d → Explains operand files text e → d ≡ e

-- words are at most one command
abbrev pub CommandsAreEqual : Type 0
CommandsAreEqual = (words : List Word) (c d : Command) → IsCommand words c → IsCommand words d → c ≡ d

-- at most one thing is the first that is wrong with words
abbrev pub MisusesAreEqual : Type 0
MisusesAreEqual = (words : List Word) (m n : Misuse) → IsMisuse words m → IsMisuse words n → m ≡ n

-- nothing is wrong with a command
abbrev pub CommandsAreNotMisused : Type 0
CommandsAreNotMisused = (words : List Word) (c : Command) (m : Misuse) → IsCommand words c → IsMisuse words m → ⊥

-- A closed tableau of a typed problem makes a goal file, over a well-formed signature.
abbrev pub ClosedTableauxMakeGoalFiles : Type 0
ClosedTableauxMakeGoalFiles =
    (p : Problem) (tree : Node) → IsTypedProblem p → IsTableau (setting p) (root p) tree → is_finished tree ≡ true
    → IsGoalFile p (all_kept p) (proof_entries p tree) × IsWellFormed (signature p (all_kept p))
