-- What a call may answer, as plain data.
use Rattle.std.specs.Prelude.{ℕ, List}
use Rattle.zm_logic.specs.Tree.{Symbol}
use Rattle.zm_logic.specs.Truth.{Valued}
use Rattle.branch.specs.Tableau.{Node}
use Rattle.branch.specs.Stopping.{Cause}
use Rattle.tptp_include.specs.Gathering.{Refusal}
use Rattle.tff_typing.specs.Fault.{Fault}
use Rattle.zenon_modulo.specs.Words.{Misuse}

-- a statement that has no typing: its place in its file, its first fault, and the symbols of the statements before it
pub record Untyped : Type 0 where
  pub file : List ℕ
  pub at : ℕ
  pub fault : Fault
  pub symbols : List Symbol

-- what is wrong with an input: nothing is gathered from it, a statement has no typing, it has too many bytes, or its
-- problem is one that isn't built
pub data Explanation : Type 0 where
  ungathered : Refusal → Explanation
  untyped : Untyped → Explanation
  too_large : Explanation
  not_built : Explanation

-- the answers
pub data Answer : Type 0 where
  proved : (tree : Node) → Answer
  falsified : (v : List Valued) (tree : Node) → Answer
  unknown : (why : Cause) (tree : Node) → Answer
  refused : (e : Explanation) → Answer
  misused : (m : Misuse) → Answer
  read_fault : Answer
  library_fault : Answer
  write_fault : Answer
  memory : Answer
