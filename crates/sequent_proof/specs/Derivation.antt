-- What a derivation is made of.
use Rattle.std.specs.Prelude.{List, map}
use Rattle.zm_logic.specs.View.{symbol_tree, rule_tree}
use Rattle.zm_logic.specs.declared.problem.Symbol.{Symbol}
use Rattle.zm_logic.specs.declared.rule.Rule.{Rule}
use Rattle.sequent_proof.specs.declared.tree.DTree.{DTree}
use Rattle.sequent_proof.specs.View.{tree_of}
use Rattle.sequent_proof.specs.Tree as plain

-- the tree, with the symbols and the rules that it is read for
pub record Parts : Type 0 where
  pub symbols : List Symbol
  pub rules : List Rule
  pub tree : DTree

-- the rules are fit for proofs, and the tree is a derivation modulo them
abbrev pub IsKept : Parts → Type 0
IsKept d = plain.IsKept (map symbol_tree d.symbols) (map rule_tree d.rules) (tree_of d.tree)
