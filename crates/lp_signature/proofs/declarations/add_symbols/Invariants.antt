use Rattle.std.proofs.Common.{◌≡◌, ◌+◌, ◌++◌, All, take, drop, map}
use Rattle.lp_terms.specs.View.{entries_of}
use Rattle.zm_logic.specs.View.{rule_tree}
use Rattle.lp_signature.specs.Declarable.{IsDeclarable}
use Rattle.lp_signature.specs.Problem as problem
use Rattle.lp_signature.specs.View.{symbols_tree}
use Rattle.lp_signature.proofs.declarations.add_symbols.Given as goal

-- the entries so far and those to come are all
abbrev pub invariant-loop-place : goal.invariant-loop-place
invariant-loop-place l = record {
  told : entries_of l.entries ++ problem.symbol_entries (symbols_tree l.symbols) (map rule_tree l.rules) (l.place + 1) (symbols_tree (drop l.place l.symbols))
      ≡ entries_of l.fn.entries ++ problem.symbol_entries (symbols_tree l.symbols) (map rule_tree l.rules) 1 (symbols_tree l.symbols);
  declarable : All IsDeclarable (symbols_tree (take l.place l.symbols));
}
