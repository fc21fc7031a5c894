use Rattle.std.proofs.Common.{◌≡◌, ◌≤◌, ◌++◌, map}
use Rattle.lp_terms.specs.View.{entries_of}
use Rattle.zm_logic.specs.View.{premise_tree}
use Rattle.rule_select.specs.Selection.{kept_of}
use Rattle.lp_signature.specs.Problem as problem
use Rattle.lp_signature.specs.View.{symbols_tree}
use Rattle.lp_signature.proofs.Declared.{kept_from}
use Rattle.lp_signature.proofs.problem.add_premises.Given as goal

-- the entries so far and those to come are all
abbrev pub invariant-loop-place : goal.invariant-loop-place
invariant-loop-place l = record {
  few : l.number ≤ l.place;
  told : entries_of l.entries ++ problem.premise_entries (symbols_tree l.symbols) l.number (kept_from l.premises l.rule_of l.place)
      ≡ entries_of l.fn.entries ++ problem.premise_entries (symbols_tree l.symbols) 0 (kept_of (map premise_tree l.premises) l.rule_of);
}
