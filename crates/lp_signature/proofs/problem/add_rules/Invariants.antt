use Rattle.std.proofs.Common.{◌≡◌, ◌++◌, drop, map}
use Rattle.lp_terms.specs.View.{entries_of}
use Rattle.zm_logic.specs.View.{rule_tree}
use Rattle.lp_signature.specs.Problem as problem
use Rattle.lp_signature.specs.View.{symbols_tree}
use Rattle.lp_signature.proofs.problem.add_rules.Given as goal

-- the entries so far and those to come are all
abbrev pub invariant-loop-added : goal.invariant-loop-added
invariant-loop-added l =
    entries_of l.entries ++ map (problem.rule_entry (symbols_tree l.symbols)) (map rule_tree (drop l.added-index l.rules))
    ≡ entries_of l.fn.entries ++ map (problem.rule_entry (symbols_tree l.symbols)) (map rule_tree l.rules)
