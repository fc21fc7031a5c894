use Rattle.std.proofs.Common.{◌≡◌, drop, map}
use Rattle.zm_logic.specs.View.{rule_tree}
use Rattle.lp_signature.specs.Problem as problem
use Rattle.lp_signature.proofs.declarations.heads.Given as goal

-- no rule before the index has the head
abbrev pub invariant-loop-rule : goal.invariant-loop-rule
invariant-loop-rule l = problem.heads (map rule_tree (drop l.rule-index l.rules)) l.number ≡ problem.heads (map rule_tree l.rules) l.number
