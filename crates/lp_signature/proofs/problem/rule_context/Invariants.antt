use Rattle.std.proofs.Common.{◌≡◌, take, map}
use Rattle.lp_terms.specs.View.{terms_of}
use Rattle.zm_logic.specs.View.{binder_tree}
use Rattle.lp_signature.specs.Problem as problem
use Rattle.lp_signature.specs.View.{symbols_tree}
use Rattle.lp_signature.proofs.problem.rule_context.Given as goal

abbrev pub invariant-loop-binder : goal.invariant-loop-binder
invariant-loop-binder l = terms_of l.context ≡ map (problem.binder_type (symbols_tree l.symbols)) (map binder_tree (take l.binder-index l.binders))
