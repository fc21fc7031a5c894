use Rattle.std.proofs.Common.{◌≡◌, Ok, take}
use Rattle.tff_typing.specs.Statements.{statements_in, start}
use Rattle.tff_typing.specs.View.{state_tree, raw_statements}
use Rattle.tff_typing.proofs.problem.state_of.Given as goal

abbrev pub invariant-loop-n : goal.invariant-loop-n
invariant-loop-n l = statements_in 0 start (raw_statements (take l.n l.statements)) ≡ Ok (state_tree l.state)
