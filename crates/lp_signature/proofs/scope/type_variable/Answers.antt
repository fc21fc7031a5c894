use Rattle.lp_signature.specs.Prelude.{iota}
use Rattle.lp_signature.proofs.ScopeLists.{type_more}
use Rattle.lp_signature.proofs.scope.type_variable.Goals as goal

pub loop-bound-preserved : goal.loop-bound-preserved
loop-bound-preserved c =
    type_more c.args.scope.now c.loop-bound.bound-index c.args.number c.bound-item.result iota c.loop-bound.found c.type_variable.result c.later-found.result
    c.loop-bound-test.true c.bound-item.is c.type_variable.ensures c.later-found.ensures c.loop-bound.invariant
