use Rattle.zm_logic.specs.View.{type_tree}
use Rattle.lp_signature.proofs.ScopeLists.{term_more}
use Rattle.lp_signature.proofs.scope.term_variable.Goals as goal

pub loop-bound-preserved : goal.loop-bound-preserved
loop-bound-preserved c =
    term_more c.args.scope.now c.loop-bound.bound-index c.args.number (type_tree c.args.ty.now) c.bound-item.result c.loop-bound.found c.term_variable.result
    c.later-found.result c.loop-bound-test.true c.bound-item.is c.term_variable.ensures c.later-found.ensures c.loop-bound.invariant
