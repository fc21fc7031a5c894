use Rattle.tptp_reader.specs.SlowForms.{binder_quantifier}
use Rattle.tptp_reader.specs.Kept.{limited, kept_tree}
use Rattle.tptp_reader.proofs.Levels.{bound_loop}
use Rattle.tptp_reader.proofs.built.quantified.Goals as goal

pub loop-variable-preserved : goal.loop-variable-preserved
loop-variable-preserved c =
    bound_loop limited (binder_quantifier c.args.binder) c.loop-variable.variables c.pop.new.self c.in-Some.variable (kept_tree c.loop-variable.formula) (kept_tree c.in_ok-formula.formula) _ c.in-Some.ensures c.in_ok-formula.ensures c.loop-variable.invariant
