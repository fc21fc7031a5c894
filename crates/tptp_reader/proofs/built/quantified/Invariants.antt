use Rattle.std.proofs.Common.{◌≡◌, length, map}
use Rattle.tptp_reader.specs.SlowForms.{binder_quantifier, bound_all}
use Rattle.tptp_reader.specs.Kept.{limited, kept_tree}
use Rattle.tptp_reader.specs.View.{raw_variable_tree}
use Rattle.tptp_reader.proofs.built.quantified.Given as goal

-- the variables that are left go round the formula so far
abbrev pub invariant-loop-variable : goal.invariant-loop-variable
invariant-loop-variable l =
    bound_all limited (binder_quantifier l.binder) (map raw_variable_tree l.variables) (kept_tree l.formula)
    ≡ bound_all limited (binder_quantifier l.binder) (map raw_variable_tree l.initial.variables) (kept_tree l.initial.formula)

abbrev pub decreases-loop-variable : goal.decreases-loop-variable
decreases-loop-variable l = length l.variables
