use Rattle.std.proofs.Common.{map, ap}
use Rattle.zm_logic.specs.View.{problem_tree}
use Rattle.branch.specs.Stopping.{Cause}
use Rattle.valuation.specs.View.{valued_tree}
use Rattle.zenon_modulo.proofs.Found.{stopped_open, countermodel}
use Rattle.zenon_modulo.proofs.SymbolNames.{text_same}
use Rattle.zenon_modulo.proofs.report.countermodel_of.Goals as goal

pub valuation_of-requires : goal.valuation_of-requires
valuation_of-requires c = record {
  «open» = stopped_open (problem_tree c.args.problem.now) c.args.steps c.args.tableau.now Cause.saturated c.requires.stopped;
}

pub returns-clause-valuation : goal.returns-clause-valuation
returns-clause-valuation c =
    countermodel (problem_tree c.args.problem.now) c.args.steps c.args.tableau.now (map valued_tree c.in_ok-valuation.valuation)
    c.requires.stopped c.requires.quantifier_free c.in_ok-valuation.ensures

pub returns-clause-text : goal.returns-clause-text
returns-clause-text c =
    text_same c.args.problem.now c.problem.result.now c.as_slice.result.now (map valued_tree c.in_ok-valuation.valuation)
    (map valued_tree c.as_slice-2.result.now) c.in_ok-text.text.items c.problem.ensures.problem c.as_slice.ensures
    (ap (map valued_tree) c.as_slice-2.ensures) c.in_ok-text.ensures
