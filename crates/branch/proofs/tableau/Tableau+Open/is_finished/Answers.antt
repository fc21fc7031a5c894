use Rattle.branch.proofs.States.{none_finished}
use Rattle.branch.proofs.tableau.Tableau+Open.is_finished.Goals as goal

pub returns : goal.returns
returns c = none_finished _ c.args.self.now c.is_none.result c.self.view_is c.self.invariant c.is_none.ensures
