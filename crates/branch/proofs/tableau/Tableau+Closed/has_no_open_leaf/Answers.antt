use Rattle.branch.proofs.Stages.{closed_finished}
use Rattle.branch.proofs.tableau.Tableau+Closed.has_no_open_leaf.Goals as goal

pub returns : goal.returns
returns c = closed_finished _ c.args.self.now c.self.view_is c.self.invariant
