use Rattle.branch.proofs.Stages.{stage_kept}
use Rattle.branch.proofs.tableau.Tableau.kept.Goals as goal

pub returns : goal.returns
returns g c = stage_kept _ _ c.args.self.now c.self.view_is c.self.invariant
