use Rattle.std.proofs.Common.{subst}
use Rattle.branch.specs.Causes.{cause_of}
use Rattle.search.specs.Searched.{IsEnded}
use Rattle.search.proofs.Growing.{stopped_here}
use Rattle.search.proofs.run.answer_of.Goals as goal

pub returns-in-Some : goal.returns-in-Some
returns-in-Some c p steps rewrites g e =
    (g, stopped_here p steps rewrites c.args.tableau (cause_of c.in-Some.why) g (subst (IsEnded steps c.args.tableau) c.in-Some.is e))
