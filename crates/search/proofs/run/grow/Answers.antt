use Rattle.search.proofs.Growing.{applied_grown, applied_count}
use Rattle.search.proofs.run.grow.Goals as goal

pub returns-clause-grown : goal.returns-clause-grown
returns-clause-grown c =
    applied_grown c.args.tableau.now c.apply.new.self c.kept.ensures c.kept-2.ensures c.requires.unclosed c.requires.short c.in_ok-apply.ensures.applied

pub returns-clause-more : goal.returns-clause-more
returns-clause-more c =
    applied_count c.args.tableau.now c.apply.new.self c.kept.ensures c.kept-2.ensures c.requires.unclosed c.requires.short c.in_ok-apply.ensures.applied
