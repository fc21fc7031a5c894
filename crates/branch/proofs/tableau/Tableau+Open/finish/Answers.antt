use Rattle.std.proofs.Common.{refl, sym, ◌∙◌}
use Rattle.branch.proofs.States.{none_noted, some_unfinished}
use Rattle.branch.proofs.tableau.Tableau+Open.finish.Goals as goal

pub returns-then-is_some-clause-open : goal.returns-then-is_some-clause-open
returns-then-is_some-clause-open c = (refl, some_unfinished _ c.args.self c.self.view_is c.self.invariant (sym c.is_some.ensures ∙ c.if-is_some.true))

pub invariant_of-result : goal.invariant_of-result
invariant_of-result c = (c.self.invariant, none_noted _ _ refl c.self.invariant (sym c.is_some.ensures ∙ c.if-is_some.false))

pub returns-clause-closed : goal.returns-clause-closed
returns-clause-closed c = (c.self.view_is, none_noted _ _ refl c.self.invariant (sym c.is_some.ensures ∙ c.if-is_some.false))
