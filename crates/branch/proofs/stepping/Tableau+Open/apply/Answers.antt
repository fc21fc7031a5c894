use Rattle.std.proofs.lemmas.Result.{on_ok_weaker}
use Rattle.branch.proofs.SameState.{unclosed_same, offer_same, short_same, few_same, applied_same}
use Rattle.branch.proofs.stepping.Tableau+Open.apply.Goals as goal

pub take-requires-clause-unclosed : goal.take-requires-clause-unclosed
take-requires-clause-unclosed c = unclosed_same c.args.self.now c.list.new.self c.kept.ensures c.in-Ok.ensures.same c.requires.unclosed

pub take-requires-clause-offer : goal.take-requires-clause-offer
take-requires-clause-offer c = offer_same c.args.self.now c.list.new.self c.kept.ensures c.in-Ok.ensures.same c.args.pick c.requires.offer

pub take-requires-clause-short : goal.take-requires-clause-short
take-requires-clause-short c = short_same c.args.self.now c.list.new.self c.kept.ensures c.in-Ok.ensures.same c.requires.short

pub take-requires-clause-few : goal.take-requires-clause-few
take-requires-clause-few c = few_same c.args.self.now c.list.new.self c.kept.ensures c.in-Ok.ensures.same c.requires.few

pub returns-in-Ok-clause-applied : goal.returns-in-Ok-clause-applied
returns-in-Ok-clause-applied c =
    on_ok_weaker c.take.result (λ k. applied_same c.args.self.now c.list.new.self c.kept.ensures c.in-Ok.ensures.same c.args.pick c.take.new.self k) c.take.ensures.applied
