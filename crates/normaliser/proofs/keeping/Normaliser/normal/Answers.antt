use Rattle.std.proofs.Common.{sym, arith}
use Rattle.term_store.specs.Trees.{form_of}
use Rattle.normaliser.specs.Kept.{normaliser_rules}
use Rattle.normaliser.proofs.Memo.{kept_answers, kept_spent, answer_meets}
use Rattle.normaliser.proofs.keeping.Normaliser.normal.Goals as goal

pub returns-in-Some-clause-answer : goal.returns-in-Some-clause-answer
returns-in-Some-clause-answer c =
    kept_answers (normaliser_rules c.args.self.now) c.args.store.now c.args.form c.in-Some.reached c.in-Some.steps c.args.limit
    (c.requires.knows c.args.form (c.in-Some.reached, c.in-Some.steps) (sym c.in-Some.ensures)) (omega (arith, c.if-steps-limit.true))

pub returns-in-Some-clause-meets : goal.returns-in-Some-clause-meets
returns-in-Some-clause-meets c =
    answer_meets (normaliser_rules c.args.self.now) c.args.limit (form_of c.args.store.now c.args.form) _ c.stored.ensures
    (kept_answers (normaliser_rules c.args.self.now) c.args.store.now c.args.form c.in-Some.reached c.in-Some.steps c.args.limit
    (c.requires.knows c.args.form (c.in-Some.reached, c.in-Some.steps) (sym c.in-Some.ensures)) (omega (arith, c.if-steps-limit.true)))

pub returns-in-Some-2-clause-answer : goal.returns-in-Some-2-clause-answer
returns-in-Some-2-clause-answer c =
    kept_spent (normaliser_rules c.args.self.now) c.args.store.now c.args.form c.in-Some.reached c.in-Some.steps c.args.limit
    (c.requires.knows c.args.form (c.in-Some.reached, c.in-Some.steps) (sym c.in-Some.ensures)) (omega (arith, c.if-steps-limit.false))

pub returns-in-Some-2-clause-meets : goal.returns-in-Some-2-clause-meets
returns-in-Some-2-clause-meets c =
    answer_meets (normaliser_rules c.args.self.now) c.args.limit (form_of c.args.store.now c.args.form) _ c.stored.ensures
    (kept_spent (normaliser_rules c.args.self.now) c.args.store.now c.args.form c.in-Some.reached c.in-Some.steps c.args.limit
    (c.requires.knows c.args.form (c.in-Some.reached, c.in-Some.steps) (sym c.in-Some.ensures)) (omega (arith, c.if-steps-limit.false)))
