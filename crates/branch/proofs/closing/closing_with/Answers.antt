use Rattle.branch.proofs.Held.{held_at}
use Rattle.branch.proofs.closing.closing_with.Goals as goal

pub closing_two-requires-clause-earlier : goal.closing_two-requires-clause-earlier
closing_two-requires-clause-earlier c =
    held_at c.args.store.now c.args.earlier.now c.loop-form.form-index (record { 0 = 0 }) c.requires.earlier c.loop-form-test.true
