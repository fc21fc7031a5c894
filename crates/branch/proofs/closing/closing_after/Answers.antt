use Rattle.std.proofs.Common.{sym, arith}
use Rattle.branch.proofs.Held.{held_at, held_front}
use Rattle.branch.proofs.Noted.{closing_rest}
use Rattle.branch.proofs.closing.closing_after.Goals as goal

pub closing_at-requires-clause-earlier : goal.closing_at-requires-clause-earlier
closing_at-requires-clause-earlier c = held_front c.args.store.now c.args.forms.now c.loop-place.place c.requires.forms

pub closing_at-requires-clause-later : goal.closing_at-requires-clause-later
closing_at-requires-clause-later c =
    held_at c.args.store.now c.args.forms.now c.loop-place.place (record { 0 = 0 }) c.requires.forms (omega arith)

pub loop-place-init : goal.loop-place-init
loop-place-init c = sym (closing_rest c.args.store.now c.args.forms.now c.args.from c.requires.unclosed)
