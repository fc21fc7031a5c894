use Rattle.std.proofs.Common.{ℕ, ◌≤◌, ◌<◌, length, arith}
use Rattle.tptp_reader.specs.declared.statement.Statement.{Statement}
use Rattle.reader_speed.proofs.Counted.{told}
use Rattle.reader_speed.proofs.counting.counted.Goals as goal

pub loop-statement-init : goal.loop-statement-init
loop-statement-init c = record { within = omega arith; few = omega arith }

pub loop-statement-preserved : goal.loop-statement-preserved
loop-statement-preserved c =
    let few = c.loop-statement.invariant.few in
    let read = c.in-Ok-Statement.field-0 in
    let s = c.in-Ok-Statement.statement in
    let after = c.in-Ok-Statement.after in
    let place = told read s after (λ (s : Statement) (after : ℕ). c.loop-statement.reached ≤ s.at) c.in-Ok-Statement.field-0-is c.in-Ok-Statement.ensures.place in
    let order = told read s after (λ (s : Statement) (after : ℕ). s.at < after) c.in-Ok-Statement.field-0-is c.in-Ok-Statement.ensures.order in
    record {
      within = told read s after (λ (s : Statement) (after : ℕ). after ≤ length c.args.bytes.now) c.in-Ok-Statement.field-0-is c.in-Ok-Statement.ensures.within;
      few = omega arith;
    }
