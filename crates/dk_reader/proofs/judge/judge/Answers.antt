use Rattle.std.proofs.Common.{map, refl}
use Rattle.dk_text.specs.Refusals.{first_foreign}
use Rattle.dk_text.specs.Refusals as plain
use Rattle.dk_reader.specs.Seen.{seen}
use Rattle.dk_reader.specs.Judged.{refusal_seen}
use Rattle.dk_reader.proofs.Judging.{none_left_out, told_left_out}
use Rattle.dk_reader.proofs.Telling.{tells_accepted, tells_few, tells_refused}
use Rattle.dk_reader.proofs.judge.judge.Goals as goal

pub returns-in-Some-clause-refused : goal.returns-in-Some-clause-refused
returns-in-Some-clause-refused c =
    told_left_out c.args.names.now (map seen c.args.tokens.now) (first_foreign (map seen c.args.tokens.now)) (refusal_seen c.in-Some.refusal) refl c.in-Some.ensures

pub returns-in-Ok-None-clause-refused : goal.returns-in-Ok-None-clause-refused
returns-in-Ok-None-clause-refused c = plain.Answers.no_entry (none_left_out _ c.in_default.ensures) (rw c.in-Ok-None.field-0-is at c.in-Ok-None.ensures)

pub returns-in-Ok-Some-clause-accepted : goal.returns-in-Ok-Some-clause-accepted
returns-in-Ok-Some-clause-accepted c =
    let spelled = rw c.in-Ok-Some.field-0-is at c.in-Ok-Some.ensures in
    tells_accepted c.judge_parts.result _ _ _ (none_left_out _ c.in_default.ensures) spelled c.judge_parts.ensures

pub returns-in-Ok-Some-clause-few : goal.returns-in-Ok-Some-clause-few
returns-in-Ok-Some-clause-few c =
    let spelled = rw c.in-Ok-Some.field-0-is at c.in-Ok-Some.ensures in
    tells_few c.judge_parts.result _ _ _ spelled c.judge_parts.ensures

pub returns-in-Ok-Some-clause-refused : goal.returns-in-Ok-Some-clause-refused
returns-in-Ok-Some-clause-refused c =
    let spelled = rw c.in-Ok-Some.field-0-is at c.in-Ok-Some.ensures in
    tells_refused c.judge_parts.result _ _ _ (none_left_out _ c.in_default.ensures) spelled c.judge_parts.ensures
