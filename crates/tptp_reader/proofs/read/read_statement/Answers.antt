use Rattle.tptp_reader.specs.Answers.{at_end}
use Rattle.tptp_reader.proofs.Judged.{wide_begins, end_begins, wide_answered, in_order, place_order, after_order, within_order}
use Rattle.tptp_reader.proofs.read.read_statement.Goals as goal

pub returns-in-Wide-clause-answer : goal.returns-in-Wide-clause-answer
returns-in-Wide-clause-answer c =
    wide_answered _ _ _ _ _ _ (wide_begins _ _ _ _ c.in-Wide.is c.in_ok-wide.ensures.begins) c.read_wide.ensures.judged

pub returns-in-Wide-clause-place : goal.returns-in-Wide-clause-place
returns-in-Wide-clause-place c =
    place_order c.args.bytes.now _ _ (in_order _ _ _ _ _ _ (wide_begins _ _ _ _ c.in-Wide.is c.in_ok-wide.ensures.begins) c.read_wide.ensures.judged)

pub returns-in-Wide-clause-order : goal.returns-in-Wide-clause-order
returns-in-Wide-clause-order c =
    after_order c.args.bytes.now c.args.at _ (in_order _ _ _ _ _ _ (wide_begins _ _ _ _ c.in-Wide.is c.in_ok-wide.ensures.begins) c.read_wide.ensures.judged)

pub returns-in-Wide-clause-within : goal.returns-in-Wide-clause-within
returns-in-Wide-clause-within c =
    within_order c.args.bytes.now c.args.at _ (in_order _ _ _ _ _ _ (wide_begins _ _ _ _ c.in-Wide.is c.in_ok-wide.ensures.begins) c.read_wide.ensures.judged)

pub returns-in-End-clause-answer : goal.returns-in-End-clause-answer
returns-in-End-clause-answer c = at_end (end_begins _ _ _ c.in-End.is c.in_ok-wide.ensures.begins)
