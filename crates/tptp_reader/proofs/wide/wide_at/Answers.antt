use Rattle.std.proofs.Common.{rules, true, false}
use Rattle.tptp_reader.specs.Brackets.{is_wide}
use Rattle.tptp_reader.specs.Scanning.{nothing}
use Rattle.tptp_reader.proofs.Awaited.{moves_as, whole_wide, whole_refused, fault_answer, refused_answer}
use Rattle.tptp_reader.proofs.wide.wide_at.Goals as goal

pub returns-in-Err-clause-begins : goal.returns-in-Err-clause-begins
returns-in-Err-clause-begins c = fault_answer _ _ _ _ _ c.at-lexer.ensures.text c.at-lexer.ensures.place c.in-Err.ensures.fault

pub returns-then-not-branch-clause-begins : goal.returns-then-not-branch-clause-begins
returns-then-not-branch-clause-begins c =
    refused_answer _ _ _ _ c.in-Ok.first c.at-lexer.ensures.text c.at-lexer.ensures.place c.in-Ok.ensures.token (search rules)
    (whole_refused _ _ c.in_ok-front.front c.take_statement.new.self c.in_ok-front.ensures
    (moves_as _ false c.in_ok-front.front c.take_statement.new.self is_wide nothing c.in_ok-take_statement.ensures c.if-not-branch.true))

pub returns-clause-begins : goal.returns-clause-begins
returns-clause-begins c =
    whole_wide _ _ c.in_ok-front.front c.take_statement.new.self _ _ _ c.in_ok-front.ensures
    (moves_as _ true c.in_ok-front.front c.take_statement.new.self is_wide nothing c.in_ok-take_statement.ensures c.if-not-branch.false)
    c.taken.ensures.tokens c.taken.ensures.places c.taken.ensures.after
