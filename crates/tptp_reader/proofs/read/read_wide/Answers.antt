use Rattle.std.proofs.Common.{rules, Err, ap, ◌∙◌}
use Rattle.tptp_reader.proofs.Judged.{fault_judged, body_judged, deep_judged, syntax_judged}
use Rattle.tptp_reader.proofs.read.read_wide.Goals as goal

pub returns-in-Some-clause-judged : goal.returns-in-Some-clause-judged
returns-in-Some-clause-judged c =
    fault_judged _ _ _ _ _ _ c.in_ok-fault.field-0 _ c.deref.ensures.value c.deref-in-Some.ensures.value c.in_ok-fault.ensures c.in-Some.is c.refusal_at.ensures

pub returns-in-Ok-Body-clause-judged : goal.returns-in-Ok-Body-clause-judged
returns-in-Ok-Body-clause-judged c =
    body_judged _ _ _ _ _ _ _ _ c.deref-3.ensures.value c.deref-2.ensures.value (search rules) c.place_of-at.ensures c.in-Ok-Body.field-0-is c.in-Ok-Body.ensures.parsed

pub returns-in-Ok-TooDeep-clause-judged : goal.returns-in-Ok-TooDeep-clause-judged
returns-in-Ok-TooDeep-clause-judged c =
    deep_judged _ _ _ _ _ _ _ c.deref-3.ensures.value c.deref-2.ensures.value (search rules) c.place_of-at.ensures c.in-Ok-TooDeep.field-0-is c.in-Ok-TooDeep.ensures.parsed

pub returns-in-Err-Syntax-clause-judged : goal.returns-in-Err-Syntax-clause-judged
returns-in-Err-Syntax-clause-judged c =
    syntax_judged _ _ _ _ _ _ c.deref-3.ensures.value c.deref-2.ensures.value (search rules) c.place_of-at.ensures
    (c.parse_statement.ensures.syntax (c.in-Err-Syntax.is ∙ ap Err c.in-Err-Syntax.field-0-is))
