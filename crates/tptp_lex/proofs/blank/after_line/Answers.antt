use Rattle.std.proofs.Common.{◌+◌, ◌∙◌, ap, drop, add-one, length}
use Rattle.std.proofs.lemmas.List.{take_rest}
use Rattle.std.proofs.Math.Seq.{drop-length}
use Rattle.tptp_lex.proofs.Places.{line_found, line_none}
use Rattle.tptp_lex.proofs.blank.after_line.Goals as goal

pub returns-in-Some-clause-value : goal.returns-in-Some-clause-value
returns-in-Some-clause-value c =
    let first = c.in-Some.ensures in
    take_rest c.args.bytes.now (c.in-Some.end + 1) ∙ ap (λ n. drop n c.args.bytes.now) (add-one c.in-Some.end)
    ∙ line_found c.args.bytes.now c.in-Some.end first.0.high first.0.before first.1

pub returns-in-None-clause-value : goal.returns-in-None-clause-value
returns-in-None-clause-value c =
    take_rest c.args.bytes.now (length c.args.bytes.now) ∙ drop-length c.args.bytes.now ∙ line_none c.args.bytes.now c.in-None.ensures
