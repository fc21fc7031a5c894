use Rattle.std.proofs.Common.{◌≡◌, ◌+◌, suc, ◌∙◌, ap, drop, Some, arith}
use Rattle.std.proofs.lemmas.List.{take_rest}
use Rattle.dk_reader.proofs.Places.{comment_found, comment_none}
use Rattle.dk_reader.proofs.blank.after_comment.Goals as goal

pub returns-in-Some-clause-value : goal.returns-in-Some-clause-value
returns-in-Some-clause-value c =
    let first = c.in-Some.ensures in
    let two : c.in-Some.end + 2 ≡ suc (suc c.in-Some.end) = omega arith in
    ap Some (take_rest c.args.bytes.now (c.in-Some.end + 2) ∙ ap (λ n. drop n c.args.bytes.now) two)
    ∙ comment_found c.args.bytes.now c.in-Some.end first.0.before first.1

pub returns-in-None-clause-value : goal.returns-in-None-clause-value
returns-in-None-clause-value c = comment_none c.args.bytes.now c.in-None.ensures
