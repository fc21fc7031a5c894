use Rattle.std.proofs.Common.{ap}
use Rattle.lp_terms.specs.Typing.{Class}
use Rattle.lp_terms.specs.View.{term_of, entries_of}
use Rattle.dk_checker.proofs.Entries.{body_ends}
use Rattle.dk_checker.proofs.entry.check_body.Goals as goal

pub returns : goal.returns
returns c =
    body_ends (entries_of c.args.signature.now) c.args.limit c.new-types.result (term_of c.args.ty.now) (term_of c.args.body.now) (Class.of (term_of c.in_ok-copy.field-0))
    c.infer_as-asked.result c.in_part.result c.new-types.ensures (ap (λ t. Class.of (term_of t)) c.in_ok-copy.ensures) c.infer_as-asked.ensures.told c.in_part.ensures
