use Rattle.lp_terms.specs.View.{term_of, entries_of}
use Rattle.dk_checker.proofs.Entries.{sides_end}
use Rattle.dk_checker.proofs.entry.check_rule.Goals as goal

pub returns : goal.returns
returns c =
    sides_end (entries_of c.args.signature.now) c.args.limit c.in_ok-types.types c.args.context.now (term_of c.args.left.now) (term_of c.args.right.now) c.check_sides.result
    c.in_ok-types.ensures.told c.in_ok-types.ensures.types c.in_ok-types.ensures.many c.check_sides.ensures
