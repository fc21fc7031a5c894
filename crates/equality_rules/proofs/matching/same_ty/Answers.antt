use Rattle.equality_rules.proofs.matching.same_ty.Goals as goal
use Rattle.term_store.proofs.Told.{types_told}

pub returns : goal.returns
returns c = types_told c.args.store.now c.shared.ensures c.args.left c.args.right c.requires.has c.requires.has_right
