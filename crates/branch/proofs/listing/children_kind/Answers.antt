use Rattle.std.proofs.Common.{sym, arith}
use Rattle.branch.proofs.OfferKinds.{few_children, more_children}
use Rattle.branch.proofs.listing.children_kind.Goals as goal

pub returns-then-len-gt1 : goal.returns-then-len-gt1
returns-then-len-gt1 c = λ s. sym (more_children s c.args.raw.now.children (omega arith))

pub returns-else-len-gt1 : goal.returns-else-len-gt1
returns-else-len-gt1 c = λ s. sym (few_children s c.args.raw.now.children (omega arith))
