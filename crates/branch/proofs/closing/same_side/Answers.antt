use Rattle.term_store.proofs.Told.{terms_told}
use Rattle.branch.proofs.closing.same_side.Goals as goal

pub returns : goal.returns
returns c = terms_told c.args.store.now c.shared.ensures c.args.left c.args.right c.requires.left c.requires.right
