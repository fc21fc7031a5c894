use Rattle.term_store.proofs.Told.{types_told}
use Rattle.branch.proofs.closing.same_ty.Goals as goal

pub returns : goal.returns
returns c = types_told c.args.store.now c.shared.ensures c.args.left c.args.right c.requires.left c.requires.right
