use Rattle.term_store.proofs.Told.{forms_told}
use Rattle.pruning.proofs.convert.same.Goals as goal

pub returns : goal.returns
returns c = forms_told c.args.store.now c.shared.ensures c.args.left c.args.right c.requires.left c.requires.right
