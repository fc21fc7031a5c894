use Rattle.std.proofs.Common.{◌∙◌}
use Rattle.branch.proofs.SharedIds.{has_told}
use Rattle.pruning.proofs.lists.has.Goals as goal

pub returns : goal.returns
returns c = c.contains.ensures.value ∙ has_told c.args.store.now c.shared.ensures c.args.forms.now c.args.form c.requires.forms c.requires.form
