use Rattle.std.proofs.Common.{sym, ◌∙◌}
use Rattle.branch.proofs.Entered.{has_is}
use Rattle.branch.proofs.form_set.FormSet.has.Goals as goal

pub returns : goal.returns
returns c = c.has_id.ensures ∙ sym (has_is c.args.store.now c.shared.ensures c.args.self.now c.args.form c.requires.forms c.requires.form)
