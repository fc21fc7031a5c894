-- What was noted stays while the formula is stored.
use Rattle.term_store.proofs.Stays.{on_ok}
use Rattle.term_store.proofs.Changes.{change_stays, knows_stays}
use Rattle.term_store.proofs.store.Store.change_atom.Goals as goal

pub returns-clause-knows : goal.returns-clause-knows
returns-clause-knows c =
    let changed = c.in_ok-types.ensures in
    let part = change_stays c.args.self.now c.change_parts.new.self changed.kept c.args.change.now c.requires.part in
    let knows = knows_stays c.change_parts.new.self c.put_form.new.self c.put_form.ensures.kept c.args.change.now part c.change_parts.new.memo changed.knows in
    on_ok knows c.put_form.result
