-- What was noted stays while one more term is stored.
use Rattle.term_store.proofs.Stays.{on_ok}
use Rattle.term_store.proofs.Changes.{change_stays, knows_stays}
use Rattle.term_store.proofs.store.Store.changed_eps.Goals as goal

pub returns-then-closes-clause-knows : goal.returns-then-closes-clause-knows
returns-then-closes-clause-knows c =
    let knows = knows_stays c.args.self.now c.put_term.new.self c.put_term.ensures.kept c.args.change.now c.requires.part c.args.memo.now c.requires.knows in
    on_ok knows c.put_term.result

pub returns-clause-knows : goal.returns-clause-knows
returns-clause-knows c =
    let changed = c.in_ok-ty.ensures in
    let part = change_stays c.args.self.now c.change_ty.new.self changed.kept c.args.change.now c.requires.part in
    let knows = knows_stays c.change_ty.new.self c.put_term-2.new.self c.put_term-2.ensures.kept c.args.change.now part c.change_ty.new.memo changed.knows in
    on_ok knows c.put_term-2.result
