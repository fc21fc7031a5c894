use Rattle.normaliser.specs.Kept.{normaliser_rules}
use Rattle.normaliser.proofs.Memo.{knows_stays, is_reached}
use Rattle.normaliser.proofs.keeping.Normaliser.walk.Goals as goal

pub returns-in_err-found-clause-knows : goal.returns-in_err-found-clause-knows
returns-in_err-found-clause-knows c = knows_stays c.args.store.now c.normal.new.store c.args.self.now c.normal.ensures.kept c.requires.knows

pub returns-in_err-keep-clause-knows : goal.returns-in_err-keep-clause-knows
returns-in_err-keep-clause-knows c =
    c.keep.ensures.knows c.normal.new.store
    (is_reached (normaliser_rules c.args.self.now) c.args.store.now c.normal.new.store c.args.form c.in_ok-found.found.0 c.in_ok-found.found.1 c.args.limit
    c.normal.ensures.kept c.requires.has c.in_ok-found.ensures.has c.in_ok-found.ensures.answer)
    (knows_stays c.args.store.now c.normal.new.store c.args.self.now c.normal.ensures.kept c.requires.knows)

pub returns-clause-knows : goal.returns-clause-knows
returns-clause-knows c =
    c.keep.ensures.knows c.normal.new.store
    (is_reached (normaliser_rules c.args.self.now) c.args.store.now c.normal.new.store c.args.form c.in_ok-found.found.0 c.in_ok-found.found.1 c.args.limit
    c.normal.ensures.kept c.requires.has c.in_ok-found.ensures.has c.in_ok-found.ensures.answer)
    (knows_stays c.args.store.now c.normal.new.store c.args.self.now c.normal.ensures.kept c.requires.knows)
