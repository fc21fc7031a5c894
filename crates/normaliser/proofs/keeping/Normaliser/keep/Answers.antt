use Rattle.normaliser.specs.Kept.{IsReached, normaliser_rules}
use Rattle.normaliser.proofs.Memo.{none_kept, one_kept}
use Rattle.normaliser.proofs.keeping.Normaliser.keep.Goals as goal

pub returns-in_err-insert-clause-knows : goal.returns-in_err-insert-clause-knows
returns-in_err-insert-clause-knows c = λ s reached knows.
    none_kept (λ i r. IsReached (normaliser_rules c.args.self.now) s i r.0 r.1) c.args.self.now.kept c.insert.new.self
    c.in_err-insert.ensures.err knows

pub returns-clause-knows : goal.returns-clause-knows
returns-clause-knows c = λ s reached knows.
    one_kept (λ i r. IsReached (normaliser_rules c.args.self.now) s i r.0 r.1) c.args.self.now.kept c.insert.new.self c.args.form c.args.found
    c.in_ok-insert.ensures.updates.0 knows reached
