use Rattle.term_store.proofs.Kept.{extends_more}
use Rattle.param_store.proofs.opening.at_part.Goals as goal

pub returns-in-Ok-clause-kept : goal.returns-in-Ok-clause-kept
returns-in-Ok-clause-kept c = extends_more c.args.store.now c.open.new.self c.signed.new.store c.in-Ok.ensures.kept c.signed.ensures.kept
