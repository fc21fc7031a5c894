use Rattle.lp_terms.specs.View.{entry_of}
use Rattle.dk_reader.proofs.Advancing.{accepts_of, new_name}
use Rattle.dk_reader.proofs.read.accept.Goals as goal

pub declare-requires : goal.declare-requires
declare-requires c = new_name _ _ (entry_of c.in_ok-entry.entry) c.requires c.in_ok-entry.ensures.accepted

pub returns-in-Ok-clause-accepted : goal.returns-in-Ok-clause-accepted
returns-in-Ok-clause-accepted c = accepts_of _ _ _ _ c.requires c.in_ok-entry.ensures.accepted c.in_ok-entry.ensures.few c.in-Ok.ensures
