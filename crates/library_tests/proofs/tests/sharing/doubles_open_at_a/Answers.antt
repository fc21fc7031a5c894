use Rattle.term_store.proofs.Kept.{still_form}
use Rattle.library_tests.proofs.tests.sharing.doubles_open_at_a.Goals as goal

pub opened-requires-clause-has : goal.opened-requires-clause-has
opened-requires-clause-has c = still_form c.doubled_often.new.store c.made_constant.new.store c.in_ok-with.ensures.kept c.in_ok-doubles.doubles c.in_ok-doubles.ensures
