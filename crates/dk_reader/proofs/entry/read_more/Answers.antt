use Rattle.dk_reader.proofs.Entering.{no_binding}
use Rattle.dk_reader.proofs.MoreRead.{more_read}
use Rattle.dk_reader.proofs.entry.read_more.Goals as goal

pub returns-in_default-clause-read : goal.returns-in_default-clause-read
returns-in_default-clause-read c tokens before = no_binding _ _ _ _ _ before (rw c.in_default.is at c.in_ok-term.ensures.read)

pub returns-clause-read : goal.returns-clause-read
returns-clause-read c tokens before =
    let term = rw c.in-Some.is at c.in_ok-term.ensures.read in
    more_read _ tokens _ _ _ _ _ _ c.in_ok-context.context c.behind_binding.result before term c.in_ok-context.ensures c.behind_binding.ensures.read c.behind_binding.ensures.same
