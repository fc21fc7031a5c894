use Rattle.std.proofs.Common.{arith}
use Rattle.zm_base.proofs.Joins.{reads_join}
use Rattle.zm_base.proofs.reading.read_to_limit.Goals as goal

pub returns-in_err-read_once-clause-reads : goal.returns-in_err-read_once-clause-reads
returns-in_err-read_once-clause-reads g c =
    reads_join _ _ _ _ _ _ c.loop-got.invariant.got c.in_err-read_once.ensures.reads (omega arith)
