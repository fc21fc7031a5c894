use Rattle.std.specs.Prelude.{string_bytes}
use Rattle.lp_signature.proofs.Coded.{coded_more}
use Rattle.lp_signature.proofs.names.push_coded.Goals as goal

pub loop-byte-preserved : goal.loop-byte-preserved
loop-byte-preserved c =
    coded_more c.args.bytes.now (string_bytes c.args.out.now) (string_bytes c.loop-byte.out) (string_bytes c.push_byte.new.out) c.loop-byte.byte-index 0
    c.loop-byte-test.true c.loop-byte.invariant c.in_ok-push_byte.ensures
