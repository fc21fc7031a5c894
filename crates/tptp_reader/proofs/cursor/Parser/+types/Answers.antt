use Rattle.std.proofs.Common.{arith}
use Rattle.tptp_reader.specs.View.{raw_type_tree}
use Rattle.tptp_reader.specs.SlowTypes.{type_in}
use Rattle.tptp_reader.proofs.Lists.{loop_goes}
use Rattle.tptp_reader.proofs.ReadLaws.{map_pushed}
use Rattle.tptp_reader.proofs.TypeLaws.{type_shrinks}
use Rattle.tptp_reader.proofs.cursor.Parser.+types.Goals as goal

pub types_from-loop-between-preserved : goal.types_from-loop-between-preserved
types_from-loop-between-preserved t c = record {
  same = loop_goes (type_in c.args.room) (type_shrinks c.args.room) c.args.between _ _ _ _ (raw_type_tree c.in_ok-next.next) _ _
      (c.take.ensures.yes c.loop-between-test.true) c.in_ok-next.ensures.reads (map_pushed raw_type_tree _ _ c.in_ok-next.next c.in_ok-push-2.ensures.ok) c.loop-between.invariant.same;
  shrinks = omega (arith, c.in_ok-next.ensures.shrinks, c.take.ensures.shrinks);
}
