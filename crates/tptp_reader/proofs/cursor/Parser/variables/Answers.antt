use Rattle.std.proofs.Common.{arith}
use Rattle.tptp_lex.specs.declared.signs.Sign.TheVariants.{Comma}
use Rattle.tptp_reader.specs.View.{raw_variable_tree}
use Rattle.tptp_reader.specs.SlowTypes.{variable_in}
use Rattle.tptp_reader.proofs.Lists.{loop_goes}
use Rattle.tptp_reader.proofs.ReadLaws.{map_pushed}
use Rattle.tptp_reader.proofs.VariableLaws.{variable_shrinks}
use Rattle.tptp_reader.proofs.cursor.Parser.variables.Goals as goal

pub loop-self-preserved : goal.loop-self-preserved
loop-self-preserved c = record {
  same = loop_goes (variable_in c.args.typed c.args.room) (variable_shrinks c.args.typed c.args.room) Comma _ _ _ _ (raw_variable_tree c.in_ok-next.next) _ _
      (c.take.ensures.yes c.loop-self-test.true) c.in_ok-next.ensures.reads (map_pushed raw_variable_tree _ _ c.in_ok-next.next c.in_ok-push-2.ensures.ok) c.loop-self.invariant.same;
  shrinks = omega (arith, c.in_ok-next.ensures.shrinks, c.take.ensures.shrinks);
}
