use Rattle.std.proofs.Common.{arith}
use Rattle.tptp_lex.specs.declared.signs.Sign.TheVariants.{Comma}
use Rattle.tptp_reader.specs.SlowWords.{name_in}
use Rattle.tptp_reader.proofs.Lists.{loop_goes}
use Rattle.tptp_reader.proofs.WordLaws.{name_shrinks}
use Rattle.tptp_reader.proofs.cursor.Parser.separated_names.Goals as goal

pub loop-self-preserved : goal.loop-self-preserved
loop-self-preserved c = record {
  same = loop_goes name_in name_shrinks Comma _ _ _ _ c.in_ok-next.next _ _ (c.take.ensures.yes c.loop-self-test.true) c.in_ok-next.ensures.reads c.in_ok-push-2.ensures.ok c.loop-self.invariant.same;
  shrinks = omega (arith, c.in_ok-next.ensures.shrinks, c.take.ensures.shrinks);
}
