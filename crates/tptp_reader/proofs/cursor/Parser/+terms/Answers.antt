use Rattle.std.proofs.Common.{arith}
use Rattle.tptp_lex.specs.declared.signs.Sign.TheVariants.{Comma}
use Rattle.tptp_reader.specs.View.{raw_term_tree}
use Rattle.tptp_reader.specs.SlowTerms.{term_in}
use Rattle.tptp_reader.proofs.Lists.{loop_goes}
use Rattle.tptp_reader.proofs.ReadLaws.{map_pushed}
use Rattle.tptp_reader.proofs.TermLaws.{term_shrinks}
use Rattle.tptp_reader.proofs.cursor.Parser.+terms.Goals as goal

pub terms-loop-self-preserved : goal.terms-loop-self-preserved
terms-loop-self-preserved t c = record {
  same = loop_goes (term_in c.args.typed c.args.room) (term_shrinks c.args.typed c.args.room) Comma _ _ _ _ (raw_term_tree c.in_ok-next.next) _ _
      (c.take.ensures.yes c.loop-self-test.true) c.in_ok-next.ensures.reads (map_pushed raw_term_tree _ _ c.in_ok-next.next c.in_ok-push-2.ensures.ok) c.loop-self.invariant.same;
  shrinks = omega (arith, c.in_ok-next.ensures.shrinks, c.take.ensures.shrinks);
}
