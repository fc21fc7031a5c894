use Rattle.std.proofs.Common.{sym, arith}
use Rattle.dk_text.specs.Tokens.{here, over}
use Rattle.dk_reader.proofs.blank.after_blank.Goals as goal

pub loop-after-preserved : goal.loop-after-preserved
loop-after-preserved c = record {
  skips = λ r skips. c.loop-after.invariant.skips r (over (sym c.in-Some.ensures.value) skips);
  shrinks = omega (arith, c.in-Some.ensures.shrinks);
}

pub returns-clause-value : goal.returns-clause-value
returns-clause-value c = c.loop-after.invariant.skips c.loop-after.rest.now (here (sym c.in_default.ensures.value))
