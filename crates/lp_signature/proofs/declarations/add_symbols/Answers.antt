use Rattle.std.proofs.Common.{map}
use Rattle.lp_terms.specs.View.{entries_of}
use Rattle.zm_logic.specs.View.{rule_tree}
use Rattle.lp_signature.specs.View.{symbols_tree}
use Rattle.lp_signature.proofs.Declared.{symbols_more, declarable_more, declarable_end}
use Rattle.lp_signature.proofs.declarations.add_symbols.Goals as goal

pub loop-place-preserved : goal.loop-place-preserved
loop-place-preserved c = record {
  told =
      symbols_more (symbols_tree c.args.symbols.now) (map rule_tree c.args.rules.now) c.args.symbols.now c.loop-place.place c.index-symbols-place.result _
      (entries_of c.loop-place.entries) (entries_of c.declare_symbol.new.entries) c.loop-place-test.true c.index-symbols-place.is
      c.loop-place.invariant.told c.in_ok-declare_symbol.ensures.entry;
  declarable =
      declarable_more c.args.symbols.now c.loop-place.place c.index-symbols-place.result c.loop-place-test.true c.index-symbols-place.is
      c.loop-place.invariant.declarable c.in_ok-declare_symbol.ensures.declarable;
}

pub returns-clause-declarable : goal.returns-clause-declarable
returns-clause-declarable c = declarable_end c.args.symbols.now c.loop-place.place c.loop-place-test.false c.loop-place.invariant.declarable
