use Rattle.std.proofs.Common.{◌≡◌, ◌≤◌, ◌-◌, List}
use Rattle.lp_terms.specs.View.{term_of}
use Rattle.zm_logic.specs.Tree as tree
use Rattle.lp_signature.specs.Translation as translation
use Rattle.lp_signature.proofs.declarations.over_types_times.Given as goal

abbrev pub invariant-loop-made : goal.invariant-loop-made
invariant-loop-made l = record {
  within : l.made ≤ l.times;
  told : (ss : List tree.Symbol) → term_of l.product ≡ translation.over_types ss l.made (term_of l.fn.codomain);
}

abbrev pub decreases-loop-made : goal.decreases-loop-made
decreases-loop-made l = l.times - l.made
