use Rattle.std.proofs.Common.{◌≡◌, ◌+◌, take, length, map}
use Rattle.zm_logic.specs.View.{form_tree}
use Rattle.lp_translation.specs.ProofOf.{bound_by}
use Rattle.lp_translation.specs.View.{hypotheses_of}
use Rattle.lp_translation.proofs.hypotheses.bind_formulas.Given as goal

-- the variables so far prove the formulas so far
abbrev pub invariant-loop-form : goal.invariant-loop-form
invariant-loop-form l = record {
  bound : hypotheses_of l.facts.items ≡ bound_by l.first (map form_tree (take l.form-index l.forms)) (hypotheses_of l.initial.facts.items);
  variable : l.variable ≡ l.form-index + l.first;
  kept : take (length l.initial.facts.items) l.facts.items ≡ l.initial.facts.items;
}
