use Rattle.std.proofs.Common.{◌+◌, ◌∷◌, ◌++◌, ap, sym, ◌∙◌, arith}
use Rattle.lp_terms.specs.View.{entries_of}
use Rattle.zm_logic.specs.View.{premise_tree}
use Rattle.lp_signature.specs.Problem.{premise_entries}
use Rattle.lp_signature.specs.View.{symbols_tree}
use Rattle.lp_signature.proofs.Declared.{kept_from, premises_more, kept_here, kept_else}
use Rattle.lp_signature.proofs.problem.add_premises.Goals as goal
use Rattle.lp_signature.proofs.problem.add_premises.Goals.{then-is_kept+in_ok-add_premise, else-is_kept}

pub loop-place-preserved : goal.loop-place-preserved
loop-place-preserved c =
    let symbols = symbols_tree c.args.symbols.now in
    let ps = c.args.premises.now in
    let ks = c.args.rule_of.now in
    let i = c.loop-place.place in
    let p = c.index-premises-place.result in
    elim c.if-is_kept.branch [
      | then-is_kept+in_ok-add_premise w ↦
          rw (w.number-is, w.entries-is)
          (record {
            few = omega (arith, c.loop-place.invariant.few);
            told =
                premises_more symbols c.loop-place.number p (kept_from ps ks (i + 1)) (kept_from ps ks i) _ (entries_of c.loop-place.entries)
                (entries_of w.add_premise.new.entries)
                (kept_here ps ks i p c.loop-place-test.true (c.is_kept.ensures.kept w.if-is_kept.true)
                ∙ ap (λ z. premise_tree z ∷ kept_from ps ks (i + 1)) (sym c.index-premises-place.is))
                c.loop-place.invariant.told w.in_ok-add_premise.ensures;
          })
      | else-is_kept w ↦
          rw (w.number-is, w.entries-is)
          (record {
            few = omega (arith, c.loop-place.invariant.few);
            told =
                ap (λ l. entries_of c.loop-place.entries ++ premise_entries symbols c.loop-place.number l)
                (sym (kept_else ps ks i p c.loop-place-test.true (c.is_kept.ensures.others w.if-is_kept.false)))
                ∙ c.loop-place.invariant.told;
          })
    ]
