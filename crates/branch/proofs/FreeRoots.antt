-- Without rules, the root's branch of a typed problem without quantifiers and equality has its formulas.
use Rattle.std.proofs.Common.{◌≡◌, ℕ, ◌+◌, ◌≤◌, subst, arith, List, [], All}
use Rattle.std.proofs.lemmas.List.Elements.{All-contains}
use Rattle.zm_logic.specs.Tree.{Form, Problem}
use Rattle.zm_logic.specs.Measure.{depth}
use Rattle.zm_logic.specs.Parameter.{HasNoParameter}
use Rattle.zm_logic.specs.Problem.{IsTypedProblem}
use Rattle.zm_logic.specs.Truth.{IsQuantifierFree, refuted}
use Rattle.zm_logic.proofs.Sames.{Contains-none}
use Rattle.branch.specs.Setting.{Setting}
use Rattle.branch.specs.Stopping.{IsRoot}
use Rattle.branch.specs.QuantifierFree.{AreQuantifierFree, AreShallow}
use Rattle.branch.proofs.Refuted.{refuted_have, premise_is}
use Rattle.branch.proofs.Splits.{root_itself}
use Rattle.branch.proofs.FreeBranches.{extend_free, extend_shallow}

pub refuted_free : (p : Problem) → IsTypedProblem p → All IsQuantifierFree (refuted p) → AreQuantifierFree (refuted p)
refuted_free p typed free = record {
  free = λ f m. All-contains IsQuantifierFree (refuted p) f free m;
  parameters = refuted_have HasNoParameter p (λ q m. (premise_is p typed q m).parameters) typed.conjecture.parameters;
}

shallow : (n m : ℕ) → n ≤ 1500 → m ≤ n + 1 → m ≤ 2000
shallow n m h k = omega arith

pub refuted_shallow : (p : Problem) → IsTypedProblem p → AreShallow (refuted p)
refuted_shallow p typed =
    refuted_have (λ f. depth f ≤ 2000) p (λ q m. shallow (depth q.form) (depth q.form) (premise_is p typed q m).shallow (omega arith))
    (shallow (depth p.conjecture) (depth (Form.negation p.conjecture)) typed.conjecture.shallow (omega arith))

pub root_free : (p : Problem) (s : Setting) (root : List Form) → IsTypedProblem p → All IsQuantifierFree (refuted p) → s.rules ≡ []
    → IsRoot s (refuted p) root → AreQuantifierFree root × AreShallow root
root_free p s root typed free unruled is =
    subst (λ b. AreQuantifierFree b × AreShallow b) (root_itself s unruled (refuted p) root is) (
      extend_free [] (refuted p) (record { free = λ f m. absurd (Contains-none f m); parameters = λ f m. absurd (Contains-none f m) }) (refuted_free p typed free),
      extend_shallow [] (refuted p) (λ f m. absurd (Contains-none f m)) (refuted_shallow p typed),
    )
