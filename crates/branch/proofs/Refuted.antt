-- What the formulas that are refuted have, where the premises and the negated conjecture have it.
use Rattle.std.proofs.Common.{◌∷◌, [], subst, inl, inr, Contains, map}
use Rattle.std.proofs.lemmas.List.Elements.{All-contains, Contains-append_cases}
use Rattle.zm_logic.specs.Tree.{Form, Premise, Problem}
use Rattle.zm_logic.specs.Problem.{IsProblemForm, IsTypedProblem}
use Rattle.zm_logic.specs.Truth.{refuted}
use Rattle.zm_logic.proofs.Sames.{only}
use Rattle.branch.proofs.Lists.{map-source}

-- what premises and the negated conjecture have
pub refuted_have : (P : Form → Type 0) (p : Problem) → ((q : Premise) → Contains p.premises q → P q.form) → P (Form.negation p.conjecture) → (f : Form) → Contains (refuted p) f → P f
refuted_have P p h k f m =
    let of : Premise → Form = λ premise. premise.form in
    elim (Contains-append_cases (map of p.premises) (Form.negation p.conjecture ∷ []) f m) [
      | inl i ↦ let x = map-source of p.premises f i in subst P x.2 (h x.0 x.1)
      | inr i ↦ subst P (only (Form.negation p.conjecture) f i) k
    ]

pub premise_is : (p : Problem) → IsTypedProblem p → (q : Premise) → Contains p.premises q → IsProblemForm p.symbols q.form
premise_is p typed q m = All-contains (λ x. IsProblemForm p.symbols x.form) p.premises q typed.premises m
