-- The valuation of a branch is one: its atoms are ground and distinct.
use Rattle.std.proofs.Common.{◌≡◌, ◌≢◌, ◌<◌, Bool, true, false, cond, refl, ap, sym, subst, ◌∙◌, List, [], ◌∷◌, ◌++◌, inl, inr, Contains, map, flat_map, length, get_or, arith, All}
use Rattle.std.specs.List.{AllPairs}
use Rattle.std.proofs.lemmas.List.{get_or-map, length-map}
use Rattle.std.proofs.lemmas.List.Elements.{All-weaker, All-contains_itself, All-contains, Contains-append_left, Contains-append_right, Contains-append_cases, Contains-get_or}
use Rattle.std.proofs.lemmas.List.Quantifiers.{all_pairs_push}
use Rattle.zm_logic.specs.Tree.{Form, Problem, Premise}
use Rattle.zm_logic.specs.Same.{has}
use Rattle.zm_logic.specs.Truth.{Valued, IsQuantifierFree, IsGroundAtom, refuted}
use Rattle.zm_logic.specs.Index.{IsClosed}
use Rattle.zm_logic.specs.Parameter.{HasNoParameter}
use Rattle.zm_logic.specs.Problem.{IsProblemForm, IsTypedProblem}
use Rattle.zm_logic.proofs.ClosedForm.{forms_are_closed}
use Rattle.branch.specs.Branch.{add, extend}
use Rattle.branch.proofs.Lists.{flat_map-source, map-source}
use Rattle.valuation.specs.Valuation.{atoms, formulas, problem_atoms, value_on, valuation}
use Rattle.valuation.specs.Laws as laws
use Rattle.zm_logic.proofs.Sames.{Contains-here, Contains-none, only, contains-has}
use Rattle.branch.proofs.Branches.{extend-cases}

-- the atoms of a formula have no loose index and no parameter, as it has none
atom_is_closed : (f a : Form) → IsQuantifierFree f → IsClosed 0 f → HasNoParameter f → Contains (atoms f) a → IsGroundAtom a
atom_is_closed Form.truth a q i n h = absurd (Contains-none a h)
atom_is_closed Form.falsity a q i n h = absurd (Contains-none a h)
atom_is_closed (Form.atom p ts us) a q i n h = subst IsGroundAtom (only (Form.atom p ts us) a h) (i, n)
atom_is_closed (Form.equal t x y) a q i n h = absurd q
atom_is_closed (Form.negation f) a q i n h = atom_is_closed f a q i n h
atom_is_closed (Form.binary c f g) a q i n h =
    elim (Contains-append_cases (atoms f) (atoms g) a h) [ inl k ↦ atom_is_closed f a q.0 i.0 n.0 k | inr k ↦ atom_is_closed g a q.1 i.1 n.1 k ]
atom_is_closed (Form.quantified x t f) a q i n h = absurd q
atom_is_closed (Form.quantified_types x f) a q i n h = absurd q

problem_form : (p : Problem) (f : Form) → IsTypedProblem p → Contains (formulas p) f → IsProblemForm p.symbols f
problem_form p f typed h =
    let of : Premise → Form = λ premise. premise.form in
    elim (Contains-append_cases (map of p.premises) (p.conjecture ∷ []) f h) [
      | inl k ↦ let s = map-source of p.premises f k in
          subst (IsProblemForm p.symbols) s.2 (All-contains (λ premise. IsProblemForm p.symbols premise.form) p.premises s.0 typed.premises s.1)
      | inr k ↦ subst (IsProblemForm p.symbols) (only p.conjecture f k) typed.conjecture
    ]

is_free : (p : Problem) (f : Form) → All IsQuantifierFree (refuted p) → Contains (formulas p) f → IsQuantifierFree f
is_free p f free h =
    let of : Premise → Form = λ premise. premise.form in
    let each : (x : Form) → Contains (refuted p) x → IsQuantifierFree x = λ x m. All-contains IsQuantifierFree (refuted p) x free m in
    let c = Form.negation p.conjecture in
    elim (Contains-append_cases (map of p.premises) (p.conjecture ∷ []) f h) [
      | inl k ↦ each f (Contains-append_left (map of p.premises) (c ∷ []) f k)
      | inr k ↦ subst IsQuantifierFree (only p.conjecture f k) (each c (Contains-append_right (map of p.premises) (c ∷ []) c (Contains-here c [])))
    ]

listed_is_ground : (p : Problem) (a : Form) → IsTypedProblem p → All IsQuantifierFree (refuted p) → Contains (problem_atoms p) a → IsGroundAtom a
listed_is_ground p a typed free h = elim (extend-cases [] (flat_map atoms (formulas p)) a h) [
  | inl k ↦ absurd (Contains-none a k)
  | inr k ↦
      let s = flat_map-source atoms (formulas p) a k in
      let f = problem_form p s.0 typed s.1 in
      atom_is_closed s.0 a (is_free p s.0 free s.1) (forms_are_closed p.symbols s.0 f.typed) f.parameters s.2
]

add_distinct : (b : List Form) (f : Form) → AllPairs (λ x y. x ≢ y) b → AllPairs (λ x y. x ≢ y) (add b f)
add_distinct b f h = go (has b f) refl
  where
    go : (v : Bool) → has b f ≡ v → AllPairs (λ x y. x ≢ y) (cond v b (b ++ f ∷ []))
    go true e = h
    go false e = all_pairs_push (λ x y. x ≢ y) b f h (λ k d l q. let P : Form → Type 0 = λ x. Contains b x in
        let t = contains-has b f (subst P q (Contains-get_or b k d l)) in cc)

extend_distinct : (b fs : List Form) → AllPairs (λ x y. x ≢ y) b → AllPairs (λ x y. x ≢ y) (extend b fs)
extend_distinct b [] h = h
extend_distinct b (f ∷ fs) h = extend_distinct (add b f) fs (add_distinct b f h)

values_distinct : (b fs : List Form) → AllPairs (λ x y. x ≢ y) fs → AllPairs (λ x y. x.atom ≢ y.atom) (map (value_on b) fs)
values_distinct b fs h i j d l m =
    let n : j < length fs = omega (arith, m, length-map fs (value_on b)) in
    let k : i < length fs = omega (arith, l, n) in
    let x : get_or (map (value_on b) fs) i d ≡ value_on b (get_or fs i d.atom) = get_or-map (value_on b) fs i d.atom d k in
    let y : get_or (map (value_on b) fs) j d ≡ value_on b (get_or fs j d.atom) = get_or-map (value_on b) fs j d.atom d n in
    λ e. h i j d.atom l n (sym (ap (λ v. v.atom) x) ∙ (e ∙ ap (λ v. v.atom) y))

pub problems_have_valuations : laws.ProblemsHaveValuations
problems_have_valuations p b typed free = record {
  atoms = All-weaker (Contains (valuation b p)) (λ x. IsGroundAtom x.atom)
      (λ x h. let s = map-source (value_on b) (problem_atoms p) x h in
      let P : Valued → Type 0 = λ y. IsGroundAtom y.atom in subst P s.2 (listed_is_ground p s.0 typed free s.1))
      (valuation b p) (All-contains_itself (valuation b p));
  distinct = values_distinct b (problem_atoms p) (extend_distinct [] (flat_map atoms (formulas p)) (λ i j d l m. absurd (omega (arith, m))));
}
