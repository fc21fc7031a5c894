-- Problems without equality, and without quantifiers besides.
use Rattle.std.proofs.Common.{ℕ, ◌≡◌, ◌+◌, ◌<◌, ◌≤◌, true, false, not, ◌&&◌, ◌||◌, List, [], ◌∷◌, ◌++◌, length, get_or, drop, map, All, refl, ap}
use Rattle.std.proofs.lemmas.List.{drop_more, drop_all}
use Rattle.std.proofs.lemmas.List.Elements.{All-nil, All-cons}
use Rattle.std.proofs.lemmas.Bool.{and_parts, or_parts, not-true}
use Rattle.zm_logic.specs.declared.problem.Premise.{Premise}
use Rattle.zm_logic.specs.View.{premise_tree}
use Rattle.zm_logic.specs.Tree as tree
use Rattle.zm_logic.specs.Tree.{Form, Problem}
use Rattle.zm_logic.specs.Truth.{IsQuantifierFree, refuted}
use Rattle.branch.specs.EqualityFree.{holds_equality, AreEqualityFree}
use Rattle.zenon_modulo.specs.Fragments.{any_equality, is_built, is_plain, are_plain, is_quantifier_free}

-- premises from one place on

pub plain_here : (ps : List Premise) (i : ℕ) (d : Premise) → i < length ps → is_plain ((premise_tree (get_or ps i d)).form) ≡ false
    → are_plain (map premise_tree (drop i ps)) ≡ false
plain_here ps i d h e = rw (drop_more ps i d h) (ap (λ b. b && are_plain (map premise_tree (drop (i + 1) ps))) e)

pub plain_later : (ps : List Premise) (i : ℕ) (d : Premise) → i < length ps → is_plain ((premise_tree (get_or ps i d)).form) ≡ true
    → are_plain (map premise_tree (drop i ps)) ≡ are_plain (map premise_tree (drop (i + 1) ps))
plain_later ps i d h e = rw (drop_more ps i d h) (ap (λ b. b && are_plain (map premise_tree (drop (i + 1) ps))) e)

pub plain_end : (ps : List Premise) (i : ℕ) → length ps ≤ i → are_plain (map premise_tree (drop i ps)) ≡ true
plain_end ps i h = rw (drop_all i ps h)

pub equality_here : (ps : List Premise) (i : ℕ) (d : Premise) → i < length ps → holds_equality ((premise_tree (get_or ps i d)).form) ≡ true
    → any_equality (map premise_tree (drop i ps)) ≡ true
equality_here ps i d h e = rw (drop_more ps i d h) (ap (λ b. b || any_equality (map premise_tree (drop (i + 1) ps))) e)

pub equality_later : (ps : List Premise) (i : ℕ) (d : Premise) → i < length ps → holds_equality ((premise_tree (get_or ps i d)).form) ≡ false
    → any_equality (map premise_tree (drop i ps)) ≡ any_equality (map premise_tree (drop (i + 1) ps))
equality_later ps i d h e = rw (drop_more ps i d h) (ap (λ b. b || any_equality (map premise_tree (drop (i + 1) ps))) e)

pub equality_end : (ps : List Premise) (i : ℕ) → length ps ≤ i → any_equality (map premise_tree (drop i ps)) ≡ false
equality_end ps i h = rw (drop_all i ps h)

-- A problem that is built refutes no equality.

premises_equality_free : (ps : List tree.Premise) (f : Form) → any_equality ps ≡ false → holds_equality f ≡ false
    → AreEqualityFree (map (λ premise. premise.form) ps ++ Form.negation f ∷ [])
premises_equality_free [] f e h = All-cons (λ g. holds_equality g ≡ false) (Form.negation f) [] h (All-nil (λ g. holds_equality g ≡ false))
premises_equality_free (p ∷ ps) f e h =
    let both = or_parts (holds_equality p.form) (any_equality ps) e in
    All-cons (λ g. holds_equality g ≡ false) p.form (map (λ premise. premise.form) ps ++ Form.negation f ∷ []) both.0
    (premises_equality_free ps f both.1 h)

pub built_equality_free : (p : Problem) → is_built p ≡ true → AreEqualityFree (refuted p)
built_equality_free p e =
    let both = and_parts (not (any_equality p.premises)) (not (holds_equality p.conjecture)) e in
    premises_equality_free p.premises p.conjecture (not-true (any_equality p.premises) both.0) (not-true (holds_equality p.conjecture) both.1)

-- A problem of plain formulas refutes formulas without quantifiers and equalities.

plain_is : (f : Form) → is_plain f ≡ true → IsQuantifierFree f
plain_is Form.truth e = tt
plain_is Form.falsity e = tt
plain_is (Form.atom p ts us) e = tt
plain_is (Form.equal t a b) e = cc
plain_is (Form.negation f) e = plain_is f e
plain_is (Form.binary c f g) e = let both = and_parts (is_plain f) (is_plain g) e in (plain_is f both.0, plain_is g both.1)
plain_is (Form.quantified q t f) e = cc
plain_is (Form.quantified_types q f) e = cc

premises_plain : (ps : List tree.Premise) (f : Form) → are_plain ps ≡ true → is_plain f ≡ true
    → All IsQuantifierFree (map (λ premise. premise.form) ps ++ Form.negation f ∷ [])
premises_plain [] f e h = All-cons IsQuantifierFree (Form.negation f) [] (plain_is f h) (All-nil IsQuantifierFree)
premises_plain (p ∷ ps) f e h =
    let both = and_parts (is_plain p.form) (are_plain ps) e in
    All-cons IsQuantifierFree p.form (map (λ premise. premise.form) ps ++ Form.negation f ∷ []) (plain_is p.form both.0)
    (premises_plain ps f both.1 h)

pub plain_refuted : (p : Problem) → is_quantifier_free p ≡ true → All IsQuantifierFree (refuted p)
plain_refuted p e =
    let both = and_parts (are_plain p.premises) (is_plain p.conjecture) e in premises_plain p.premises p.conjecture both.0 both.1

-- And it is built.

plain_equality_free : (f : Form) → is_plain f ≡ true → holds_equality f ≡ false
plain_equality_free Form.truth e = refl
plain_equality_free Form.falsity e = refl
plain_equality_free (Form.atom p ts us) e = refl
plain_equality_free (Form.equal t a b) e = cc
plain_equality_free (Form.negation f) e = plain_equality_free f e
plain_equality_free (Form.binary c f g) e =
    let both = and_parts (is_plain f) (is_plain g) e in rw (plain_equality_free f both.0, plain_equality_free g both.1) refl
plain_equality_free (Form.quantified q t f) e = cc
plain_equality_free (Form.quantified_types q f) e = cc

no_equality : (ps : List tree.Premise) → are_plain ps ≡ true → any_equality ps ≡ false
no_equality [] e = refl
no_equality (p ∷ ps) e =
    let both = and_parts (is_plain p.form) (are_plain ps) e in rw (plain_equality_free p.form both.0, no_equality ps both.1) refl

pub plain_built : (p : Problem) → is_quantifier_free p ≡ true → is_built p ≡ true
plain_built p e =
    let both = and_parts (are_plain p.premises) (is_plain p.conjecture) e in
    rw (no_equality p.premises both.0, plain_equality_free p.conjecture both.1) refl
