-- The test of sameness on sides of rules.
use Rattle.std.proofs.Common.{ℕ, ◌≡◌, ◌==◌, Bool, true, false, ◌&&◌, refl, ap}
use Rattle.std.proofs.lemmas.Bool.Decides.{Decides-eqb}
use Rattle.zm_logic.specs.Tree.{Side}
use Rattle.zm_logic.proofs.Sames.{same_term-true, same_term-self, same-true, same-self}
use Rattle.rule_index.specs.Instance.{same_side}

pub both_true : (a b : Bool) → (a && b) ≡ true → (a ≡ true) × (b ≡ true)
both_true true b e = (refl, e)
both_true false b e = cc

pub number : (m n : ℕ) → (m == n) ≡ true → m ≡ n
number m n e = (Decides-eqb m n).0 e

pub itself : (n : ℕ) → (n == n) ≡ true
itself n = (Decides-eqb n n).1 refl

pub sides_are_equal : (x y : Side) → same_side x y ≡ true → x ≡ y
sides_are_equal (Side.of_term a) (Side.of_term b) e = ap Side.of_term (same_term-true a b e)
sides_are_equal (Side.of_form f) (Side.of_form g) e = ap Side.of_form (same-true f g e)
sides_are_equal _ _ e = cc

pub side_is_itself : (x : Side) → same_side x x ≡ true
side_is_itself (Side.of_term a) = same_term-self a
side_is_itself (Side.of_form f) = same-self f
