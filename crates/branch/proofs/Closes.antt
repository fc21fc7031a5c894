-- What two formulas close together, by what is known of them.
use Rattle.std.proofs.Common.{◌≡◌, true, false, refl, sym, ap, ◌∙◌, List, [], ◌∷◌, ◌++◌, Option, None, Some}
use Rattle.zm_logic.specs.Tree.{Form}
use Rattle.zm_logic.specs.Same.{same}
use Rattle.branch.specs.Branch.{Closing, pair_of, is_swapped, closing_of, closing_with, closing_at, closing_from, closes_alone}
use Rattle.branch.specs.Denied.{denied, is_equation, closing_swapped}

-- whether a formula is the negation of another one
pub denied_some : (f d g : Form) → Some d ≡ denied f → same f (Form.negation g) ≡ same d g
denied_some (Form.negation h) d g e = let i : d ≡ h = cc in rw i refl
denied_some f d g e = cc

pub denied_none : (f g : Form) → None ≡ denied f → same f (Form.negation g) ≡ false
denied_none (Form.negation h) g e = cc
denied_none f g e = refl

pub closes_denied : (g f : Form) → same f (Form.negation g) ≡ true → closing_of g f ≡ Some (pair_of g f false)
closes_denied g f e = rw e refl

pub closes_denying : (g f : Form) → same f (Form.negation g) ≡ false → same g (Form.negation f) ≡ true → closing_of g f ≡ Some (pair_of f g false)
closes_denying g f e k = rw (e, k) refl

pub closes_swapped : (g f : Form) → same f (Form.negation g) ≡ false → same g (Form.negation f) ≡ false → closing_of g f ≡ closing_swapped g f
closes_swapped g f e k = rw (e, k) refl

swapped_no_right : (g f : Form) → is_equation f ≡ false → is_swapped g f ≡ false
swapped_no_right (Form.equal t a b) (Form.negation (Form.equal u c d)) e = cc
swapped_no_right g f e = refl

swapped_no_left : (g f : Form) → is_equation f ≡ false → is_swapped f g ≡ false
swapped_no_left g (Form.equal t a b) e = cc
swapped_no_left g f e = refl

pub closes_none : (g f : Form) → same f (Form.negation g) ≡ false → same g (Form.negation f) ≡ false → is_equation f ≡ false → closing_of g f ≡ None
closes_none g f e k i = rw (e, k, swapped_no_right g f i, swapped_no_left g f i) refl
