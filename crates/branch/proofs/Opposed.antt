-- Which formulas are no opposites.
use Rattle.std.proofs.Common.{◌≡◌, Bool, true, false, ◌&&◌, ◌||◌, cond, refl, ap, sym, ◌∙◌, Option, None, Some}
use Rattle.zm_logic.specs.Tree.{Form}
use Rattle.equality_rules.specs.Pairs.{Opposites, alike, is_atom, is_equality, denied_of, opposites_by, opposites}
use Rattle.branch.specs.Lookup.{is_plain, is_denial}

neither : (x y : Bool) → ((x && false) || (y && false)) ≡ false
neither true true = refl
neither true false = refl
neither false true = refl
neither false false = refl

alike_left : (f g : Form) → is_plain f ≡ false → alike f g ≡ false
alike_left Form.truth g e = refl
alike_left Form.falsity g e = refl
alike_left (Form.atom p ts us) g e = cc
alike_left (Form.equal t a b) g e = cc
alike_left (Form.negation f) g e = refl
alike_left (Form.binary c f h) g e = refl
alike_left (Form.quantified q t f) g e = refl
alike_left (Form.quantified_types q f) g e = refl

alike_right : (f g : Form) → is_plain g ≡ false → alike f g ≡ false
alike_right f Form.truth e = neither (is_atom f) (is_equality f)
alike_right f Form.falsity e = neither (is_atom f) (is_equality f)
alike_right f (Form.atom p ts us) e = cc
alike_right f (Form.equal t a b) e = cc
alike_right f (Form.negation g) e = neither (is_atom f) (is_equality f)
alike_right f (Form.binary c g h) e = neither (is_atom f) (is_equality f)
alike_right f (Form.quantified q t g) e = neither (is_atom f) (is_equality f)
alike_right f (Form.quantified_types q g) e = neither (is_atom f) (is_equality f)

-- an atom or an equality denies nothing
plain_denies : (f : Form) → is_plain f ≡ true → denied_of f ≡ None
plain_denies Form.truth e = cc
plain_denies Form.falsity e = cc
plain_denies (Form.atom p ts us) e = refl
plain_denies (Form.equal t a b) e = refl
plain_denies (Form.negation f) e = cc
plain_denies (Form.binary c f h) e = cc
plain_denies (Form.quantified q t f) e = cc
plain_denies (Form.quantified_types q f) e = cc

-- what a formula that isn't the negation of a plain one denies isn't plain
denies_none : (f d : Form) → is_denial f ≡ false → denied_of f ≡ Some d → is_plain d ≡ false
denies_none Form.truth d e h = cc
denies_none Form.falsity d e h = cc
denies_none (Form.atom p ts us) d e h = cc
denies_none (Form.equal t a b) d e h = cc
denies_none (Form.negation f) d e h = let i : f ≡ d = cc in ap is_plain (sym i) ∙ e
denies_none (Form.binary c f g) d e h = cc
denies_none (Form.quantified q t f) d e h = cc
denies_none (Form.quantified_types q f) d e h = cc

denies_some : (f : Form) → is_denial f ≡ true → (d : Form) × (denied_of f ≡ Some d)
denies_some Form.truth e = cc
denies_some Form.falsity e = cc
denies_some (Form.atom p ts us) e = cc
denies_some (Form.equal t a b) e = cc
denies_some (Form.negation f) e = (f, refl)
denies_some (Form.binary c f g) e = cc
denies_some (Form.quantified q t f) e = cc
denies_some (Form.quantified_types q f) e = cc

-- the later formula denies nothing
later_plain : (g f : Form) (d : Option Form) → ((b : Form) → d ≡ Some b → alike b f ≡ false) → opposites_by g f d None ≡ None
later_plain g f None h = refl
later_plain g f (Some b) h = ap (λ x. cond x (Some (record { plain = f; denied = b; left = b; right = f })) None) (h b refl)

later_denied : (g f b : Form) (d : Option Form) → (d ≡ None → alike g b ≡ false) → opposites_by g f d (Some b) ≡ None
later_denied g f b None h = ap (λ x. cond x (Some (record { plain = g; denied = b; left = g; right = b })) None) (h refl)
later_denied g f b (Some c) h = refl

-- an atom or an equality, with anything but the negation of one
pub plain_none : (g f : Form) → is_plain f ≡ true → is_denial g ≡ false → opposites g f ≡ None
plain_none g f e h =
    ap (opposites_by g f (denied_of g)) (plain_denies f e)
    ∙ later_plain g f (denied_of g) (λ b i. alike_left b f (denies_none g b h i))

-- the negation of one, with anything but one
pub denial_none : (g f : Form) → is_denial f ≡ true → is_plain g ≡ false → opposites g f ≡ None
denial_none g f e h =
    let d = denies_some f e in
    ap (opposites_by g f (denied_of g)) d.1 ∙ later_denied g f d.0 (denied_of g) (λ i. alike_left g d.0 h)

-- and any other formula
pub other_none : (g f : Form) → is_plain f ≡ false → is_denial f ≡ false → opposites g f ≡ None
other_none g f e h = by (denied_of f) refl
  where
    by : (d : Option Form) → denied_of f ≡ d → opposites_by g f (denied_of g) (denied_of f) ≡ None
    by None i = ap (opposites_by g f (denied_of g)) i ∙ later_plain g f (denied_of g) (λ b j. alike_right b f e)
    by (Some b) i = ap (opposites_by g f (denied_of g)) i ∙ later_denied g f b (denied_of g) (λ j. alike_right g b (denies_none f b h i))
