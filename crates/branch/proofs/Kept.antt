-- Facts of parameters that pass to normal forms, and facts of lists.
use Rattle.std.proofs.Common.{◌≡◌, ℕ, suc, sym, subst, refl, List, inl, inr}
use Rattle.zm_logic.specs.Tree.{Ty, Tys, Term, Terms, Form, Rule, Side}
use Rattle.zm_logic.specs.Parameter.{Parameter, EachInType, EachInTypes, EachInTerm, EachInTerms, EachIn}
use Rattle.zm_logic.specs.Typing.{IsType, WellTyped}
use Rattle.zm_logic.specs.Rewriting.{RewritesBySome, TermStep, TermsStep, Step, Congruent}
use Rattle.zm_logic.proofs.Each.{each}
use Rattle.zm_logic.proofs.Innermost.{innermost_step}
use Rattle.branch.specs.Setting.{Setting}
use Rattle.branch.specs.Normal.{Made, NormalizesFrom, Reaches}
use Rattle.branch.specs.Occurs.{OccursInType, OccursInTypes, OccursInTerm, OccursInTerms, OccursIn}
use Rattle.branch.specs.Sound.{IsSound}

-- the fact holds only of parameters that carry a type without loose index
pub record CarriesTypes (s : Setting) (P : Parameter → Type 0) : Type 0 where
  pub of_eps : (n : ℕ) (t : Ty) → P (Parameter.eps n t) → IsType s.symbols 0 t
  pub of_meta : (n : ℕ) (t : Ty) → P (Parameter.meta n t) → IsType s.symbols 0 t

-- a fact of each parameter is one of every parameter that occurs
module _ (P : Parameter → Type 0) (p : Parameter) where
  mutual
    type_occurs : (t : Ty) → EachInType P t → OccursInType p t → P p
    type_occurs (Ty.bound i) h o = absurd o
    type_occurs (Ty.param n) h o = subst P (sym o) h
    type_occurs (Ty.meta n) h o = subst P (sym o) h
    type_occurs (Ty.con c ts) h o = types_occur ts h o

    types_occur : (ts : Tys) → EachInTypes P ts → OccursInTypes p ts → P p
    types_occur Tys.none h o = absurd o
    types_occur (Tys.more t ts) h (inl o) = type_occurs t h.0 o
    types_occur (Tys.more t ts) h (inr o) = types_occur ts h.1 o

  mutual
    term_occurs : (u : Term) → EachInTerm P u → OccursInTerm p u → P p
    term_occurs (Term.bound i) h o = absurd o
    term_occurs (Term.eps n t) h (inl o) = subst P (sym o) h.0
    term_occurs (Term.eps n t) h (inr o) = type_occurs t h.1 o
    term_occurs (Term.meta n t) h (inl o) = subst P (sym o) h.0
    term_occurs (Term.meta n t) h (inr o) = type_occurs t h.1 o
    term_occurs (Term.app f ts us) h (inl o) = types_occur ts h.0 o
    term_occurs (Term.app f ts us) h (inr o) = terms_occur us h.1 o

    terms_occur : (us : Terms) → EachInTerms P us → OccursInTerms p us → P p
    terms_occur Terms.none h o = absurd o
    terms_occur (Terms.more u us) h (inl o) = term_occurs u h.0 o
    terms_occur (Terms.more u us) h (inr o) = terms_occur us h.1 o

  pub occurs : (f : Form) → EachIn P f → OccursIn p f → P p
  occurs Form.truth h o = absurd o
  occurs Form.falsity h o = absurd o
  occurs (Form.atom q ts us) h (inl o) = types_occur ts h.0 o
  occurs (Form.atom q ts us) h (inr o) = terms_occur us h.1 o
  occurs (Form.equal t a b) h (inl o) = type_occurs t h.0 o
  occurs (Form.equal t a b) h (inr (inl o)) = term_occurs a h.1 o
  occurs (Form.equal t a b) h (inr (inr o)) = term_occurs b h.2 o
  occurs (Form.negation f) h o = occurs f h o
  occurs (Form.binary c f g) h (inl o) = occurs f h.0 o
  occurs (Form.binary c f g) h (inr o) = occurs g h.1 o
  occurs (Form.quantified q t f) h (inl o) = type_occurs t h.0 o
  occurs (Form.quantified q t f) h (inr o) = occurs f h.1 o
  occurs (Form.quantified_types q f) h o = occurs f h o

-- what a well typed formula and its normal form have in common
module _ (s : Setting) (sound : IsSound s) (P : Parameter → Type 0) where
  pub record IsKept (f g : Form) : Type 0 where
    pub typed : WellTyped s.symbols g
    pub congruent : Congruent s.symbols s.rules f g
    pub each : EachIn P f → EachIn P g

  steps_keep : (from : Form) (n : ℕ) (f g : Form) (x : Made Form) → NormalizesFrom s.rules from n f x → x ≡ Made.made g → WellTyped s.symbols f → IsKept f g
  steps_keep from n f g (Made.made h) (NormalizesFrom.done d) e w =
      let i : h ≡ g = cc in subst (IsKept f) i (record { typed = w; congruent = Congruent.same w; each = λ h. h })
  steps_keep from (suc n) f g x (NormalizesFrom.step {g = h} i b rest) e w =
      let step = innermost_step s.rules i in
      let k = steps_keep from n h g x rest e (sound.typed f h step w) in
      record {
        typed = k.typed;
        congruent = Congruent.forward w step k.congruent;
        each = λ y. k.each (each (λ p. OccursIn p f) P (λ p o. occurs P p f y o) h (sound.parameters f h step w));
      }
  steps_keep from (suc n) f g (Made.fault d) (NormalizesFrom.too_deep i b) e w = cc
  steps_keep from n f g (Made.fault d) (NormalizesFrom.spent i) e w = cc

  pub normal_keeps : (f g : Form) → Reaches s f g → WellTyped s.symbols f → IsKept f g
  normal_keeps f g r w = steps_keep f s.rewrites f g (Made.made g) r refl w

pub made_is : {A : Type 0} (x y : A) → Made.made x ≡ Made.made y → x ≡ y
made_is x y e = cc

-- a well typed formula has one normal form
pub one_normal : (s : Setting) → IsSound s → (f g h : Form) → WellTyped s.symbols f → Reaches s f g → Reaches s f h → g ≡ h
one_normal s sound f g h w x y = made_is g h (sound.determined f (Made.made g) (Made.made h) w x y)
