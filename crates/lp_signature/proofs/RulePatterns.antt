-- The left side of a rule as a pattern of a file, and which of the rule's variables occur in it.
use Rattle.std.proofs.Common.{ℕ, ◌≡◌, Bool, true, false, ◌||◌, List, refl, ap, sym, ◌∙◌}
use Rattle.std.specs.Prelude.{codes}
use Rattle.lp_terms.specs.Term.{Lp}
use Rattle.lp_terms.specs.File.{IsPattern, IsConstantApplied, occurs}
use Rattle.lp_terms.specs.File as file
use Rattle.zm_logic.specs.Tree.{Ty, Tys, Term, Terms, Form, Symbol, Side}
use Rattle.zm_logic.specs.Index.{type_has, types_have, term_has, terms_have, side_has}
use Rattle.rule_select.specs.Sound as sound
use Rattle.lp_signature.specs.Names.{constant}
use Rattle.lp_signature.specs.Translation.{Scope, type_of, apply_types, term_of, apply_terms}
use Rattle.lp_signature.specs.Problem.{side_of}

at_one : (name : List ℕ) (a : Lp) → IsPattern a → IsConstantApplied (Lp.app (Lp.const name) a)
at_one name a p = file.IsConstantApplied.applied file.IsConstantApplied.constant p

module _ (symbols : List Symbol) where
  mutual
    type_is_pattern : (t : Ty) → IsPattern (type_of symbols Scope.none 0 t)
    type_is_pattern (Ty.bound i) = file.IsPattern.variable
    type_is_pattern (Ty.param n) = file.IsPattern.instance file.IsConstantApplied.constant
    type_is_pattern (Ty.meta n) = file.IsPattern.instance file.IsConstantApplied.constant
    type_is_pattern (Ty.con c ts) = file.IsPattern.instance (at_types (Lp.const (constant symbols c)) ts file.IsConstantApplied.constant)

    at_types : (f : Lp) (ts : Tys) → IsConstantApplied f → IsConstantApplied (apply_types symbols Scope.none 0 f ts)
    at_types f Tys.none h = h
    at_types f (Tys.more t ts) h = at_types (Lp.app f (type_of symbols Scope.none 0 t)) ts (file.IsConstantApplied.applied h (type_is_pattern t))

  mutual
    term_is_pattern : (a : Term) → IsPattern (term_of symbols Scope.none a)
    term_is_pattern (Term.bound i) = file.IsPattern.variable
    term_is_pattern (Term.eps n t) = file.IsPattern.instance (at_one (codes "any") _ (type_is_pattern t))
    term_is_pattern (Term.meta n t) = file.IsPattern.instance (at_one (codes "any") _ (type_is_pattern t))
    term_is_pattern (Term.app f ts us) =
        file.IsPattern.instance
        (at_terms (apply_types symbols Scope.none 0 (Lp.const (constant symbols f)) ts) us
        (at_types (Lp.const (constant symbols f)) ts file.IsConstantApplied.constant))

    at_terms : (f : Lp) (us : Terms) → IsConstantApplied f → IsConstantApplied (apply_terms symbols Scope.none f us)
    at_terms f Terms.none h = h
    at_terms f (Terms.more u us) h = at_terms (Lp.app f (term_of symbols Scope.none u)) us (file.IsConstantApplied.applied h (term_is_pattern u))

  -- the left side is a constant applied to patterns
  pub side_is_applied : (x : Side) → sound.IsPattern x → IsConstantApplied (side_of symbols x)
  side_is_applied (Side.of_term (Term.app f ts us)) h =
      at_terms (apply_types symbols Scope.none 0 (Lp.const (constant symbols f)) ts) us
      (at_types (Lp.const (constant symbols f)) ts file.IsConstantApplied.constant)
  side_is_applied (Side.of_form (Form.atom p ts us)) h =
      at_terms (apply_types symbols Scope.none 0 (Lp.const (constant symbols p)) ts) us
      (at_types (Lp.const (constant symbols p)) ts file.IsConstantApplied.constant)
  side_is_applied (Side.of_form (Form.equal t a b)) h =
      file.IsConstantApplied.applied
      (file.IsConstantApplied.applied (at_one (codes "eq") _ (type_is_pattern t)) (term_is_pattern a)) (term_is_pattern b)
  side_is_applied (Side.of_term (Term.bound i)) h = absurd h
  side_is_applied (Side.of_term (Term.eps n t)) h = absurd h
  side_is_applied (Side.of_term (Term.meta n t)) h = absurd h
  side_is_applied (Side.of_form Form.truth) h = absurd h
  side_is_applied (Side.of_form Form.falsity) h = absurd h
  side_is_applied (Side.of_form (Form.negation f)) h = absurd h
  side_is_applied (Side.of_form (Form.binary c f g)) h = absurd h
  side_is_applied (Side.of_form (Form.quantified q t f)) h = absurd h
  side_is_applied (Side.of_form (Form.quantified_types q f)) h = absurd h

  or_nothing : (a : Bool) → (a || false) ≡ a
  or_nothing true = refl
  or_nothing false = refl

  or_three : (a b c : Bool) → ((a || b) || c) ≡ (a || (b || c))
  or_three true b c = refl
  or_three false b c = refl

  or_same : {a b c d : Bool} → a ≡ b → c ≡ d → (a || c) ≡ (b || d)
  or_same e g = cc (e, g)

  mutual
    type_occurs : (i : ℕ) (t : Ty) → occurs i (type_of symbols Scope.none 0 t) ≡ type_has i t
    type_occurs i (Ty.bound j) = refl
    type_occurs i (Ty.param n) = refl
    type_occurs i (Ty.meta n) = refl
    type_occurs i (Ty.con c ts) = types_occur i (Lp.const (constant symbols c)) ts

    types_occur : (i : ℕ) (f : Lp) (ts : Tys) → occurs i (apply_types symbols Scope.none 0 f ts) ≡ (occurs i f || types_have i ts)
    types_occur i f Tys.none = sym (or_nothing (occurs i f))
    types_occur i f (Tys.more t ts) =
        types_occur i (Lp.app f (type_of symbols Scope.none 0 t)) ts
        ∙ ap (λ b. (occurs i f || b) || types_have i ts) (type_occurs i t) ∙ or_three (occurs i f) (type_has i t) (types_have i ts)

  mutual
    term_occurs : (i : ℕ) (a : Term) → occurs i (term_of symbols Scope.none a) ≡ term_has i a
    term_occurs i (Term.bound j) = refl
    term_occurs i (Term.eps n t) = type_occurs i t
    term_occurs i (Term.meta n t) = type_occurs i t
    term_occurs i (Term.app f ts us) =
        terms_occur i (apply_types symbols Scope.none 0 (Lp.const (constant symbols f)) ts) us
        ∙ ap (λ b. b || terms_have i us) (types_occur i (Lp.const (constant symbols f)) ts)

    terms_occur : (i : ℕ) (f : Lp) (us : Terms) → occurs i (apply_terms symbols Scope.none f us) ≡ (occurs i f || terms_have i us)
    terms_occur i f Terms.none = sym (or_nothing (occurs i f))
    terms_occur i f (Terms.more u us) =
        terms_occur i (Lp.app f (term_of symbols Scope.none u)) us
        ∙ ap (λ b. (occurs i f || b) || terms_have i us) (term_occurs i u) ∙ or_three (occurs i f) (term_has i u) (terms_have i us)

  -- what occurs in the left side occurs in its translation
  pub side_occurs : (i : ℕ) (x : Side) → sound.IsPattern x → occurs i (side_of symbols x) ≡ side_has i x
  side_occurs i (Side.of_term (Term.app f ts us)) h = term_occurs i (Term.app f ts us)
  side_occurs i (Side.of_form (Form.atom p ts us)) h = term_occurs i (Term.app p ts us)
  side_occurs i (Side.of_form (Form.equal t a b)) h =
      or_same (or_same (type_occurs i t) (term_occurs i a)) (term_occurs i b) ∙ or_three (type_has i t) (term_has i a) (term_has i b)
  side_occurs i (Side.of_term (Term.bound j)) h = absurd h
  side_occurs i (Side.of_term (Term.eps n t)) h = absurd h
  side_occurs i (Side.of_term (Term.meta n t)) h = absurd h
  side_occurs i (Side.of_form Form.truth) h = absurd h
  side_occurs i (Side.of_form Form.falsity) h = absurd h
  side_occurs i (Side.of_form (Form.negation f)) h = absurd h
  side_occurs i (Side.of_form (Form.binary c f g)) h = absurd h
  side_occurs i (Side.of_form (Form.quantified q t f)) h = absurd h
  side_occurs i (Side.of_form (Form.quantified_types q f)) h = absurd h
