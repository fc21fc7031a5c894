-- The terms of rules by the parts of what they act on.
use Rattle.std.specs.Prelude.{ℕ, zero, suc, List, [], ◌∷◌, Option, Some, None}
use Rattle.lp_terms.specs.Term.{Lp}
use Rattle.zm_logic.specs.Tree.{Ty, Tys, Term, Terms, Form, Opening}
use Rattle.zm_logic.specs.Opening.{at_term, at_type}
use Rattle.lp_signature.specs.Prelude.{types, term, eq_of}
use Rattle.lp_signature.specs.ProofTerms as by
use Rattle.lp_translation.specs.ProofOf.{earliest, write_spine}
use Rattle.lp_translation.specs.declared.place.Place.{Place}
use Rattle.lp_signature.specs.Names.{constant}
use Rattle.lp_signature.specs.Translation.{apply_types, form_of, term_of}
use Rattle.lp_translation.specs.ViewPlace.{symbols_at, scope_at, hypotheses_at, written, written_entered, written_term, written_type}

-- what is negated, and the sides of a formula that a connective joins; any other formula stands for itself
abbrev pub negated : Form → Form
negated (Form.negation f) = f
negated f = f

abbrev pub left_of : Form → Form
left_of (Form.binary c f g) = f
left_of f = f

abbrev pub right_of : Form → Form
right_of (Form.binary c f g) = g
right_of f = f

-- what the second formula negates; the first one stands for a missing one
abbrev pub second_negated : Form → Option Form → Form
second_negated a (Some f) = negated f
second_negated a None = a

-- the child's term, the first child being 0
abbrev pub child : List Lp → ℕ → Lp
child [] k = Lp.sort
child (r ∷ rs) zero = r
child (r ∷ rs) (suc k) = child rs k

module _ (p : Place) where
  abbrev pub proved : Form → Lp
  proved f = earliest (hypotheses_at p) f

  -- the second formula's proof
  abbrev pub second_proved : Option Form → Lp
  second_proved (Some f) = proved f
  second_proved None = Lp.sort

  -- refl and sym, by the equality
  abbrev pub reflexive_by : Lp → Form → Lp
  reflexive_by h (Form.equal t u v) = by.refl_term h (written_type p t) (written_term p u)
  reflexive_by h _ = Lp.sort

  abbrev pub symmetric_by : Lp → Lp → Form → Lp
  symmetric_by h k (Form.equal t u v) = by.sym_term h k (written_type p t) (written_term p u)
  symmetric_by h k _ = Lp.sort

  -- the quantifiers, by the quantified formula and the part
  abbrev pub exists_by : Lp → Form → Option Opening → Lp → Lp
  exists_by h (Form.quantified q t f) (Some (Opening.of_term u)) r =
      by.exists_term p.next h (term (written_type p t)) (written_entered p (at_term f u)) r
  exists_by h (Form.quantified_types q f) (Some (Opening.of_type u)) r =
      by.exists_term p.next h types (written_entered p (at_type f u)) r
  exists_by h _ _ r = Lp.sort

  abbrev pub not_forall_by : Lp → Form → Option Opening → Lp → Lp
  not_forall_by h (Form.quantified q t f) (Some (Opening.of_term u)) r =
      by.not_forall_term p.next h (term (written_type p t)) (written_entered p (at_term f u)) r
  not_forall_by h (Form.quantified_types q f) (Some (Opening.of_type u)) r =
      by.not_forall_term p.next h types (written_entered p (at_type f u)) r
  not_forall_by h _ _ r = Lp.sort

  abbrev pub forall_by : Lp → Form → Option Opening → Lp → Lp
  forall_by h (Form.quantified q t f) (Some (Opening.of_term u)) r =
      by.forall_term p.next h (written_term p u) (written p (at_term f u)) r
  forall_by h (Form.quantified_types q f) (Some (Opening.of_type u)) r =
      by.forall_term p.next h (written_type p u) (written p (at_type f u)) r
  forall_by h _ _ r = Lp.sort

  abbrev pub not_exists_by : Lp → Form → Option Opening → Lp → Lp
  not_exists_by h (Form.quantified q t f) (Some (Opening.of_term u)) r =
      by.not_exists_term p.next h (term (written_type p t)) (written p f) (written_term p u) (written p (at_term f u)) r
  not_exists_by h (Form.quantified_types q f) (Some (Opening.of_type u)) r =
      by.not_exists_term p.next h types (written p f) (written_type p u) (written p (at_type f u)) r
  not_exists_by h _ _ r = Lp.sort

  -- transitivity, by the equality and what the inequation negates
  abbrev pub trans_first_by : Lp → Lp → Form → Form → Lp → Lp → Lp
  trans_first_by h k (Form.equal t a b) (Form.equal r u v) x y =
      by.trans_first_term p.next h k (written_type p t) (written_term p a) (written_term p b) (written_term p u) (written_term p v) x y
  trans_first_by h k _ _ x y = Lp.sort

  abbrev pub trans_second_by : Lp → Lp → Form → Form → Lp → Lp → Lp
  trans_second_by h k (Form.equal t a b) (Form.equal r u v) x y =
      by.trans_second_term p.next h k (written_type p t) (written_term p a) (written_term p b) (written_term p u) (written_term p v) x y
  trans_second_by h k _ _ x y = Lp.sort

  -- a function at terms
  abbrev pub spine : Lp → Terms → Lp
  spine f us = write_spine (symbols_at p) (form_of (symbols_at p)) (term_of (symbols_at p)) (scope_at p) f us

  -- one argument further: the function at the equality's right side, and the proof with the right side for the left one
  abbrev pub next_function : Form → Lp → Lp
  next_function (Form.equal t a b) f = Lp.app f (written_term p b)
  next_function _ f = f

  abbrev pub next_proof : (Lp → Lp) → Form → Lp → Lp → Terms → Lp → Lp
  next_proof wrap (Form.equal t a b) f h us r =
      Lp.app (Lp.app (by.nn p.next (eq_of (written_type p t) (written_term p a) (written_term p b)) r)
      (Lp.abs (term (written_type p t)) (wrap (spine (Lp.app f (Lp.index 0)) us)))) h
  next_proof wrap _ f h us r = h

  -- h proves what wrap makes of f at the terms; this proves it with the right side of each equality in turn
  abbrev pub chain_by : (Lp → Lp) → Lp → Lp → List Form → Terms → List Lp → Lp
  chain_by wrap f h (e ∷ es) (Terms.more u us) (r ∷ rs) = chain_by wrap (next_function e f) (next_proof wrap e f h us r) es us rs
  chain_by wrap f h _ _ _ = h

  -- the constant of a symbol at types
  abbrev pub head : ℕ → Tys → Lp
  head f ts = apply_types (symbols_at p) (scope_at p) 0 (Lp.const (constant (symbols_at p) f)) ts

  -- the rules for equal arguments, by what is at the arguments, the equalities and the children's terms
  abbrev pub equal_arguments_by : Lp → Lp → Form → List Form → List Lp → Lp
  equal_arguments_by h k (Form.atom q ts us) es rs = Lp.app k (chain_by (λ f. f) (head q ts) h es us rs)
  equal_arguments_by h k _ es rs = Lp.sort

  abbrev pub equal_values_of : Lp → Ty → Term → List Form → List Lp → Lp
  equal_values_of h t (Term.app f ts us) es rs =
      Lp.app h
      (chain_by (eq_of (written_type p t) (written_term p (Term.app f ts us))) (head f ts)
      (by.reflexive (written_type p t) (written_term p (Term.app f ts us))) es us rs)
  equal_values_of h t _ es rs = Lp.sort

  abbrev pub equal_values_by : Lp → Form → List Form → List Lp → Lp
  equal_values_by h (Form.equal t a b) es rs = equal_values_of h t a es rs
  equal_values_by h _ es rs = Lp.sort
