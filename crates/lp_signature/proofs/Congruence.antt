-- Congruent formulas have convertible translations.
use Rattle.std.proofs.Common.{◌≡◌, ℕ, ◌+◌, suc, refl, ap, sym, ◌∙◌, subst, subst₂, arith, List, [], ◌∷◌, ◌++◌, length, map}
use Rattle.std.specs.List.{Contains}
use Rattle.std.proofs.lemmas.List.{length-map}
use Rattle.lp_terms.specs.Term.{Lp, IsClosedAt}
use Rattle.lp_terms.specs.Term as lp
use Rattle.lp_terms.specs.Signature.{Entry, Holds}
use Rattle.lp_terms.specs.Reduction.{instance_at, AreClosed, Reduces, Converts}
use Rattle.zm_logic.specs.Tree.{Ty, Term, Terms, Form, Connective, Quantifier, Opening, Side, Rule, Symbol}
use Rattle.zm_logic.specs.Opening.{side_instance}
use Rattle.zm_logic.specs.Index.{IsClosedTerm, AreClosedTerms}
use Rattle.zm_logic.specs.Typing.{WellTyped, IsSignature}
use Rattle.zm_logic.specs.Rewriting.{RewritesBySome, TermStep, TermsStep, Step, Congruent}
use Rattle.zm_logic.specs.Laws.{HasNoParameterIn, AreWithoutParameters}
use Rattle.zm_logic.proofs.ClosedForm.{form_is_closed}
use Rattle.zm_logic.proofs.Instance.{well_typed_at_term, well_typed_at_type}
use Rattle.zm_logic.proofs.Inverted.{well_typed_negation, first_part, second_part, binder_type}
use Rattle.lp_signature.specs.Prelude.{types, term}
use Rattle.lp_signature.specs.Names.{constant}
use Rattle.lp_signature.specs.Translation.{Scope, type_of, apply_types, term_of, apply_terms, binary_of, quantified_of, quantified_types_of, form_of}
use Rattle.lp_signature.specs.Problem.{side_of, rule_entry}
use Rattle.lp_signature.specs.Problem as problem
use Rattle.lp_signature.specs.Scoped.{CarriesTypes}
use Rattle.lp_signature.proofs.Sides.{IsClosedSide, SideCarries, open_side, instance_step, instance_before, IsClosedPart, AreClosedParts, fit_closed, fit_count, side_carries_opened, never_carries}
use Rattle.lp_signature.proofs.Scopes.{without, without_carries}
use Rattle.lp_signature.proofs.Readings.{part_of, read_term_closed, type_closed, types_closed, term_anywhere, form_anywhere, term_open_by, form_open_by, body_is, body_is_new}

-- the last term of an instance is put first
instance_append : (k : ℕ) (us : List Lp) (u t : Lp)
    → instance_at k (us ++ (u ∷ [])) t ≡ instance_at k us (lp.open_at (k + length us) u t)
instance_append k [] u t = let e : k ≡ k + 0 = omega arith in ap (λ j. lp.open_at j u t) e
instance_append k (v ∷ us) u t =
    let e : suc k + length us ≡ k + length (v ∷ us) = omega arith in
    ap (lp.open_at k v) (instance_append (suc k) us u t ∙ ap (λ j. instance_at (suc k) us (lp.open_at j u t)) e)

closed_append : (us : List Lp) (u : Lp) → AreClosed us → lp.IsClosed u → AreClosed (us ++ (u ∷ []))
closed_append [] u h c = (c, tt)
closed_append (v ∷ us) u h c = (h.0, closed_append us u h.1 c)

length_append : (us : List Lp) (u : Lp) → length (us ++ (u ∷ [])) ≡ suc (length us)
length_append [] u = refl
length_append (v ∷ us) u = ap suc (length_append us u)

module _ (symbols : List Symbol) (s : Scope) where
  mutual
    pub term_closed : (k : ℕ) (u : Term) → IsClosedTerm k u → IsClosedAt k (term_of symbols s u)
    term_closed k (Term.bound i) h = lp.IsClosedAt.index h
    term_closed k (Term.eps n t) h =
        read_term_closed s n t _ (lp.IsClosedAt.app lp.IsClosedAt.const (type_closed symbols s k 0 t h))
    term_closed k (Term.meta n t) h = lp.IsClosedAt.app lp.IsClosedAt.const (type_closed symbols s k 0 t h)
    term_closed k (Term.app f ts us) h =
        terms_closed k (apply_types symbols s 0 (Lp.const (constant symbols f)) ts) us
        (types_closed symbols s k 0 (Lp.const (constant symbols f)) ts lp.IsClosedAt.const h.0) h.1

    terms_closed : (k : ℕ) (f : Lp) (us : Terms) → IsClosedAt k f → AreClosedTerms k us
        → IsClosedAt k (apply_terms symbols s f us)
    terms_closed k f Terms.none c h = c
    terms_closed k f (Terms.more u us) c h =
        terms_closed k (Lp.app f (term_of symbols s u)) us (lp.IsClosedAt.app c (term_closed k u h.0)) h.1

  part_closed : (o : Opening) → IsClosedPart o → lp.IsClosed (part_of symbols s o)
  part_closed (Opening.of_type t) h = type_closed symbols s 0 0 t h
  part_closed (Opening.of_term u) h = term_closed 0 u h

  -- the parts of a rule's instance, the last one first
  abbrev parts_of : List Opening → List Lp
  parts_of [] = []
  parts_of (o ∷ os) = parts_of os ++ (part_of symbols s o ∷ [])

  parts_length : (os : List Opening) → length (parts_of os) ≡ length os
  parts_length [] = refl
  parts_length (o ∷ os) = length_append (parts_of os) (part_of symbols s o) ∙ ap suc (parts_length os)

  parts_closed : (os : List Opening) → AreClosedParts os → AreClosed (parts_of os)
  parts_closed [] h = tt
  parts_closed (o ∷ os) h = closed_append (parts_of os) (part_of symbols s o) (parts_closed os h.1) (part_closed o h.0)

  abbrev side_in : Side → Lp
  side_in (Side.of_term u) = term_of symbols s u
  side_in (Side.of_form f) = form_of symbols s f

  side_anywhere : (x : Side) → HasNoParameterIn x → side_in x ≡ side_of symbols x
  side_anywhere (Side.of_term u) h = term_anywhere symbols s Scope.none u h
  side_anywhere (Side.of_form f) h = form_anywhere symbols s Scope.none f h

  side_open : (k : ℕ) (o : Opening) (x : Side) → SideCarries x → IsClosedSide k (open_side k o x)
      → side_in (open_side k o x) ≡ lp.open_at k (part_of symbols s o) (side_in x)
  side_open k o (Side.of_term u) h c = term_open_by symbols s o k u h c
  side_open k o (Side.of_form f) h c = form_open_by symbols s o k f h c

  -- the translation of an instance is an instance of the translation
  side_instance_is : (os : List Opening) (x : Side) → AreClosedParts os → SideCarries x
      → IsClosedSide 0 (side_instance os x)
      → side_in (side_instance os x) ≡ instance_at 0 (parts_of os) (side_in x)
  side_instance_is [] x p h c = refl
  side_instance_is (o ∷ os) x p h c =
      let k : ℕ = length os in
      let y : Side = open_side k o x in
      let d : IsClosedSide 0 (side_instance os y) = subst (IsClosedSide 0) (instance_step o os x) c in
      let e : length os ≡ 0 + length (parts_of os) = omega (arith, parts_length os) in
      ap side_in (instance_step o os x)
      ∙ side_instance_is os y p.1 (side_carries_opened o p.0 k x h) d
      ∙ ap (instance_at 0 (parts_of os)) (side_open k o x h (instance_before os y d) ∙ ap (λ j. lp.open_at j (part_of symbols s o) (side_in x)) e)
      ∙ sym (instance_append 0 (parts_of os) (part_of symbols s o) (side_in x))

-- a signature that holds the rules' entries
module _ (sigma : List Entry) (symbols : List Symbol) (good : IsSignature symbols) (rules : List Rule) (free : AreWithoutParameters rules)
    (held : (r : Rule) → Contains rules r → Holds sigma (rule_entry symbols r)) where
  -- a step at a redex is a reduction by the rule's entry
  redex_reduces : (s : Scope) (x y : Side) → RewritesBySome rules x y → IsClosedSide 0 x → IsClosedSide 0 y
      → Reduces sigma (side_in symbols s x) (side_in symbols s y)
  redex_reduces s x y (r, has, (os, fit, left, right)) c d =
      let p = fit_closed fit in
      let none = free r has in
      let us = parts_of symbols s os in
      let count : length us ≡ length (map (problem.binder_type symbols) r.binders) =
      parts_length symbols s os ∙ fit_count fit ∙ sym (length-map r.binders (problem.binder_type symbols)) in
      subst₂ (Reduces sigma)
      (sym (side_instance_is symbols s os r.left p (never_carries r.left none.0) (subst (IsClosedSide 0) (sym left) c)
      ∙ ap (instance_at 0 us) (side_anywhere symbols s r.left none.0)) ∙ ap (side_in symbols s) left)
      (sym (side_instance_is symbols s os r.right p (never_carries r.right none.1) (subst (IsClosedSide 0) (sym right) d)
      ∙ ap (instance_at 0 us) (side_anywhere symbols s r.right none.1)) ∙ ap (side_in symbols s) right)
      (Reduces.by_rule us (held r has) count (parts_closed symbols s os p))

  spine_reduces : (s : Scope) (us : Terms) (f g : Lp) → Reduces sigma f g
      → Reduces sigma (apply_terms symbols s f us) (apply_terms symbols s g us)
  spine_reduces s Terms.none f g q = q
  spine_reduces s (Terms.more u us) f g q =
      spine_reduces s us (Lp.app f (term_of symbols s u)) (Lp.app g (term_of symbols s u)) (Reduces.in_function q)

  mutual
    pub term_reduces : {t u : Term} (s : Scope) → TermStep rules t u → IsClosedTerm 0 t → IsClosedTerm 0 u
        → Reduces sigma (term_of symbols s t) (term_of symbols s u)
    term_reduces s (TermStep.here {t = t} {u = u} h) c d = redex_reduces s (Side.of_term t) (Side.of_term u) h c d
    term_reduces s (TermStep.argument {f = f} {ts = ts} h) c d =
        terms_reduce s (apply_types symbols s 0 (Lp.const (constant symbols f)) ts) h c.1 d.1

    pub terms_reduce : {us vs : Terms} (s : Scope) (f : Lp) → TermsStep rules us vs → AreClosedTerms 0 us
        → AreClosedTerms 0 vs
        → Reduces sigma (apply_terms symbols s f us) (apply_terms symbols s f vs)
    terms_reduce s f (TermsStep.first {t = t} {u = u} {us = us} h) c d =
        spine_reduces s us (Lp.app f (term_of symbols s t)) (Lp.app f (term_of symbols s u)) (Reduces.in_argument (term_reduces s h c.0 d.0))
    terms_reduce s f (TermsStep.later {t = t} h) c d = terms_reduce s (Lp.app f (term_of symbols s t)) h c.1 d.1

  binary_left : (c : Connective) (p q r : Lp) → Reduces sigma p q
      → Reduces sigma (binary_of symbols c p r) (binary_of symbols c q r)
  binary_left Connective.conjunction p q r h = Reduces.in_function (Reduces.in_argument h)
  binary_left Connective.disjunction p q r h = Reduces.in_function (Reduces.in_argument h)
  binary_left Connective.implication p q r h = Reduces.in_function (Reduces.in_argument h)
  binary_left Connective.equivalence p q r h = Reduces.in_function (Reduces.in_argument h)

  binary_right : (c : Connective) (p q r : Lp) → Reduces sigma q r
      → Reduces sigma (binary_of symbols c p q) (binary_of symbols c p r)
  binary_right Connective.conjunction p q r h = Reduces.in_argument h
  binary_right Connective.disjunction p q r h = Reduces.in_argument h
  binary_right Connective.implication p q r h = Reduces.in_argument h
  binary_right Connective.equivalence p q r h = Reduces.in_argument h

  quantified_reduces : (q : Quantifier) (a f g : Lp) → Reduces sigma f g
      → Reduces sigma (quantified_of symbols q a f) (quantified_of symbols q a g)
  quantified_reduces Quantifier.universal a f g h = Reduces.in_argument h
  quantified_reduces Quantifier.existential a f g h = Reduces.in_argument h

  quantified_types_reduces : (q : Quantifier) (f g : Lp) → Reduces sigma f g
      → Reduces sigma (quantified_types_of symbols q f) (quantified_types_of symbols q g)
  quantified_types_reduces Quantifier.universal f g h = Reduces.in_argument h
  quantified_types_reduces Quantifier.existential f g h = Reduces.in_argument h

  -- a step between well typed formulas is a reduction, in every scope that carries types
  pub form_reduces : {f g : Form} (s : Scope) → CarriesTypes symbols s → Step rules f g → WellTyped symbols f
      → WellTyped symbols g
      → Reduces sigma (form_of symbols s f) (form_of symbols s g)
  form_reduces s t (Step.here {f = f} {g = g} h) w v =
      redex_reduces s (Side.of_form f) (Side.of_form g) h (form_is_closed symbols w) (form_is_closed symbols v)
  form_reduces s t (Step.atom {p = p} {ts = ts} h) w v =
      terms_reduce s (apply_types symbols s 0 (Lp.const (constant symbols p)) ts) h (form_is_closed symbols w).1 (form_is_closed symbols v).1
  form_reduces s t (Step.equal_left h) w v =
      Reduces.in_function (Reduces.in_argument (term_reduces s h (form_is_closed symbols w).1 (form_is_closed symbols v).1))
  form_reduces s t (Step.equal_right h) w v =
      Reduces.in_argument (term_reduces s h (form_is_closed symbols w).2 (form_is_closed symbols v).2)
  form_reduces s t (Step.negation h) w v =
      Reduces.in_argument (form_reduces s t h (well_typed_negation symbols w) (well_typed_negation symbols v))
  form_reduces s t (Step.binary_left {c = c} {f = f} {g = g} {h = k} h) w v =
      binary_left c (form_of symbols s f) (form_of symbols s g) (form_of symbols s k) (form_reduces s t h (first_part symbols w) (first_part symbols v))
  form_reduces s t (Step.binary_right {c = c} {f = f} {g = g} {h = k} h) w v =
      binary_right c (form_of symbols s f) (form_of symbols s g) (form_of symbols s k) (form_reduces s t h (second_part symbols w) (second_part symbols v))
  form_reduces s t (Step.quantified {q = q} {t = r} {f = f} {g = g} n x y h) w v =
      let it = binder_type symbols w in
      let a = well_typed_at_term symbols good (Term.eps n r) w (it, refl) in
      let b = well_typed_at_term symbols good (Term.eps n r) v (it, refl) in
      quantified_reduces q (type_of symbols s 0 r) (Lp.abs (term (type_of symbols s 0 r)) (form_of symbols s f)) (Lp.abs (term (type_of symbols s 0 r)) (form_of symbols s g))
      (Reduces.in_abs_body 0
      (λ m le. subst₂ (Reduces sigma) (body_is symbols s n r m f x.1 (form_is_closed symbols a)) (body_is symbols s n r m g y.1 (form_is_closed symbols b))
      (form_reduces (Scope.of_term n r m s) (it, t) h a b)))
  form_reduces s t (Step.quantified_types {q = q} {f = f} {g = g} n x y h) w v =
      let a = well_typed_at_type symbols good (Ty.param n) w tt in
      let b = well_typed_at_type symbols good (Ty.param n) v tt in
      quantified_types_reduces q (Lp.abs types (form_of symbols s f)) (Lp.abs types (form_of symbols s g))
      (Reduces.in_abs_body 0
      (λ m le. subst₂ (Reduces sigma) (body_is_new n s symbols m f t x (form_is_closed symbols a)) (body_is_new n s symbols m g t y (form_is_closed symbols b))
      (form_reduces (Scope.of_type n m (without n s)) (without_carries symbols n s t) h a b)))

  congruent_typed : {f g : Form} → Congruent symbols rules f g → WellTyped symbols f
  congruent_typed (Congruent.same w) = w
  congruent_typed (Congruent.forward w h k) = w
  congruent_typed (Congruent.backward w h k) = w

  -- congruent formulas convert
  pub congruent_converts : {f g : Form} (s : Scope) → CarriesTypes symbols s → Congruent symbols rules f g
      → Converts sigma (form_of symbols s f) (form_of symbols s g)
  congruent_converts s t (Congruent.same w) = Converts.same
  congruent_converts s t (Congruent.forward w h k) =
      Converts.forth (form_reduces s t h w (congruent_typed k)) (congruent_converts s t k)
  congruent_converts s t (Congruent.backward w h k) =
      Converts.back (form_reduces s t h (congruent_typed k) w) (congruent_converts s t k)
