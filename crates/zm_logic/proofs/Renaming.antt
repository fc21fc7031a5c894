-- Steps and the congruence are kept under renamings of type parameters and epsilon terms.
use Rattle.std.proofs.Common.{ℕ, ◌≡◌, ◌==◌, Bool, true, false, if◌then◌else◌, inl, refl, ap, sym, ◌∙◌, subst, List, [], ◌∷◌, map, length}
use Rattle.std.proofs.lemmas.List.{length-map}
use Rattle.zm_logic.specs.Tree.{Ty, Tys, Term, Terms, Form, Opening, Symbol, Side, Rule, Binder}
use Rattle.zm_logic.specs.Opening.{open_type, open_term, open_at, at_term, at_type, side_instance}
use Rattle.zm_logic.specs.Parameter.{EachInTerm, EachInTerms, EachIn, Never}
use Rattle.zm_logic.specs.Index.{IsClosedType, AreClosedTypes, IsClosedTerm, AreClosedTerms}
use Rattle.zm_logic.specs.Typing.{IsType, WellTyped, IsSignature}
use Rattle.zm_logic.specs.Laws.{HasNoParameterIn, AreWithoutParameters}
use Rattle.zm_logic.specs.Rewriting.{Fit, RewritesBySome, TermStep, TermsStep, Step, Congruent}
use Rattle.zm_logic.proofs.Substitution.{Substitution, sub_type, sub_types, sub_term, sub_terms, sub, sub_opening, Closed, sub_open, sub_open_term}
use Rattle.zm_logic.proofs.Each.{some_fresh_both}
use Rattle.zm_logic.proofs.Typed.{Respects, PutsTypes, respects_type, respects_types, sub_well_typed, rename_eps, rename_param, sub_at_eps, sub_at_param, sub_free, subs_free}

-- the substitution puts parameters alone
pub record Renames (s : Substitution) : Type 0 where
  pub types : (n : ℕ) → (m : ℕ) × (s.types n ≡ Ty.param m)
  pub terms : (n : ℕ) → (m : ℕ) × ((t : Ty) → s.terms n t ≡ Term.eps m t)

pub renames_closed : (s : Substitution) → Renames s → Closed s
renames_closed s r = record {
  types = λ n k o. let e = (r.types n).1 in ap (open_type k o) e ∙ sym e;
  terms = λ n t k o. ap (open_term k o) ((r.terms n).1 t) ∙ sym ((r.terms n).1 (open_type k o t));
}

pub renames_puts : (symbols : List Symbol) (s : Substitution) → Renames s → PutsTypes symbols s
renames_puts symbols s r = λ n. subst (IsType symbols 0) (sym (r.types n).1) tt

pub renames_eps : (s : Substitution) (n m : ℕ) → Renames s → Renames (rename_eps s n m)
renames_eps s n m r = record { types = r.types; terms = λ j. go j (j == n) }
  where
    go : (j : ℕ) (b : Bool) → (i : ℕ) × ((t : Ty) → (if b then Term.eps m t else s.terms j t) ≡ Term.eps i t)
    go j true = (m, λ t. refl)
    go j false = r.terms j

pub renames_param : (s : Substitution) (n m : ℕ) → Renames s → Renames (rename_param s n m)
renames_param s n m r = record { types = λ j. go j (j == n); terms = r.terms }
  where
    go : (j : ℕ) (b : Bool) → (i : ℕ) × ((if b then Ty.param m else s.types j) ≡ Ty.param i)
    go j true = (m, refl)
    go j false = r.types j

-- every tree respects a renaming
module _ (symbols : List Symbol) (s : Substitution) (r : Renames s) where
  mutual
    respects_term : (a : Term) → EachInTerm (Respects symbols s) a
    respects_term (Term.bound i) = tt
    respects_term (Term.eps n t) = (inl (r.terms n), respects_type symbols s t)
    respects_term (Term.meta n t) = (tt, respects_type symbols s t)
    respects_term (Term.app f ts us) = (respects_types symbols s ts, respects_terms us)

    respects_terms : (us : Terms) → EachInTerms (Respects symbols s) us
    respects_terms Terms.none = tt
    respects_terms (Terms.more u us) = (respects_term u, respects_terms us)

  pub respects_form : (f : Form) → EachIn (Respects symbols s) f
  respects_form Form.truth = tt
  respects_form Form.falsity = tt
  respects_form (Form.atom p ts us) = (respects_types symbols s ts, respects_terms us)
  respects_form (Form.equal t a b) = (respects_type symbols s t, respects_term a, respects_term b)
  respects_form (Form.negation f) = respects_form f
  respects_form (Form.binary c f g) = (respects_form f, respects_form g)
  respects_form (Form.quantified q t f) = (respects_type symbols s t, respects_form f)
  respects_form (Form.quantified_types q f) = respects_form f

  pub respects_renamed_term : (a : Term) → EachInTerm (Respects symbols s) a
  respects_renamed_term a = respects_term a

  pub respects_renamed_terms : (us : Terms) → EachInTerms (Respects symbols s) us
  respects_renamed_terms us = respects_terms us

pub renamed_well_typed : (symbols : List Symbol) → IsSignature symbols → (s : Substitution) → Renames s → {f : Form} → WellTyped symbols f
    → WellTyped symbols (sub s f)
renamed_well_typed symbols sig s r {f} w = sub_well_typed symbols sig s (renames_puts symbols s r) (renames_closed s r) w (respects_form symbols s r f)

-- trees with no parameter stay as they are
mutual
  pub sub_free_term : (s : Substitution) (a : Term) → EachInTerm Never a → sub_term s a ≡ a
  sub_free_term s (Term.bound i) e = refl
  sub_free_term s (Term.eps n t) e = absurd e.0
  sub_free_term s (Term.meta n t) e = absurd e.0
  sub_free_term s (Term.app f ts us) e = cc (subs_free s.types ts e.0, sub_free_terms s us e.1)

  pub sub_free_terms : (s : Substitution) (us : Terms) → EachInTerms Never us → sub_terms s us ≡ us
  sub_free_terms s Terms.none e = refl
  sub_free_terms s (Terms.more u us) e = cc (sub_free_term s u e.0, sub_free_terms s us e.1)

pub sub_free_form : (s : Substitution) (f : Form) → EachIn Never f → sub s f ≡ f
sub_free_form s Form.truth e = refl
sub_free_form s Form.falsity e = refl
sub_free_form s (Form.atom p ts us) e = cc (subs_free s.types ts e.0, sub_free_terms s us e.1)
sub_free_form s (Form.equal t a b) e = cc (sub_free s.types t e.0, sub_free_term s a e.1, sub_free_term s b e.2)
sub_free_form s (Form.negation f) e = ap Form.negation (sub_free_form s f e)
sub_free_form s (Form.binary c f g) e = cc (sub_free_form s f e.0, sub_free_form s g e.1)
sub_free_form s (Form.quantified q t f) e = cc (sub_free s.types t e.0, sub_free_form s f e.1)
sub_free_form s (Form.quantified_types q f) e = ap (Form.quantified_types q) (sub_free_form s f e)

abbrev pub sub_side : Substitution → Side → Side
sub_side s (Side.of_term a) = Side.of_term (sub_term s a)
sub_side s (Side.of_form f) = Side.of_form (sub s f)

pub sub_free_side : (s : Substitution) (x : Side) → HasNoParameterIn x → sub_side s x ≡ x
sub_free_side s (Side.of_term a) e = ap Side.of_term (sub_free_term s a e)
sub_free_side s (Side.of_form f) e = ap Side.of_form (sub_free_form s f e)

pub side_instance_sub : (s : Substitution) → Closed s → (os : List Opening) (x : Side)
    → sub_side s (side_instance os x) ≡ side_instance (map (sub_opening s) os) (sub_side s x)
side_instance_sub s c [] x = refl
side_instance_sub s c (o ∷ os) (Side.of_term a) =
    side_instance_sub s c os (Side.of_term (open_term (length os) o a))
    ∙ ap (λ y. side_instance (map (sub_opening s) os) (Side.of_term y))
    (sub_open_term s c (length os) o a ∙ ap (λ k. open_term k (sub_opening s o) (sub_term s a)) (sym (length-map os (sub_opening s))))
side_instance_sub s c (o ∷ os) (Side.of_form f) =
    side_instance_sub s c os (Side.of_form (open_at (length os) o f))
    ∙ ap (λ y. side_instance (map (sub_opening s) os) (Side.of_form y))
    (sub_open s c (length os) o f ∙ ap (λ k. open_at k (sub_opening s o) (sub s f)) (sym (length-map os (sub_opening s))))

-- a renamed tree has the same loose indices
module _ (s : Substitution) (r : Renames s) where
  mutual
    closed_type_sub : (k : ℕ) (t : Ty) → IsClosedType k t → IsClosedType k (sub_type s.types t)
    closed_type_sub k (Ty.bound i) h = h
    closed_type_sub k (Ty.param n) h = subst (IsClosedType k) (sym (r.types n).1) tt
    closed_type_sub k (Ty.meta n) h = tt
    closed_type_sub k (Ty.con c ts) h = closed_types_sub k ts h

    closed_types_sub : (k : ℕ) (ts : Tys) → AreClosedTypes k ts → AreClosedTypes k (sub_types s.types ts)
    closed_types_sub k Tys.none h = tt
    closed_types_sub k (Tys.more t ts) h = (closed_type_sub k t h.0, closed_types_sub k ts h.1)

  mutual
    closed_term_sub : (k : ℕ) (a : Term) → IsClosedTerm k a → IsClosedTerm k (sub_term s a)
    closed_term_sub k (Term.bound i) h = h
    closed_term_sub k (Term.eps n t) h = subst (IsClosedTerm k) (sym ((r.terms n).1 (sub_type s.types t))) (closed_type_sub k t h)
    closed_term_sub k (Term.meta n t) h = closed_type_sub k t h
    closed_term_sub k (Term.app f ts us) h = (closed_types_sub k ts h.0, closed_terms_sub k us h.1)

    closed_terms_sub : (k : ℕ) (us : Terms) → AreClosedTerms k us → AreClosedTerms k (sub_terms s us)
    closed_terms_sub k Terms.none h = tt
    closed_terms_sub k (Terms.more u us) h = (closed_term_sub k u h.0, closed_terms_sub k us h.1)

  fit_sub : {os : List Opening} {bs : List Binder} → Fit os bs → Fit (map (sub_opening s) os) bs
  fit_sub Fit.none = Fit.none
  fit_sub (Fit.a_type {t = t} h f) = Fit.a_type (closed_type_sub 0 t h) (fit_sub f)
  fit_sub (Fit.a_term {u = u} h f) = Fit.a_term (closed_term_sub 0 u h) (fit_sub f)

module _ (rules : List Rule) (free : AreWithoutParameters rules) where
  rewrites_sub : (s : Substitution) → Renames s → (x y : Side) → RewritesBySome rules x y → RewritesBySome rules (sub_side s x) (sub_side s y)
  rewrites_sub s c x y (u, has, (os, fits, left, right)) =
      let e = renames_closed s c in
      let put = side_instance (map (sub_opening s) os) in (
        u,
        has,
        (
          map (sub_opening s) os,
          fit_sub s c fits,
          ap put (sym (sub_free_side s u.left (free u has).0)) ∙ sym (side_instance_sub s e os u.left) ∙ ap (sub_side s) left,
          ap put (sym (sub_free_side s u.right (free u has).1)) ∙ sym (side_instance_sub s e os u.right) ∙ ap (sub_side s) right,
        ),
      )

  mutual
    term_step_sub : (s : Substitution) → Renames s → {a b : Term} → TermStep rules a b → TermStep rules (sub_term s a) (sub_term s b)
    term_step_sub s c (TermStep.here {t = t} {u = u} h) = TermStep.here (rewrites_sub s c (Side.of_term t) (Side.of_term u) h)
    term_step_sub s c (TermStep.argument h) = TermStep.argument (terms_step_sub s c h)

    terms_step_sub : (s : Substitution) → Renames s → {us vs : Terms} → TermsStep rules us vs → TermsStep rules (sub_terms s us) (sub_terms s vs)
    terms_step_sub s c (TermsStep.first h) = TermsStep.first (term_step_sub s c h)
    terms_step_sub s c (TermsStep.later h) = TermsStep.later (terms_step_sub s c h)

  pub step_sub : (s : Substitution) → Renames s → {f g : Form} → Step rules f g → Step rules (sub s f) (sub s g)
  step_sub s c (Step.here {f = f} {g = g} h) = Step.here (rewrites_sub s c (Side.of_form f) (Side.of_form g) h)
  step_sub s c (Step.atom h) = Step.atom (terms_step_sub s c h)
  step_sub s c (Step.equal_left h) = Step.equal_left (term_step_sub s c h)
  step_sub s c (Step.equal_right h) = Step.equal_right (term_step_sub s c h)
  step_sub s c (Step.negation h) = Step.negation (step_sub s c h)
  step_sub s c (Step.binary_left h) = Step.binary_left (step_sub s c h)
  step_sub s c (Step.binary_right h) = Step.binary_right (step_sub s c h)
  step_sub s c (Step.quantified {q = q} {t = t} {f = f} {g = g} n x y h) =
      let m = some_fresh_both (sub s (Form.quantified q t f)) (sub s (Form.quantified q t g)) in
      let ih = step_sub (rename_eps s n m.0) (renames_eps s n m.0 c) h in
      let e : Form → Type 0 = λ z. Step rules z (sub (rename_eps s n m.0) (at_term g (Term.eps n t))) in
      Step.quantified m.0 m.1 m.2 (subst (Step rules (at_term (sub s f) (Term.eps m.0 (sub_type s.types t)))) (sub_at_eps s (renames_closed s c) n m.0 t g y.1) (subst e (sub_at_eps s (renames_closed s c) n m.0 t f x.1) ih))
  step_sub s c (Step.quantified_types {q = q} {f = f} {g = g} n x y h) =
      let m = some_fresh_both (sub s f) (sub s g) in
      let ih = step_sub (rename_param s n m.0) (renames_param s n m.0 c) h in
      let e : Form → Type 0 = λ z. Step rules z (sub (rename_param s n m.0) (at_type g (Ty.param n))) in
      Step.quantified_types m.0 m.1 m.2 (subst (Step rules (at_type (sub s f) (Ty.param m.0))) (sub_at_param s (renames_closed s c) n m.0 g y) (subst e (sub_at_param s (renames_closed s c) n m.0 f x) ih))

  pub congruent_sub : (symbols : List Symbol) → IsSignature symbols → (s : Substitution) → Renames s → {f g : Form} → Congruent symbols rules f g
      → Congruent symbols rules (sub s f) (sub s g)
  congruent_sub symbols sig s r (Congruent.same w) = Congruent.same (renamed_well_typed symbols sig s r w)
  congruent_sub symbols sig s r (Congruent.forward w h k) =
      Congruent.forward (renamed_well_typed symbols sig s r w) (step_sub s r h) (congruent_sub symbols sig s r k)
  congruent_sub symbols sig s r (Congruent.backward w h k) =
      Congruent.backward (renamed_well_typed symbols sig s r w) (step_sub s r h) (congruent_sub symbols sig s r k)
