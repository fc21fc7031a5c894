-- A typed rule at parameters of its binders, and its instances as substitutions for these.
use Rattle.std.proofs.Common.{ℕ, ◌≡◌, ◌+◌, ◌<◌, ◌==◌, suc, Bool, true, false, if◌then◌else◌, inr, refl, ap, sym, ◌∙◌, subst, arith, List, [], ◌∷◌, length}
use Rattle.std.proofs.lemmas.Bool.{ne_eqb}
use Rattle.zm_logic.proofs.Inverted.{binder_type}
use Rattle.zm_logic.specs.Tree.{Ty, Term, Form, Opening, Symbol, Binder, for_all, for_all_types}
use Rattle.zm_logic.specs.Opening.{open_type, open_term, open_at}
use Rattle.zm_logic.specs.Parameter.{EachInTerm, EachIn}
use Rattle.zm_logic.specs.Index.{IsClosedType, IsClosedTerm}
use Rattle.zm_logic.specs.Typing.{IsType, HasType, WellTyped, IsSignature}
use Rattle.zm_logic.specs.Problem.{prenex}
use Rattle.zm_logic.specs.Rewriting.{Fit}
use Rattle.zm_logic.proofs.Opened.{itself}
use Rattle.zm_logic.proofs.Instance.{well_typed_at_term, well_typed_at_type, open_is_type}
use Rattle.zm_logic.proofs.Substitution.{Substitution, sub_type}
use Rattle.zm_logic.proofs.Each.{each_open, each_open_term}
use Rattle.zm_logic.proofs.Typed.{Respects, respects_type, respects_opened}
use Rattle.zm_logic.proofs.ClosedForm.{type_is_closed}
use Rattle.rule_select.proofs.Instances.{term_instance, form_instance}
use Rattle.rule_select.proofs.Beside.{Entry, Beside, same_length, type_put, AreClosedOpenings}
use Rattle.rule_select.proofs.Collected.{Meets}

-- binders with an index opened, and a prenex formula with it
abbrev pub open_binders : ℕ → Opening → List Binder → List Binder
open_binders k o [] = []
open_binders k o (Binder.of_type ∷ bs) = Binder.of_type ∷ open_binders (k + 1) o bs
open_binders k o (Binder.of_term t ∷ bs) = Binder.of_term (open_type k o t) ∷ open_binders (k + 1) o bs

pub open_prenex : (k : ℕ) (o : Opening) (bs : List Binder) (f : Form) → open_at k o (prenex bs f) ≡ prenex (open_binders k o bs) (open_at (k + length bs) o f)
open_prenex k o [] f = let e : k ≡ k + 0 = omega arith in ap (λ n. open_at n o f) e
open_prenex k o (Binder.of_type ∷ bs) f =
    let e : (k + 1) + length bs ≡ k + length (Binder.of_type ∷ bs) = omega arith in
    ap for_all_types (open_prenex (k + 1) o bs f ∙ ap (λ n. prenex (open_binders (k + 1) o bs) (open_at n o f)) e)
open_prenex k o (Binder.of_term t ∷ bs) f =
    let e : (k + 1) + length bs ≡ k + length (Binder.of_term t ∷ bs) = omega arith in
    ap (for_all (open_type k o t)) (open_prenex (k + 1) o bs f ∙ ap (λ n. prenex (open_binders (k + 1) o bs) (open_at n o f)) e)

pub fit_opened : (k : ℕ) (o : Opening) {os : List Opening} {bs : List Binder} → Fit os bs → Fit os (open_binders k o bs)
fit_opened k o Fit.none = Fit.none
fit_opened k o (Fit.a_type h f) = Fit.a_type h (fit_opened (k + 1) o f)
fit_opened k o (Fit.a_term h f) = Fit.a_term h (fit_opened (k + 1) o f)

pub fit_length : {os : List Opening} {bs : List Binder} → Fit os bs → length os ≡ length bs
fit_length Fit.none = refl
fit_length (Fit.a_type h f) = ap suc (fit_length f)
fit_length (Fit.a_term h f) = ap suc (fit_length f)

pub fit_type : {u : Ty} {os : List Opening} {bs : List Binder} → Fit (Opening.of_type u ∷ os) (Binder.of_type ∷ bs) → IsClosedType 0 u × Fit os bs
fit_type (Fit.a_type h f) = (h, f)

pub fit_term : {u : Term} {t : Ty} {os : List Opening} {bs : List Binder} → Fit (Opening.of_term u ∷ os) (Binder.of_term t ∷ bs)
    → IsClosedTerm 0 u × Fit os bs
fit_term (Fit.a_term h f) = (h, f)

pub no_term_for_type : {u : Term} {os : List Opening} {bs : List Binder} → Fit (Opening.of_term u ∷ os) (Binder.of_type ∷ bs) → ⊥
no_term_for_type h = elim h [ ]

pub no_type_for_term : {u t : Ty} {os : List Opening} {bs : List Binder} → Fit (Opening.of_type u ∷ os) (Binder.of_term t ∷ bs) → ⊥
no_type_for_term h = elim h [ ]

-- a typed prenex formula at parameters beside the parts
module _ (symbols : List Symbol) (sig : IsSignature symbols) where
  pub at_parameters : (os : List Opening) (bs : List Binder) (f : Form) → Fit os bs → WellTyped symbols (prenex bs f)
      → (es : List Opening) × Beside symbols es os × WellTyped symbols (form_instance es f)
  at_parameters [] [] f fits w = ([], Beside.none, w)
  at_parameters [] (b ∷ bs) f fits w = absurd (let e : 0 ≡ length (b ∷ bs) = fit_length fits in omega (arith, e))
  at_parameters (o ∷ os) [] f fits w = absurd (let e : length (o ∷ os) ≡ 0 = fit_length fits in omega (arith, e))
  at_parameters (Opening.of_term u ∷ os) (Binder.of_type ∷ bs) f fits w = absurd (no_term_for_type fits)
  at_parameters (Opening.of_type u ∷ os) (Binder.of_term t ∷ bs) f fits w = absurd (no_type_for_term fits)
  at_parameters (Opening.of_type u ∷ os) (Binder.of_type ∷ bs) f fits w =
      let x = fit_type fits in
      let e : Opening = Opening.of_type (Ty.param (length os)) in
      let v = subst (WellTyped symbols) (open_prenex 0 e bs f) (well_typed_at_type symbols sig (Ty.param (length os)) w tt) in
      let ih = at_parameters os (open_binders 0 e bs) (open_at (0 + length bs) e f) (fit_opened 0 e x.1) v in
      let l : 0 + length bs ≡ length ih.0 = omega (arith, fit_length x.1, same_length symbols ih.1) in
      (e ∷ ih.0, Beside.a_type x.0 ih.1, subst (λ n. WellTyped symbols (form_instance ih.0 (open_at n e f))) l ih.2)
  at_parameters (Opening.of_term u ∷ os) (Binder.of_term t ∷ bs) f fits w =
      let x = fit_term fits in
      let it = binder_type symbols w in
      let e : Opening = Opening.of_term (Term.eps (length os) t) in
      let v = subst (WellTyped symbols) (open_prenex 0 e bs f) (well_typed_at_term symbols sig (Term.eps (length os) t) w (it, refl)) in
      let ih = at_parameters os (open_binders 0 e bs) (open_at (0 + length bs) e f) (fit_opened 0 e x.1) v in
      let l : 0 + length bs ≡ length ih.0 = omega (arith, fit_length x.1, same_length symbols ih.1) in
      (e ∷ ih.0, Beside.a_term x.0 it ih.1, subst (λ n. WellTyped symbols (form_instance ih.0 (open_at n e f))) l ih.2)

-- the parameters are respected, once each part is known to have its type
module _ (symbols : List Symbol) (s : Substitution) where
  abbrev pub EachMeets : List Opening → Type 0
  EachMeets es = (i : ℕ) (o : Opening) → Entry es i o → Meets symbols s o

  pub respects_own : (n : ℕ) (t : Ty) → IsType symbols 0 t → Meets symbols s (Opening.of_term (Term.eps n t)) → EachInTerm (Respects symbols s) (Term.eps n t)
  respects_own n t it m = (
    inr (λ k o. open_is_type symbols k o t it, subst (λ x. HasType symbols (s.terms n (sub_type s.types t)) (sub_type s.types x)) (sym m.1.1) m.2),
    respects_type symbols s t,
  )

  pub respects_form_instance : {es os : List Opening} → Beside symbols es os → EachMeets es → (f : Form)
      → EachIn (Respects symbols s) f → EachIn (Respects symbols s) (form_instance es f)
  respects_form_instance Beside.none m f e = e
  respects_form_instance (Beside.a_type {es = es} {os = os} h b) m f e =
      let o : Opening = Opening.of_type (Ty.param (length os)) in
      respects_form_instance b (λ i p x. m i p (Entry.there x)) (open_at (length es) o f)
      (each_open (Respects symbols s) o tt (λ n k t. respects_opened symbols s o n k t) (λ n k t h. tt) (length es) f e)
  respects_form_instance (Beside.a_term {t = t} {es = es} {os = os} h it b) m f e =
      let o : Opening = Opening.of_term (Term.eps (length os) t) in
      respects_form_instance b (λ i p x. m i p (Entry.there x)) (open_at (length es) o f)
      (each_open (Respects symbols s) o (respects_own (length os) t it (m (length es) o Entry.here))
      (λ n k t. respects_opened symbols s o n k t) (λ n k t h. tt) (length es) f e)

  pub respects_term_instance : {es os : List Opening} → Beside symbols es os → EachMeets es → (a : Term)
      → EachInTerm (Respects symbols s) a → EachInTerm (Respects symbols s) (term_instance es a)
  respects_term_instance Beside.none m a e = e
  respects_term_instance (Beside.a_type {es = es} {os = os} h b) m a e =
      let o : Opening = Opening.of_type (Ty.param (length os)) in
      respects_term_instance b (λ i p x. m i p (Entry.there x)) (open_term (length es) o a)
      (each_open_term (Respects symbols s) o tt (λ n k t. respects_opened symbols s o n k t) (λ n k t h. tt) (length es) a e)
  respects_term_instance (Beside.a_term {t = t} {es = es} {os = os} h it b) m a e =
      let o : Opening = Opening.of_term (Term.eps (length os) t) in
      respects_term_instance b (λ i p x. m i p (Entry.there x)) (open_term (length es) o a)
      (each_open_term (Respects symbols s) o (respects_own (length os) t it (m (length es) o Entry.here))
      (λ n k t. respects_opened symbols s o n k t) (λ n k t h. tt) (length es) a e)

  -- what is put for types is a type
  pub puts_types : {es os : List Opening} → Beside symbols es os → EachMeets es → ((n : ℕ) → n < length os → s.types n ≡ type_put os n)
      → (n : ℕ) → IsType symbols 0 (type_put os n)
  puts_types Beside.none m w n = tt
  puts_types (Beside.a_term {es = es} {os = os} h it b) m w n =
      puts_types b (λ i p x. m i p (Entry.there x)) (λ k l. w k (omega arith)) n
  puts_types (Beside.a_type {u = u} {es = es} {os = os} h b) m w n =
      go (n == length os)
      (puts_types b (λ i p x. m i p (Entry.there x)) (λ k l. let e : (k == length os) ≡ false = ne_eqb k (length os) (λ x. omega arith) in w k (omega arith) ∙ rw e) n)
    where
      go : (x : Bool) → IsType symbols 0 (type_put os n) → IsType symbols 0 (if x then u else type_put os n)
      go true h =
          let first : s.types (length os) ≡ u = w (length os) (omega arith) ∙ rw (itself (length os)) in
          subst (IsType symbols 0) first (m (length es) (Opening.of_type (Ty.param (length os))) Entry.here)
      go false h = h

pub beside_closed : (symbols : List Symbol) {es os : List Opening} → Beside symbols es os → AreClosedOpenings es
beside_closed symbols Beside.none = tt
beside_closed symbols (Beside.a_type h b) = (tt, beside_closed symbols b)
beside_closed symbols (Beside.a_term {t = t} h it b) = (type_is_closed symbols t it, beside_closed symbols b)
