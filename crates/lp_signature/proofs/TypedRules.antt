-- The entry of a well typed rule is well formed.
use Rattle.std.proofs.Common.{◌≡◌, ℕ, ◌+◌, zero, suc, true, codes, refl, ap, ap₂, sym, ◌∙◌, subst, arith, Some, List, [], ◌∷◌, ◌++◌, length, map}
use Rattle.std.specs.List.{Contains}
use Rattle.std.proofs.lemmas.Bool.{eq-eqb, or_left, or_right}
use Rattle.lp_terms.specs.Term.{Lp, opened, HasNoFree}
use Rattle.lp_terms.specs.Term as lp
use Rattle.lp_terms.specs.Signature.{Entry, Holds, Extends, HaveNoFree}
use Rattle.lp_terms.specs.Signature as sig
use Rattle.lp_terms.specs.Reduction.{instance_at}
use Rattle.lp_terms.specs.Typing.{Context, Class, Has}
use Rattle.lp_terms.specs.WellFormed.{IsWellFormedEntry, IsWellFormedAfter, HaveType, IsByDef, rule_context, rule_variables, head}
use Rattle.lp_terms.specs.WellFormed as wf
use Rattle.zm_logic.specs.Tree.{Ty, Tys, Term, Terms, Form, Connective, Quantifier, Opening, Symbol, Sense, Rule, Side, Binder, iff, for_all, for_all_types}
use Rattle.zm_logic.specs.Opening.{open_type, open_at, at_term, at_type}
use Rattle.zm_logic.specs.Parameter.{IsFresh}
use Rattle.zm_logic.specs.Typing.{IsType, HasType, WellTyped, IsSignature, nth, symbol_at, individuals}
use Rattle.zm_logic.specs.Problem.{prenex, IsTypedSides}
use Rattle.zm_logic.proofs.ClosedForm.{form_is_closed}
use Rattle.zm_logic.proofs.Inverted.{well_typed_atom}
use Rattle.rule_select.specs.Sound.{IsPattern, IsSound}
use Rattle.lp_signature.specs.Prelude.{prop, types, term, prelude, forall_of, forall_type_of, eq_of, eq_entry}
use Rattle.lp_signature.specs.Names.{symbol_name, name_of, constant}
use Rattle.lp_signature.specs.Translation.{Scope, type_of, apply_types, term_of, apply_terms, form_of, symbol_type}
use Rattle.lp_signature.specs.Problem.{is_head, heads, symbol_entries, binder_type, side_of, rule_entry}
use Rattle.lp_signature.specs.Scoped.{Declared, Fits}
use Rattle.lp_signature.proofs.Logic as logic
use Rattle.lp_signature.proofs.Scopes.{without, without_avoids}
use Rattle.lp_signature.proofs.Readings.{body_is, body_is_new}
use Rattle.lp_signature.proofs.TypedTrees.{symbols_hold, type_fits, term_typed, form_typed, fits_term, fits_type, fits_without, fits_none}
use Rattle.lp_signature.proofs.TypedEntries.{declared_by, entry_held, extends_more}

-- with no scope, translations hold no free variable
module _ (symbols : List Symbol) (x : ℕ) where
  mutual
    type_fresh : (under : ℕ) (t : Ty) → lp.IsFresh x (type_of symbols Scope.none under t)
    type_fresh under (Ty.bound i) = lp.IsFresh.index
    type_fresh under (Ty.param n) = lp.IsFresh.const
    type_fresh under (Ty.meta n) = lp.IsFresh.const
    type_fresh under (Ty.con c ts) = types_fresh under (Lp.const (constant symbols c)) ts lp.IsFresh.const

    types_fresh : (under : ℕ) (f : Lp) (ts : Tys) → lp.IsFresh x f
        → lp.IsFresh x (apply_types symbols Scope.none under f ts)
    types_fresh under f Tys.none h = h
    types_fresh under f (Tys.more t ts) h =
        types_fresh under (Lp.app f (type_of symbols Scope.none under t)) ts (lp.IsFresh.app h (type_fresh under t))

  mutual
    term_fresh : (u : Term) → lp.IsFresh x (term_of symbols Scope.none u)
    term_fresh (Term.bound i) = lp.IsFresh.index
    term_fresh (Term.eps n t) = lp.IsFresh.app lp.IsFresh.const (type_fresh 0 t)
    term_fresh (Term.meta n t) = lp.IsFresh.app lp.IsFresh.const (type_fresh 0 t)
    term_fresh (Term.app f ts us) =
        terms_fresh (apply_types symbols Scope.none 0 (Lp.const (constant symbols f)) ts) us (types_fresh 0 (Lp.const (constant symbols f)) ts lp.IsFresh.const)

    terms_fresh : (f : Lp) (us : Terms) → lp.IsFresh x f → lp.IsFresh x (apply_terms symbols Scope.none f us)
    terms_fresh f Terms.none h = h
    terms_fresh f (Terms.more u us) h =
        terms_fresh (Lp.app f (term_of symbols Scope.none u)) us (lp.IsFresh.app h (term_fresh u))

  two : {f p q : Lp} → lp.IsFresh x f → lp.IsFresh x p → lp.IsFresh x q → lp.IsFresh x (Lp.app (Lp.app f p) q)
  two h p q = lp.IsFresh.app (lp.IsFresh.app h p) q

  form_fresh : (f : Form) → lp.IsFresh x (form_of symbols Scope.none f)
  form_fresh Form.truth = lp.IsFresh.const
  form_fresh Form.falsity = lp.IsFresh.const
  form_fresh (Form.atom p ts us) =
      terms_fresh (apply_types symbols Scope.none 0 (Lp.const (constant symbols p)) ts) us (types_fresh 0 (Lp.const (constant symbols p)) ts lp.IsFresh.const)
  form_fresh (Form.equal t a b) = two (lp.IsFresh.app lp.IsFresh.const (type_fresh 0 t)) (term_fresh a) (term_fresh b)
  form_fresh (Form.negation f) = lp.IsFresh.app lp.IsFresh.const (form_fresh f)
  form_fresh (Form.binary Connective.conjunction f g) = two lp.IsFresh.const (form_fresh f) (form_fresh g)
  form_fresh (Form.binary Connective.disjunction f g) = two lp.IsFresh.const (form_fresh f) (form_fresh g)
  form_fresh (Form.binary Connective.implication f g) = two lp.IsFresh.const (form_fresh f) (form_fresh g)
  form_fresh (Form.binary Connective.equivalence f g) = two lp.IsFresh.const (form_fresh f) (form_fresh g)
  form_fresh (Form.quantified Quantifier.universal t f) =
      two lp.IsFresh.const (type_fresh 0 t) (lp.IsFresh.abs (lp.IsFresh.app lp.IsFresh.const (type_fresh 0 t)) (form_fresh f))
  form_fresh (Form.quantified Quantifier.existential t f) =
      two lp.IsFresh.const (type_fresh 0 t) (lp.IsFresh.abs (lp.IsFresh.app lp.IsFresh.const (type_fresh 0 t)) (form_fresh f))
  form_fresh (Form.quantified_types Quantifier.universal f) =
      lp.IsFresh.app lp.IsFresh.const (lp.IsFresh.abs lp.IsFresh.const (form_fresh f))
  form_fresh (Form.quantified_types Quantifier.existential f) =
      lp.IsFresh.app lp.IsFresh.const (lp.IsFresh.abs lp.IsFresh.const (form_fresh f))

module _ (symbols : List Symbol) where
  side_no_free : (s : Side) → HasNoFree (side_of symbols s)
  side_no_free (Side.of_term u) x = term_fresh symbols x u
  side_no_free (Side.of_form f) x = form_fresh symbols x f

  binder_no_free : (b : Binder) → HasNoFree (binder_type symbols b)
  binder_no_free Binder.of_type x = lp.IsFresh.const
  binder_no_free (Binder.of_term t) x = lp.IsFresh.app lp.IsFresh.const (type_fresh symbols x 0 t)

  binders_no_free : (bs : List Binder) → HaveNoFree (map (binder_type symbols) bs)
  binders_no_free [] = tt
  binders_no_free (b ∷ bs) = (binder_no_free b, binders_no_free bs)

  -- what an application of a symbol is an application of
  head_types : (f : Lp) (ts : Tys) → head (apply_types symbols Scope.none 0 f ts) ≡ head f
  head_types f Tys.none = refl
  head_types f (Tys.more t ts) = head_types (Lp.app f (type_of symbols Scope.none 0 t)) ts

  head_terms : (f : Lp) (us : Terms) → head (apply_terms symbols Scope.none f us) ≡ head f
  head_terms f Terms.none = refl
  head_terms f (Terms.more u us) = head_terms (Lp.app f (term_of symbols Scope.none u)) us

  head_symbol : (c : ℕ) (ts : Tys) (us : Terms)
      → head (apply_terms symbols Scope.none (apply_types symbols Scope.none 0 (Lp.const (constant symbols c)) ts) us) ≡ Lp.const (constant symbols c)
  head_symbol c ts us =
      head_terms (apply_types symbols Scope.none 0 (Lp.const (constant symbols c)) ts) us ∙ head_types (Lp.const (constant symbols c)) ts

-- what an instance does to applications, abstractions and constants
instance_app : (k : ℕ) (us : List Lp) (f a : Lp)
    → instance_at k us (Lp.app f a) ≡ Lp.app (instance_at k us f) (instance_at k us a)
instance_app k [] f a = refl
instance_app k (u ∷ us) f a = ap (lp.open_at k u) (instance_app (suc k) us f a)

instance_const : (k : ℕ) (us : List Lp) (c : List ℕ) → instance_at k us (Lp.const c) ≡ Lp.const c
instance_const k [] c = refl
instance_const k (u ∷ us) c = ap (lp.open_at k u) (instance_const (suc k) us c)

instance_abs : (k : ℕ) (us : List Lp) (a b : Lp)
    → instance_at k us (Lp.abs a b) ≡ Lp.abs (instance_at k us a) (instance_at (suc k) us b)
instance_abs k [] a b = refl
instance_abs k (u ∷ us) a b = ap (lp.open_at k u) (instance_abs (suc k) us a b)

instance_term : (us : List Lp) (a : Lp) → instance_at 0 us (term a) ≡ term (instance_at 0 us a)
instance_term us a =
    instance_app 0 us (Lp.const (codes "term")) a
    ∙ ap (λ f. Lp.app f (instance_at 0 us a)) (instance_const 0 us (codes "term"))

instance_forall : (us : List Lp) (a b : Lp)
    → instance_at 0 us (forall_of a (Lp.abs (term a) b)) ≡ forall_of (instance_at 0 us a) (Lp.abs (instance_at 0 us (term a)) (instance_at 1 us b))
instance_forall us a b =
    instance_app 0 us (Lp.app (Lp.const (codes "forall")) a) (Lp.abs (term a) b)
    ∙ ap₂ Lp.app (instance_app 0 us (Lp.const (codes "forall")) a ∙ ap (λ f. Lp.app f (instance_at 0 us a)) (instance_const 0 us (codes "forall"))) (instance_abs 0 us (term a) b)

instance_forall_type : (us : List Lp) (b : Lp)
    → instance_at 0 us (forall_type_of (Lp.abs types b)) ≡ forall_type_of (Lp.abs (instance_at 0 us types) (instance_at 1 us b))
instance_forall_type us b =
    instance_app 0 us (Lp.const (codes "forall_type")) (Lp.abs types b)
    ∙ ap₂ Lp.app (instance_const 0 us (codes "forall_type")) (instance_abs 0 us types b)

instance_two : (us : List Lp) (c : List ℕ) (p q : Lp)
    → instance_at 0 us (Lp.app (Lp.app (Lp.const c) p) q) ≡ Lp.app (Lp.app (Lp.const c) (instance_at 0 us p)) (instance_at 0 us q)
instance_two us c p q =
    instance_app 0 us (Lp.app (Lp.const c) p) q
    ∙ ap (λ f. Lp.app f (instance_at 0 us q)) (instance_app 0 us (Lp.const c) p ∙ ap (λ f. Lp.app f (instance_at 0 us p)) (instance_const 0 us c))

instance_eq : (us : List Lp) (t a b : Lp)
    → instance_at 0 us (eq_of t a b) ≡ eq_of (instance_at 0 us t) (instance_at 0 us a) (instance_at 0 us b)
instance_eq us t a b =
    instance_app 0 us (Lp.app (Lp.app (Lp.const (codes "eq")) t) a) b ∙ ap (λ f. Lp.app f (instance_at 0 us b)) (instance_two us (codes "eq") t a)

-- parts of equal terms
function_part : {f g a b : Lp} → Lp.app f a ≡ Lp.app g b → f ≡ g
function_part e = cc

argument_part : {f g a b : Lp} → Lp.app f a ≡ Lp.app g b → a ≡ b
argument_part e = cc

body_part : {a b f g : Lp} → Lp.abs a f ≡ Lp.abs b g → f ≡ g
body_part e = cc

not_both : {f a : Lp} {b : List ℕ} → Lp.app f a ≡ Lp.const b → ⊥
not_both e = absurd (cc)

-- binders of a prenex formula once it is opened
abbrev open_binders : ℕ → Opening → List Binder → List Binder
open_binders k o [] = []
open_binders k o (Binder.of_type ∷ bs) = Binder.of_type ∷ open_binders (k + 1) o bs
open_binders k o (Binder.of_term t ∷ bs) = Binder.of_term (open_type k o t) ∷ open_binders (k + 1) o bs

open_prenex : (k : ℕ) (o : Opening) (bs : List Binder) (f : Form)
    → open_at k o (prenex bs f) ≡ prenex (open_binders k o bs) (open_at (k + length bs) o f)
open_prenex k o [] f = let e : k ≡ k + 0 = omega arith in ap (λ j. open_at j o f) e
open_prenex k o (Binder.of_type ∷ bs) f =
    let e : (k + 1) + length bs ≡ k + length (Binder.of_type ∷ bs) = omega arith in
    ap for_all_types (open_prenex (k + 1) o bs f ∙ ap (λ j. prenex (open_binders (k + 1) o bs) (open_at j o f)) e)
open_prenex k o (Binder.of_term t ∷ bs) f =
    let e : (k + 1) + length bs ≡ k + length (Binder.of_term t ∷ bs) = omega arith in
    ap (for_all (open_type k o t)) (open_prenex (k + 1) o bs f ∙ ap (λ j. prenex (open_binders (k + 1) o bs) (open_at j o f)) e)

length_opened : (k : ℕ) (o : Opening) (bs : List Binder) → length (open_binders k o bs) ≡ length bs
length_opened k o [] = refl
length_opened k o (Binder.of_type ∷ bs) = ap suc (length_opened (k + 1) o bs)
length_opened k o (Binder.of_term t ∷ bs) = ap suc (length_opened (k + 1) o bs)

-- two formulas that rules can be read from, with one head on the left
data Like : Form → Form → Type 0 where
  terms : {c : ℕ} {ts us : Tys} {xs ys : Terms} {b d : Term} {t u : Ty}
      → Like (Form.equal t (Term.app c ts xs) b) (Form.equal u (Term.app c us ys) d)
  atoms : {c : ℕ} {ts us : Tys} {xs ys : Terms} {g h : Form}
      → Like (iff (Form.atom c ts xs) g) (iff (Form.atom c us ys) h)
  equalities : {t u : Ty} {a b c d : Term} {g h : Form} → Like (iff (Form.equal t a b) g) (iff (Form.equal u c d) h)

like_opened : (k : ℕ) (o : Opening) {f g : Form} → Like f g → Like f (open_at k o g)
like_opened k o Like.terms = Like.terms
like_opened k o Like.atoms = Like.atoms
like_opened k o Like.equalities = Like.equalities

-- the sides that such a formula is read as, and the head of the left one
abbrev left_of : Form → Side
left_of (Form.equal t a b) = Side.of_term a
left_of (Form.binary c f g) = Side.of_form f
left_of f = Side.of_form f

abbrev right_of : Form → Side
right_of (Form.equal t a b) = Side.of_term b
right_of (Form.binary c f g) = Side.of_form g
right_of f = Side.of_form f

module _ (symbols : List Symbol) where
  -- the head is a declared symbol or equality
  abbrev HasHead : Side → Type 0
  HasHead (Side.of_term (Term.app c ts us)) = (m : ℕ) × (d : Symbol) × (c ≡ suc m) × (nth symbols m ≡ Some d)
  HasHead (Side.of_form (Form.atom c ts us)) = (m : ℕ) × (d : Symbol) × (c ≡ suc m) × (nth symbols m ≡ Some d)
  HasHead (Side.of_form (Form.equal t a b)) = Unit {0}
  HasHead _ = ⊥

  number_of : (c : ℕ) (d : Symbol) → symbol_at symbols c ≡ Some d → (d.sense ≡ Sense.constructor → ⊥)
      → (m : ℕ) × (d : Symbol) × (c ≡ suc m) × (nth symbols m ≡ Some d)
  number_of zero d e h =
      absurd (h (let same : individuals ≡ d = cc in subst (λ x. x.sense ≡ Sense.constructor) same refl))
  number_of (suc m) d e h = (m, d, refl, e)

  under_term : {q : Quantifier} {t : Ty} {f : Form} → WellTyped symbols (Form.quantified q t f)
      → (n : ℕ) × IsFresh n (Form.quantified q t f) × IsType symbols 0 t × WellTyped symbols (at_term f (Term.eps n t))
  under_term (WellTyped.quantified n fresh it h) = (n, fresh, it, h)

  under_type : {q : Quantifier} {f : Form} → WellTyped symbols (Form.quantified_types q f)
      → (n : ℕ) × IsFresh n (Form.quantified_types q f) × WellTyped symbols (at_type f (Ty.param n))
  under_type (WellTyped.quantified_types n fresh h) = (n, fresh, h)

module _ (sigma : List Entry) (holds : Extends prelude sigma) (symbols : List Symbol) (good : IsSignature symbols) (declared : Declared sigma symbols symbols) where
  -- both sides have one type, once the variables are put for the binders
  abbrev SidesTyped : Form → Context → List Lp → Type 0
  SidesTyped f g us =
      (common : Lp) × Has sigma g (instance_at 0 us (side_of symbols (left_of f))) (Class.of common)
      × Has sigma g (instance_at 0 us (side_of symbols (right_of f))) (Class.of common) × HasHead symbols (left_of f)

  sides_typed : {f h : Form} (us : List Lp) (g : Context) (s : Scope) → Like f h → Fits sigma symbols g s
      → WellTyped symbols h
      → form_of symbols s h ≡ instance_at 0 us (form_of symbols Scope.none f) → SidesTyped f g us
  sides_typed us g s (Like.terms {c = c} {ts = ts} {us = vs} {xs = xs} {ys = ys} {b = b} {d = d} {t = t} {u = u}) fits w e =
      let v = equality_parts w in
      let x = e ∙ instance_eq us (type_of symbols Scope.none 0 t) (term_of symbols Scope.none (Term.app c ts xs)) (term_of symbols Scope.none b) in
      let left : term_of symbols s (Term.app c vs ys) ≡ instance_at 0 us (term_of symbols Scope.none (Term.app c ts xs)) = argument_part (function_part x) in
      let right : term_of symbols s d ≡ instance_at 0 us (term_of symbols Scope.none b) = argument_part x in (
        term (type_of symbols s 0 u),
        subst (λ z. Has sigma g z (Class.of (term (type_of symbols s 0 u)))) left (term_typed sigma holds symbols good declared g s fits (Term.app c vs ys) u v.0),
        subst (λ z. Has sigma g z (Class.of (term (type_of symbols s 0 u)))) right (term_typed sigma holds symbols good declared g s fits d u v.1),
        number_of symbols c v.0.0 v.0.2.0 (λ k. let z : Sense.constructor ≡ Sense.function v.0.1 = sym k ∙ v.0.3 in absurd (cc)),
      )
    where
      equality_parts : {u : Ty} {a b : Term} → WellTyped symbols (Form.equal u a b)
          → HasType symbols a u × HasType symbols b u
      equality_parts (WellTyped.equal it h k) = (h, k)
  sides_typed us g s (Like.atoms {c = c} {ts = ts} {us = vs} {xs = xs} {ys = ys} {g = p} {h = q}) fits w e =
      let v = equivalence_parts w in
      let x = e ∙ instance_two us (codes "iff") (form_of symbols Scope.none (Form.atom c ts xs)) (form_of symbols Scope.none p) in
      let left : form_of symbols s (Form.atom c vs ys) ≡ instance_at 0 us (form_of symbols Scope.none (Form.atom c ts xs)) = argument_part (function_part x) in
      let right : form_of symbols s q ≡ instance_at 0 us (form_of symbols Scope.none p) = argument_part x in
      let a = well_typed_atom symbols v.0 in (
        prop,
        subst (λ z. Has sigma g z (Class.of prop)) left (form_typed sigma holds symbols good declared g s fits v.0),
        subst (λ z. Has sigma g z (Class.of prop)) right (form_typed sigma holds symbols good declared g s fits v.1),
        number_of symbols c a.0 a.1.0 (λ k. let z : Sense.constructor ≡ Sense.predicate = sym k ∙ a.2 in absurd (cc)),
      )
    where
      equivalence_parts : {c : Connective} {f g : Form} → WellTyped symbols (Form.binary c f g)
          → WellTyped symbols f × WellTyped symbols g
      equivalence_parts (WellTyped.binary h k) = (h, k)
  sides_typed us g s (Like.equalities {t = t} {u = u} {a = a} {b = b} {c = c} {d = d} {g = p} {h = q}) fits w e =
      let v = equivalence_parts w in
      let x = e ∙ instance_two us (codes "iff") (form_of symbols Scope.none (Form.equal t a b)) (form_of symbols Scope.none p) in
      let left : form_of symbols s (Form.equal u c d) ≡ instance_at 0 us (form_of symbols Scope.none (Form.equal t a b)) = argument_part (function_part x) in
      let right : form_of symbols s q ≡ instance_at 0 us (form_of symbols Scope.none p) = argument_part x in (
        prop,
        subst (λ z. Has sigma g z (Class.of prop)) left (form_typed sigma holds symbols good declared g s fits v.0),
        subst (λ z. Has sigma g z (Class.of prop)) right (form_typed sigma holds symbols good declared g s fits v.1),
        tt,
      )
    where
      equivalence_parts : {c : Connective} {f g : Form} → WellTyped symbols (Form.binary c f g)
          → WellTyped symbols f × WellTyped symbols g
      equivalence_parts (WellTyped.binary h k) = (h, k)

  -- the context of a rule, from the variables so far, and its sides in it
  abbrev RuleTyped : List Binder → Form → ℕ → List Lp → Context → Type 0
  RuleTyped bs f k us g =
      HaveType sigma (map (binder_type symbols) bs) k us g
      × SidesTyped f (rule_context (map (binder_type symbols) bs) k us g) (rule_variables (map (binder_type symbols) bs) k us)

  -- one binder more, whose type is read as a
  binder_typed : (b : Binder) (bs : List Binder) (f : Form) (k : ℕ) (us : List Lp) (g : Context) (a : Lp)
      → a ≡ instance_at 0 us (binder_type symbols b)
      → Has sigma g a (Class.of Lp.sort) → RuleTyped bs f (suc k) (Lp.free k ∷ us) (Context.bind k a g)
      → RuleTyped (b ∷ bs) f k us g
  binder_typed b bs f k us g a e h r =
      let x = subst (λ z. RuleTyped bs f (suc k) (Lp.free k ∷ us) (Context.bind k z g)) e r in
      ((subst (λ z. Has sigma g z (Class.of Lp.sort)) e h, x.0), x.1)

  rule_typed : (bs cs : List Binder) (f h : Form) (k : ℕ) (us : List Lp) (g : Context) (s : Scope)
      → length cs ≡ length bs → Like f h
      → Fits sigma symbols g s → WellTyped symbols (prenex cs h)
      → form_of symbols s (prenex cs h) ≡ instance_at 0 us (form_of symbols Scope.none (prenex bs f))
      → RuleTyped bs f k us g
  rule_typed [] [] f h k us g s n l fits w e = (tt, sides_typed us g s l fits w e)
  rule_typed [] (c ∷ cs) f h k us g s n l fits w e = absurd (omega (arith, n))
  rule_typed (b ∷ bs) [] f h k us g s n l fits w e = absurd (omega (arith, n))
  rule_typed (Binder.of_type ∷ bs) (Binder.of_term t ∷ cs) f h k us g s n l fits w e =
      absurd (not_both (function_part (e ∙ instance_forall_type us (form_of symbols Scope.none (prenex bs f)))))
  rule_typed (Binder.of_term t ∷ bs) (Binder.of_type ∷ cs) f h k us g s n l fits w e =
      absurd (not_both (function_part (sym (e ∙ instance_forall us (type_of symbols Scope.none 0 t) (form_of symbols Scope.none (prenex bs f))))))
  rule_typed (Binder.of_type ∷ bs) (Binder.of_type ∷ cs) f h k us g s n l fits w e =
      let x = under_type symbols w in
      let o : Opening = Opening.of_type (Ty.param x.0) in
      let p = e ∙ instance_forall_type us (form_of symbols Scope.none (prenex bs f)) in
      let body : form_of symbols s (prenex cs h) ≡ instance_at 1 us (form_of symbols Scope.none (prenex bs f)) = body_part (argument_part p) in
      let m : length (open_binders 0 o cs) ≡ length bs = omega (arith, n, length_opened 0 o cs) in
      binder_typed Binder.of_type bs f k us g types (sym (instance_const 0 us (codes "type"))) (logic.const_type sigma (symbols_hold sigma holds) g)
      (rule_typed bs (open_binders 0 o cs) f (open_at (0 + length cs) o h) (suc k) (Lp.free k ∷ us) (Context.bind k types g)
      (Scope.of_type x.0 k (without x.0 s)) m (like_opened (0 + length cs) o l)
      (fits_type sigma holds symbols good declared x.0 k (without_avoids x.0 s) (fits_without sigma holds symbols good declared x.0 fits))
      (subst (WellTyped symbols) (open_prenex 0 o cs h) x.2)
      (ap (form_of symbols (Scope.of_type x.0 k (without x.0 s))) (sym (open_prenex 0 o cs h))
      ∙ body_is_new x.0 s symbols k (prenex cs h) fits.carried x.1 (form_is_closed symbols x.2)
      ∙ ap (lp.open_at 0 (Lp.free k)) body))
  rule_typed (Binder.of_term t ∷ bs) (Binder.of_term u ∷ cs) f h k us g s n l fits w e =
      let x = under_term symbols w in
      let o : Opening = Opening.of_term (Term.eps x.0 u) in
      let p = e ∙ instance_forall us (type_of symbols Scope.none 0 t) (form_of symbols Scope.none (prenex bs f)) in
      let type : type_of symbols s 0 u ≡ instance_at 0 us (type_of symbols Scope.none 0 t) = argument_part (function_part p) in
      let body : form_of symbols s (prenex cs h) ≡ instance_at 1 us (form_of symbols Scope.none (prenex bs f)) = body_part (argument_part p) in
      let m : length (open_binders 0 o cs) ≡ length bs = omega (arith, n, length_opened 0 o cs) in
      binder_typed (Binder.of_term t) bs f k us g (term (type_of symbols s 0 u))
      (ap term type ∙ sym (instance_term us (type_of symbols Scope.none 0 t)))
      (logic.term_type sigma (symbols_hold sigma holds) (type_fits sigma holds symbols good declared fits u x.2))
      (rule_typed bs (open_binders 0 o cs) f (open_at (0 + length cs) o h) (suc k) (Lp.free k ∷ us) (Context.bind k (term (type_of symbols s 0 u)) g)
      (Scope.of_term x.0 u k s) m (like_opened (0 + length cs) o l)
      (fits_term sigma holds symbols good declared x.0 u k x.2 fits)
      (subst (WellTyped symbols) (open_prenex 0 o cs h) x.3)
      (ap (form_of symbols (Scope.of_term x.0 u k s)) (sym (open_prenex 0 o cs h))
      ∙ body_is symbols s x.0 u k (prenex cs h) x.1.1 (form_is_closed symbols x.3)
      ∙ ap (lp.open_at 0 (Lp.free k)) body))

  -- a formula under binders, read as a rule, in the context of its binders
  whole_typed : (bs : List Binder) (f : Form) → Like f f → WellTyped symbols (prenex bs f)
      → RuleTyped bs f 0 [] Context.empty
  whole_typed bs f l w =
      rule_typed bs bs f f 0 [] Context.empty Scope.none refl l (fits_none sigma holds symbols good declared Context.empty) w refl

  sides_of : (bs : List Binder) (x y : Side) → IsTypedSides symbols bs x y → IsPattern x
      → (f : Form) × (left_of f ≡ x) × (right_of f ≡ y) × RuleTyped bs f 0 [] Context.empty
  sides_of bs (Side.of_term (Term.app c ts us)) (Side.of_term b) w p =
      let f : Form = Form.equal w.0 (Term.app c ts us) b in (f, refl, refl, whole_typed bs f Like.terms w.1)
  sides_of bs (Side.of_form (Form.atom c ts us)) (Side.of_form g) w p =
      let f : Form = iff (Form.atom c ts us) g in (f, refl, refl, whole_typed bs f Like.atoms w)
  sides_of bs (Side.of_form (Form.equal t a b)) (Side.of_form g) w p =
      let f : Form = iff (Form.equal t a b) g in (f, refl, refl, whole_typed bs f Like.equalities w)
  sides_of bs (Side.of_term (Term.app c ts us)) (Side.of_form g) w p = absurd w
  sides_of bs (Side.of_form (Form.atom c ts us)) (Side.of_term b) w p = absurd w
  sides_of bs (Side.of_form (Form.equal t a c)) (Side.of_term b) w p = absurd w
  sides_of bs _ y w p = absurd p

equality_holds : (sigma : List Entry) → Extends prelude sigma → Holds sigma eq_entry
equality_holds sigma holds =
    symbols_hold sigma holds _ (sig.Holds.later (sig.Holds.later (sig.Holds.later (sig.Holds.later (sig.Holds.later (sig.Holds.later (sig.Holds.later (sig.Holds.later (sig.Holds.later (sig.Holds.later (sig.Holds.later (sig.Holds.later (sig.Holds.later (sig.Holds.later (sig.Holds.later (sig.Holds.later (sig.Holds.first)))))))))))))))))

-- a rule's head is the head of some rule
heads_of : (rules : List Rule) (r : Rule) (n : ℕ) → Contains rules r → is_head n r.left ≡ true → heads rules n ≡ true
heads_of [] r n (i, l, e) h = absurd (omega arith)
heads_of (q ∷ rules) r n (zero, l, e) h =
    or_left (is_head n q.left) (heads rules n) (subst (λ x. is_head n x.left ≡ true) (sym e) h)
heads_of (q ∷ rules) r n (suc k, l, e) h =
    or_right (is_head n q.left) (heads rules n) (heads_of rules r n (k, omega arith, e) h)

module _ (symbols : List Symbol) (good : IsSignature symbols) (rules : List Rule) where
  module _ (sigma : List Entry) (holds : Extends prelude sigma) (held : Extends (symbol_entries symbols rules 1 symbols) sigma) where
    -- the constant of a symbol that heads a rule is declared by def
    symbol_by_def : (c m : ℕ) (d : Symbol) → c ≡ suc m → nth symbols m ≡ Some d → heads rules c ≡ true
        → IsByDef sigma (constant symbols c)
    symbol_by_def c m d e k h =
        let number : 1 + m ≡ c = omega (arith, e) in
        let entry : Holds sigma (Entry.declare (symbol_name d) (heads rules (1 + m)) (symbol_type symbols d)) = held _ (entry_held symbols good rules 1 symbols m d k) in
        let defined : Holds sigma (Entry.declare (symbol_name d) true (symbol_type symbols d)) =
        subst (λ b. Holds sigma (Entry.declare (symbol_name d) b (symbol_type symbols d))) (ap (heads rules) number ∙ h) entry in
        let name : constant symbols c ≡ symbol_name d = ap (constant symbols) e ∙ ap name_of k in
        subst (IsByDef sigma) (sym name) (wf.IsByDef.declared defined)

    -- what the left side of a rule is an application of
    head_by_def : (r : Rule) → Contains rules r → (x : Side) → x ≡ r.left → HasHead symbols x
        → (name : List ℕ) × (head (side_of symbols x) ≡ Lp.const name) × IsByDef sigma name
    head_by_def r has (Side.of_term (Term.app c ts us)) e h = (
      constant symbols c,
      head_symbol symbols c ts us,
      symbol_by_def c h.0 h.1 h.2 h.3 (heads_of rules r c has (subst (λ y. is_head c y ≡ true) e (eq-eqb c c refl))),
    )
    head_by_def r has (Side.of_form (Form.atom c ts us)) e h = (
      constant symbols c,
      head_symbol symbols c ts us,
      symbol_by_def c h.0 h.1 h.2 h.3 (heads_of rules r c has (subst (λ y. is_head c y ≡ true) e (eq-eqb c c refl))),
    )
    head_by_def r has (Side.of_form (Form.equal t a b)) e h =
        (codes "eq", refl, wf.IsByDef.declared (equality_holds sigma holds))
    head_by_def r has _ e h = absurd h

    pub rule_is_well_formed : (r : Rule) → Contains rules r → IsSound symbols r
        → IsWellFormedEntry sigma (rule_entry symbols r)
    rule_is_well_formed r has sound =
        let x = sides_of sigma holds symbols good (declared_by symbols good rules sigma holds held) r.binders r.left r.right sound.typed sound.pattern in
        let context : List Lp = map (binder_type symbols) r.binders in
        let y = x.3.1 in
        let n = head_by_def r has (left_of x.0) x.1 y.3 in
        wf.IsWellFormedEntry.rule n.0 y.0 (binders_no_free symbols r.binders) (side_no_free symbols r.left) (side_no_free symbols r.right) x.3.0
        (subst (λ z. head (side_of symbols z) ≡ Lp.const n.0) x.1 n.1) n.2
        (subst (λ z. Has sigma (rule_context context 0 [] Context.empty) (instance_at 0 (rule_variables context 0 []) (side_of symbols z)) (Class.of y.0)) x.1 y.1)
        (subst (λ z. Has sigma (rule_context context 0 [] Context.empty) (instance_at 0 (rule_variables context 0 []) (side_of symbols z)) (Class.of y.0)) x.2 y.2)

  -- the entries of rules
  pub rules_after : (rs : List Rule) (sigma : List Entry) → Extends prelude sigma
      → Extends (symbol_entries symbols rules 1 symbols) sigma
      → ((r : Rule) → Contains rs r → Contains rules r) → ((r : Rule) → Contains rules r → IsSound symbols r)
      → IsWellFormedAfter sigma (map (rule_entry symbols) rs)
  rules_after [] sigma holds held among sound = tt
  rules_after (r ∷ rs) sigma holds held among sound =
      let has : Contains rules r = among r (zero, omega arith, refl) in (
        rule_is_well_formed sigma holds held r has (sound r has),
        rules_after rs (sigma ++ (rule_entry symbols r ∷ [])) (extends_more sigma _ holds) (extends_more sigma _ held)
            (λ q (k, l, e). among q (suc k, omega arith, e)) sound,
      )
