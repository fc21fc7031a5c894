-- Steps keep closed what the parameters of a well typed formula carry.
use Rattle.std.proofs.Common.{◌≡◌, ℕ, ◌+◌, ◌<◌, ◌≢◌, ◌==◌, ◌||◌, Bool, true, if◌then◌else◌, ◌⊎◌, inl, inr, refl, sym, subst, arith, List, [], ◌∷◌, length}
use Rattle.std.specs.List.{Contains}
use Rattle.std.proofs.lemmas.Bool.{ne_eqb, eqb-true, or_cases, or_left, or_right}
use Rattle.zm_logic.specs.Tree.{Ty, Tys, Term, Terms, Form, Opening, Side, Rule, Symbol}
use Rattle.zm_logic.specs.Opening.{type_at, term_at, open_type, open_types, open_term, open_terms, open_at, side_instance}
use Rattle.zm_logic.specs.Parameter.{Parameter, number, IsNot, IsFresh, EachInType, EachInTypes, EachInTerm, EachInTerms, EachIn, Never}
use Rattle.zm_logic.specs.Index.{IsClosedType, AreClosedTypes, IsClosedTerm, AreClosedTerms, IsClosed, type_has, types_have, term_has, terms_have, form_has, side_has}
use Rattle.zm_logic.specs.Typing.{WellTyped, IsSignature}
use Rattle.zm_logic.specs.Rewriting.{RewritesBySome, TermStep, TermsStep, Step}
use Rattle.zm_logic.specs.Innermost.{Innermost}
use Rattle.zm_logic.specs.Laws.{HasNoParameterIn, AreWithoutParameters}
use Rattle.zm_logic.proofs.Each.{EachInOpening, each_term, each, each_open_term, each_open, each_joined_type, each_joined_term, each_joined, Deep}
use Rattle.zm_logic.proofs.ClosedForm.{type_is_closed, form_is_closed}
use Rattle.zm_logic.proofs.Instance.{well_typed_at_term, well_typed_at_type}
use Rattle.zm_logic.proofs.Inverted.{well_typed_negation, first_part, second_part, binder_type}
use Rattle.zm_logic.proofs.Innermost.{innermost_step}
use Rattle.lp_signature.specs.Scoped.{CarriesClosed}
use Rattle.lp_signature.proofs.Trees.{open_closed_type, type_at_term, type_carries, closed_without}
use Rattle.lp_signature.proofs.Sides.{IsClosedSide, open_side, instance_step, instance_before, IsClosedPart, AreClosedParts, fit_closed, fit_count, closed_carries}

-- a fact of the parameters that carry closed types
abbrev IfClosed : (Parameter → Type 0) → Parameter → Type 0
IfClosed P p = CarriesClosed p → P p

abbrev EachSide : (Parameter → Type 0) → Side → Type 0
EachSide P (Side.of_term a) = EachInTerm P a
EachSide P (Side.of_form f) = EachIn P f

-- such a fact of an opened tree is one of the tree
module _ (P : Parameter → Type 0) (o : Opening) where
  mutual
    type_unopened : (k : ℕ) (t : Ty) → EachInType P (open_type k o t) → EachInType P t
    type_unopened k (Ty.bound i) e = tt
    type_unopened k (Ty.param n) e = e
    type_unopened k (Ty.meta n) e = e
    type_unopened k (Ty.con c ts) e = types_unopened k ts e

    types_unopened : (k : ℕ) (ts : Tys) → EachInTypes P (open_types k o ts) → EachInTypes P ts
    types_unopened k Tys.none e = tt
    types_unopened k (Tys.more t ts) e = (type_unopened k t e.0, types_unopened k ts e.1)

carried_unopened : (Q : Ty → Type 0) (o : Opening) (k : ℕ) (t : Ty)
    → (IsClosedType 0 (open_type k o t) → Q (open_type k o t)) → IsClosedType 0 t → Q t
carried_unopened Q o k t e c =
    let same : open_type k o t ≡ t = open_closed_type 0 k o t c (omega arith) in
    subst Q same (e (subst (IsClosedType 0) (sym same) c))

module _ (P : Parameter → Type 0) (o : Opening) where
  mutual
    term_unopened : (k : ℕ) (u : Term) → EachInTerm (IfClosed P) (open_term k o u) → EachInTerm (IfClosed P) u
    term_unopened k (Term.bound i) e = tt
    term_unopened k (Term.eps n t) e =
        (carried_unopened (λ x. P (Parameter.eps n x)) o k t e.0, type_unopened (IfClosed P) o k t e.1)
    term_unopened k (Term.meta n t) e =
        (carried_unopened (λ x. P (Parameter.meta n x)) o k t e.0, type_unopened (IfClosed P) o k t e.1)
    term_unopened k (Term.app f ts us) e = (types_unopened (IfClosed P) o k ts e.0, terms_unopened k us e.1)

    terms_unopened : (k : ℕ) (us : Terms) → EachInTerms (IfClosed P) (open_terms k o us) → EachInTerms (IfClosed P) us
    terms_unopened k Terms.none e = tt
    terms_unopened k (Terms.more u us) e = (term_unopened k u e.0, terms_unopened k us e.1)

  form_unopened : (k : ℕ) (f : Form) → EachIn (IfClosed P) (open_at k o f) → EachIn (IfClosed P) f
  form_unopened k Form.truth e = tt
  form_unopened k Form.falsity e = tt
  form_unopened k (Form.atom p ts us) e = (types_unopened (IfClosed P) o k ts e.0, terms_unopened k us e.1)
  form_unopened k (Form.equal t a b) e =
      (type_unopened (IfClosed P) o k t e.0, term_unopened k a e.1, term_unopened k b e.2)
  form_unopened k (Form.negation f) e = form_unopened k f e
  form_unopened k (Form.binary c f g) e = (form_unopened k f e.0, form_unopened k g e.1)
  form_unopened k (Form.quantified q t f) e = (type_unopened (IfClosed P) o k t e.0, form_unopened (k + 1) f e.1)
  form_unopened k (Form.quantified_types q f) e = form_unopened (k + 1) f e

  side_unopened : (k : ℕ) (x : Side) → EachSide (IfClosed P) (open_side k o x) → EachSide (IfClosed P) x
  side_unopened k (Side.of_term a) e = term_unopened k a e
  side_unopened k (Side.of_form f) e = form_unopened k f e

instance_unopened : (P : Parameter → Type 0) (os : List Opening) (x : Side) → EachSide (IfClosed P) (side_instance os x)
    → EachSide (IfClosed P) x
instance_unopened P [] x e = e
instance_unopened P (o ∷ os) x e =
    side_unopened P o (length os) x
    (instance_unopened P os (open_side (length os) o x) (subst (EachSide (IfClosed P)) (instance_step o os x) e))

-- where an index occurs, what it is opened with occurs in the opened tree
module _ (P : Parameter → Type 0) where
  type_at_index : (k i : ℕ) (o : Opening) → (i == k) ≡ true → IsClosedType k (type_at k o i)
      → EachInType P (type_at k o i) → EachInOpening P o
  type_at_index k i (Opening.of_type t) h c e = subst (λ b. EachInType P (if b then t else Ty.bound i)) h e
  type_at_index k i (Opening.of_term u) h c e = absurd (let same : i ≡ k = eqb-true i k h in omega arith)

  term_at_index : (k i : ℕ) (o : Opening) → (i == k) ≡ true → IsClosedTerm k (term_at k o i)
      → EachInTerm P (term_at k o i) → EachInOpening P o
  term_at_index k i (Opening.of_term u) h c e = subst (λ b. EachInTerm P (if b then u else Term.bound i)) h e
  term_at_index k i (Opening.of_type t) h c e = absurd (let same : i ≡ k = eqb-true i k h in omega arith)

  module _ (o : Opening) where
    mutual
      type_met : (k : ℕ) (t : Ty) → type_has k t ≡ true → IsClosedType k (open_type k o t)
          → EachInType P (open_type k o t) → EachInOpening P o
      type_met k (Ty.bound i) h c e = type_at_index k i o h c e
      type_met k (Ty.param n) h c e = absurd (cc)
      type_met k (Ty.meta n) h c e = absurd (cc)
      type_met k (Ty.con f ts) h c e = types_met k ts h c e

      types_met : (k : ℕ) (ts : Tys) → types_have k ts ≡ true → AreClosedTypes k (open_types k o ts)
          → EachInTypes P (open_types k o ts) → EachInOpening P o
      types_met k Tys.none h c e = absurd (cc)
      types_met k (Tys.more t ts) h c e =
          elim (or_cases (type_has k t) (types_have k ts) h) [ inl a ↦ type_met k t a c.0 e.0 | inr a ↦ types_met k ts a c.1 e.1 ]

    mutual
      term_met : (k : ℕ) (u : Term) → term_has k u ≡ true → IsClosedTerm k (open_term k o u)
          → EachInTerm P (open_term k o u) → EachInOpening P o
      term_met k (Term.bound i) h c e = term_at_index k i o h c e
      term_met k (Term.eps n t) h c e = type_met k t h c e.1
      term_met k (Term.meta n t) h c e = type_met k t h c e.1
      term_met k (Term.app f ts us) h c e =
          elim (or_cases (types_have k ts) (terms_have k us) h) [ inl a ↦ types_met k ts a c.0 e.0 | inr a ↦ terms_met k us a c.1 e.1 ]

      terms_met : (k : ℕ) (us : Terms) → terms_have k us ≡ true → AreClosedTerms k (open_terms k o us)
          → EachInTerms P (open_terms k o us) → EachInOpening P o
      terms_met k Terms.none h c e = absurd (cc)
      terms_met k (Terms.more u us) h c e =
          elim (or_cases (term_has k u) (terms_have k us) h) [ inl a ↦ term_met k u a c.0 e.0 | inr a ↦ terms_met k us a c.1 e.1 ]

    form_met : (k : ℕ) (f : Form) → form_has k f ≡ true → IsClosed k (open_at k o f) → EachIn P (open_at k o f)
        → EachInOpening P o
    form_met k Form.truth h c e = absurd (cc)
    form_met k Form.falsity h c e = absurd (cc)
    form_met k (Form.atom p ts us) h c e =
        elim (or_cases (types_have k ts) (terms_have k us) h) [ inl a ↦ types_met k ts a c.0 e.0 | inr a ↦ terms_met k us a c.1 e.1 ]
    form_met k (Form.equal t a b) h c e =
        elim (or_cases (type_has k t) (term_has k a || term_has k b) h) [
          | inl x ↦ type_met k t x c.0 e.0
          | inr x ↦ elim (or_cases (term_has k a) (term_has k b) x) [ inl y ↦ term_met k a y c.1 e.1 | inr y ↦ term_met k b y c.2 e.2 ]
        ]
    form_met k (Form.negation f) h c e = form_met k f h c e
    form_met k (Form.binary x f g) h c e =
        elim (or_cases (form_has k f) (form_has k g) h) [ inl a ↦ form_met k f a c.0 e.0 | inr a ↦ form_met k g a c.1 e.1 ]
    form_met k (Form.quantified q t f) h c e =
        elim (or_cases (type_has k t) (form_has (k + 1) f) h) [ inl a ↦ type_met k t a c.0 e.0 | inr a ↦ form_met (k + 1) f a c.1 e.1 ]
    form_met k (Form.quantified_types q f) h c e = form_met (k + 1) f h c e

    side_met : (k : ℕ) (x : Side) → side_has k x ≡ true → IsClosedSide k (open_side k o x)
        → EachSide P (open_side k o x) → EachInOpening P o
    side_met k (Side.of_term a) h c e = term_met k a h c e
    side_met k (Side.of_form f) h c e = form_met k f h c e

-- an index stays where another one is opened
either_stays : (a b c d : Bool) → (a ≡ true → c ≡ true) → (b ≡ true → d ≡ true) → (a || b) ≡ true → (c || d) ≡ true
either_stays a b c d f g h = elim (or_cases a b h) [ inl x ↦ or_left c d (f x) | inr x ↦ or_right c d (g x) ]

type_index_stays : (i k j : ℕ) (o : Opening) → i ≢ k → (j == i) ≡ true → type_has i (type_at k o j) ≡ true
type_index_stays i k j (Opening.of_term u) n h = h
type_index_stays i k j (Opening.of_type t) n h =
    rw (ne_eqb j k (λ e. let same : j ≡ i = eqb-true j i h in n (omega (arith, same, e)))) h

term_index_stays : (i k j : ℕ) (o : Opening) → i ≢ k → (j == i) ≡ true → term_has i (term_at k o j) ≡ true
term_index_stays i k j (Opening.of_type t) n h = h
term_index_stays i k j (Opening.of_term u) n h =
    rw (ne_eqb j k (λ e. let same : j ≡ i = eqb-true j i h in n (omega (arith, same, e)))) h

module _ (o : Opening) where
  mutual
    type_stays : (i k : ℕ) (t : Ty) → i ≢ k → type_has i t ≡ true → type_has i (open_type k o t) ≡ true
    type_stays i k (Ty.bound j) n h = type_index_stays i k j o n h
    type_stays i k (Ty.param m) n h = h
    type_stays i k (Ty.meta m) n h = h
    type_stays i k (Ty.con c ts) n h = types_stay i k ts n h

    types_stay : (i k : ℕ) (ts : Tys) → i ≢ k → types_have i ts ≡ true → types_have i (open_types k o ts) ≡ true
    types_stay i k Tys.none n h = h
    types_stay i k (Tys.more t ts) n h =
        either_stays (type_has i t) (types_have i ts) (type_has i (open_type k o t)) (types_have i (open_types k o ts)) (type_stays i k t n) (types_stay i k ts n) h

  mutual
    term_stays : (i k : ℕ) (u : Term) → i ≢ k → term_has i u ≡ true → term_has i (open_term k o u) ≡ true
    term_stays i k (Term.bound j) n h = term_index_stays i k j o n h
    term_stays i k (Term.eps m t) n h = type_stays i k t n h
    term_stays i k (Term.meta m t) n h = type_stays i k t n h
    term_stays i k (Term.app f ts us) n h =
        either_stays (types_have i ts) (terms_have i us) (types_have i (open_types k o ts)) (terms_have i (open_terms k o us)) (types_stay i k ts n) (terms_stay i k us n) h

    terms_stay : (i k : ℕ) (us : Terms) → i ≢ k → terms_have i us ≡ true → terms_have i (open_terms k o us) ≡ true
    terms_stay i k Terms.none n h = h
    terms_stay i k (Terms.more u us) n h =
        either_stays (term_has i u) (terms_have i us) (term_has i (open_term k o u)) (terms_have i (open_terms k o us)) (term_stays i k u n) (terms_stay i k us n) h

  form_stays : (i k : ℕ) (f : Form) → i ≢ k → form_has i f ≡ true → form_has i (open_at k o f) ≡ true
  form_stays i k Form.truth n h = h
  form_stays i k Form.falsity n h = h
  form_stays i k (Form.atom p ts us) n h =
      either_stays (types_have i ts) (terms_have i us) (types_have i (open_types k o ts)) (terms_have i (open_terms k o us)) (types_stay i k ts n) (terms_stay i k us n) h
  form_stays i k (Form.equal t a b) n h =
      either_stays (type_has i t) (term_has i a || term_has i b) (type_has i (open_type k o t)) (term_has i (open_term k o a) || term_has i (open_term k o b)) (type_stays i k t n)
      (either_stays (term_has i a) (term_has i b) (term_has i (open_term k o a)) (term_has i (open_term k o b)) (term_stays i k a n) (term_stays i k b n)) h
  form_stays i k (Form.negation f) n h = form_stays i k f n h
  form_stays i k (Form.binary x f g) n h =
      either_stays (form_has i f) (form_has i g) (form_has i (open_at k o f)) (form_has i (open_at k o g)) (form_stays i k f n) (form_stays i k g n) h
  form_stays i k (Form.quantified q t f) n h =
      either_stays (type_has i t) (form_has (i + 1) f) (type_has i (open_type k o t)) (form_has (i + 1) (open_at (k + 1) o f)) (type_stays i k t n)
      (form_stays (i + 1) (k + 1) f (λ e. n (omega (arith, e)))) h
  form_stays i k (Form.quantified_types q f) n h = form_stays (i + 1) (k + 1) f (λ e. n (omega (arith, e))) h

  side_stays : (i k : ℕ) (x : Side) → i ≢ k → side_has i x ≡ true → side_has i (open_side k o x) ≡ true
  side_stays i k (Side.of_term a) n h = term_stays i k a n h
  side_stays i k (Side.of_form f) n h = form_stays i k f n h

-- a fact of each parameter of the parts
abbrev EachInParts : (Parameter → Type 0) → List Opening → Type 0
EachInParts P [] = Unit {0}
EachInParts P (o ∷ os) = EachInOpening P o × EachInParts P os

module _ (P : Parameter → Type 0) where
  closed_meets : (p : Parameter) → CarriesClosed p → Deep (IfClosed P) p → P p
  closed_meets (Parameter.type_param n) c d = d c
  closed_meets (Parameter.type_meta n) c d = d c
  closed_meets (Parameter.eps n t) c d = d.0 c
  closed_meets (Parameter.meta n t) c d = d.0 c

  part_meets : (o : Opening) → IsClosedPart o → EachInOpening (IfClosed P) o → EachInOpening P o
  part_meets (Opening.of_type t) c e = each_joined_type CarriesClosed (IfClosed P) P closed_meets t (type_carries t) e
  part_meets (Opening.of_term u) c e =
      each_joined_term CarriesClosed (IfClosed P) P closed_meets u (closed_carries u c) e

  -- a fact of an instance of a side in which each binder occurs is one of the parts
  parts_meet : (os : List Opening) (x : Side) → ((i : ℕ) → i < length os → side_has i x ≡ true)
      → IsClosedSide 0 (side_instance os x) → AreClosedParts os
      → EachSide (IfClosed P) (side_instance os x) → EachInParts P os
  parts_meet [] x b c p e = tt
  parts_meet (o ∷ os) x b c p e =
      let k : ℕ = length os in
      let y : Side = open_side k o x in
      let d : IsClosedSide 0 (side_instance os y) = subst (IsClosedSide 0) (instance_step o os x) c in
      let h : EachSide (IfClosed P) (side_instance os y) = subst (EachSide (IfClosed P)) (instance_step o os x) e in (
        part_meets o p.0 (side_met (IfClosed P) o k x (b k (omega arith)) (instance_before os y d) (instance_unopened P os y h)),
        parts_meet os y (λ i l. side_stays o i k x (λ q. omega (arith, q)) (b i (omega arith))) d p.1 h,
      )

-- facts of parameters that carry closed types
module _ (P : Parameter → Type 0) (closed : (p : Parameter) → P p → CarriesClosed p) where
  eps_opened : (o : Opening) (n k : ℕ) (t : Ty) → P (Parameter.eps n t) → P (Parameter.eps n (open_type k o t))
  eps_opened o n k t h =
      subst (λ x. P (Parameter.eps n x)) (sym (open_closed_type 0 k o t (closed (Parameter.eps n t) h) (omega arith))) h

  meta_opened : (o : Opening) (n k : ℕ) (t : Ty) → P (Parameter.meta n t) → P (Parameter.meta n (open_type k o t))
  meta_opened o n k t h =
      subst (λ x. P (Parameter.meta n x)) (sym (open_closed_type 0 k o t (closed (Parameter.meta n t) h) (omega arith))) h

  side_meets : (o : Opening) (k : ℕ) (x : Side) → EachInOpening P o → EachSide P x → EachSide P (open_side k o x)
  side_meets o k (Side.of_term a) h e =
      each_open_term P o h (λ n j t. eps_opened o n j t) (λ n j t. meta_opened o n j t) k a e
  side_meets o k (Side.of_form f) h e =
      each_open P o h (λ n j t. eps_opened o n j t) (λ n j t. meta_opened o n j t) k f e

  -- an instance meets what its side and its parts meet
  instance_meets : (os : List Opening) (x : Side) → EachInParts P os → EachSide P x → EachSide P (side_instance os x)
  instance_meets [] x h e = e
  instance_meets (o ∷ os) x h e =
      subst (EachSide P) (sym (instance_step o os x)) (instance_meets os (open_side (length os) o x) h.1 (side_meets o (length os) x h.0 e))

-- entering a binder with a new number: its own parameter, or one that carries nothing of the number
abbrev CarriesNot : ℕ → Parameter → Type 0
CarriesNot n (Parameter.type_param m) = Unit {0}
CarriesNot n (Parameter.type_meta m) = Unit {0}
CarriesNot n (Parameter.eps m t) = EachInType (IsNot n) t
CarriesNot n (Parameter.meta m t) = EachInType (IsNot n) t

abbrev Entered : (Parameter → Type 0) → ℕ → Parameter → Type 0
Entered P n p = ((number p ≡ n) × CarriesClosed p) ⊎ (P p × CarriesNot n p)

module _ (P : Parameter → Type 0) (closed : (p : Parameter) → P p → CarriesClosed p) (n : ℕ) where
  entered_closed : (p : Parameter) → Entered P n p → CarriesClosed p
  entered_closed p (inl h) = h.1
  entered_closed p (inr h) = closed p h.0

  entering : (p : Parameter) → P p → Deep (IsNot n) p → Entered P n p
  entering (Parameter.type_param m) h d = inr (h, tt)
  entering (Parameter.type_meta m) h d = inr (h, tt)
  entering (Parameter.eps m t) h d = inr (h, d.1)
  entering (Parameter.meta m t) h d = inr (h, d.1)

  opened_enters : (o : Opening) → EachInOpening (Entered P n) o → (f : Form) → EachIn P f → IsFresh n f
      → EachIn (Entered P n) (open_at 0 o f)
  opened_enters o h f e fresh =
      each_open (Entered P n) o h (λ m k t. eps_opened (Entered P n) entered_closed o m k t) (λ m k t. meta_opened (Entered P n) entered_closed o m k t) 0 f
      (each_joined P (IsNot n) (Entered P n) entering f e fresh)

  returned : (p : Parameter) → IsNot n p → Entered P n p → P p × CarriesNot n p
  returned p f (inl h) = absurd (f h.0)
  returned p f (inr h) = h

  -- and leaving it again
  module _ (o : Opening) (back : (k : ℕ) (t : Ty) → IsClosedType 0 (open_type k o t) → EachInType (IsNot n) (open_type k o t) → open_type k o t ≡ t) where
    mutual
      type_returns : (k : ℕ) (t : Ty) → EachInType (Entered P n) (open_type k o t) → EachInType (IsNot n) t
          → EachInType P t
      type_returns k (Ty.bound i) e f = tt
      type_returns k (Ty.param m) e f = (returned (Parameter.type_param m) f e).0
      type_returns k (Ty.meta m) e f = (returned (Parameter.type_meta m) f e).0
      type_returns k (Ty.con c ts) e f = types_return k ts e f

      types_return : (k : ℕ) (ts : Tys) → EachInTypes (Entered P n) (open_types k o ts) → EachInTypes (IsNot n) ts
          → EachInTypes P ts
      types_return k Tys.none e f = tt
      types_return k (Tys.more t ts) e f = (type_returns k t e.0 f.0, types_return k ts e.1 f.1)

    mutual
      term_returns : (k : ℕ) (u : Term) → EachInTerm (Entered P n) (open_term k o u) → EachInTerm (IsNot n) u
          → EachInTerm P u
      term_returns k (Term.bound i) e f = tt
      term_returns k (Term.eps m t) e f =
          let h = returned (Parameter.eps m (open_type k o t)) f.0 e.0 in
          (subst (λ x. P (Parameter.eps m x)) (back k t (closed (Parameter.eps m (open_type k o t)) h.0) h.1) h.0, type_returns k t e.1 f.1)
      term_returns k (Term.meta m t) e f =
          let h = returned (Parameter.meta m (open_type k o t)) f.0 e.0 in
          (subst (λ x. P (Parameter.meta m x)) (back k t (closed (Parameter.meta m (open_type k o t)) h.0) h.1) h.0, type_returns k t e.1 f.1)
      term_returns k (Term.app c ts us) e f = (types_return k ts e.0 f.0, terms_return k us e.1 f.1)

      terms_return : (k : ℕ) (us : Terms) → EachInTerms (Entered P n) (open_terms k o us) → EachInTerms (IsNot n) us
          → EachInTerms P us
      terms_return k Terms.none e f = tt
      terms_return k (Terms.more u us) e f = (term_returns k u e.0 f.0, terms_return k us e.1 f.1)

    form_returns : (k : ℕ) (g : Form) → EachIn (Entered P n) (open_at k o g) → IsFresh n g → EachIn P g
    form_returns k Form.truth e f = tt
    form_returns k Form.falsity e f = tt
    form_returns k (Form.atom p ts us) e f = (types_return k ts e.0 f.0, terms_return k us e.1 f.1)
    form_returns k (Form.equal t a b) e f =
        (type_returns k t e.0 f.0, term_returns k a e.1 f.1, term_returns k b e.2 f.2)
    form_returns k (Form.negation g) e f = form_returns k g e f
    form_returns k (Form.binary c g h) e f = (form_returns k g e.0 f.0, form_returns k h e.1 f.1)
    form_returns k (Form.quantified q t g) e f = (type_returns k t e.0 f.0, form_returns (k + 1) g e.1 f.1)
    form_returns k (Form.quantified_types q g) e f = form_returns (k + 1) g e f

-- rules without parameters, in whose left sides each binder occurs
module _ (symbols : List Symbol) (good : IsSignature symbols) (rules : List Rule) (free : AreWithoutParameters rules)
    (bound : (r : Rule) → Contains rules r → (i : ℕ) → i < length r.binders → side_has i r.left ≡ true) where
  if_closed : (P : Parameter → Type 0) (x : Side) → EachSide P x → EachSide (IfClosed P) x
  if_closed P (Side.of_term a) e = each_term P (IfClosed P) (λ p h c. h) a e
  if_closed P (Side.of_form f) e = each P (IfClosed P) (λ p h c. h) f e

  never_meets : (P : Parameter → Type 0) (x : Side) → HasNoParameterIn x → EachSide P x
  never_meets P (Side.of_term a) e = each_term Never P (λ p h. absurd h) a e
  never_meets P (Side.of_form f) e = each Never P (λ p h. absurd h) f e

  redex_meets : (P : Parameter → Type 0) → ((p : Parameter) → P p → CarriesClosed p) → (x y : Side)
      → RewritesBySome rules x y → IsClosedSide 0 x
      → EachSide P x → EachSide P y
  redex_meets P closed x y (r, has, (os, fit, left, right)) c e =
      let count : length os ≡ length r.binders = fit_count fit in
      let met : EachInParts P os =
      parts_meet P os r.left (λ i l. bound r has i (omega arith)) (subst (IsClosedSide 0) (sym left) c) (fit_closed fit)
      (subst (EachSide (IfClosed P)) (sym left) (if_closed P x e)) in
      subst (EachSide P) right (instance_meets P closed os r.right met (never_meets P r.right (free r has).1))

  mutual
    term_step_meets : {a b : Term} (P : Parameter → Type 0) → ((p : Parameter) → P p → CarriesClosed p)
        → TermStep rules a b → IsClosedTerm 0 a
        → EachInTerm P a → EachInTerm P b
    term_step_meets P closed (TermStep.here {t = a} {u = b} h) c e =
        redex_meets P closed (Side.of_term a) (Side.of_term b) h c e
    term_step_meets P closed (TermStep.argument h) c e = (e.0, terms_step_meets P closed h c.1 e.1)

    terms_step_meets : {us vs : Terms} (P : Parameter → Type 0) → ((p : Parameter) → P p → CarriesClosed p)
        → TermsStep rules us vs → AreClosedTerms 0 us
        → EachInTerms P us → EachInTerms P vs
    terms_step_meets P closed (TermsStep.first h) c e = (term_step_meets P closed h c.0 e.0, e.1)
    terms_step_meets P closed (TermsStep.later h) c e = (e.0, terms_step_meets P closed h c.1 e.1)

  -- a step from a well typed formula keeps each fact of its parameters by which what they carry is closed
  step_meets : {f g : Form} (P : Parameter → Type 0) → ((p : Parameter) → P p → CarriesClosed p) → Step rules f g
      → WellTyped symbols f → EachIn P f → EachIn P g
  step_meets P closed (Step.here {f = f} {g = g} h) w e =
      redex_meets P closed (Side.of_form f) (Side.of_form g) h (form_is_closed symbols w) e
  step_meets P closed (Step.atom h) w e = (e.0, terms_step_meets P closed h (form_is_closed symbols w).1 e.1)
  step_meets P closed (Step.equal_left h) w e = (e.0, term_step_meets P closed h (form_is_closed symbols w).1 e.1, e.2)
  step_meets P closed (Step.equal_right h) w e = (e.0, e.1, term_step_meets P closed h (form_is_closed symbols w).2 e.2)
  step_meets P closed (Step.negation h) w e = step_meets P closed h (well_typed_negation symbols w) e
  step_meets P closed (Step.binary_left h) w e = (step_meets P closed h (first_part symbols w) e.0, e.1)
  step_meets P closed (Step.binary_right h) w e = (e.0, step_meets P closed h (second_part symbols w) e.1)
  step_meets P closed (Step.quantified {q = q} {t = t} {f = f} {g = g} n x y h) w e =
      let it = binder_type symbols w in
      let o : Opening = Opening.of_term (Term.eps n t) in
      let own : EachInOpening (Entered P n) o = (inl (refl, type_is_closed symbols t it), each_joined_type P (IsNot n) (Entered P n) (entering P closed n) t e.0 x.0) in
      let v = step_meets (Entered P n) (entered_closed P closed n) h (well_typed_at_term symbols good (Term.eps n t) w (it, refl)) (opened_enters P closed n o own f e.1 x.1) in
      (e.0, form_returns P closed n o (λ k r c a. type_at_term k (Term.eps n t) r) 0 g v y.1)
  step_meets P closed (Step.quantified_types {q = q} {f = f} {g = g} n x y h) w e =
      let o : Opening = Opening.of_type (Ty.param n) in
      let own : EachInOpening (Entered P n) o = inl (refl, tt) in
      let v = step_meets (Entered P n) (entered_closed P closed n) h (well_typed_at_type symbols good (Ty.param n) w tt) (opened_enters P closed n o own f e x) in
      form_returns P closed n o (λ k r c a. open_closed_type 0 k o r (closed_without k n r c a) (omega arith)) 0 g v y

  -- so steps keep closed what parameters carry, and normal forms do
  pub step_carries : {f g : Form} → Step rules f g → WellTyped symbols f → EachIn CarriesClosed f
      → EachIn CarriesClosed g
  step_carries h w e = step_meets CarriesClosed (λ p c. c) h w e

  pub normal_carries : ((f g : Form) → Step rules f g → WellTyped symbols f → WellTyped symbols g)
      → {f g : Form} {n : ℕ} → Innermost rules f n g
      → WellTyped symbols f → EachIn CarriesClosed f → EachIn CarriesClosed g
  normal_carries keep (Innermost.done h) w e = e
  normal_carries keep (Innermost.step {f = f} {g = g} h k) w e =
      let s = innermost_step rules h in normal_carries keep k (keep f g s w) (step_carries s w e)
