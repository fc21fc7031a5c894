-- A well typed formula has no loose index.
use Rattle.std.proofs.Common.{ℕ, ◌≡◌, ◌+◌, ◌<◌, ◌==◌, Bool, true, false, if◌then◌else◌, refl, arith, List}
use Rattle.std.proofs.lemmas.Bool.Decides.{Decides-eqb}
use Rattle.zm_logic.specs.Tree.{Ty, Tys, Term, Terms, Form, Opening, Symbol}
use Rattle.zm_logic.specs.Opening.{type_at, term_at, open_type, open_types, open_term, open_terms, open_at}
use Rattle.zm_logic.specs.Index.{IsClosedType, AreClosedTypes, IsClosedTerm, AreClosedTerms, IsClosed}
use Rattle.zm_logic.specs.Laws as laws
use Rattle.zm_logic.specs.Typing.{IsType, AreTypes, HasType, HaveTypes, WellTyped, argument_types}

-- a type over no type variables has no loose index
mutual
  pub type_is_closed : (symbols : List Symbol) (t : Ty) → IsType symbols 0 t → IsClosedType 0 t
  type_is_closed symbols (Ty.bound i) h = h
  type_is_closed symbols (Ty.param n) h = tt
  type_is_closed symbols (Ty.meta n) h = tt
  type_is_closed symbols (Ty.con c ts) h = types_are_closed symbols ts h.1

  pub types_are_closed : (symbols : List Symbol) (ts : Tys) → AreTypes symbols 0 ts → AreClosedTypes 0 ts
  types_are_closed symbols Tys.none h = tt
  types_are_closed symbols (Tys.more t ts) h = (type_is_closed symbols t h.0, types_are_closed symbols ts h.1)

type_before : (k : ℕ) (o : Opening) (i : ℕ) → IsClosedType k (type_at k o i) → i < k + 1
type_before k (Opening.of_term u) i h = omega arith
type_before k (Opening.of_type t) i h = go (i == k) refl h
  where
    go : (b : Bool) → (i == k) ≡ b → IsClosedType k (if b then t else Ty.bound i) → i < k + 1
    go true e h = let x : i ≡ k = (Decides-eqb i k).0 e in omega arith
    go false e h = omega arith

term_before : (k : ℕ) (o : Opening) (i : ℕ) → IsClosedTerm k (term_at k o i) → i < k + 1
term_before k (Opening.of_type t) i h = omega arith
term_before k (Opening.of_term u) i h = go (i == k) refl h
  where
    go : (b : Bool) → (i == k) ≡ b → IsClosedTerm k (if b then u else Term.bound i) → i < k + 1
    go true e h = let x : i ≡ k = (Decides-eqb i k).0 e in omega arith
    go false e h = omega arith

-- what is closed once an index is opened was closed but for that index
module _ (o : Opening) where
  mutual
    closed_type_before : (k : ℕ) (t : Ty) → IsClosedType k (open_type k o t) → IsClosedType (k + 1) t
    closed_type_before k (Ty.bound i) h = type_before k o i h
    closed_type_before k (Ty.param n) h = tt
    closed_type_before k (Ty.meta n) h = tt
    closed_type_before k (Ty.con c ts) h = closed_types_before k ts h

    closed_types_before : (k : ℕ) (ts : Tys) → AreClosedTypes k (open_types k o ts) → AreClosedTypes (k + 1) ts
    closed_types_before k Tys.none h = tt
    closed_types_before k (Tys.more t ts) h = (closed_type_before k t h.0, closed_types_before k ts h.1)

  mutual
    closed_term_before : (k : ℕ) (a : Term) → IsClosedTerm k (open_term k o a) → IsClosedTerm (k + 1) a
    closed_term_before k (Term.bound i) h = term_before k o i h
    closed_term_before k (Term.eps n t) h = closed_type_before k t h
    closed_term_before k (Term.meta n t) h = closed_type_before k t h
    closed_term_before k (Term.app f ts us) h = (closed_types_before k ts h.0, closed_terms_before k us h.1)

    closed_terms_before : (k : ℕ) (us : Terms) → AreClosedTerms k (open_terms k o us) → AreClosedTerms (k + 1) us
    closed_terms_before k Terms.none h = tt
    closed_terms_before k (Terms.more u us) h = (closed_term_before k u h.0, closed_terms_before k us h.1)

  closed_before : (k : ℕ) (f : Form) → IsClosed k (open_at k o f) → IsClosed (k + 1) f
  closed_before k Form.truth h = tt
  closed_before k Form.falsity h = tt
  closed_before k (Form.atom p ts us) h = (closed_types_before k ts h.0, closed_terms_before k us h.1)
  closed_before k (Form.equal t a b) h = (closed_type_before k t h.0, closed_term_before k a h.1, closed_term_before k b h.2)
  closed_before k (Form.negation f) h = closed_before k f h
  closed_before k (Form.binary c f g) h = (closed_before k f h.0, closed_before k g h.1)
  closed_before k (Form.quantified q t f) h = (closed_type_before k t h.0, closed_before (k + 1) f h.1)
  closed_before k (Form.quantified_types q f) h = closed_before (k + 1) f h

module _ (symbols : List Symbol) where
  mutual
    pub term_is_closed : (a : Term) (t : Ty) → HasType symbols a t → IsClosedTerm 0 a
    term_is_closed (Term.bound i) t h = absurd h
    term_is_closed (Term.eps n r) t h = type_is_closed symbols r h.0
    term_is_closed (Term.meta n r) t h = type_is_closed symbols r h.0
    term_is_closed (Term.app f ts us) t h = (types_are_closed symbols ts h.4, terms_are_closed us (argument_types h.0 ts) h.5)

    pub terms_are_closed : (us : Terms) (ts : Tys) → HaveTypes symbols us ts → AreClosedTerms 0 us
    terms_are_closed Terms.none ts h = tt
    terms_are_closed (Terms.more u us) Tys.none h = absurd h
    terms_are_closed (Terms.more u us) (Tys.more t ts) h = (term_is_closed u t h.0, terms_are_closed us ts h.1)

  pub form_is_closed : {f : Form} → WellTyped symbols f → IsClosed 0 f
  form_is_closed WellTyped.truth = tt
  form_is_closed WellTyped.falsity = tt
  form_is_closed (WellTyped.atom {ts = ts} {us = us} h) = (types_are_closed symbols ts h.3, terms_are_closed us (argument_types h.0 ts) h.4)
  form_is_closed (WellTyped.equal {t = t} {a = a} {b = b} it h g) = (type_is_closed symbols t it, term_is_closed a t h, term_is_closed b t g)
  form_is_closed (WellTyped.negation h) = form_is_closed h
  form_is_closed (WellTyped.binary h g) = (form_is_closed h, form_is_closed g)
  form_is_closed (WellTyped.quantified {t = t} {f = f} n fresh it h) = (type_is_closed symbols t it, closed_before (Opening.of_term (Term.eps n t)) 0 f (form_is_closed h))
  form_is_closed (WellTyped.quantified_types {f = f} n fresh h) = closed_before (Opening.of_type (Ty.param n)) 0 f (form_is_closed h)

pub forms_are_closed : laws.WellTypedFormsAreClosed
forms_are_closed symbols f w = form_is_closed symbols w
