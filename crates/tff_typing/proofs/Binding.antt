-- A quantifier over a typed body is well typed: opening with the variable's parameter gives the body back.
use Rattle.std.proofs.Common.{◌≡◌, ℕ, ◌+◌, ◌<◌, ◌==◌, Bool, true, false, if◌then◌else◌, Some, List, ◌∷◌, length, refl, arith, sym, ap, ◌∙◌}
use Rattle.std.proofs.lemmas.Bool.{ne_eqb, eqb-true}
use Rattle.zm_logic.specs.Tree.{Ty, Tys, Term, Terms, Form, Symbol, Binder, Opening}
use Rattle.zm_logic.specs.Opening.{open_type, open_types, close_type, close_types, close}
use Rattle.zm_logic.specs.Parameter.{Parameter, IsNot, EachInType, EachInTypes, EachIn}
use Rattle.zm_logic.specs.Index.{IsClosedType, AreClosedTypes, IsClosedTerm, AreClosedTerms, IsClosed}
use Rattle.zm_logic.specs.Typing.{IsType, AreTypes, HasType, HaveTypes, WellTyped, argument_types}
use Rattle.zm_logic.proofs.Opened.{itself}
use Rattle.zm_logic.proofs.Each.{each, each_type}
use Rattle.tptp_reader.specs.Raw.{Quantifier}
use Rattle.tff_typing.specs.Scope.{Scope, Variable, binder_of, IsInScope}
use Rattle.tff_typing.specs.Typing.{bind}
use Rattle.tff_typing.proofs.Lookups.{binder_below}
use Rattle.tff_typing.proofs.Extends.{Extends, form_kept}
use Rattle.tff_typing.proofs.TypesTyped.{IsTypeIn}
use Rattle.tff_typing.proofs.TermsTyped.{IsBinderIn, IsScope, carried}
use Rattle.tff_typing.proofs.Rebound.{TypeRebound, TermRebound, Rebinds, form_rebound}

-- a formula over the variables in scope
pub record IsFormIn (symbols : List Symbol) (s : Scope) (f : Form) : Type 0 where
  pub typed : WellTyped symbols f
  pub each : EachIn (IsInScope s) f
  pub closed : IsClosed 0 f

pub form_in_kept : (a b : List Symbol) (s : Scope) (f : Form) → Extends a b → IsFormIn a s f → IsFormIn b s f
form_in_kept a b s f x h = record { typed = form_kept a b x h.typed; each = h.each; closed = h.closed }

-- typed trees have no loose index
module _ (symbols : List Symbol) where
  mutual
    pub type_closed : (k : ℕ) (t : Ty) → IsType symbols 0 t → IsClosedType k t
    type_closed k (Ty.bound i) h = omega arith
    type_closed k (Ty.param n) h = tt
    type_closed k (Ty.meta n) h = tt
    type_closed k (Ty.con c ts) h = types_closed k ts h.1

    pub types_closed : (k : ℕ) (ts : Tys) → AreTypes symbols 0 ts → AreClosedTypes k ts
    types_closed k Tys.none h = tt
    types_closed k (Tys.more t ts) h = (type_closed k t h.0, types_closed k ts h.1)

  mutual
    pub term_closed : (k : ℕ) (u : Term) (t : Ty) → HasType symbols u t → IsClosedTerm k u
    term_closed k (Term.bound i) t h = absurd h
    term_closed k (Term.eps n s) t h = type_closed k s h.0
    term_closed k (Term.meta n s) t h = type_closed k s h.0
    term_closed k (Term.app f ts us) t h = (types_closed k ts h.4, terms_closed k us (argument_types h.0 ts) h.5)

    pub terms_closed : (k : ℕ) (us : Terms) (ts : Tys) → HaveTypes symbols us ts → AreClosedTerms k us
    terms_closed k Terms.none Tys.none h = tt
    terms_closed k Terms.none (Tys.more s ss) h = tt
    terms_closed k (Terms.more u us) Tys.none h = absurd h
    terms_closed k (Terms.more u us) (Tys.more s ss) h = (term_closed k u s h.0, terms_closed k us ss h.1)

index_apart : (i k : ℕ) → i < k → (i == k) ≡ false
index_apart i k l = ne_eqb i k (λ e. omega arith)

mutual
  -- opening leaves a type without that index as it is, and closing one without that number
  open_closed : (k : ℕ) (o : Opening) (t : Ty) → IsClosedType k t → open_type k o t ≡ t
  open_closed k (Opening.of_type u) (Ty.bound i) h = rw (index_apart i k h)
  open_closed k (Opening.of_term u) (Ty.bound i) h = refl
  open_closed k o (Ty.param n) h = refl
  open_closed k o (Ty.meta n) h = refl
  open_closed k o (Ty.con c ts) h = ap (Ty.con c) (opens_closed k o ts h)

  opens_closed : (k : ℕ) (o : Opening) (ts : Tys) → AreClosedTypes k ts → open_types k o ts ≡ ts
  opens_closed k o Tys.none h = refl
  opens_closed k o (Tys.more t ts) h = cc (open_closed k o t h.0, opens_closed k o ts h.1)

mutual
  close_fresh : (k n : ℕ) (t : Ty) → EachInType (IsNot n) t → close_type k n t ≡ t
  close_fresh k n (Ty.bound i) h = refl
  close_fresh k n (Ty.param m) h = rw (ne_eqb m n h)
  close_fresh k n (Ty.meta m) h = refl
  close_fresh k n (Ty.con c ts) h = ap (Ty.con c) (closes_fresh k n ts h)

  closes_fresh : (k n : ℕ) (ts : Tys) → EachInTypes (IsNot n) ts → close_types k n ts ≡ ts
  closes_fresh k n Tys.none h = refl
  closes_fresh k n (Tys.more t ts) h = cc (close_fresh k n t h.0, closes_fresh k n ts h.1)

-- the next number is fresh for what is over the variables in scope
pub next_is_fresh : (s : Scope) (p : Parameter) → IsInScope s p → IsNot (length s) p
next_is_fresh s (Parameter.type_param n) h =
    λ e. let l : n < length s = binder_below s n Binder.of_type h in omega arith
next_is_fresh s (Parameter.type_meta n) h = absurd h
next_is_fresh s (Parameter.eps n t) h = λ e. let l : n < length s = binder_below s n (Binder.of_term t) h in omega arith
next_is_fresh s (Parameter.meta n t) h = absurd h

-- what is left in the body: over the scope before, with the number gone
abbrev IsLeft : Scope → Parameter → Type 0
IsLeft s p = IsInScope s p × IsNot (length s) p

left : (s : Scope) (p : Parameter) → IsInScope s p → IsLeft s p
left s p h = (h, next_is_fresh s p h)

steady : (symbols : List Symbol) (s : Scope) (o : Opening) (k m : ℕ) (t : Ty) → IsTypeIn symbols s t
    → binder_of s m ≡ Some (Binder.of_term t)
    → (m == length s) ≡ false → TermRebound (length s) o (IsLeft s) k (Term.eps m t)
steady symbols s o k m t typed h e =
    let fresh = each_type (IsInScope s) (IsNot (length s)) (next_is_fresh s) t typed.each in
    let same : close_type k (length s) t ≡ t = close_fresh k (length s) t fresh in
    let back : open_type k o t ≡ t = open_closed k o t (type_closed symbols k t typed.typed) in
    record {
      back = rw (e, same) (ap (Term.eps m) back);
      each = rw (e, same) (left s (Parameter.eps m t) h, each_type (IsInScope s) (IsLeft s) (left s) t typed.each);
      closed = rw (e, same) (type_closed symbols (k + 1) t typed.typed);
    }

other_type : (s : Scope) (o : Opening) (k m : ℕ) → binder_of s m ≡ Some Binder.of_type → (m == length s) ≡ false
    → TypeRebound (length s) o (IsLeft s) k (Ty.param m)
other_type s o k m h e = record { back = rw e; each = rw e (left s (Parameter.type_param m) h); closed = rw e tt }

of_type_of_term : (t : Ty) → Some Binder.of_type ≡ Some (Binder.of_term t) → ⊥
of_type_of_term t h = cc

of_term_same : (t u : Ty) → Some (Binder.of_term t) ≡ Some (Binder.of_term u) → t ≡ u
of_term_same t u h = cc

module _ (symbols : List Symbol) (s : Scope) (v : Variable) (ok : IsScope symbols s) where
  pub rebinds_type : v.binder ≡ Binder.of_type
      → Rebinds (length s) (Opening.of_type (Ty.param (length s))) (IsInScope (v ∷ s)) (IsLeft s)
  rebinds_type b = record {
    params = λ k m h. params k m h;
    no_type_meta = λ m h. h;
    eps = λ k m t h. eps k m t h;
    no_meta = λ m t h. h;
    type_index = λ k i l. rw (index_apart i k l);
    term_index = λ k i l. refl;
  }
    where
      params : (k m : ℕ) → binder_of (v ∷ s) m ≡ Some Binder.of_type
          → TypeRebound (length s) (Opening.of_type (Ty.param (length s))) (IsLeft s) k (Ty.param m)
      params k m h = go (m == length s) refl h
        where
          go : (q : Bool) → (m == length s) ≡ q → (if q then Some v.binder else binder_of s m) ≡ Some Binder.of_type
              → TypeRebound (length s) (Opening.of_type (Ty.param (length s))) (IsLeft s) k (Ty.param m)
          go true e h =
              let i : m ≡ length s = eqb-true m (length s) e in
              let j : (k == k) ≡ true = itself k in
              record { back = rw (e, j) (ap Ty.param (sym i)); each = rw e tt; closed = rw e (omega arith) }
          go false e h = other_type s (Opening.of_type (Ty.param (length s))) k m h e

      eps : (k m : ℕ) (t : Ty) → binder_of (v ∷ s) m ≡ Some (Binder.of_term t)
          → TermRebound (length s) (Opening.of_type (Ty.param (length s))) (IsLeft s) k (Term.eps m t)
      eps k m t h = go (m == length s) refl h
        where
          go : (q : Bool) → (m == length s) ≡ q → (if q then Some v.binder else binder_of s m) ≡ Some (Binder.of_term t)
              → TermRebound (length s) (Opening.of_type (Ty.param (length s))) (IsLeft s) k (Term.eps m t)
          go true e h = absurd (of_type_of_term t (ap Some (sym b) ∙ h))
          go false e h = steady symbols s (Opening.of_type (Ty.param (length s))) k m t (carried symbols s m t ok h) h e

  pub rebinds_term : (u : Ty) → v.binder ≡ Binder.of_term u
      → Rebinds (length s) (Opening.of_term (Term.eps (length s) u)) (IsInScope (v ∷ s)) (IsLeft s)
  rebinds_term u b = record {
    params = λ k m h. params k m h;
    no_type_meta = λ m h. h;
    eps = λ k m t h. eps k m t h;
    no_meta = λ m t h. h;
    type_index = λ k i l. refl;
    term_index = λ k i l. rw (index_apart i k l);
  }
    where
      params : (k m : ℕ) → binder_of (v ∷ s) m ≡ Some Binder.of_type
          → TypeRebound (length s) (Opening.of_term (Term.eps (length s) u)) (IsLeft s) k (Ty.param m)
      params k m h = go (m == length s) refl h
        where
          go : (q : Bool) → (m == length s) ≡ q → (if q then Some v.binder else binder_of s m) ≡ Some Binder.of_type
              → TypeRebound (length s) (Opening.of_term (Term.eps (length s) u)) (IsLeft s) k (Ty.param m)
          go true e h = absurd (of_type_of_term u (sym h ∙ ap Some b))
          go false e h = other_type s (Opening.of_term (Term.eps (length s) u)) k m h e

      eps : (k m : ℕ) (t : Ty) → binder_of (v ∷ s) m ≡ Some (Binder.of_term t)
          → TermRebound (length s) (Opening.of_term (Term.eps (length s) u)) (IsLeft s) k (Term.eps m t)
      eps k m t h = go (m == length s) refl h
        where
          go : (q : Bool) → (m == length s) ≡ q → (if q then Some v.binder else binder_of s m) ≡ Some (Binder.of_term t)
              → TermRebound (length s) (Opening.of_term (Term.eps (length s) u)) (IsLeft s) k (Term.eps m t)
          go true e h =
              let i : m ≡ length s = eqb-true m (length s) e in
              let j : (k == k) ≡ true = itself k in
              let same : u ≡ t = of_term_same u t (ap Some (sym b) ∙ h) in
              record { back = rw (e, j) (cc); each = rw e tt; closed = rw e (omega arith) }
          go false e h =
              steady symbols s (Opening.of_term (Term.eps (length s) u)) k m t (carried symbols s m t ok h) h e

pub bound_form : (symbols : List Symbol) (s : Scope) (v : Variable) (q : Quantifier) (f : Form) → IsScope symbols s
    → (b : Binder) → v.binder ≡ b
    → IsBinderIn symbols s b → IsFormIn symbols (v ∷ s) f → IsFormIn symbols s (bind q b (length s) f)
bound_form symbols s v q f ok Binder.of_type b i h =
    let n = length s in
    let o = Opening.of_type (Ty.param n) in
    let r = form_rebound n o (IsInScope (v ∷ s)) (IsLeft s) (rebinds_type symbols s v ok b) 0 f h.each h.closed in
    let e = each (IsLeft s) (IsInScope s) (λ p x. x.0) (close f n) r.each in
    let fresh = each (IsLeft s) (IsNot n) (λ p x. x.1) (close f n) r.each in
    record { typed = WellTyped.quantified_types n fresh (rw r.back h.typed); each = e; closed = r.closed }
bound_form symbols s v q f ok (Binder.of_term t) b i h =
    let n = length s in
    let o = Opening.of_term (Term.eps n t) in
    let r = form_rebound n o (IsInScope (v ∷ s)) (IsLeft s) (rebinds_term symbols s v ok t b) 0 f h.each h.closed in
    let e = each (IsLeft s) (IsInScope s) (λ p x. x.0) (close f n) r.each in
    let fresh = each (IsLeft s) (IsNot n) (λ p x. x.1) (close f n) r.each in
    record {
      typed =
          WellTyped.quantified n (each_type (IsInScope s) (IsNot n) (next_is_fresh s) t i.each, fresh) i.typed
          (rw r.back h.typed);
      each = (i.each, e);
      closed = (type_closed symbols 0 t i.typed, r.closed);
    }
