-- Sides of rules and the parts of their instances: loose indices, and what parameters carry.
use Rattle.std.proofs.Common.{◌≡◌, ℕ, ◌+◌, ◌<◌, ◌==◌, suc, Bool, true, false, if◌then◌else◌, refl, ap, sym, subst, arith, List, [], ◌∷◌, length}
use Rattle.std.proofs.lemmas.Bool.Decides.{Decides-eqb}
use Rattle.zm_logic.specs.Tree.{Ty, Tys, Term, Terms, Form, Opening, Binder, Side}
use Rattle.zm_logic.specs.Opening.{type_at, term_at, open_type, open_types, open_term, open_terms, open_at, side_instance}
use Rattle.zm_logic.specs.Parameter.{EachInTerm, EachInTerms, EachIn, Never}
use Rattle.zm_logic.specs.Index.{IsClosedType, AreClosedTypes, IsClosedTerm, AreClosedTerms, IsClosed}
use Rattle.zm_logic.specs.Rewriting.{Fit}
use Rattle.zm_logic.specs.Laws.{HasNoParameterIn}
use Rattle.zm_logic.proofs.Each.{EachInOpening, each_term, each, each_open_term, each_open}
use Rattle.lp_signature.specs.Scoped.{CarriesClosed}
use Rattle.lp_signature.proofs.Trees.{open_closed_type, type_carries, types_carry}

-- what is closed once an index is opened was closed but for that index
type_before : (k : ℕ) (o : Opening) (i : ℕ) → IsClosedType k (type_at k o i) → i < k + 1
type_before k (Opening.of_term u) i h = omega arith
type_before k (Opening.of_type t) i h = go (i == k) refl h
  where
    go : (b : Bool) → (i == k) ≡ b → IsClosedType k (if b then t else Ty.bound i) → i < k + 1
    go true e h = let x : i ≡ k = (Decides-eqb i k).0 e in omega arith
    go false e h = omega arith

term_before : (k : ℕ) (o : Opening) (i : ℕ) → IsClosedTerm k (term_at k o i) → i < k + 1
term_before k (Opening.of_type t) i h = omega arith
term_before k (Opening.of_term u) i h = go (i == k) refl h
  where
    go : (b : Bool) → (i == k) ≡ b → IsClosedTerm k (if b then u else Term.bound i) → i < k + 1
    go true e h = let x : i ≡ k = (Decides-eqb i k).0 e in omega arith
    go false e h = omega arith

module _ (o : Opening) where
  mutual
    closed_type_before : (k : ℕ) (t : Ty) → IsClosedType k (open_type k o t) → IsClosedType (k + 1) t
    closed_type_before k (Ty.bound i) h = type_before k o i h
    closed_type_before k (Ty.param n) h = tt
    closed_type_before k (Ty.meta n) h = tt
    closed_type_before k (Ty.con c ts) h = closed_types_before k ts h

    closed_types_before : (k : ℕ) (ts : Tys) → AreClosedTypes k (open_types k o ts) → AreClosedTypes (k + 1) ts
    closed_types_before k Tys.none h = tt
    closed_types_before k (Tys.more t ts) h = (closed_type_before k t h.0, closed_types_before k ts h.1)

  mutual
    closed_term_before : (k : ℕ) (a : Term) → IsClosedTerm k (open_term k o a) → IsClosedTerm (k + 1) a
    closed_term_before k (Term.bound i) h = term_before k o i h
    closed_term_before k (Term.eps n t) h = closed_type_before k t h
    closed_term_before k (Term.meta n t) h = closed_type_before k t h
    closed_term_before k (Term.app f ts us) h = (closed_types_before k ts h.0, closed_terms_before k us h.1)

    closed_terms_before : (k : ℕ) (us : Terms) → AreClosedTerms k (open_terms k o us) → AreClosedTerms (k + 1) us
    closed_terms_before k Terms.none h = tt
    closed_terms_before k (Terms.more u us) h = (closed_term_before k u h.0, closed_terms_before k us h.1)

  closed_before : (k : ℕ) (f : Form) → IsClosed k (open_at k o f) → IsClosed (k + 1) f
  closed_before k Form.truth h = tt
  closed_before k Form.falsity h = tt
  closed_before k (Form.atom p ts us) h = (closed_types_before k ts h.0, closed_terms_before k us h.1)
  closed_before k (Form.equal t a b) h =
      (closed_type_before k t h.0, closed_term_before k a h.1, closed_term_before k b h.2)
  closed_before k (Form.negation f) h = closed_before k f h
  closed_before k (Form.binary c f g) h = (closed_before k f h.0, closed_before k g h.1)
  closed_before k (Form.quantified q t f) h = (closed_type_before k t h.0, closed_before (k + 1) f h.1)
  closed_before k (Form.quantified_types q f) h = closed_before (k + 1) f h

-- sides of rules: without loose indices, and with what their parameters carry closed
abbrev pub IsClosedSide : ℕ → Side → Type 0
IsClosedSide k (Side.of_term a) = IsClosedTerm k a
IsClosedSide k (Side.of_form f) = IsClosed k f

abbrev pub SideCarries : Side → Type 0
SideCarries (Side.of_term a) = EachInTerm CarriesClosed a
SideCarries (Side.of_form f) = EachIn CarriesClosed f

abbrev pub open_side : ℕ → Opening → Side → Side
open_side k o (Side.of_term a) = Side.of_term (open_term k o a)
open_side k o (Side.of_form f) = Side.of_form (open_at k o f)

pub instance_step : (o : Opening) (os : List Opening) (x : Side)
    → side_instance (o ∷ os) x ≡ side_instance os (open_side (length os) o x)
instance_step o os (Side.of_term a) = refl
instance_step o os (Side.of_form f) = refl

pub closed_side_before : (k : ℕ) (o : Opening) (x : Side) → IsClosedSide k (open_side k o x) → IsClosedSide (k + 1) x
closed_side_before k o (Side.of_term a) h = closed_term_before o k a h
closed_side_before k o (Side.of_form f) h = closed_before o k f h

pub instance_before : (os : List Opening) (x : Side) → IsClosedSide 0 (side_instance os x) → IsClosedSide (length os) x
instance_before [] x h = h
instance_before (o ∷ os) x h =
    let e : length os + 1 ≡ length (o ∷ os) = omega arith in
    subst (λ (k : ℕ). IsClosedSide k x) e
    (closed_side_before (length os) o x (instance_before os (open_side (length os) o x) (subst (IsClosedSide 0) (instance_step o os x) h)))

-- parts without loose indices
abbrev pub IsClosedPart : Opening → Type 0
IsClosedPart (Opening.of_type t) = IsClosedType 0 t
IsClosedPart (Opening.of_term u) = IsClosedTerm 0 u

abbrev pub AreClosedParts : List Opening → Type 0
AreClosedParts [] = Unit {0}
AreClosedParts (o ∷ os) = IsClosedPart o × AreClosedParts os

pub fit_closed : {os : List Opening} {bs : List Binder} → Fit os bs → AreClosedParts os
fit_closed Fit.none = tt
fit_closed (Fit.a_type h f) = (h, fit_closed f)
fit_closed (Fit.a_term h f) = (h, fit_closed f)

pub fit_count : {os : List Opening} {bs : List Binder} → Fit os bs → length os ≡ length bs
fit_count Fit.none = refl
fit_count (Fit.a_type h f) = ap suc (fit_count f)
fit_count (Fit.a_term h f) = ap suc (fit_count f)

mutual
  pub closed_carries : (u : Term) → IsClosedTerm 0 u → EachInTerm CarriesClosed u
  closed_carries (Term.bound i) h = tt
  closed_carries (Term.eps n t) h = (h, type_carries t)
  closed_carries (Term.meta n t) h = (h, type_carries t)
  closed_carries (Term.app f ts us) h = (types_carry ts, closed_carry us h.1)

  closed_carry : (us : Terms) → AreClosedTerms 0 us → EachInTerms CarriesClosed us
  closed_carry Terms.none h = tt
  closed_carry (Terms.more u us) h = (closed_carries u h.0, closed_carry us h.1)

pub part_carries : (o : Opening) → IsClosedPart o → EachInOpening CarriesClosed o
part_carries (Opening.of_type t) h = type_carries t
part_carries (Opening.of_term u) h = closed_carries u h

-- opening with a closed part keeps what is carried closed
pub stays_closed : (o : Opening) (k : ℕ) (t : Ty) → IsClosedType 0 t → IsClosedType 0 (open_type k o t)
stays_closed o k t h = subst (IsClosedType 0) (sym (open_closed_type 0 k o t h (omega arith))) h

pub form_carries_opened : (o : Opening) → EachInOpening CarriesClosed o → (k : ℕ) (f : Form) → EachIn CarriesClosed f
    → EachIn CarriesClosed (open_at k o f)
form_carries_opened o h k f c =
    each_open CarriesClosed o h (λ n j t. stays_closed o j t) (λ n j t. stays_closed o j t) k f c

pub side_carries_opened : (o : Opening) → IsClosedPart o → (k : ℕ) (x : Side) → SideCarries x
    → SideCarries (open_side k o x)
side_carries_opened o h k (Side.of_term a) c =
    each_open_term CarriesClosed o (part_carries o h) (λ n j t. stays_closed o j t) (λ n j t. stays_closed o j t) k a c
side_carries_opened o h k (Side.of_form f) c = form_carries_opened o (part_carries o h) k f c

pub never_carries : (x : Side) → HasNoParameterIn x → SideCarries x
never_carries (Side.of_term a) h = each_term Never CarriesClosed (λ p z. absurd z) a h
never_carries (Side.of_form f) h = each Never CarriesClosed (λ p z. absurd z) f h
