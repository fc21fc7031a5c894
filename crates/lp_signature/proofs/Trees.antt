-- Trees of logic: what each parameter meets, what opening leaves, and the declarations of a signature.
use Rattle.std.proofs.Common.{◌≡◌, ℕ, ◌≤◌, ◌==◌, ◌||◌, if◌then◌else◌, zero, suc, Bool, true, false, refl, ap, subst, arith, Some, List, [], ◌∷◌, take}
use Rattle.std.proofs.lemmas.Bool.{ne_eqb, eqb-false}
use Rattle.zm_logic.specs.Tree.{Ty, Tys, Term, Terms, Form, Opening, Symbol, Sense}
use Rattle.zm_logic.specs.Opening.{open_type, open_types}
use Rattle.zm_logic.specs.Parameter.{Parameter, IsNot, EachInType, EachInTypes, EachInTerm, EachInTerms, EachIn}
use Rattle.zm_logic.specs.Index.{IsClosedType, AreClosedTypes}
use Rattle.zm_logic.specs.Typing.{IsType, AreTypes, HasType, HaveTypes, IsSense, IsDeclaration, IsSignature, nth, symbol_at, individuals, argument_types}
use Rattle.zm_logic.proofs.ClosedForm.{type_is_closed}
use Rattle.lp_signature.specs.Scoped.{CarriesClosed}

-- what holds of type parameters and type metavariables holds of each parameter of a type
module _ (P : Parameter → Type 0) (params : (n : ℕ) → P (Parameter.type_param n)) (metas : (n : ℕ) → P (Parameter.type_meta n)) where
  mutual
    pub all_in_type : (t : Ty) → EachInType P t
    all_in_type (Ty.bound i) = tt
    all_in_type (Ty.param n) = params n
    all_in_type (Ty.meta n) = metas n
    all_in_type (Ty.con c ts) = all_in_types ts

    pub all_in_types : (ts : Tys) → EachInTypes P ts
    all_in_types Tys.none = tt
    all_in_types (Tys.more t ts) = (all_in_type t, all_in_types ts)

-- what holds of all parameters holds of each parameter of a tree
module _ (P : Parameter → Type 0) (all : (p : Parameter) → P p) where
  in_type : (t : Ty) → EachInType P t
  in_type t = all_in_type P (λ n. all (Parameter.type_param n)) (λ n. all (Parameter.type_meta n)) t

  in_types : (ts : Tys) → EachInTypes P ts
  in_types ts = all_in_types P (λ n. all (Parameter.type_param n)) (λ n. all (Parameter.type_meta n)) ts

  mutual
    pub all_in_term : (u : Term) → EachInTerm P u
    all_in_term (Term.bound i) = tt
    all_in_term (Term.eps n t) = (all (Parameter.eps n t), in_type t)
    all_in_term (Term.meta n t) = (all (Parameter.meta n t), in_type t)
    all_in_term (Term.app f ts us) = (in_types ts, all_in_terms us)

    pub all_in_terms : (us : Terms) → EachInTerms P us
    all_in_terms Terms.none = tt
    all_in_terms (Terms.more u us) = (all_in_term u, all_in_terms us)

  pub all_in_form : (f : Form) → EachIn P f
  all_in_form Form.truth = tt
  all_in_form Form.falsity = tt
  all_in_form (Form.atom p ts us) = (in_types ts, all_in_terms us)
  all_in_form (Form.equal t a b) = (in_type t, all_in_term a, all_in_term b)
  all_in_form (Form.negation f) = all_in_form f
  all_in_form (Form.binary c f g) = (all_in_form f, all_in_form g)
  all_in_form (Form.quantified q t f) = (in_type t, all_in_form f)
  all_in_form (Form.quantified_types q f) = all_in_form f

-- opening leaves closed types, and a term leaves every type
mutual
  pub open_closed_type : (k j : ℕ) (o : Opening) (t : Ty) → IsClosedType k t → k ≤ j → open_type j o t ≡ t
  open_closed_type k j (Opening.of_type u) (Ty.bound i) h l = rw (ne_eqb i j (λ e. omega arith))
  open_closed_type k j (Opening.of_term u) (Ty.bound i) h l = refl
  open_closed_type k j o (Ty.param n) h l = refl
  open_closed_type k j o (Ty.meta n) h l = refl
  open_closed_type k j o (Ty.con c ts) h l = ap (Ty.con c) (open_closed_types k j o ts h l)

  pub open_closed_types : (k j : ℕ) (o : Opening) (ts : Tys) → AreClosedTypes k ts → k ≤ j → open_types j o ts ≡ ts
  open_closed_types k j o Tys.none h l = refl
  open_closed_types k j o (Tys.more t ts) h l = cc (open_closed_type k j o t h.0 l, open_closed_types k j o ts h.1 l)

mutual
  pub type_at_term : (k : ℕ) (u : Term) (t : Ty) → open_type k (Opening.of_term u) t ≡ t
  type_at_term k u (Ty.bound i) = refl
  type_at_term k u (Ty.param n) = refl
  type_at_term k u (Ty.meta n) = refl
  type_at_term k u (Ty.con c ts) = ap (Ty.con c) (types_at_term k u ts)

  pub types_at_term : (k : ℕ) (u : Term) (ts : Tys) → open_types k (Opening.of_term u) ts ≡ ts
  types_at_term k u Tys.none = refl
  types_at_term k u (Tys.more t ts) = cc (type_at_term k u t, types_at_term k u ts)

-- a type has no parameter that carries a type
pub type_carries : (t : Ty) → EachInType CarriesClosed t
type_carries t = all_in_type CarriesClosed (λ n. tt) (λ n. tt) t

pub types_carry : (ts : Tys) → EachInTypes CarriesClosed ts
types_carry ts = all_in_types CarriesClosed (λ n. tt) (λ n. tt) ts

-- what the parameters of well typed terms carry is closed
module _ (symbols : List Symbol) where
  mutual
    pub term_carries : (u : Term) (t : Ty) → HasType symbols u t → EachInTerm CarriesClosed u
    term_carries (Term.bound i) t h = absurd h
    term_carries (Term.eps n r) t h = (type_is_closed symbols r h.0, type_carries r)
    term_carries (Term.meta n r) t h = (type_is_closed symbols r h.0, type_carries r)
    term_carries (Term.app f ts us) t h = (types_carry ts, terms_carry us (argument_types h.0 ts) h.5)

    pub terms_carry : (us : Terms) (ts : Tys) → HaveTypes symbols us ts → EachInTerms CarriesClosed us
    terms_carry Terms.none ts h = tt
    terms_carry (Terms.more u us) Tys.none h = absurd h
    terms_carry (Terms.more u us) (Tys.more t ts) h = (term_carries u t h.0, terms_carry us ts h.1)

-- whether a parameter of the type has the number
abbrev mutual
  pub type_holds : ℕ → Ty → Bool
  type_holds n (Ty.bound i) = false
  type_holds n (Ty.param m) = m == n
  type_holds n (Ty.meta m) = m == n
  type_holds n (Ty.con c ts) = types_hold n ts

  pub types_hold : ℕ → Tys → Bool
  types_hold n Tys.none = false
  types_hold n (Tys.more t ts) = type_holds n t || types_hold n ts

neither : (b c : Bool) → (b || c) ≡ false → (b ≡ false) × (c ≡ false)
neither true c e = absurd (cc)
neither false c e = (refl, e)

mutual
  pub not_held : (n : ℕ) (t : Ty) → type_holds n t ≡ false → EachInType (IsNot n) t
  not_held n (Ty.bound i) h = tt
  not_held n (Ty.param m) h = eqb-false m n h
  not_held n (Ty.meta m) h = eqb-false m n h
  not_held n (Ty.con c ts) h = none_held n ts h

  pub none_held : (n : ℕ) (ts : Tys) → types_hold n ts ≡ false → EachInTypes (IsNot n) ts
  none_held n Tys.none h = tt
  none_held n (Tys.more t ts) h =
      let p = neither (type_holds n t) (types_hold n ts) h in (not_held n t p.0, none_held n ts p.1)

mutual
  pub held_not : (n : ℕ) (t : Ty) → EachInType (IsNot n) t → type_holds n t ≡ false
  held_not n (Ty.bound i) h = refl
  held_not n (Ty.param m) h = ne_eqb m n h
  held_not n (Ty.meta m) h = ne_eqb m n h
  held_not n (Ty.con c ts) h = held_none n ts h

  pub held_none : (n : ℕ) (ts : Tys) → EachInTypes (IsNot n) ts → types_hold n ts ≡ false
  held_none n Tys.none h = refl
  held_none n (Tys.more t ts) h = rw (held_not n t h.0) (held_none n ts h.1)

-- a type that is closed and free of n once n stands for an index was closed before
mutual
  pub closed_without : (k n : ℕ) (t : Ty) → IsClosedType 0 (open_type k (Opening.of_type (Ty.param n)) t)
      → EachInType (IsNot n) (open_type k (Opening.of_type (Ty.param n)) t) → IsClosedType 0 t
  closed_without k n (Ty.bound i) h a = go (i == k) h a
    where
      go : (b : Bool) → IsClosedType 0 (if b then Ty.param n else Ty.bound i)
          → EachInType (IsNot n) (if b then Ty.param n else Ty.bound i)
          → IsClosedType 0 (Ty.bound i)
      go true h a = absurd (a refl)
      go false h a = h
  closed_without k n (Ty.param m) h a = tt
  closed_without k n (Ty.meta m) h a = tt
  closed_without k n (Ty.con c ts) h a = are_closed_without k n ts h a

  pub are_closed_without : (k n : ℕ) (ts : Tys) → AreClosedTypes 0 (open_types k (Opening.of_type (Ty.param n)) ts)
      → EachInTypes (IsNot n) (open_types k (Opening.of_type (Ty.param n)) ts) → AreClosedTypes 0 ts
  are_closed_without k n Tys.none h a = tt
  are_closed_without k n (Tys.more t ts) h a = (closed_without k n t h.0 a.0, are_closed_without k n ts h.1 a.1)

-- a symbol's declaration over all symbols
nth_take : (ss : List Symbol) (n m : ℕ) (d : Symbol) → nth (take n ss) m ≡ Some d → nth ss m ≡ Some d
nth_take [] zero m d e = e
nth_take [] (suc n) m d e = e
nth_take (s ∷ ss) zero m d e = cc
nth_take (s ∷ ss) (suc n) zero d e = e
nth_take (s ∷ ss) (suc n) (suc m) d e = nth_take ss n m d e

pub symbol_take : (ss : List Symbol) (n c : ℕ) (d : Symbol) → symbol_at (take n ss) c ≡ Some d → symbol_at ss c ≡ Some d
symbol_take ss n zero d e = e
symbol_take ss n (suc c) d e = nth_take ss n c d e

module _ (ss : List Symbol) (n : ℕ) where
  mutual
    later_type : (k : ℕ) (t : Ty) → IsType (take n ss) k t → IsType ss k t
    later_type k (Ty.bound i) h = h
    later_type k (Ty.param m) h = tt
    later_type k (Ty.meta m) h = tt
    later_type k (Ty.con c ts) h = ((h.0.0, (symbol_take ss n c h.0.0 h.0.1.0, h.0.1.1), h.0.2), later_types k ts h.1)

    later_types : (k : ℕ) (ts : Tys) → AreTypes (take n ss) k ts → AreTypes ss k ts
    later_types k Tys.none h = tt
    later_types k (Tys.more t ts) h = (later_type k t h.0, later_types k ts h.1)

  later_sense : (d : Symbol) (r : Sense) → IsSense (take n ss) d r → IsSense ss d r
  later_sense d Sense.constructor h = h
  later_sense d Sense.predicate h = h
  later_sense d (Sense.function r) h = (later_type d.types r h.0, h.1)

-- each symbol of a signature is declared over the signature
pub declaration : (symbols : List Symbol) → IsSignature symbols → (c : ℕ) (d : Symbol) → symbol_at symbols c ≡ Some d
    → IsDeclaration symbols d
declaration symbols sig zero d e = let same : individuals ≡ d = cc in subst (IsDeclaration symbols) same (tt, tt, refl)
declaration symbols sig (suc n) d e =
    let w = sig n d e in (later_types symbols n d.types d.arguments w.0, w.1, later_sense symbols n d d.sense w.2)
