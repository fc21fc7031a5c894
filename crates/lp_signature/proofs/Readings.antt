-- What a new parameter leaves alone, and opening: the translation commutes with it.
use Rattle.std.proofs.Common.{◌≡◌, ℕ, ◌+◌, ◌<◌, ◌≢◌, ◌==◌, ◌&&◌, zero, suc, Bool, true, false, cond, if◌then◌else◌, codes, refl, ap, ap₂, sym, ◌∙◌, subst, arith, List}
use Rattle.std.proofs.lemmas.Bool.{ne_eqb, eqb-true, eqb-false, eq-eqb}
use Rattle.lp_terms.specs.Term.{Lp, opened, IsClosedAt}
use Rattle.lp_terms.specs.Term as lp
use Rattle.lp_terms.proofs.Terms.{open_closed, at_other}
use Rattle.zm_logic.specs.Tree.{Ty, Tys, Term, Terms, Form, Connective, Quantifier, Opening, Symbol}
use Rattle.zm_logic.specs.Opening.{type_at, term_at, open_type, open_types, open_term, open_terms, open_at, at_term, at_type}
use Rattle.zm_logic.specs.Parameter.{Parameter, IsNot, IsFresh, EachInType, EachInTerm, EachInTerms, EachIn, Never}
use Rattle.zm_logic.specs.Index.{IsClosedType, AreClosedTypes, IsClosedTerm, AreClosedTerms, IsClosed}
use Rattle.zm_logic.specs.Same.{same_type}
use Rattle.zm_logic.proofs.Each.{each_type, each_term, each}
use Rattle.zm_logic.proofs.Sames.{same_type-self, same_type-true}
use Rattle.zm_logic.proofs.ClosedForm.{type_is_closed}
use Rattle.lp_signature.specs.Prelude.{types, term, any, not_of}
use Rattle.lp_signature.specs.Names.{constant}
use Rattle.lp_signature.specs.Translation.{Scope, read_type, read_term, lift, type_of, apply_types, term_of, apply_terms, binary_of, quantified_of, quantified_types_of, form_of}
use Rattle.lp_signature.specs.Scoped.{Avoids, CarriesClosed, CarriesTypes}
use Rattle.lp_signature.proofs.Trees.{all_in_type, all_in_form, open_closed_type, type_at_term, closed_without}
use Rattle.lp_signature.proofs.Scopes.{ReadsAlike, type_alike, term_alike, form_alike, and_false, cond_false, without, without_carries, without_avoids, form_without}

-- one variable more for an epsilon term
module _ (symbols : List Symbol) (n : ℕ) (r : Ty) (x : ℕ) (s : Scope) where
  pub type_kept : (under : ℕ) (t : Ty) → type_of symbols (Scope.of_term n r x s) under t ≡ type_of symbols s under t
  type_kept under t =
      type_alike symbols (Scope.of_term n r x s) s under t (all_in_type (ReadsAlike (Scope.of_term n r x s) s) (λ m. refl) (λ m. tt) t)

  kept : (p : Parameter) → IsNot n p → ReadsAlike (Scope.of_term n r x s) s p
  kept (Parameter.type_param m) h = refl
  kept (Parameter.type_meta m) h = tt
  kept (Parameter.meta m t) h = tt
  kept (Parameter.eps m t) h =
      λ v. cond_false ((m == n) && same_type t r) (Lp.free x) (read_term s m t v) (and_false (m == n) (same_type t r) (ne_eqb m n h))

  pub term_kept : (u : Term) → EachInTerm (IsNot n) u → term_of symbols (Scope.of_term n r x s) u ≡ term_of symbols s u
  term_kept u h =
      term_alike symbols (Scope.of_term n r x s) s u (each_term (IsNot n) (ReadsAlike (Scope.of_term n r x s) s) kept u h)

  -- the reading of a formula that doesn't hold its number stays
  pub form_kept : (f : Form) → IsFresh n f → form_of symbols (Scope.of_term n r x s) f ≡ form_of symbols s f
  form_kept f h =
      form_alike symbols (Scope.of_term n r x s) s f (each (IsNot n) (ReadsAlike (Scope.of_term n r x s) s) kept f h)

-- one variable more for a type parameter
module _ (symbols : List Symbol) (n x : ℕ) (s : Scope) where
  kept_ty : (p : Parameter) → IsNot n p → ReadsAlike (Scope.of_type n x s) s p
  kept_ty (Parameter.type_param m) h = cond_false (m == n) (Lp.free x) (read_type s m) (ne_eqb m n h)
  kept_ty (Parameter.type_meta m) h = tt
  kept_ty (Parameter.meta m t) h = tt
  kept_ty (Parameter.eps m t) h = λ v. refl

  pub type_kept_ty : (under : ℕ) (t : Ty) → EachInType (IsNot n) t
      → type_of symbols (Scope.of_type n x s) under t ≡ type_of symbols s under t
  type_kept_ty under t h =
      type_alike symbols (Scope.of_type n x s) s under t (each_type (IsNot n) (ReadsAlike (Scope.of_type n x s) s) kept_ty t h)

  pub term_kept_ty : (u : Term) → EachInTerm (IsNot n) u → term_of symbols (Scope.of_type n x s) u ≡ term_of symbols s u
  term_kept_ty u h =
      term_alike symbols (Scope.of_type n x s) s u (each_term (IsNot n) (ReadsAlike (Scope.of_type n x s) s) kept_ty u h)

  pub form_kept_ty : (f : Form) → IsFresh n f → form_of symbols (Scope.of_type n x s) f ≡ form_of symbols s f
  form_kept_ty f h =
      form_alike symbols (Scope.of_type n x s) s f (each (IsNot n) (ReadsAlike (Scope.of_type n x s) s) kept_ty f h)

-- a tree without parameters reads the same in every scope
never : (s r : Scope) (p : Parameter) → Never p → ReadsAlike s r p
never s r p h = absurd h

pub type_anywhere : (symbols : List Symbol) (s r : Scope) (under : ℕ) (t : Ty) → EachInType Never t
    → type_of symbols s under t ≡ type_of symbols r under t
type_anywhere symbols s r under t h = type_alike symbols s r under t (each_type Never (ReadsAlike s r) (never s r) t h)

pub term_anywhere : (symbols : List Symbol) (s r : Scope) (u : Term) → EachInTerm Never u
    → term_of symbols s u ≡ term_of symbols r u
term_anywhere symbols s r u h = term_alike symbols s r u (each_term Never (ReadsAlike s r) (never s r) u h)

pub form_anywhere : (symbols : List Symbol) (s r : Scope) (f : Form) → EachIn Never f
    → form_of symbols s f ≡ form_of symbols r f
form_anywhere symbols s r f h = form_alike symbols s r f (each Never (ReadsAlike s r) (never s r) f h)

-- translations of trees without loose indices have none
closed_cond : {k : ℕ} (b : Bool) (x : ℕ) (u : Lp) → IsClosedAt k u → IsClosedAt k (cond b (Lp.free x) u)
closed_cond true x u c = lp.IsClosedAt.free
closed_cond false x u c = c

pub read_type_closed : (k : ℕ) (s : Scope) (n : ℕ) → IsClosedAt k (read_type s n)
read_type_closed k Scope.none n = lp.IsClosedAt.const
read_type_closed k (Scope.of_type m x s) n = closed_cond (n == m) x (read_type s n) (read_type_closed k s n)
read_type_closed k (Scope.of_term m t x s) n = read_type_closed k s n

pub read_term_closed : {k : ℕ} (s : Scope) (n : ℕ) (t : Ty) (u : Lp) → IsClosedAt k u → IsClosedAt k (read_term s n t u)
read_term_closed Scope.none n t u c = c
read_term_closed (Scope.of_type m x s) n t u c = read_term_closed s n t u c
read_term_closed (Scope.of_term m r x s) n t u c =
    closed_cond ((n == m) && same_type t r) x (read_term s n t u) (read_term_closed s n t u c)

lift_below : (under i k : ℕ) → i < k → lift under i < lift under k
lift_below zero i k h = h
lift_below (suc under) i k h = let p : lift under i < lift under k = lift_below under i k h in omega arith

module _ (symbols : List Symbol) (s : Scope) where
  mutual
    pub type_closed : (k under : ℕ) (t : Ty) → IsClosedType k t → IsClosedAt (lift under k) (type_of symbols s under t)
    type_closed k under (Ty.bound i) c = lp.IsClosedAt.index (lift_below under i k c)
    type_closed k under (Ty.param n) c = read_type_closed (lift under k) s n
    type_closed k under (Ty.meta n) c = lp.IsClosedAt.const
    type_closed k under (Ty.con h ts) c = types_closed k under (Lp.const (constant symbols h)) ts lp.IsClosedAt.const c

    pub types_closed : (k under : ℕ) (f : Lp) (ts : Tys) → IsClosedAt (lift under k) f → AreClosedTypes k ts
        → IsClosedAt (lift under k) (apply_types symbols s under f ts)
    types_closed k under f Tys.none d c = d
    types_closed k under f (Tys.more t ts) d c =
        types_closed k under (Lp.app f (type_of symbols s under t)) ts (lp.IsClosedAt.app d (type_closed k under t c.0)) c.1

  -- under binders a closed type is translated as it is
  mutual
    pub type_under : (under : ℕ) (t : Ty) → IsClosedType 0 t → type_of symbols s under t ≡ type_of symbols s 0 t
    type_under under (Ty.bound i) c = absurd (omega arith)
    type_under under (Ty.param n) c = refl
    type_under under (Ty.meta n) c = refl
    type_under under (Ty.con h ts) c =
        types_under under (Lp.const (constant symbols h)) (Lp.const (constant symbols h)) ts refl c

    types_under : (under : ℕ) (f g : Lp) (ts : Tys) → f ≡ g → AreClosedTypes 0 ts
        → apply_types symbols s under f ts ≡ apply_types symbols s 0 g ts
    types_under under f g Tys.none e c = e
    types_under under f g (Tys.more t ts) e c =
        types_under under (Lp.app f (type_of symbols s under t)) (Lp.app g (type_of symbols s 0 t)) ts (ap₂ Lp.app e (type_under under t c.0)) c.1

-- opening goes through a reading
cond_open : (k : ℕ) (w : Lp) (b : Bool) (x : ℕ) (v : Lp)
    → lp.open_at k w (cond b (Lp.free x) v) ≡ cond b (Lp.free x) (lp.open_at k w v)
cond_open k w true x v = refl
cond_open k w false x v = refl

pub read_open : (s : Scope) (n : ℕ) (t : Ty) (k : ℕ) (w v : Lp)
    → read_term s n t (lp.open_at k w v) ≡ lp.open_at k w (read_term s n t v)
read_open Scope.none n t k w v = refl
read_open (Scope.of_type m x s) n t k w v = read_open s n t k w v
read_open (Scope.of_term m r x s) n t k w v =
    ap (cond ((n == m) && same_type t r) (Lp.free x)) (read_open s n t k w v) ∙ sym (cond_open k w ((n == m) && same_type t r) x (read_term s n t v))

same_suc : (a b : ℕ) → (suc a == suc b) ≡ (a == b)
same_suc a b = go (a == b) refl
  where
    go : (c : Bool) → (a == b) ≡ c → (suc a == suc b) ≡ c
    go true e = let p : a ≡ b = eqb-true a b e in eq-eqb (suc a) (suc b) (ap suc p)
    go false e = let p : a ≢ b = eqb-false a b e in ne_eqb (suc a) (suc b) (λ q. p (omega (arith, q)))

same_lift : (under i k : ℕ) → (lift under i == lift under k) ≡ (i == k)
same_lift zero i k = refl
same_lift (suc under) i k = same_suc (lift under i) (lift under k) ∙ same_lift under i k

one_more : (k : ℕ) → k + 1 ≡ suc k
one_more k = omega arith

module _ (symbols : List Symbol) (s : Scope) where
  -- what a binder's variable becomes
  abbrev pub part_of : Opening → Lp
  part_of (Opening.of_type t) = type_of symbols s 0 t
  part_of (Opening.of_term u) = term_of symbols s u

  -- opening goes through the reading of the parameter
  abbrev pub OpensAlike : Opening → Parameter → Type 0
  OpensAlike o (Parameter.type_param n) = Unit {0}
  OpensAlike o (Parameter.type_meta n) = Unit {0}
  OpensAlike o (Parameter.eps n t) =
      (k : ℕ) (v : Lp) → read_term s n (open_type k o t) (lp.open_at k (part_of o) v) ≡ lp.open_at k (part_of o) (read_term s n t v)
  OpensAlike o (Parameter.meta n t) = Unit {0}

  -- the part is translated under binders as it is
  abbrev pub Stays : ℕ → Opening → Type 0
  Stays under (Opening.of_type t) = type_of symbols s under t ≡ type_of symbols s 0 t
  Stays under (Opening.of_term u) = Unit {0}

  pub stays_zero : (o : Opening) → Stays 0 o
  stays_zero (Opening.of_type t) = refl
  stays_zero (Opening.of_term u) = tt

  type_index : (under k i : ℕ) (o : Opening) → Stays under o → IsClosedType k (type_at k o i)
      → type_of symbols s under (type_at k o i) ≡ cond (lift under i == lift under k) (part_of o) (Lp.index (lift under i))
  type_index under k i (Opening.of_term u) e c =
      sym (at_other (lift under i) (lift under k) (term_of symbols s u) (Lp.index (lift under i)) (let p : lift under i < lift under k = lift_below under i k c in omega arith))
  type_index under k i (Opening.of_type t) e c =
      go (i == k) ∙ ap (λ b. cond b (type_of symbols s 0 t) (Lp.index (lift under i))) (sym (same_lift under i k))
    where
      go : (b : Bool)
          → type_of symbols s under (if b then t else Ty.bound i) ≡ cond b (type_of symbols s 0 t) (Lp.index (lift under i))
      go true = e
      go false = refl

  term_index : (k i : ℕ) (o : Opening) → IsClosedTerm k (term_at k o i)
      → term_of symbols s (term_at k o i) ≡ cond (i == k) (part_of o) (Lp.index i)
  term_index k i (Opening.of_type t) c = sym (at_other i k (type_of symbols s 0 t) (Lp.index i) (omega arith))
  term_index k i (Opening.of_term u) c = go (i == k)
    where
      go : (b : Bool) → term_of symbols s (if b then u else Term.bound i) ≡ cond b (term_of symbols s u) (Lp.index i)
      go true = refl
      go false = refl

  binary_open : (k : ℕ) (w p q : Lp) (c : Connective)
      → lp.open_at k w (binary_of symbols c p q) ≡ binary_of symbols c (lp.open_at k w p) (lp.open_at k w q)
  binary_open k w p q Connective.conjunction = refl
  binary_open k w p q Connective.disjunction = refl
  binary_open k w p q Connective.implication = refl
  binary_open k w p q Connective.equivalence = refl

  quantified_open : (k : ℕ) (w a f : Lp) (q : Quantifier)
      → lp.open_at k w (quantified_of symbols q a f) ≡ quantified_of symbols q (lp.open_at k w a) (lp.open_at k w f)
  quantified_open k w a f Quantifier.universal = refl
  quantified_open k w a f Quantifier.existential = refl

  quantified_types_open : (k : ℕ) (w f : Lp) (q : Quantifier)
      → lp.open_at k w (quantified_types_of symbols q f) ≡ quantified_types_of symbols q (lp.open_at k w f)
  quantified_types_open k w f Quantifier.universal = refl
  quantified_types_open k w f Quantifier.existential = refl

  module _ (o : Opening) where
    mutual
      pub type_opens : (under k : ℕ) (t : Ty) → Stays under o → IsClosedType k (open_type k o t)
          → type_of symbols s under (open_type k o t) ≡ lp.open_at (lift under k) (part_of o) (type_of symbols s under t)
      type_opens under k (Ty.bound i) e c = type_index under k i o e c
      type_opens under k (Ty.param n) e c =
          sym (open_closed (lift under k) (part_of o) (read_type_closed 0 s n) (omega arith))
      type_opens under k (Ty.meta n) e c = refl
      type_opens under k (Ty.con h ts) e c =
          types_open under k (Lp.const (constant symbols h)) (Lp.const (constant symbols h)) ts refl e c

      pub types_open : (under k : ℕ) (f g : Lp) (ts : Tys) → g ≡ lp.open_at (lift under k) (part_of o) f → Stays under o
          → AreClosedTypes k (open_types k o ts)
          → apply_types symbols s under g (open_types k o ts) ≡ lp.open_at (lift under k) (part_of o) (apply_types symbols s under f ts)
      types_open under k f g Tys.none d e c = d
      types_open under k f g (Tys.more t ts) d e c =
          types_open under k (Lp.app f (type_of symbols s under t)) (Lp.app g (type_of symbols s under (open_type k o t))) ts
          (ap₂ Lp.app d (type_opens under k t e c.0)) e c.1

    mutual
      pub term_opens : (k : ℕ) (u : Term) → EachInTerm (OpensAlike o) u → IsClosedTerm k (open_term k o u)
          → term_of symbols s (open_term k o u) ≡ lp.open_at k (part_of o) (term_of symbols s u)
      term_opens k (Term.bound i) h c = term_index k i o c
      term_opens k (Term.eps n t) h c =
          ap (λ v. read_term s n (open_type k o t) (any v)) (type_opens 0 k t (stays_zero o) c) ∙ h.0 k (any (type_of symbols s 0 t))
      term_opens k (Term.meta n t) h c = ap any (type_opens 0 k t (stays_zero o) c)
      term_opens k (Term.app f ts us) h c =
          terms_open k (apply_types symbols s 0 (Lp.const (constant symbols f)) ts) (apply_types symbols s 0 (Lp.const (constant symbols f)) (open_types k o ts)) us
          (types_open 0 k (Lp.const (constant symbols f)) (Lp.const (constant symbols f)) ts refl (stays_zero o) c.0) h.1 c.1

      pub terms_open : (k : ℕ) (f g : Lp) (us : Terms) → g ≡ lp.open_at k (part_of o) f → EachInTerms (OpensAlike o) us
          → AreClosedTerms k (open_terms k o us)
          → apply_terms symbols s g (open_terms k o us) ≡ lp.open_at k (part_of o) (apply_terms symbols s f us)
      terms_open k f g Terms.none d h c = d
      terms_open k f g (Terms.more u us) d h c =
          terms_open k (Lp.app f (term_of symbols s u)) (Lp.app g (term_of symbols s (open_term k o u))) us (ap₂ Lp.app d (term_opens k u h.0 c.0)) h.1 c.1

    pub form_opens : (k : ℕ) (f : Form) → EachIn (OpensAlike o) f → IsClosed k (open_at k o f)
        → form_of symbols s (open_at k o f) ≡ lp.open_at k (part_of o) (form_of symbols s f)
    form_opens k Form.truth h c = refl
    form_opens k Form.falsity h c = refl
    form_opens k (Form.atom p ts us) h c =
        terms_open k (apply_types symbols s 0 (Lp.const (constant symbols p)) ts) (apply_types symbols s 0 (Lp.const (constant symbols p)) (open_types k o ts)) us
        (types_open 0 k (Lp.const (constant symbols p)) (Lp.const (constant symbols p)) ts refl (stays_zero o) c.0) h.1 c.1
    form_opens k (Form.equal t a b) h c =
        ap₂ Lp.app (ap₂ Lp.app (ap (Lp.app (Lp.const (codes "eq"))) (type_opens 0 k t (stays_zero o) c.0)) (term_opens k a h.1 c.1)) (term_opens k b h.2 c.2)
    form_opens k (Form.negation f) h c = ap not_of (form_opens k f h c)
    form_opens k (Form.binary x f g) h c =
        ap₂ (binary_of symbols x) (form_opens k f h.0 c.0) (form_opens k g h.1 c.1)
        ∙ sym (binary_open k (part_of o) (form_of symbols s f) (form_of symbols s g) x)
    form_opens k (Form.quantified q t f) h c =
        ap₂ (λ a b. quantified_of symbols q a (Lp.abs (term a) b)) (type_opens 0 k t (stays_zero o) c.0)
        (form_opens (k + 1) f h.1 c.1 ∙ ap (λ j. lp.open_at j (part_of o) (form_of symbols s f)) (one_more k))
        ∙ sym (quantified_open k (part_of o) (type_of symbols s 0 t) (Lp.abs (term (type_of symbols s 0 t)) (form_of symbols s f)) q)
    form_opens k (Form.quantified_types q f) h c =
        ap (λ b. quantified_types_of symbols q (Lp.abs types b))
        (form_opens (k + 1) f h c ∙ ap (λ j. lp.open_at j (part_of o) (form_of symbols s f)) (one_more k))
        ∙ sym (quantified_types_open k (part_of o) (Lp.abs types (form_of symbols s f)) q)

  -- a term leaves the types that parameters carry
  at_a_term : (u : Term) (p : Parameter) → OpensAlike (Opening.of_term u) p
  at_a_term u (Parameter.type_param n) = tt
  at_a_term u (Parameter.type_meta n) = tt
  at_a_term u (Parameter.meta n t) = tt
  at_a_term u (Parameter.eps n t) =
      λ k v. ap (λ r. read_term s n r (lp.open_at k (term_of symbols s u) v)) (type_at_term k u t) ∙ read_open s n t k (term_of symbols s u) v

  -- and any part those that are closed
  closed_carried : (o : Opening) (p : Parameter) → CarriesClosed p → OpensAlike o p
  closed_carried o (Parameter.type_param n) c = tt
  closed_carried o (Parameter.type_meta n) c = tt
  closed_carried o (Parameter.meta n t) c = tt
  closed_carried o (Parameter.eps n t) c =
      λ k v. ap (λ r. read_term s n r (lp.open_at k (part_of o) v)) (open_closed_type 0 k o t c (omega arith)) ∙ read_open s n t k (part_of o) v

  -- the translation of a body at a term is the body's translation at the term's
  pub form_open : (k : ℕ) (u : Term) (f : Form) → IsClosed k (open_at k (Opening.of_term u) f)
      → form_of symbols s (open_at k (Opening.of_term u) f) ≡ lp.open_at k (term_of symbols s u) (form_of symbols s f)
  form_open k u f c =
      form_opens (Opening.of_term u) k f (all_in_form (OpensAlike (Opening.of_term u)) (at_a_term u) f) c

  -- and at a type, where what the body's parameters carry is closed
  pub form_open_ty : (k : ℕ) (t : Ty) (f : Form) → EachIn CarriesClosed f → IsClosed k (open_at k (Opening.of_type t) f)
      → form_of symbols s (open_at k (Opening.of_type t) f) ≡ lp.open_at k (type_of symbols s 0 t) (form_of symbols s f)
  form_open_ty k t f h c =
      form_opens (Opening.of_type t) k f (each CarriesClosed (OpensAlike (Opening.of_type t)) (closed_carried (Opening.of_type t)) f h) c

  -- either part, where what the parameters carry is closed
  pub term_open_by : (o : Opening) (k : ℕ) (u : Term) → EachInTerm CarriesClosed u → IsClosedTerm k (open_term k o u)
      → term_of symbols s (open_term k o u) ≡ lp.open_at k (part_of o) (term_of symbols s u)
  term_open_by o k u h c = term_opens o k u (each_term CarriesClosed (OpensAlike o) (closed_carried o) u h) c

  pub form_open_by : (o : Opening) (k : ℕ) (f : Form) → EachIn CarriesClosed f → IsClosed k (open_at k o f)
      → form_of symbols s (open_at k o f) ≡ lp.open_at k (part_of o) (form_of symbols s f)
  form_open_by o k f h c = form_opens o k f (each CarriesClosed (OpensAlike o) (closed_carried o) f h) c

-- a new type parameter of a body doesn't stand in a scope's types, so it opens each of the body's parameters alike
both_ways : (b c : Bool) → (b ≡ true → c ≡ true) → (c ≡ true → b ≡ true) → b ≡ c
both_ways true true f g = refl
both_ways true false f g = sym (f refl)
both_ways false true f g = g refl
both_ways false false f g = refl

same_opened : (k n : ℕ) (t r : Ty) → IsClosedType 0 r → EachInType (IsNot n) r
    → same_type (open_type k (Opening.of_type (Ty.param n)) t) r ≡ same_type t r
same_opened k n t r c a =
    both_ways (same_type (open_type k o t) r) (same_type t r)
    (λ e. let p : open_type k o t ≡ r = same_type-true (open_type k o t) r e in
    let z : IsClosedType 0 t = closed_without k n t (subst (IsClosedType 0) (sym p) c) (subst (EachInType (IsNot n)) (sym p) a) in
    subst (λ x. same_type x r ≡ true) (open_closed_type 0 k o t z (omega arith)) e)
    (λ e. let p : t ≡ r = same_type-true t r e in
    let z : IsClosedType 0 t = subst (IsClosedType 0) (sym p) c in
    subst (λ x. same_type x r ≡ true) (sym (open_closed_type 0 k o t z (omega arith))) e)
  where
    o : Opening
    o = Opening.of_type (Ty.param n)

module _ (symbols : List Symbol) where
  read_new : (k n : ℕ) (m : ℕ) (t : Ty) (w v : Lp) (s : Scope) → CarriesTypes symbols s → Avoids n s
      → read_term s m (open_type k (Opening.of_type (Ty.param n)) t) (lp.open_at k w v) ≡ lp.open_at k w (read_term s m t v)
  read_new k n m t w v Scope.none c a = refl
  read_new k n m t w v (Scope.of_type i x s) c a = read_new k n m t w v s c a
  read_new k n m t w v (Scope.of_term i r x s) c a =
      ap₂ (λ b u. cond ((m == i) && b) (Lp.free x) u) (same_opened k n t r (type_is_closed symbols r c.0) a.0) (read_new k n m t w v s c.1 a.1)
      ∙ sym (cond_open k w ((m == i) && same_type t r) x (read_term s m t v))

  new_alike : (s : Scope) (n x : ℕ) → CarriesTypes symbols s → Avoids n s → (p : Parameter)
      → OpensAlike symbols (Scope.of_type n x s) (Opening.of_type (Ty.param n)) p
  new_alike s n x c a (Parameter.type_param m) = tt
  new_alike s n x c a (Parameter.type_meta m) = tt
  new_alike s n x c a (Parameter.meta m t) = tt
  new_alike s n x c a (Parameter.eps m t) =
      λ k v. read_new k n m t (type_of symbols (Scope.of_type n x s) 0 (Ty.param n)) v s c a

  same_itself : (n : ℕ) → (n == n) ≡ true
  same_itself n = eq-eqb n n refl

  pub read_itself : (s : Scope) (n : ℕ) (t : Ty) (x : ℕ)
      → term_of symbols (Scope.of_term n t x s) (Term.eps n t) ≡ Lp.free x
  read_itself s n t x = rw (same_itself n, same_type-self t) refl

  pub read_type_itself : (s : Scope) (n x : ℕ) → type_of symbols (Scope.of_type n x s) 0 (Ty.param n) ≡ Lp.free x
  read_type_itself s n x = rw (same_itself n) refl

  -- the body of a quantifier at its new parameter, which a variable stands for
  pub body_is : (s : Scope) (n : ℕ) (t : Ty) (x : ℕ) (f : Form) → IsFresh n f → IsClosed 0 (at_term f (Term.eps n t))
      → form_of symbols (Scope.of_term n t x s) (at_term f (Term.eps n t)) ≡ opened (form_of symbols s f) (Lp.free x)
  body_is s n t x f new c =
      form_open symbols (Scope.of_term n t x s) 0 (Term.eps n t) f c
      ∙ ap₂ (λ u b. lp.open_at 0 u b) (read_itself s n t x) (form_kept symbols n t x s f new)

  pub body_is_ty : (s : Scope) (n x : ℕ) (f : Form) → CarriesTypes symbols s → Avoids n s → IsFresh n f
      → IsClosed 0 (at_type f (Ty.param n))
      → form_of symbols (Scope.of_type n x s) (at_type f (Ty.param n)) ≡ opened (form_of symbols s f) (Lp.free x)
  body_is_ty s n x f t a new c =
      form_opens symbols (Scope.of_type n x s) (Opening.of_type (Ty.param n)) 0 f
      (all_in_form (OpensAlike symbols (Scope.of_type n x s) (Opening.of_type (Ty.param n))) (new_alike s n x t a) f) c
      ∙ ap₂ (λ u b. lp.open_at 0 u b) (read_type_itself s n x) (form_kept_ty symbols n x s f new)

module _ (n : ℕ) (s : Scope) where
  -- the body of a quantifier over types at its new parameter, which a variable stands for
  pub body_is_new : (symbols : List Symbol) (x : ℕ) (f : Form) → CarriesTypes symbols s → IsFresh n f
      → IsClosed 0 (at_type f (Ty.param n))
      → form_of symbols (Scope.of_type n x (without n s)) (at_type f (Ty.param n)) ≡ opened (form_of symbols s f) (Lp.free x)
  body_is_new symbols x f t new c =
      body_is_ty symbols (without n s) n x f (without_carries symbols n s t) (without_avoids n s) new c
      ∙ ap (λ b. opened b (Lp.free x)) (form_without n s symbols f new)
