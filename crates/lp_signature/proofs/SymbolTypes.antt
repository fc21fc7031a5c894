-- The types of a problem's symbols: at types for their type variables, from arguments of closed types.
use Rattle.std.proofs.Common.{◌≡◌, ℕ, ◌+◌, ◌<◌, ◌==◌, zero, suc, Bool, true, false, if◌then◌else◌, refl, ap, ap₂, sym, ◌∙◌, subst, arith, List, [], ◌∷◌, length}
use Rattle.std.proofs.lemmas.Bool.{eqb-false}
use Rattle.lp_terms.specs.Term.{Lp, opened, IsClosed, IsClosedAt}
use Rattle.lp_terms.specs.Term as lp
use Rattle.lp_terms.proofs.Terms.{closed_up}
use Rattle.zm_logic.specs.Tree.{Ty, Tys, Opening, Symbol, Sense}
use Rattle.zm_logic.specs.Opening.{type_at, open_type, open_types, type_instance, types_instance, openings}
use Rattle.zm_logic.specs.Parameter.{IsNot, EachInType, EachInTypes, Never}
use Rattle.zm_logic.specs.Index.{IsClosedType, AreClosedTypes}
use Rattle.zm_logic.specs.Typing.{IsType, AreTypes, IsSense}
use Rattle.zm_logic.proofs.Each.{each_type, each_types}
use Rattle.zm_logic.proofs.ClosedForm.{type_is_closed, types_are_closed}
use Rattle.zm_logic.proofs.TypeInstances.{length_openings, how_many_opened, types_instance_typed}
use Rattle.lp_signature.specs.Prelude.{prop, types, term}
use Rattle.lp_signature.specs.Translation.{Scope, lift, type_of, arrows, over_types}
use Rattle.lp_signature.proofs.Scopes.{ReadsAlike, type_alike}
use Rattle.lp_signature.proofs.Readings.{type_kept_ty, type_closed, type_under, type_opens}

-- a fact of what a function makes
abbrev pub InSense : (Ty → Type 0) → Sense → Type 0
InSense P Sense.constructor = Unit {0}
InSense P Sense.predicate = Unit {0}
InSense P (Sense.function r) = P r

pub in_sense : (P Q : Ty → Type 0) → ((t : Ty) → P t → Q t) → (r : Sense) → InSense P r → InSense Q r
in_sense P Q w Sense.constructor h = tt
in_sense P Q w Sense.predicate h = tt
in_sense P Q w (Sense.function r) h = w r h

abbrev pub open_sense : ℕ → Opening → Sense → Sense
open_sense k o Sense.constructor = Sense.constructor
open_sense k o Sense.predicate = Sense.predicate
open_sense k o (Sense.function r) = Sense.function (open_type k o r)

abbrev pub sense_instance : List Opening → Sense → Sense
sense_instance [] r = r
sense_instance (o ∷ os) r = sense_instance os (open_sense (length os) o r)

-- the types of a declaration, as types below so many variables
module _ (before : List Symbol) where
  mutual
    pub type_below : (k : ℕ) (t : Ty) → IsType before k t → IsClosedType k t
    type_below k (Ty.bound i) h = h
    type_below k (Ty.param n) h = tt
    type_below k (Ty.meta n) h = tt
    type_below k (Ty.con c ts) h = types_below k ts h.1

    pub types_below : (k : ℕ) (ts : Tys) → AreTypes before k ts → AreClosedTypes k ts
    types_below k Tys.none h = tt
    types_below k (Tys.more t ts) h = (type_below k t h.0, types_below k ts h.1)

  mutual
    more_variables : (k : ℕ) (t : Ty) → IsType before 0 t → IsType before k t
    more_variables k (Ty.bound i) h = absurd (omega arith)
    more_variables k (Ty.param n) h = tt
    more_variables k (Ty.meta n) h = tt
    more_variables k (Ty.con c ts) h = (h.0, more_variables_each k ts h.1)

    more_variables_each : (k : ℕ) (ts : Tys) → AreTypes before 0 ts → AreTypes before k ts
    more_variables_each k Tys.none h = tt
    more_variables_each k (Tys.more t ts) h = (more_variables k t h.0, more_variables_each k ts h.1)

  opened_index : (k i : ℕ) (u : Ty) → IsType before 0 u → i < suc k → IsType before k (type_at k (Opening.of_type u) i)
  opened_index k i u h l = go (i == k) refl
    where
      go : (b : Bool) → (i == k) ≡ b → IsType before k (if b then u else Ty.bound i)
      go true e = more_variables k u h
      go false e = let n : i ≡ k → ⊥ = eqb-false i k e in omega arith

  -- a type for the last variable
  module _ (k : ℕ) (u : Ty) (h : IsType before 0 u) where
    mutual
      pub type_opened : (t : Ty) → IsType before (suc k) t → IsType before k (open_type k (Opening.of_type u) t)
      type_opened (Ty.bound i) l = opened_index k i u h l
      type_opened (Ty.param n) l = tt
      type_opened (Ty.meta n) l = tt
      type_opened (Ty.con c ts) l =
          ((l.0.0, (l.0.1.0, l.0.1.1 ∙ sym (how_many_opened k (Opening.of_type u) ts)), l.0.2), types_opened ts l.1)

      pub types_opened : (ts : Tys) → AreTypes before (suc k) ts
          → AreTypes before k (open_types k (Opening.of_type u) ts)
      types_opened Tys.none l = tt
      types_opened (Tys.more t ts) l = (type_opened t l.0, types_opened ts l.1)

    pub sense_opened : (r : Sense) → InSense (IsType before (suc k)) r
        → InSense (IsType before k) (open_sense k (Opening.of_type u) r)
    sense_opened Sense.constructor l = tt
    sense_opened Sense.predicate l = tt
    sense_opened (Sense.function r) l = type_opened r l

-- what a symbol makes of arguments
module _ (symbols : List Symbol) (s : Scope) where
  abbrev pub result_in : ℕ → Sense → Lp
  result_in under Sense.constructor = types
  result_in under Sense.predicate = prop
  result_in under (Sense.function r) = term (type_of symbols s under r)

  -- from arguments of these types, under so many of them
  abbrev pub arrows_in : ℕ → Tys → Sense → Lp
  arrows_in under Tys.none r = result_in under r
  arrows_in under (Tys.more t ts) r = Lp.prod (term (type_of symbols s under t)) (arrows_in (suc under) ts r)

  -- from arguments of closed types
  abbrev pub closed_arrows : Tys → Lp → Lp
  closed_arrows Tys.none v = v
  closed_arrows (Tys.more t ts) v = Lp.prod (term (type_of symbols s 0 t)) (closed_arrows ts v)

  -- at types for the type variables
  abbrev pub result_at : Tys → Sense → Lp
  result_at ts Sense.constructor = types
  result_at ts Sense.predicate = prop
  result_at ts (Sense.function r) = term (type_of symbols s 0 (type_instance (openings ts) r))

  -- with types for the type variables, the outermost first
  abbrev pub filled : Tys → Lp → Lp
  filled Tys.none v = v
  filled (Tys.more t ts) v = filled ts (lp.open_at (length (openings ts)) (type_of symbols s 0 t) v)

  pub filled_types : (ts : Tys) → filled ts types ≡ types
  filled_types Tys.none = refl
  filled_types (Tys.more t ts) = filled_types ts

  pub closed_arrows_closed : (ts : Tys) (v : Lp) → AreClosedTypes 0 ts → IsClosed v → (k : ℕ)
      → IsClosedAt k (closed_arrows ts v)
  closed_arrows_closed Tys.none v c d k = closed_up k d (omega arith)
  closed_arrows_closed (Tys.more t ts) v c d k =
      lp.IsClosedAt.prod (lp.IsClosedAt.app lp.IsClosedAt.const (closed_up k (type_closed symbols s 0 0 t c.0) (omega arith)))
      (closed_arrows_closed ts v c.1 d (suc k))

  -- arrows of closed types
  pub arrows_closed : (under : ℕ) (ts : Tys) (r : Sense) → AreClosedTypes 0 ts → InSense (IsClosedType 0) r
      → arrows_in under ts r ≡ closed_arrows ts (result_in 0 r)
  arrows_closed under Tys.none Sense.constructor c d = refl
  arrows_closed under Tys.none Sense.predicate c d = refl
  arrows_closed under Tys.none (Sense.function r) c d = ap term (type_under symbols s under r d)
  arrows_closed under (Tys.more t ts) r c d =
      ap₂ (λ a b. Lp.prod (term a) b) (type_under symbols s under t c.0) (arrows_closed (suc under) ts r c.1 d)

  -- a closed type for a type variable
  pub arrows_open : (under k : ℕ) (t : Ty) (ts : Tys) (r : Sense) → IsClosedType 0 t
      → AreClosedTypes k (open_types k (Opening.of_type t) ts)
      → InSense (IsClosedType k) (open_sense k (Opening.of_type t) r)
      → arrows_in under (open_types k (Opening.of_type t) ts) (open_sense k (Opening.of_type t) r)
      ≡ lp.open_at (lift under k) (type_of symbols s 0 t) (arrows_in under ts r)
  arrows_open under k t Tys.none Sense.constructor z c d = refl
  arrows_open under k t Tys.none Sense.predicate z c d = refl
  arrows_open under k t Tys.none (Sense.function r) z c d =
      ap term (type_opens symbols s (Opening.of_type t) under k r (type_under symbols s under t z) d)
  arrows_open under k t (Tys.more u ts) r z c d =
      ap₂ (λ a b. Lp.prod (term a) b) (type_opens symbols s (Opening.of_type t) under k u (type_under symbols s under t z) c.0)
      (arrows_open (suc under) k t ts r z c.1 d)

  instance_result : (ts : Tys) (r : Sense) → result_in 0 (sense_instance (openings ts) r) ≡ result_at ts r
  instance_result ts r = go (openings ts) r
    where
      made : List Opening → Sense → Lp
      made os Sense.constructor = types
      made os Sense.predicate = prop
      made os (Sense.function r) = term (type_of symbols s 0 (type_instance os r))

      go : (os : List Opening) (r : Sense) → result_in 0 (sense_instance os r) ≡ made os r
      go [] Sense.constructor = refl
      go [] Sense.predicate = refl
      go [] (Sense.function r) = refl
      go (o ∷ os) Sense.constructor = go os Sense.constructor
      go (o ∷ os) Sense.predicate = go os Sense.predicate
      go (o ∷ os) (Sense.function r) = go os (Sense.function (open_type (length os) o r))

  module _ (before : List Symbol) where
    filled_arrows : (ts arguments : Tys) (r : Sense) → AreTypes before 0 ts
        → AreTypes before (length (openings ts)) arguments
        → InSense (IsType before (length (openings ts))) r
        → filled ts (arrows_in 0 arguments r) ≡ arrows_in 0 (types_instance (openings ts) arguments) (sense_instance (openings ts) r)
    filled_arrows Tys.none arguments r h a b = refl
    filled_arrows (Tys.more t ts) arguments r h a b =
        let k : ℕ = length (openings ts) in
        let o : Opening = Opening.of_type t in
        let x = types_opened before k t h.0 arguments a in
        let y = sense_opened before k t h.0 r b in
        ap (filled ts) (sym (arrows_open 0 k t arguments r (type_is_closed before t h.0) (types_below before k (open_types k o arguments) x)
        (in_sense (IsType before k) (IsClosedType k) (type_below before k) (open_sense k o r) y)))
        ∙ filled_arrows ts (open_types k o arguments) (open_sense k o r) h.1 x y

    sense_instance_typed : (ts : Tys) (r : Sense) → AreTypes before 0 ts
        → InSense (IsType before (length (openings ts))) r
        → InSense (IsType before 0) (sense_instance (openings ts) r)
    sense_instance_typed Tys.none r h b = b
    sense_instance_typed (Tys.more t ts) r h b =
        sense_instance_typed ts (open_sense (length (openings ts)) (Opening.of_type t) r) h.1 (sense_opened before (length (openings ts)) t h.0 r b)

    pub filled_symbol : (ts arguments : Tys) (r : Sense) → AreTypes before 0 ts
        → AreTypes before (length (openings ts)) arguments
        → InSense (IsType before (length (openings ts))) r
        → filled ts (arrows_in 0 arguments r) ≡ closed_arrows (types_instance (openings ts) arguments) (result_at ts r)
    filled_symbol ts arguments r h a b =
        let x = types_instance_typed before ts arguments h (subst (λ (k : ℕ). AreTypes before k arguments) (length_openings ts) a) in
        filled_arrows ts arguments r h a b
        ∙ arrows_closed 0 (types_instance (openings ts) arguments) (sense_instance (openings ts) r) (types_are_closed before (types_instance (openings ts) arguments) x)
        (in_sense (IsType before 0) (IsClosedType 0) (type_is_closed before) (sense_instance (openings ts) r) (sense_instance_typed ts r h b))
        ∙ ap (closed_arrows (types_instance (openings ts) arguments)) (instance_result ts r)

-- the same types in another scope
arrows_alike : (symbols : List Symbol) (s r : Scope) (under : ℕ) (ts : Tys) (x : Sense)
    → EachInTypes (ReadsAlike s r) ts
    → InSense (EachInType (ReadsAlike s r)) x → arrows_in symbols s under ts x ≡ arrows_in symbols r under ts x
arrows_alike symbols s r under Tys.none Sense.constructor a b = refl
arrows_alike symbols s r under Tys.none Sense.predicate a b = refl
arrows_alike symbols s r under Tys.none (Sense.function t) a b = ap term (type_alike symbols s r under t b)
arrows_alike symbols s r under (Tys.more t ts) x a b =
    ap₂ (λ a b. Lp.prod (term a) b) (type_alike symbols s r under t a.0) (arrows_alike symbols s r (suc under) ts x a.1 b)

arrows_none : (symbols : List Symbol) (under : ℕ) (ts : Tys) (x : Sense)
    → arrows symbols under ts x ≡ arrows_in symbols Scope.none under ts x
arrows_none symbols under Tys.none Sense.constructor = refl
arrows_none symbols under Tys.none Sense.predicate = refl
arrows_none symbols under Tys.none (Sense.function t) = refl
arrows_none symbols under (Tys.more t ts) x =
    ap (Lp.prod (term (type_of symbols Scope.none under t))) (arrows_none symbols (suc under) ts x)

-- a declaration's types read the same in every scope
pub arrows_anywhere : (symbols : List Symbol) (s : Scope) (under : ℕ) (ts : Tys) (x : Sense) → EachInTypes Never ts
    → InSense (EachInType Never) x
    → arrows symbols under ts x ≡ arrows_in symbols s under ts x
arrows_anywhere symbols s under ts x a b =
    arrows_none symbols under ts x
    ∙ arrows_alike symbols Scope.none s under ts x (each_types Never (ReadsAlike Scope.none s) (λ p h. absurd h) ts a)
    (in_sense (EachInType Never) (EachInType (ReadsAlike Scope.none s)) (λ t h. each_type Never (ReadsAlike Scope.none s) (λ p h. absurd h) t h) x b)

pub arrows_new : (symbols : List Symbol) (n x : ℕ) (s : Scope) (under : ℕ) (ts : Tys) (r : Sense)
    → EachInTypes (IsNot n) ts → InSense (EachInType (IsNot n)) r
    → arrows_in symbols (Scope.of_type n x s) under ts r ≡ arrows_in symbols s under ts r
arrows_new symbols n x s under Tys.none Sense.constructor a b = refl
arrows_new symbols n x s under Tys.none Sense.predicate a b = refl
arrows_new symbols n x s under Tys.none (Sense.function t) a b = ap term (type_kept_ty symbols n x s under t b)
arrows_new symbols n x s under (Tys.more t ts) r a b =
    ap₂ (λ a b. Lp.prod (term a) b) (type_kept_ty symbols n x s under t a.0) (arrows_new symbols n x s (suc under) ts r a.1 b)

-- opening goes through products over types
abbrev pub raised : ℕ → ℕ → ℕ
raised zero j = j
raised (suc k) j = raised k (suc j)

raised_is : (k j : ℕ) → raised k j ≡ k + j
raised_is zero j = omega arith
raised_is (suc k) j = let e : raised k (suc j) ≡ k + suc j = raised_is k (suc j) in omega (arith, e)

over_open : (symbols : List Symbol) (k j : ℕ) (u v : Lp)
    → lp.open_at j u (over_types symbols k v) ≡ over_types symbols k (lp.open_at (raised k j) u v)
over_open symbols zero j u v = refl
over_open symbols (suc k) j u v = ap (Lp.prod types) (over_open symbols k (suc j) u v)

pub over_opened : (symbols : List Symbol) (k : ℕ) (u v : Lp)
    → opened (over_types symbols k v) u ≡ over_types symbols k (lp.open_at k u v)
over_opened symbols k u v =
    over_open symbols k 0 u v
    ∙ ap (λ j. over_types symbols k (lp.open_at j u v)) (let e : raised k 0 ≡ k + 0 = raised_is k 0 in omega (arith, e))

-- the sense of a declaration, and the count of its type variables
pub sense_types : (before : List Symbol) (d : Symbol) (r : Sense) → IsSense before d r
    → InSense (IsType before d.types) r
sense_types before d Sense.constructor h = tt
sense_types before d Sense.predicate h = tt
sense_types before d (Sense.function r) h = h.0

pub sense_never : (before : List Symbol) (d : Symbol) (r : Sense) → IsSense before d r → InSense (EachInType Never) r
sense_never before d Sense.constructor h = tt
sense_never before d Sense.predicate h = tt
sense_never before d (Sense.function r) h = h.1
