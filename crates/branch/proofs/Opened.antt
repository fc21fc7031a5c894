-- A quantified formula at what its binder may stand for.
use Rattle.std.proofs.Common.{◌≡◌, ℕ, Bool, true, false, refl, ap, sym, subst, List, ◌∷◌, Contains, Some, is_some}
use Rattle.std.proofs.lemmas.Option.{same_Some}
use Rattle.zm_logic.specs.Tree.{Ty, Tys, Term, Form, Quantifier, Opening, Binder, Symbol}
use Rattle.zm_logic.specs.Opening.{open_type, types_instance, openings}
use Rattle.zm_logic.specs.Parameter.{Parameter, number, EachIn, EachInTypes, IsFreshForAll}
use Rattle.zm_logic.specs.Typing.{IsType, HasType, WellTyped, IsSignature}
use Rattle.zm_logic.specs.Calculus.{Derives}
use Rattle.zm_logic.proofs.Instance.{well_typed_at_term, well_typed_at_type, open_is_type}
use Rattle.zm_logic.proofs.Each.{EachInOpening, each_open, each_open_types}
use Rattle.branch.specs.Setting.{Setting}
use Rattle.param_store.specs.RawOffers.{QuantifierKind, Quantified, quantified, is_quantified, part_for, own_part, at_part}
use Rattle.branch.specs.Introduced.{part_of}
use Rattle.zm_logic.proofs.Inverted.{well_typed_negation, binder_type}
use Rattle.branch.proofs.Kept.{CarriesTypes}

abbrev made : QuantifierKind → Binder → Bool → Form → Quantified
made k b v a = record { kind = k; binder = b; holds = v; body = a }

-- the eight shapes of a quantified formula
pub data IsShape : Form → Quantified → Type 0 where
  exists : (t : Ty) (a : Form) → IsShape (Form.quantified Quantifier.existential t a) (record { kind = QuantifierKind.delta; binder = Binder.of_term t; holds = true; body = a })
  not_for_all : (t : Ty) (a : Form) → IsShape (Form.negation (Form.quantified Quantifier.universal t a)) (record { kind = QuantifierKind.delta; binder = Binder.of_term t; holds = false; body = a })
  exists_types : (a : Form) → IsShape (Form.quantified_types Quantifier.existential a) (record { kind = QuantifierKind.delta; binder = Binder.of_type; holds = true; body = a })
  not_for_all_types : (a : Form) → IsShape (Form.negation (Form.quantified_types Quantifier.universal a)) (record { kind = QuantifierKind.delta; binder = Binder.of_type; holds = false; body = a })
  for_all : (t : Ty) (a : Form) → IsShape (Form.quantified Quantifier.universal t a) (record { kind = QuantifierKind.gamma; binder = Binder.of_term t; holds = true; body = a })
  for_all_types : (a : Form) → IsShape (Form.quantified_types Quantifier.universal a) (record { kind = QuantifierKind.gamma; binder = Binder.of_type; holds = true; body = a })
  not_exists_types : (a : Form) → IsShape (Form.negation (Form.quantified_types Quantifier.existential a)) (record { kind = QuantifierKind.gamma; binder = Binder.of_type; holds = false; body = a })
  not_exists : (t : Ty) (a : Form) → IsShape (Form.negation (Form.quantified Quantifier.existential t a)) (record { kind = QuantifierKind.gamma; binder = Binder.of_term t; holds = false; body = a })

pub shape : (f : Form) (q : Quantified) → quantified f ≡ Some q → IsShape f q
shape (Form.quantified Quantifier.existential t a) q e =
    subst (IsShape (Form.quantified Quantifier.existential t a)) (same_Some (made QuantifierKind.delta (Binder.of_term t) true a) q e) (IsShape.exists t a)
shape (Form.negation (Form.quantified Quantifier.universal t a)) q e =
    subst (IsShape (Form.negation (Form.quantified Quantifier.universal t a))) (same_Some (made QuantifierKind.delta (Binder.of_term t) false a) q e) (IsShape.not_for_all t a)
shape (Form.quantified_types Quantifier.existential a) q e =
    subst (IsShape (Form.quantified_types Quantifier.existential a)) (same_Some (made QuantifierKind.delta Binder.of_type true a) q e) (IsShape.exists_types a)
shape (Form.negation (Form.quantified_types Quantifier.universal a)) q e =
    subst (IsShape (Form.negation (Form.quantified_types Quantifier.universal a))) (same_Some (made QuantifierKind.delta Binder.of_type false a) q e) (IsShape.not_for_all_types a)
shape (Form.quantified Quantifier.universal t a) q e =
    subst (IsShape (Form.quantified Quantifier.universal t a)) (same_Some (made QuantifierKind.gamma (Binder.of_term t) true a) q e) (IsShape.for_all t a)
shape (Form.quantified_types Quantifier.universal a) q e =
    subst (IsShape (Form.quantified_types Quantifier.universal a)) (same_Some (made QuantifierKind.gamma Binder.of_type true a) q e) (IsShape.for_all_types a)
shape (Form.negation (Form.quantified_types Quantifier.existential a)) q e =
    subst (IsShape (Form.negation (Form.quantified_types Quantifier.existential a))) (same_Some (made QuantifierKind.gamma Binder.of_type false a) q e) (IsShape.not_exists_types a)
shape (Form.negation (Form.quantified Quantifier.existential t a)) q e =
    subst (IsShape (Form.negation (Form.quantified Quantifier.existential t a))) (same_Some (made QuantifierKind.gamma (Binder.of_term t) false a) q e) (IsShape.not_exists t a)
shape f q e = cc

pub quantified_is : (f : Form) (q : Quantified) → quantified f ≡ Some q → is_quantified f ≡ true
quantified_is f q e = ap (λ o. is_some o) e

-- the part has the binder's type, or is a type where the binder is over types
abbrev pub Fits : List Symbol → Binder → Opening → Type 0
Fits symbols (Binder.of_term t) (Opening.of_term u) = HasType symbols u t
Fits symbols (Binder.of_term t) (Opening.of_type u) = ⊥
Fits symbols Binder.of_type (Opening.of_type u) = IsType symbols 0 u
Fits symbols Binder.of_type (Opening.of_term u) = ⊥

module _ (symbols : List Symbol) where
  pub part_typed : IsSignature symbols → {f : Form} {q : Quantified} → IsShape f q → (w : Opening) → WellTyped symbols f → Fits symbols q.binder w → WellTyped symbols (at_part q w)
  part_typed sig (IsShape.exists t a) (Opening.of_term u) h k = well_typed_at_term symbols sig u h k
  part_typed sig (IsShape.exists t a) (Opening.of_type u) h k = absurd k
  part_typed sig (IsShape.not_for_all t a) (Opening.of_term u) h k = WellTyped.negation (well_typed_at_term symbols sig u (well_typed_negation symbols h) k)
  part_typed sig (IsShape.not_for_all t a) (Opening.of_type u) h k = absurd k
  part_typed sig (IsShape.exists_types a) (Opening.of_type u) h k = well_typed_at_type symbols sig u h k
  part_typed sig (IsShape.not_for_all_types a) (Opening.of_type u) h k = WellTyped.negation (well_typed_at_type symbols sig u (well_typed_negation symbols h) k)
  part_typed sig (IsShape.exists_types a) (Opening.of_term u) h k = absurd k
  part_typed sig (IsShape.not_for_all_types a) (Opening.of_term u) h k = absurd k
  part_typed sig (IsShape.for_all t a) (Opening.of_term u) h k = well_typed_at_term symbols sig u h k
  part_typed sig (IsShape.for_all t a) (Opening.of_type u) h k = absurd k
  part_typed sig (IsShape.for_all_types a) (Opening.of_type u) h k = well_typed_at_type symbols sig u h k
  part_typed sig (IsShape.not_exists_types a) (Opening.of_type u) h k = WellTyped.negation (well_typed_at_type symbols sig u (well_typed_negation symbols h) k)
  part_typed sig (IsShape.for_all_types a) (Opening.of_term u) h k = absurd k
  part_typed sig (IsShape.not_exists_types a) (Opening.of_term u) h k = absurd k
  part_typed sig (IsShape.not_exists t a) (Opening.of_term u) h k = WellTyped.negation (well_typed_at_term symbols sig u (well_typed_negation symbols h) k)
  part_typed sig (IsShape.not_exists t a) (Opening.of_type u) h k = absurd k

  pub own_fits : (n : ℕ) {f : Form} {q : Quantified} → IsShape f q → WellTyped symbols f → Fits symbols q.binder (own_part n q)
  own_fits n (IsShape.exists t a) h = (binder_type symbols h, refl)
  own_fits n (IsShape.not_for_all t a) h = (binder_type symbols (well_typed_negation symbols h), refl)
  own_fits n (IsShape.exists_types a) h = tt
  own_fits n (IsShape.not_for_all_types a) h = tt
  own_fits n (IsShape.for_all t a) h = (binder_type symbols h, refl)
  own_fits n (IsShape.for_all_types a) h = tt
  own_fits n (IsShape.not_exists_types a) h = tt
  own_fits n (IsShape.not_exists t a) h = (binder_type symbols (well_typed_negation symbols h), refl)

  -- what a formula carries for its binder is a type
  pub binder_is_type : {f : Form} {q : Quantified} → IsShape f q → WellTyped symbols f → (t : Ty) → q.binder ≡ Binder.of_term t → IsType symbols 0 t
  binder_is_type (IsShape.exists t a) h u e = subst (IsType symbols 0) (let i : t ≡ u = cc in i) (binder_type symbols h)
  binder_is_type (IsShape.not_for_all t a) h u e = subst (IsType symbols 0) (let i : t ≡ u = cc in i) (binder_type symbols (well_typed_negation symbols h))
  binder_is_type (IsShape.exists_types a) h u e = cc
  binder_is_type (IsShape.not_for_all_types a) h u e = cc
  binder_is_type (IsShape.for_all t a) h u e = subst (IsType symbols 0) (let i : t ≡ u = cc in i) (binder_type symbols h)
  binder_is_type (IsShape.for_all_types a) h u e = cc
  binder_is_type (IsShape.not_exists_types a) h u e = cc
  binder_is_type (IsShape.not_exists t a) h u e = subst (IsType symbols 0) (let i : t ≡ u = cc in i) (binder_type symbols (well_typed_negation symbols h))

module _ (s : Setting) (gamma : List Form) where
  -- a Step that opens with its own parameter is a rule of the calculus
  pub own_derives : (n : ℕ) {f : Form} {q : Quantified} → IsShape f q → WellTyped s.symbols f → Contains gamma f → (q.kind ≡ QuantifierKind.delta → IsFreshForAll n gamma)
      → Derives s.symbols s.rules (at_part q (own_part n q) ∷ gamma) → Derives s.symbols s.rules gamma
  own_derives n (IsShape.exists t a) h m fresh d = Derives.existential t a n m (fresh refl) d
  own_derives n (IsShape.not_for_all t a) h m fresh d = Derives.not_for_all t a n m (fresh refl) d
  own_derives n (IsShape.exists_types a) h m fresh d = Derives.existential_types a n m (fresh refl) d
  own_derives n (IsShape.not_for_all_types a) h m fresh d = Derives.not_for_all_types a n m (fresh refl) d
  own_derives n (IsShape.for_all t a) h m fresh d = Derives.universal t a (Term.meta n t) m (binder_type s.symbols h, refl) d
  own_derives n (IsShape.for_all_types a) h m fresh d = Derives.universal_types a (Ty.meta n) m tt d
  own_derives n (IsShape.not_exists_types a) h m fresh d = Derives.not_exists_types a (Ty.meta n) m tt d
  own_derives n (IsShape.not_exists t a) h m fresh d = Derives.not_exists t a (Term.meta n t) m (binder_type s.symbols (well_typed_negation s.symbols h), refl) d

  -- a gamma formula may be opened with whatever fits
  pub instance_derives : {f : Form} {q : Quantified} → IsShape f q → q.kind ≡ QuantifierKind.gamma → (w : Opening) → Fits s.symbols q.binder w → Contains gamma f
      → Derives s.symbols s.rules (at_part q w ∷ gamma) → Derives s.symbols s.rules gamma
  instance_derives (IsShape.exists t a) e w k m d = cc
  instance_derives (IsShape.not_for_all t a) e w k m d = cc
  instance_derives (IsShape.exists_types a) e w k m d = cc
  instance_derives (IsShape.not_for_all_types a) e w k m d = cc
  instance_derives (IsShape.for_all t a) e (Opening.of_term u) k m d = Derives.universal t a u m k d
  instance_derives (IsShape.for_all t a) e (Opening.of_type u) k m d = absurd k
  instance_derives (IsShape.for_all_types a) e (Opening.of_type u) k m d = Derives.universal_types a u m k d
  instance_derives (IsShape.not_exists_types a) e (Opening.of_type u) k m d = Derives.not_exists_types a u m k d
  instance_derives (IsShape.for_all_types a) e (Opening.of_term u) k m d = absurd k
  instance_derives (IsShape.not_exists_types a) e (Opening.of_term u) k m d = absurd k
  instance_derives (IsShape.not_exists t a) e (Opening.of_term u) k m d = Derives.not_exists t a u m k d
  instance_derives (IsShape.not_exists t a) e (Opening.of_type u) k m d = absurd k

-- whose own part is a metavariable or an epsilon term
pub of_meta : (k : QuantifierKind) (b : Binder) (n : ℕ) (t : Ty) → part_for k b n ≡ Opening.of_term (Term.meta n t) → (k ≡ QuantifierKind.gamma) × (b ≡ Binder.of_term t)
of_meta QuantifierKind.delta (Binder.of_term r) n t e = cc
of_meta QuantifierKind.delta Binder.of_type n t e = cc
of_meta QuantifierKind.gamma (Binder.of_term r) n t e = (refl, let i : r ≡ t = cc in ap Binder.of_term i)
of_meta QuantifierKind.gamma Binder.of_type n t e = cc

pub of_type_meta : (k : QuantifierKind) (b : Binder) (n : ℕ) → part_for k b n ≡ Opening.of_type (Ty.meta n) → (k ≡ QuantifierKind.gamma) × (b ≡ Binder.of_type)
of_type_meta QuantifierKind.delta (Binder.of_term r) n e = cc
of_type_meta QuantifierKind.delta Binder.of_type n e = cc
of_type_meta QuantifierKind.gamma (Binder.of_term r) n e = cc
of_type_meta QuantifierKind.gamma Binder.of_type n e = (refl, refl)

pub of_eps : (k : QuantifierKind) (b : Binder) (n : ℕ) (t : Ty) → part_for k b n ≡ Opening.of_term (Term.eps n t) → b ≡ Binder.of_term t
of_eps QuantifierKind.delta (Binder.of_term r) n t e = let i : r ≡ t = cc in ap Binder.of_term i
of_eps QuantifierKind.delta Binder.of_type n t e = cc
of_eps QuantifierKind.gamma (Binder.of_term r) n t e = cc
of_eps QuantifierKind.gamma Binder.of_type n t e = cc

-- a fact of the parameters of a formula and of a part is one of the formula at the part
module _ (s : Setting) (P : Parameter → Type 0) (c : CarriesTypes s P) where
  carried : (o : Opening) (n k : ℕ) (t : Ty) → P (Parameter.eps n t) → P (Parameter.eps n (open_type k o t))
  carried o n k t h = subst (λ x. P (Parameter.eps n x)) (sym (open_is_type s.symbols k o t (c.of_eps n t h))) h

  carried_meta : (o : Opening) (n k : ℕ) (t : Ty) → P (Parameter.meta n t) → P (Parameter.meta n (open_type k o t))
  carried_meta o n k t h = subst (λ x. P (Parameter.meta n x)) (sym (open_is_type s.symbols k o t (c.of_meta n t h))) h

  pub part_each : {f : Form} {q : Quantified} → IsShape f q → (w : Opening) → EachIn P f → EachInOpening P w → EachIn P (at_part q w)
  part_each (IsShape.exists t a) w e h = each_open P w h (carried w) (carried_meta w) 0 a e.1
  part_each (IsShape.not_for_all t a) w e h = each_open P w h (carried w) (carried_meta w) 0 a e.1
  part_each (IsShape.exists_types a) w e h = each_open P w h (carried w) (carried_meta w) 0 a e
  part_each (IsShape.not_for_all_types a) w e h = each_open P w h (carried w) (carried_meta w) 0 a e
  part_each (IsShape.for_all t a) w e h = each_open P w h (carried w) (carried_meta w) 0 a e.1
  part_each (IsShape.for_all_types a) w e h = each_open P w h (carried w) (carried_meta w) 0 a e
  part_each (IsShape.not_exists_types a) w e h = each_open P w h (carried w) (carried_meta w) 0 a e
  part_each (IsShape.not_exists t a) w e h = each_open P w h (carried w) (carried_meta w) 0 a e.1

  pub types_instance_each : (ts rs : Tys) → EachInTypes P ts → EachInTypes P rs → EachInTypes P (types_instance (openings ts) rs)
  types_instance_each Tys.none rs d e = e
  types_instance_each (Tys.more t ts) rs d e =
      types_instance_each ts _ d.1 (each_open_types P (Opening.of_type t) d.0 (carried (Opening.of_type t)) (carried_meta (Opening.of_type t)) _ rs e)

-- the parameter that a formula is opened with, and the parameters of its binder's type
pub own_each : (P : Parameter → Type 0) (n : ℕ) {f : Form} {q : Quantified} → IsShape f q → EachIn P f
    → ((p : Parameter) → number p ≡ n → part_of p ≡ own_part n q → P p) → EachInOpening P (own_part n q)
own_each P n (IsShape.exists t a) d h = (h (Parameter.eps n t) refl refl, d.0)
own_each P n (IsShape.not_for_all t a) d h = (h (Parameter.eps n t) refl refl, d.0)
own_each P n (IsShape.exists_types a) d h = h (Parameter.type_param n) refl refl
own_each P n (IsShape.not_for_all_types a) d h = h (Parameter.type_param n) refl refl
own_each P n (IsShape.for_all t a) d h = (h (Parameter.meta n t) refl refl, d.0)
own_each P n (IsShape.for_all_types a) d h = h (Parameter.type_meta n) refl refl
own_each P n (IsShape.not_exists_types a) d h = h (Parameter.type_meta n) refl refl
own_each P n (IsShape.not_exists t a) d h = (h (Parameter.meta n t) refl refl, d.0)
