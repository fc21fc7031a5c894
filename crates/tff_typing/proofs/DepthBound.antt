-- A typed formula is at most 402 deeper than it was written: the type of an equality is found, and not written.
use Rattle.std.proofs.Common.{◌≡◌, ℕ, zero, suc, ◌+◌, ◌≤◌, ◌==◌, max, Bool, true, false, if◌then◌else◌, Option, Some, None, Ok, List, length, refl, arith, sym, ap}
use Rattle.zm_logic.specs.Tree.{Ty, Tys, Term, Terms, Form, Symbol, Binder, Opening}
use Rattle.zm_logic.specs.Opening.{open_type, open_types, type_instance, openings, close_at, close_term, close_terms, close_type, close_types}
use Rattle.zm_logic.specs.Typing.{individual, IsType, AreTypes}
use Rattle.zm_logic.specs.Measure.{type_depth, types_depth, term_depth, terms_depth, depth}
use Rattle.zm_logic.specs.Parameter.{Never, EachInTerm, EachInTerms, HasNoParameter}
use Rattle.tptp_reader.specs.Raw.{RawType, RawTypes, RawTerm, RawTerms}
use Rattle.tff_typing.specs.Written.{as_type, as_types, number_of_types}
use Rattle.tptp_reader.specs.Raw.{raw_type_depth, raw_types_depth, raw_term_depth, raw_terms_depth}
use Rattle.tff_typing.specs.Scope.{Scope, Bound, look_up}
use Rattle.tff_typing.specs.Table.{Table, declared}
use Rattle.tff_typing.specs.Places.{if_type, type_variable, constructor_at, type_in, types_in, first}
use Rattle.tff_typing.proofs.Outcomes.{both_ok, ok_same, no_ok}

-- the depth of a term where a variable counts one, without its type
abbrev mutual
  pub flat : Term → ℕ
  flat (Term.bound i) = 1
  flat (Term.eps n t) = 1
  flat (Term.meta n t) = 1
  flat (Term.app f ts us) = 1 + max (types_depth ts) (flats us)

  pub flats : Terms → ℕ
  flats Terms.none = 0
  flats (Terms.more u us) = max (flat u) (flats us)

abbrev pub flat_depth : Form → ℕ
flat_depth Form.truth = 1
flat_depth Form.falsity = 1
flat_depth (Form.atom p ts us) = 1 + max (types_depth ts) (flats us)
flat_depth (Form.equal t a b) = 1 + max (type_depth t) (max (flat a) (flat b))
flat_depth (Form.negation f) = 1 + flat_depth f
flat_depth (Form.binary c f g) = 1 + max (flat_depth f) (flat_depth g)
flat_depth (Form.quantified q t f) = 1 + max (type_depth t) (flat_depth f)
flat_depth (Form.quantified_types q f) = 1 + flat_depth f

-- closing keeps that depth
module _ (n : ℕ) where
  mutual
    close_type_depth : (k : ℕ) (t : Ty) → type_depth (close_type k n t) ≡ type_depth t
    close_type_depth k (Ty.bound i) = refl
    close_type_depth k (Ty.param m) = go (m == n)
      where
        go : (b : Bool) → type_depth (if b then Ty.bound k else Ty.param m) ≡ 1
        go true = refl
        go false = refl
    close_type_depth k (Ty.meta m) = refl
    close_type_depth k (Ty.con c ts) = ap (λ d. 1 + d) (close_types_depth k ts)

    close_types_depth : (k : ℕ) (ts : Tys) → types_depth (close_types k n ts) ≡ types_depth ts
    close_types_depth k Tys.none = refl
    close_types_depth k (Tys.more t ts) = cc (close_type_depth k t, close_types_depth k ts)

  mutual
    close_flat : (k : ℕ) (u : Term) → flat (close_term k n u) ≡ flat u
    close_flat k (Term.bound i) = refl
    close_flat k (Term.eps m t) = go (m == n)
      where
        go : (b : Bool) → flat (if b then Term.bound k else Term.eps m (close_type k n t)) ≡ 1
        go true = refl
        go false = refl
    close_flat k (Term.meta m t) = refl
    close_flat k (Term.app f ts us) = cc (close_types_depth k ts, close_flats k us)

    close_flats : (k : ℕ) (us : Terms) → flats (close_terms k n us) ≡ flats us
    close_flats k Terms.none = refl
    close_flats k (Terms.more u us) = cc (close_flat k u, close_flats k us)

  pub close_flat_depth : (k : ℕ) (f : Form) → flat_depth (close_at k n f) ≡ flat_depth f
  close_flat_depth k Form.truth = refl
  close_flat_depth k Form.falsity = refl
  close_flat_depth k (Form.atom p ts us) = cc (close_types_depth k ts, close_flats k us)
  close_flat_depth k (Form.equal t a b) = cc (close_type_depth k t, close_flat k a, close_flat k b)
  close_flat_depth k (Form.negation f) = ap (λ d. 1 + d) (close_flat_depth k f)
  close_flat_depth k (Form.binary c f g) = cc (close_flat_depth k f, close_flat_depth k g)
  close_flat_depth k (Form.quantified q t f) = cc (close_type_depth k t, close_flat_depth (k + 1) f)
  close_flat_depth k (Form.quantified_types q f) = ap (λ d. 1 + d) (close_flat_depth (k + 1) f)

-- without parameters it is the depth
mutual
  ground_flat : (u : Term) → EachInTerm Never u → term_depth u ≡ flat u
  ground_flat (Term.bound i) e = refl
  ground_flat (Term.eps n t) e = absurd e.0
  ground_flat (Term.meta n t) e = absurd e.0
  ground_flat (Term.app f ts us) e = cc (ground_flats us e.1)

  ground_flats : (us : Terms) → EachInTerms Never us → terms_depth us ≡ flats us
  ground_flats Terms.none e = refl
  ground_flats (Terms.more u us) e = cc (ground_flat u e.0, ground_flats us e.1)

pub ground_depth : (f : Form) → HasNoParameter f → depth f ≡ flat_depth f
ground_depth Form.truth e = refl
ground_depth Form.falsity e = refl
ground_depth (Form.atom p ts us) e = cc (ground_flats us e.1)
ground_depth (Form.equal t a b) e = cc (ground_flat a e.1, ground_flat b e.2)
ground_depth (Form.negation f) e = ap (λ d. 1 + d) (ground_depth f e)
ground_depth (Form.binary c f g) e = cc (ground_depth f e.0, ground_depth g e.1)
ground_depth (Form.quantified q t f) e = cc (ground_depth f e.1)
ground_depth (Form.quantified_types q f) e = ap (λ d. 1 + d) (ground_depth f e)

-- the depth of a type where an index counts d
module _ (d : ℕ) where
  abbrev mutual
    weighed : Ty → ℕ
    weighed (Ty.bound i) = 1 + d
    weighed (Ty.param n) = 1
    weighed (Ty.meta n) = 1
    weighed (Ty.con c ts) = 1 + all_weighed ts

    all_weighed : Tys → ℕ
    all_weighed Tys.none = 0
    all_weighed (Tys.more t ts) = max (weighed t) (all_weighed ts)

  mutual
    at_least : (t : Ty) → type_depth t ≤ weighed t
    at_least (Ty.bound i) = omega arith
    at_least (Ty.param n) = omega arith
    at_least (Ty.meta n) = omega arith
    at_least (Ty.con c ts) = omega (arith, all_at_least ts)

    all_at_least : (ts : Tys) → types_depth ts ≤ all_weighed ts
    all_at_least Tys.none = omega arith
    all_at_least (Tys.more t ts) = omega (arith, at_least t, all_at_least ts)

  mutual
    at_most : (t : Ty) → weighed t ≤ type_depth t + d
    at_most (Ty.bound i) = omega arith
    at_most (Ty.param n) = omega arith
    at_most (Ty.meta n) = omega arith
    at_most (Ty.con c ts) = omega (arith, all_at_most ts)

    all_at_most : (ts : Tys) → all_weighed ts ≤ types_depth ts + d
    all_at_most Tys.none = omega arith
    all_at_most (Tys.more t ts) = omega (arith, at_most t, all_at_most ts)

  module _ (symbols : List Symbol) where
    mutual
      closed_weight : (t : Ty) → IsType symbols 0 t → weighed t ≡ type_depth t
      closed_weight (Ty.bound i) h = absurd (omega arith)
      closed_weight (Ty.param n) h = refl
      closed_weight (Ty.meta n) h = refl
      closed_weight (Ty.con c ts) h = ap (λ k. 1 + k) (all_closed_weight ts h.1)

      all_closed_weight : (ts : Tys) → AreTypes symbols 0 ts → all_weighed ts ≡ types_depth ts
      all_closed_weight Tys.none h = refl
      all_closed_weight (Tys.more t ts) h = cc (closed_weight t h.0, all_closed_weight ts h.1)

    module _ (k : ℕ) (u : Ty) (h : IsType symbols 0 u) (l : type_depth u ≤ d) where
      mutual
        opened_weight : (t : Ty) → weighed (open_type k (Opening.of_type u) t) ≤ weighed t
        opened_weight (Ty.bound i) = go (i == k)
          where
            go : (b : Bool) → weighed (if b then u else Ty.bound i) ≤ 1 + d
            go true = omega (arith, closed_weight u h)
            go false = omega arith
        opened_weight (Ty.param n) = omega arith
        opened_weight (Ty.meta n) = omega arith
        opened_weight (Ty.con c ts) = omega (arith, all_opened_weight ts)

        all_opened_weight : (ts : Tys) → all_weighed (open_types k (Opening.of_type u) ts) ≤ all_weighed ts
        all_opened_weight Tys.none = omega arith
        all_opened_weight (Tys.more t ts) = omega (arith, opened_weight t, all_opened_weight ts)

    instance_weight : (ts : Tys) (r : Ty) → AreTypes symbols 0 ts → types_depth ts ≤ d
        → weighed (type_instance (openings ts) r) ≤ weighed r
    instance_weight Tys.none r h l = omega arith
    instance_weight (Tys.more u us) r h l =
        let o = opened_weight (length (openings us)) u h.0 (omega arith) r in
        let i = instance_weight us (open_type (length (openings us)) (Opening.of_type u) r) h.1 (omega arith) in
        omega arith

-- a declared type at types is as deep as both together at most
pub instance_depth : (symbols : List Symbol) (ts : Tys) (r : Ty) → AreTypes symbols 0 ts
    → type_depth (type_instance (openings ts) r) ≤ type_depth r + types_depth ts
instance_depth symbols ts r h =
    let d = types_depth ts in
    let a = at_least d (type_instance (openings ts) r) in
    let b = instance_weight d symbols ts r h (omega arith) in
    let c = at_most d r in
    omega arith

-- a type is as deep as it was written
type_variable_depth : (o : Option Bound) (u : Ty) → type_variable o ≡ Ok u → type_depth u ≡ 1
type_variable_depth None u h = absurd (no_ok _ u h)
type_variable_depth (Some b) u h = go b.binder h
  where
    go : (x : Binder) → if_type b.number x ≡ Ok u → type_depth u ≡ 1
    go Binder.of_type h = ap type_depth (sym (ok_same (Ty.param b.number) u h))
    go (Binder.of_term t) h = absurd (no_ok _ u h)

module _ (table : Table) (s : Scope) where
  mutual
    pub written_type_depth : (t : RawType) (u : Ty) → type_in table s t ≡ Ok u → type_depth u ≤ raw_type_depth t
    written_type_depth RawType.individual u h = let e = ap type_depth (ok_same individual u h) in omega arith
    written_type_depth RawType.truth u h = absurd (no_ok _ u h)
    written_type_depth RawType.kind u h = absurd (no_ok _ u h)
    written_type_depth (RawType.variable x) u h = let e = type_variable_depth (look_up s x) u h in omega arith
    written_type_depth (RawType.named c ts) u h =
        let a = both_ok (constructor_at (declared table c) (number_of_types ts)) _ u h in
        let b = both_ok (types_in table s ts) _ u a.2 in
        let i = written_types_depth ts b.0 b.1 in
        let e = ap type_depth (ok_same (Ty.con a.0 b.0) u b.2) in
        omega arith

    pub written_types_depth : (ts : RawTypes) (us : Tys) → types_in table s ts ≡ Ok us
        → types_depth us ≤ raw_types_depth ts
    written_types_depth RawTypes.none us h = let e = ap types_depth (ok_same Tys.none us h) in omega arith
    written_types_depth (RawTypes.more t ts) us h =
        let a = both_ok (type_in table s t) _ us h in
        let b = both_ok (types_in table s ts) _ us a.2 in
        let i = written_type_depth t a.0 a.1 in
        let j = written_types_depth ts b.0 b.1 in
        let e = ap types_depth (ok_same (Tys.more a.0 b.0) us b.2) in
        omega arith

mutual
  as_type_depth : (u : RawTerm) → raw_type_depth (as_type u) ≡ raw_term_depth u
  as_type_depth RawTerm.individual = refl
  as_type_depth RawTerm.truth = refl
  as_type_depth (RawTerm.variable x) = refl
  as_type_depth (RawTerm.named f us) = ap (λ k. 1 + k) (as_types_depth us)

  as_types_depth : (us : RawTerms) → raw_types_depth (as_types us) ≡ raw_terms_depth us
  as_types_depth RawTerms.none = refl
  as_types_depth (RawTerms.more u us) = cc (as_type_depth u, as_types_depth us)

pub first_depth : (n : ℕ) (us : RawTerms) → raw_types_depth (as_types (first n us)) ≤ raw_terms_depth us
first_depth zero us = omega arith
first_depth (suc n) RawTerms.none = omega arith
first_depth (suc n) (RawTerms.more u us) = omega (arith, as_type_depth u, first_depth n us)
