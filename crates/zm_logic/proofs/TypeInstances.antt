-- A declared type at types is a type again, and so are the variables in it.
use Rattle.std.proofs.Common.{◌≡◌, ℕ, ◌+◌, ◌<◌, ◌==◌, Bool, true, false, if◌then◌else◌, List, [], ◌∷◌, length, refl, arith, sym, subst, ◌∙◌}
use Rattle.std.proofs.lemmas.Bool.{eqb-false}
use Rattle.zm_logic.specs.Tree.{Ty, Tys, Symbol, Opening}
use Rattle.zm_logic.specs.Opening.{type_at, open_type, open_types, type_instance, types_instance, openings}
use Rattle.zm_logic.specs.Typing.{IsType, AreTypes, how_many}
use Rattle.zm_logic.specs.Parameter.{Parameter, EachInType, EachInTypes}

pub length_openings : (ts : Tys) → length (openings ts) ≡ how_many ts
length_openings Tys.none = refl
length_openings (Tys.more t ts) = omega (arith, length_openings ts)

pub how_many_opened : (k : ℕ) (o : Opening) (ts : Tys) → how_many (open_types k o ts) ≡ how_many ts
how_many_opened k o Tys.none = refl
how_many_opened k o (Tys.more t ts) = omega (arith, how_many_opened k o ts)

pub how_many_instance : (os : List Opening) (ts : Tys) → how_many (types_instance os ts) ≡ how_many ts
how_many_instance [] ts = refl
how_many_instance (o ∷ os) ts = how_many_instance os (open_types (length os) o ts) ∙ how_many_opened (length os) o ts

module _ (symbols : List Symbol) where
  mutual
    more_variables : (k : ℕ) (t : Ty) → IsType symbols 0 t → IsType symbols k t
    more_variables k (Ty.bound i) h = omega arith
    more_variables k (Ty.param n) h = tt
    more_variables k (Ty.meta n) h = tt
    more_variables k (Ty.con c ts) h = (h.0, more_variables_each k ts h.1)

    more_variables_each : (k : ℕ) (ts : Tys) → AreTypes symbols 0 ts → AreTypes symbols k ts
    more_variables_each k Tys.none h = tt
    more_variables_each k (Tys.more t ts) h = (more_variables k t h.0, more_variables_each k ts h.1)

  opened_index : (k i : ℕ) (u : Ty) → IsType symbols 0 u → i < k + 1
      → IsType symbols k (type_at k (Opening.of_type u) i)
  opened_index k i u h l = go (i == k) refl
    where
      go : (b : Bool) → (i == k) ≡ b → IsType symbols k (if b then u else Ty.bound i)
      go true e = more_variables k u h
      go false e = let n : i ≡ k → ⊥ = eqb-false i k e in omega arith

  module _ (k : ℕ) (u : Ty) (h : IsType symbols 0 u) where
    mutual
      opened_type : (t : Ty) → IsType symbols (k + 1) t → IsType symbols k (open_type k (Opening.of_type u) t)
      opened_type (Ty.bound i) l = opened_index k i u h l
      opened_type (Ty.param n) l = tt
      opened_type (Ty.meta n) l = tt
      opened_type (Ty.con c ts) l =
          ((l.0.0, (l.0.1.0, l.0.1.1 ∙ sym (how_many_opened k (Opening.of_type u) ts)), l.0.2), opened_types ts l.1)

      opened_types : (ts : Tys) → AreTypes symbols (k + 1) ts → AreTypes symbols k (open_types k (Opening.of_type u) ts)
      opened_types Tys.none l = tt
      opened_types (Tys.more t ts) l = (opened_type t l.0, opened_types ts l.1)

  pub type_instance_typed : (ts : Tys) (r : Ty) → AreTypes symbols 0 ts → IsType symbols (how_many ts) r
      → IsType symbols 0 (type_instance (openings ts) r)
  type_instance_typed Tys.none r h t = t
  type_instance_typed (Tys.more u us) r h t =
      let e : 1 + how_many us ≡ length (openings us) + 1 = omega (arith, length_openings us) in
      let o = opened_type (length (openings us)) u h.0 r (subst (λ (k : ℕ). IsType symbols k r) e t) in
      type_instance_typed us (open_type (length (openings us)) (Opening.of_type u) r) h.1
      (subst (λ (k : ℕ). IsType symbols k (open_type (length (openings us)) (Opening.of_type u) r))
      (length_openings us) o)

  pub types_instance_typed : (us ts : Tys) → AreTypes symbols 0 us → AreTypes symbols (how_many us) ts
      → AreTypes symbols 0 (types_instance (openings us) ts)
  types_instance_typed Tys.none ts h l = l
  types_instance_typed (Tys.more u us) ts h l =
      let e : 1 + how_many us ≡ length (openings us) + 1 = omega (arith, length_openings us) in
      let o = opened_types (length (openings us)) u h.0 ts (subst (λ (k : ℕ). AreTypes symbols k ts) e l) in
      types_instance_typed us (open_types (length (openings us)) (Opening.of_type u) ts) h.1
      (subst (λ (k : ℕ). AreTypes symbols k (open_types (length (openings us)) (Opening.of_type u) ts)) (length_openings us) o)

module _ (P : Parameter → Type 0) where
  each_index : (k i : ℕ) (u : Ty) → EachInType P u → EachInType P (type_at k (Opening.of_type u) i)
  each_index k i u h = go (i == k)
    where
      go : (b : Bool) → EachInType P (if b then u else Ty.bound i)
      go true = h
      go false = tt

  module _ (k : ℕ) (u : Ty) (h : EachInType P u) where
    mutual
      each_opened : (t : Ty) → EachInType P t → EachInType P (open_type k (Opening.of_type u) t)
      each_opened (Ty.bound i) e = each_index k i u h
      each_opened (Ty.param n) e = e
      each_opened (Ty.meta n) e = e
      each_opened (Ty.con c ts) e = each_opened_types ts e

      each_opened_types : (ts : Tys) → EachInTypes P ts → EachInTypes P (open_types k (Opening.of_type u) ts)
      each_opened_types Tys.none e = tt
      each_opened_types (Tys.more t ts) e = (each_opened t e.0, each_opened_types ts e.1)

  pub each_instance : (ts : Tys) (r : Ty) → EachInTypes P ts → EachInType P r
      → EachInType P (type_instance (openings ts) r)
  each_instance Tys.none r h e = e
  each_instance (Tys.more u us) r h e =
      each_instance us (open_type (length (openings us)) (Opening.of_type u) r) h.1
      (each_opened (length (openings us)) u h.0 r e)
