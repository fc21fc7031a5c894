-- What is given in a type's place is a type over the variables in scope.
use Rattle.std.proofs.Common.{◌≡◌, ℕ, zero, suc, ◌==◌, Option, Some, None, Ok, List, refl, arith, sym, ap, subst, take}
use Rattle.std.proofs.lemmas.Bool.{eqb-true}
use Rattle.std.proofs.lemmas.Option.{same_Some}
use Rattle.zm_logic.specs.Tree.{Ty, Tys, Symbol, Sense, Binder}
use Rattle.zm_logic.specs.Typing.{symbol_at, individuals, individual, how_many, IsType, AreTypes, IsSignature, IsSense}
use Rattle.zm_logic.specs.Parameter.{EachInType, EachInTypes}
use Rattle.tptp_reader.specs.Raw.{RawType, RawTypes}
use Rattle.tff_typing.specs.Written.{number_of_types}
use Rattle.tff_typing.specs.Scope.{Scope, Bound, look_up, binder_of, IsInScope}
use Rattle.tff_typing.specs.Table.{Table, Numbered, symbols_of, arity, declared, declared_as}
use Rattle.tff_typing.specs.Fault.{Fault}
use Rattle.tff_typing.specs.Places.{if_type, type_variable, if_constructor, constructor_at, type_in, types_in}
use Rattle.tff_typing.proofs.Outcomes.{both_ok, ok_same, no_ok, test_held}
use Rattle.tff_typing.proofs.Lookups.{looked_up, found_at}

-- a type over the variables in scope
pub record IsTypeIn (symbols : List Symbol) (s : Scope) (t : Ty) : Type 0 where
  pub typed : IsType symbols 0 t
  pub each : EachInType (IsInScope s) t

pub record AreTypesIn (symbols : List Symbol) (s : Scope) (n : ℕ) (ts : Tys) : Type 0 where
  pub typed : AreTypes symbols 0 ts
  pub each : EachInTypes (IsInScope s) ts
  pub number : how_many ts ≡ n

pub individual_in : (symbols : List Symbol) (s : Scope) → IsTypeIn symbols s individual
individual_in symbols s = record { typed = ((individuals, (refl, refl), refl), tt); each = tt }

-- a constructor of n types
pub record IsConstructor (symbols : List Symbol) (c n : ℕ) : Type 0 where
  pub symbol : Symbol
  pub at : symbol_at symbols c ≡ Some symbol
  pub types : symbol.types ≡ n
  pub sense : symbol.sense ≡ Sense.constructor

no_arguments : (symbols : List Symbol) → IsSignature symbols → (c : ℕ) (d : Symbol) → symbol_at symbols c ≡ Some d
    → d.sense ≡ Sense.constructor → d.arguments ≡ Tys.none
no_arguments symbols sig zero d h e = let i = same_Some individuals d h in ap (λ (y : Symbol). y.arguments) (sym i)
no_arguments symbols sig (suc n) d h e = subst (λ (x : Sense). IsSense (take n symbols) d x) e (sig n d h).2

sense_is : (c m : ℕ) (x : Sense) → if_constructor c x ≡ Ok m → (c ≡ m) × (x ≡ Sense.constructor)
sense_is c m Sense.constructor h = (ok_same c m h, refl)
sense_is c m Sense.predicate h = absurd (no_ok _ m h)
sense_is c m (Sense.function r) h = absurd (no_ok _ m h)

pub constructor_is : (symbols : List Symbol) → IsSignature symbols → (n m : ℕ) (o : Option Numbered)
    → ((d : Numbered) → o ≡ Some d → symbol_at symbols d.number ≡ Some d.symbol)
    → constructor_at o n ≡ Ok m → IsConstructor symbols m n
constructor_is symbols sig n m None found h = absurd (no_ok _ m h)
constructor_is symbols sig n m (Some d) found h =
    let a = test_held (n == arity d.symbol) (if_constructor d.number d.symbol.sense) Fault.arity m h in
    let b = sense_is d.number m d.symbol.sense a.1 in
    let i : n ≡ arity d.symbol = eqb-true n (arity d.symbol) a.0 in
    let at = found d refl in
    let none = no_arguments symbols sig d.number d.symbol at b.1 in
    let k : how_many d.symbol.arguments ≡ 0 = ap how_many none in
    record {
      symbol = d.symbol;
      at = subst (λ (c : ℕ). symbol_at symbols c ≡ Some d.symbol) b.0 at;
      types = omega arith;
      sense = b.1;
    }

variable_is : (symbols : List Symbol) (s : Scope) (n : ℕ) (b : Binder) (t : Ty) → binder_of s n ≡ Some b
    → if_type n b ≡ Ok t → IsTypeIn symbols s t
variable_is symbols s n Binder.of_type t here h =
    subst (λ (x : Ty). IsTypeIn symbols s x) (ok_same (Ty.param n) t h) (record { typed = tt; each = here })
variable_is symbols s n (Binder.of_term u) t here h = absurd (no_ok _ t h)

bound_is : (symbols : List Symbol) (s : Scope) (o : Option Bound) (t : Ty)
    → ((b : Bound) → o ≡ Some b → binder_of s b.number ≡ Some b.binder)
    → type_variable o ≡ Ok t → IsTypeIn symbols s t
bound_is symbols s None t found h = absurd (no_ok _ t h)
bound_is symbols s (Some b) t found h = variable_is symbols s b.number b.binder t (found b refl) h

module _ (table : Table) (s : Scope) (sig : IsSignature (symbols_of table)) where
  mutual
    pub type_sound : (t : RawType) (u : Ty) → type_in table s t ≡ Ok u → IsTypeIn (symbols_of table) s u
    type_sound RawType.individual u h =
        subst (λ (x : Ty). IsTypeIn (symbols_of table) s x) (ok_same individual u h)
        (individual_in (symbols_of table) s)
    type_sound RawType.truth u h = absurd (no_ok _ u h)
    type_sound RawType.kind u h = absurd (no_ok _ u h)
    type_sound (RawType.variable x) u h = bound_is (symbols_of table) s (look_up s x) u (λ b e. looked_up s x b e) h
    type_sound (RawType.named c ts) u h =
        let a = both_ok (constructor_at (declared table c) (number_of_types ts)) _ u h in
        let b = both_ok (types_in table s ts) _ u a.2 in
        let d = constructor_is (symbols_of table) sig (number_of_types ts) a.0 (declared table c)
        (λ d e. found_at (declared_as c) table d e) a.1 in
        let us = types_sound ts b.0 b.1 in
        let i : d.symbol.types ≡ how_many b.0 = omega (arith, d.types, us.number) in
        subst (λ (x : Ty). IsTypeIn (symbols_of table) s x) (ok_same (Ty.con a.0 b.0) u b.2)
        (record { typed = ((d.symbol, (d.at, i), d.sense), us.typed); each = us.each })

    pub types_sound : (ts : RawTypes) (us : Tys) → types_in table s ts ≡ Ok us
        → AreTypesIn (symbols_of table) s (number_of_types ts) us
    types_sound RawTypes.none us h =
        subst (λ (x : Tys). AreTypesIn (symbols_of table) s 0 x) (ok_same Tys.none us h)
        (record { typed = tt; each = tt; number = refl })
    types_sound (RawTypes.more t ts) us h =
        let a = both_ok (type_in table s t) _ us h in
        let b = both_ok (types_in table s ts) _ us a.2 in
        let v = type_sound t a.0 a.1 in
        let vs = types_sound ts b.0 b.1 in
        subst (λ (x : Tys). AreTypesIn (symbols_of table) s (suc (number_of_types ts)) x)
        (ok_same (Tys.more a.0 b.0) us b.2)
        (record { typed = (v.typed, vs.typed); each = (v.each, vs.each); number = omega (arith, vs.number) })
