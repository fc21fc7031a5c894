-- What is given in a term's or a formula's place is well typed over the variables in scope.
use Rattle.std.proofs.Common.{◌≡◌, ℕ, zero, suc, ◌+◌, ◌≤◌, ◌==◌, Bool, true, false, if◌then◌else◌, Option, Some, None, Ok, List, [], ◌∷◌, length, take, refl, arith, sym, ap, subst, ◌∙◌}
use Rattle.std.proofs.lemmas.Option.{same_Some, none-some}
use Rattle.zm_logic.proofs.Sames.{same_type-true}
use Rattle.zm_logic.specs.Tree.{Ty, Tys, Term, Terms, Symbol, Sense, Binder}
use Rattle.zm_logic.specs.Opening.{openings}
use Rattle.zm_logic.specs.Same.{same_type}
use Rattle.zm_logic.specs.Typing.{nth, symbol_at, individuals, how_many, argument_types, IsType, AreTypes, HasType, HaveTypes, IsAtom, IsSignature, IsSense}
use Rattle.zm_logic.specs.Parameter.{Parameter, EachInType, EachInTypes, EachInTerm, EachInTerms, Never}
use Rattle.zm_logic.proofs.Each.{each_type}
use Rattle.tptp_reader.specs.Raw.{RawTerm, RawTerms}
use Rattle.tff_typing.specs.Written.{as_types, number_of_types, number_of_terms}
use Rattle.tff_typing.specs.Scope.{Scope, Variable, Bound, look_up, binder_of, IsInScope}
use Rattle.tff_typing.specs.Table.{Table, Place, symbols_of}
use Rattle.tff_typing.specs.Fault.{Fault, found_type}
use Rattle.tff_typing.specs.Places.{types_in, Use, symbol_for, Expression, applied, if_term, term_variable, wanted, first}
use Rattle.tff_typing.specs.Typing.{Typed, gives, expression_in, terms_in}
use Rattle.tff_typing.proofs.Outcomes.{both_ok, ok_same, no_ok, test_held}
use Rattle.tff_typing.proofs.Lookups.{looked_up, binder_kept}
use Rattle.tff_typing.proofs.Extends.{Extends, type_kept, types_kept, term_kept, itself, joined}
use Rattle.zm_logic.proofs.TypeInstances.{how_many_instance, type_instance_typed, each_instance}
use Rattle.tff_typing.proofs.Tables.{IsTable, use_is}
use Rattle.tff_typing.proofs.TypesTyped.{IsTypeIn, types_sound}

-- each variable in scope has a type over those before it
abbrev pub IsBinderIn : List Symbol → Scope → Binder → Type 0
IsBinderIn symbols s Binder.of_type = Unit {0}
IsBinderIn symbols s (Binder.of_term t) = IsTypeIn symbols s t

abbrev pub IsScope : List Symbol → Scope → Type 0
IsScope symbols [] = Unit {0}
IsScope symbols (v ∷ vs) = IsScope symbols vs × IsBinderIn symbols vs v.binder

pub in_scope_kept : (v : Variable) (s : Scope) (p : Parameter) → IsInScope s p → IsInScope (v ∷ s) p
in_scope_kept v s (Parameter.type_param n) h = binder_kept v s n Binder.of_type h
in_scope_kept v s (Parameter.type_meta n) h = h
in_scope_kept v s (Parameter.eps n t) h = binder_kept v s n (Binder.of_term t) h
in_scope_kept v s (Parameter.meta n t) h = h

pub type_under : (symbols : List Symbol) (v : Variable) (s : Scope) (t : Ty) → IsTypeIn symbols s t
    → IsTypeIn symbols (v ∷ s) t
type_under symbols v s t h =
    record { typed = h.typed; each = each_type (IsInScope s) (IsInScope (v ∷ s)) (in_scope_kept v s) t h.each }

-- a variable's type is a type over the whole scope
pub carried : (symbols : List Symbol) (s : Scope) (n : ℕ) (t : Ty) → IsScope symbols s
    → binder_of s n ≡ Some (Binder.of_term t) → IsTypeIn symbols s t
carried symbols [] n t ok h = absurd (none-some (Binder.of_term t) h)
carried symbols (v ∷ vs) n t ok h = go (n == length vs) h (λ i. carried symbols vs n t ok.0 i)
  where
    go : (b : Bool) → (if b then Some v.binder else binder_of vs n) ≡ Some (Binder.of_term t)
        → (binder_of vs n ≡ Some (Binder.of_term t) → IsTypeIn symbols vs t) → IsTypeIn symbols (v ∷ vs) t
    go true h later =
        let e = same_Some v.binder (Binder.of_term t) h in
        type_under symbols v vs t (subst (λ (x : Binder). IsBinderIn symbols vs x) e ok.1)
    go false h later = type_under symbols v vs t (later h)

pub type_in_kept : (a b : List Symbol) (s : Scope) (t : Ty) → Extends a b → IsTypeIn a s t → IsTypeIn b s t
type_in_kept a b s t x h = record { typed = type_kept a b x 0 t h.typed; each = h.each }

pub scope_kept : (a b : List Symbol) (s : Scope) → Extends a b → IsScope a s → IsScope b s
scope_kept a b [] x ok = tt
scope_kept a b (v ∷ vs) x ok = (scope_kept a b vs x ok.0, go v.binder ok.1)
  where
    go : (y : Binder) → IsBinderIn a vs y → IsBinderIn b vs y
    go Binder.of_type h = tt
    go (Binder.of_term t) h = type_in_kept a b vs t x h

-- an expression over the variables in scope
pub record IsTermIn (symbols : List Symbol) (s : Scope) (t : Ty) (u : Term) : Type 0 where
  pub typed : HasType symbols u t
  pub type : IsTypeIn symbols s t
  pub each : EachInTerm (IsInScope s) u

pub record IsAtomIn (symbols : List Symbol) (s : Scope) (p : ℕ) (ts : Tys) (us : Terms) : Type 0 where
  pub typed : IsAtom symbols p ts us
  pub types : EachInTypes (IsInScope s) ts
  pub terms : EachInTerms (IsInScope s) us

abbrev pub IsExpressionIn : List Symbol → Scope → Expression → Type 0
IsExpressionIn symbols s (Expression.term t u) = IsTermIn symbols s t u
IsExpressionIn symbols s (Expression.atom p ts us) = IsAtomIn symbols s p ts us

-- a table that grew from another, and stayed one
pub record IsGrown (before after : Table) : Type 0 where
  pub good : IsTable after
  pub grows : Extends (symbols_of before) (symbols_of after)

pub record IsSound (s : Scope) (before : Table) (e : Typed Expression) : Type 0 where
  pub grown : IsGrown before e.table
  pub expression : IsExpressionIn (symbols_of e.table) s e.tree

pub record AreSound (s : Scope) (before : Table) (ws : Tys) (e : Typed Terms) : Type 0 where
  pub grown : IsGrown before e.table
  pub typed : HaveTypes (symbols_of e.table) e.tree ws
  pub each : EachInTerms (IsInScope s) e.tree

pub first_number : (n : ℕ) (us : RawTerms) → n ≤ number_of_terms us → number_of_types (as_types (first n us)) ≡ n
first_number zero us h = refl
first_number (suc n) RawTerms.none h = absurd (omega arith)
first_number (suc n) (RawTerms.more u us) h =
    let l : n ≤ number_of_terms us = omega arith in ap suc (first_number n us l)

-- the term of a wanted type
pub wanted_is : (symbols : List Symbol) (s : Scope) (t : Ty) (e : Expression) (u : Term) → IsExpressionIn symbols s e
    → wanted t e ≡ Ok u → IsTermIn symbols s t u
wanted_is symbols s t (Expression.term v a) u ok h =
    let b = test_held (same_type v t) (Ok a) (Fault.mismatch (found_type t) (found_type v)) u h in
    subst (λ (x : Term). IsTermIn symbols s t x) (ok_same a u b.1)
    (subst (λ (x : Ty). IsTermIn symbols s x a) (same_type-true v t b.0) ok)
wanted_is symbols s t (Expression.atom p ts us) u ok h = absurd (no_ok _ u h)

variable_is : (symbols : List Symbol) (s : Scope) (n : ℕ) (b : Binder) (e : Expression) → IsScope symbols s
    → binder_of s n ≡ Some b
    → if_term n b ≡ Ok e → IsExpressionIn symbols s e
variable_is symbols s n Binder.of_type e ok here h = absurd (no_ok _ e h)
variable_is symbols s n (Binder.of_term t) e ok here h =
    let c = carried symbols s n t ok here in
    subst (λ (x : Expression). IsExpressionIn symbols s x) (ok_same (Expression.term t (Term.eps n t)) e h)
    (record { typed = (c.typed, refl); type = c; each = (here, c.each) })

bound_is : (symbols : List Symbol) (s : Scope) (o : Option Bound) (e : Expression) → IsScope symbols s
    → ((b : Bound) → o ≡ Some b → binder_of s b.number ≡ Some b.binder) → term_variable o ≡ Ok e
    → IsExpressionIn symbols s e
bound_is symbols s None e ok found h = absurd (no_ok _ e h)
bound_is symbols s (Some b) e ok found h = variable_is symbols s b.number b.binder e ok (found b refl) h

never_any : (s : Scope) (t : Ty) → EachInType Never t → EachInType (IsInScope s) t
never_any s t h = each_type Never (IsInScope s) (λ p x. absurd x) t h

-- a function's result type has no parameter, and its indices are the declaration's type variables
result_is : (symbols : List Symbol) → IsSignature symbols → (f : ℕ) (d : Symbol) (r : Ty) → symbol_at symbols f ≡ Some d
    → d.sense ≡ Sense.function r
    → (n : ℕ) × IsType (take n symbols) d.types r × EachInType Never r
result_is symbols sig zero d r h e = absurd (no (ap (λ (y : Symbol). y.sense) (same_Some individuals d h) ∙ e))
  where
    no : Sense.constructor ≡ Sense.function r → ⊥
    no h = cc
result_is symbols sig (suc n) d r h e =
    let i = subst (λ (x : Sense). IsSense (take n symbols) d x) e (sig n d h).2 in (n, i.0, i.1)

take_extends : (n : ℕ) (symbols : List Symbol) → Extends (take n symbols) symbols
take_extends n symbols = record { at = go }
  where
    go : (m : ℕ) (d : Symbol) → symbol_at (take n symbols) m ≡ Some d → symbol_at symbols m ≡ Some d
    go zero d h = h
    go (suc m) d h = below n m symbols h
      where
        below : (n m : ℕ) (ss : List Symbol) → nth (take n ss) m ≡ Some d → nth ss m ≡ Some d
        below zero m ss h = absurd (none-some d h)
        below (suc n) m [] h = h
        below (suc n) zero (x ∷ ss) h = h
        below (suc n) (suc m) (x ∷ ss) h = below n m ss h

-- a symbol at types and arguments of their types
applied_is : (symbols : List Symbol) (s : Scope) (f : ℕ) (d : Symbol) (ts : Tys) (us : Terms) → IsSignature symbols
    → symbol_at symbols f ≡ Some d → d.types ≡ how_many ts → AreTypes symbols 0 ts → EachInTypes (IsInScope s) ts
    → HaveTypes symbols us (argument_types d ts) → EachInTerms (IsInScope s) us
    → (x : Sense) → d.sense ≡ x → (Sense.constructor ≡ x → ⊥) → IsExpressionIn symbols s (applied f ts us x)
applied_is symbols s f d ts us sig at n types each typed terms Sense.constructor e apart = absurd (apart refl)
applied_is symbols s f d ts us sig at n types each typed terms Sense.predicate e apart =
    record { typed = (d, (at, n), e, types, typed); types = each; terms = terms }
applied_is symbols s f d ts us sig at n types each typed terms (Sense.function r) e apart =
    let i = result_is symbols sig f d r at e in
    let k = type_kept (take i.0 symbols) symbols (take_extends i.0 symbols) d.types r i.1 in
    record {
      typed = (d, r, (at, n), e, types, typed, refl);
      type = record {
        typed = type_instance_typed symbols ts r types (subst (λ (m : ℕ). IsType symbols m r) n k);
        each = each_instance (IsInScope s) ts r each (never_any s r i.2);
      };
      each = (each, terms);
    }

abbrev named_gives : Use → Tys → Typed Terms → Typed Expression
named_gives d ts vs = record { tree = applied d.found.number ts vs.tree d.found.symbol.sense; table = vs.table }

abbrev more_gives : Term → Typed Terms → Typed Terms
more_gives a vs = record { tree = Terms.more a vs.tree; table = vs.table }

abbrev no_terms : Table → Typed Terms
no_terms table = record { tree = Terms.none; table = table }

pub as_it_is : (table : Table) → IsTable table → IsGrown table table
as_it_is table ok = record { good = ok; grows = itself (symbols_of table) }

mutual
  pub expression_sound : (table : Table) (s : Scope) (place : Place) (u : RawTerm) (e : Typed Expression)
      → IsTable table → IsScope (symbols_of table) s
      → expression_in table s place u ≡ Ok e → IsSound s table e
  expression_sound table s place RawTerm.individual e ok scope h = absurd (no_ok _ e h)
  expression_sound table s place RawTerm.truth e ok scope h = absurd (no_ok _ e h)
  expression_sound table s place (RawTerm.variable x) e ok scope h =
      let a = both_ok (term_variable (look_up s x)) (λ y. gives table y) e h in
      let r : Typed Expression = record { tree = a.0; table = table } in
      subst (λ (y : Typed Expression). IsSound s table y) (ok_same r e a.2)
      (record {
        grown = as_it_is table ok;
        expression = bound_is (symbols_of table) s (look_up s x) a.0 scope (λ b i. looked_up s x b i) a.1;
      })
  expression_sound table s place (RawTerm.named f us) e ok scope h =
      let a = both_ok (symbol_for table place f (number_of_terms us)) _ e h in
      let d = a.0 in
      let b = both_ok (types_in d.table s (as_types (first d.found.symbol.types us))) _ e a.2 in
      let ts = b.0 in
      let c = both_ok (terms_in d.table s d.found.symbol.types (argument_types d.found.symbol ts) us) _ e b.2 in
      let vs = c.0 in
      let x = use_is table ok place f (number_of_terms us) d a.1 in
      let t = types_sound d.table s x.good.signature (as_types (first d.found.symbol.types us)) ts b.1 in
      let n : how_many ts
      ≡ d.found.symbol.types = t.number ∙ first_number d.found.symbol.types us (omega (arith, x.number)) in
      let m = how_many_instance (openings ts) d.found.symbol.arguments in
      let v = terms_sound d.table s d.found.symbol.types (argument_types d.found.symbol ts) us vs x.good
      (scope_kept (symbols_of table) (symbols_of d.table) s x.grows scope) (omega (arith, x.number, m)) c.1 in
      let grows = v.grown.grows in
      subst (λ (y : Typed Expression). IsSound s table y) (ok_same (named_gives d ts vs) e c.2)
      (record {
        grown = record { good = v.grown.good; grows = joined x.grows grows };
        expression =
            applied_is (symbols_of vs.table) s d.found.number d.found.symbol ts vs.tree v.grown.good.signature
            (grows.at d.found.number d.found.symbol x.at) (sym n)
            (types_kept (symbols_of d.table) (symbols_of vs.table) grows 0 ts t.typed) t.each v.typed v.each
            d.found.symbol.sense refl x.sense;
      })

  pub terms_sound : (table : Table) (s : Scope) (n : ℕ) (ws : Tys) (us : RawTerms) (e : Typed Terms) → IsTable table
      → IsScope (symbols_of table) s
      → number_of_terms us ≡ n + how_many ws → terms_in table s n ws us ≡ Ok e → AreSound s table ws e
  terms_sound table s zero Tys.none RawTerms.none e ok scope k h =
      subst (λ (y : Typed Terms). AreSound s table Tys.none y) (ok_same (no_terms table) e h)
      (record { grown = as_it_is table ok; typed = tt; each = tt })
  terms_sound table s zero (Tys.more w ws) RawTerms.none e ok scope k h = absurd (omega arith)
  terms_sound table s (suc n) ws RawTerms.none e ok scope k h = absurd (omega arith)
  terms_sound table s (suc n) ws (RawTerms.more u us) e ok scope k h =
      terms_sound table s n ws us e ok scope (omega arith) h
  terms_sound table s zero Tys.none (RawTerms.more u us) e ok scope k h = absurd (omega arith)
  terms_sound table s zero (Tys.more w ws) (RawTerms.more u us) e ok scope k h =
      let a = both_ok (expression_in table s Place.term u) _ e h in
      let x = a.0 in
      let b = both_ok (wanted w x.tree) _ e a.2 in
      let c = both_ok (terms_in x.table s zero ws us) _ e b.2 in
      let vs = c.0 in
      let i = expression_sound table s Place.term u x ok scope a.1 in
      let t = wanted_is (symbols_of x.table) s w x.tree b.0 i.expression b.1 in
      let v = terms_sound x.table s zero ws us vs i.grown.good
      (scope_kept (symbols_of table) (symbols_of x.table) s i.grown.grows scope) (omega arith) c.1 in
      let grows = v.grown.grows in
      subst (λ (y : Typed Terms). AreSound s table (Tys.more w ws) y) (ok_same (more_gives b.0 vs) e c.2)
      (record {
        grown = record { good = v.grown.good; grows = joined i.grown.grows grows };
        typed = (term_kept (symbols_of x.table) (symbols_of vs.table) grows b.0 w t.typed, v.typed);
        each = (t.each, v.each);
      })
