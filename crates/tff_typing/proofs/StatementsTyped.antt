-- The problem of statements is well typed.
use Rattle.std.proofs.Common.{◌≡◌, ℕ, suc, ◌<◌, Bool, true, false, if◌then◌else◌, bytes_eq, Option, Some, None, Result, Ok, Err, List, [], ◌∷◌, ◌++◌, length, nat_lt, refl, arith, sym, ap, subst, ◌∙◌}
use Rattle.std.proofs.lemmas.Slice.Eq.{bytes_eq-Decides}
use Rattle.std.specs.List.{All}
use Rattle.std.proofs.lemmas.List.Elements.{All-push, All-nil, All-weaker}
use Rattle.std.proofs.lemmas.Option.{none-some}
use Rattle.zm_logic.specs.Tree.{Ty, Tys, Form, Symbol, Sense, Binder, Role, Premise, Problem}
use Rattle.zm_logic.specs.Typing.{IsType, AreTypes, IsDeclaration, IsSignature, nth, WellTyped, how_many}
use Rattle.zm_logic.specs.Parameter.{EachInType, EachInTypes, Never}
use Rattle.tptp_reader.specs.Raw.{Name, RawType, RawTypes, RawForm, RawTop, RawStatement}
use Rattle.tff_typing.specs.Written.{number_of_types, premise_role}
use Rattle.tff_typing.specs.Scope.{Scope, IsInScope}
use Rattle.tff_typing.specs.Table.{Table, Entry, Numbered, symbols_of, arity, known, with_entry, most_symbols}
use Rattle.tff_typing.specs.Fault.{Fault, Outcome, ◌>>=◌}
use Rattle.tff_typing.specs.Places.{type_in}
use Rattle.tff_typing.specs.Typing.{Typed, form_in}
use Rattle.tff_typing.specs.Statements.{indexed, all_indexed, type_variables, is_kind, arguments_in, constructor_of, function_of, predicate_of, with_result, declared_symbol, if_new, declare, State, start, if_first, formula_of, statement_in, Refusal, refused_at, then_typed, statements_in, to_prove, problem_of, problem_if, problem_in}
use Rattle.tff_typing.proofs.Outcomes.{both_ok, ok_same, no_ok, test_held}
use Rattle.tff_typing.proofs.Lookups.{binder_below}
use Rattle.tff_typing.proofs.Extends.{Extends}
use Rattle.tff_typing.proofs.Tables.{IsTable, HasDistinctNames, IsNew, none_found, entered}
use Rattle.tff_typing.proofs.TypesTyped.{type_sound}
use Rattle.tff_typing.proofs.TermsTyped.{IsGrown}
use Rattle.tff_typing.proofs.Binding.{IsFormIn, form_in_kept}
use Rattle.tff_typing.proofs.FormsTyped.{form_sound}

-- a type over type variables, as an indexed type
module _ (symbols : List Symbol) (s : Scope) where
  mutual
    indexed_typed : (t : Ty) → IsType symbols 0 t → EachInType (IsInScope s) t
        → IsType symbols (length s) (indexed (length s) t)
    indexed_typed (Ty.bound i) h e = absurd (omega arith)
    indexed_typed (Ty.param n) h e = let l : n < length s = binder_below s n Binder.of_type e in omega arith
    indexed_typed (Ty.meta n) h e = tt
    indexed_typed (Ty.con c ts) h e =
        ((h.0.0, (h.0.1.0, h.0.1.1 ∙ sym (how_many_indexed (length s) ts)), h.0.2), all_indexed_typed ts h.1 e)
      where
        how_many_indexed : (k : ℕ) (ts : Tys) → how_many (all_indexed k ts) ≡ how_many ts
        how_many_indexed k Tys.none = refl
        how_many_indexed k (Tys.more t ts) = omega (arith, how_many_indexed k ts)

    all_indexed_typed : (ts : Tys) → AreTypes symbols 0 ts → EachInTypes (IsInScope s) ts
        → AreTypes symbols (length s) (all_indexed (length s) ts)
    all_indexed_typed Tys.none h e = tt
    all_indexed_typed (Tys.more t ts) h e = (indexed_typed t h.0 e.0, all_indexed_typed ts h.1 e.1)

  mutual
    indexed_free : (t : Ty) → EachInType (IsInScope s) t → EachInType Never (indexed (length s) t)
    indexed_free (Ty.bound i) e = tt
    indexed_free (Ty.param n) e = tt
    indexed_free (Ty.meta n) e = absurd e
    indexed_free (Ty.con c ts) e = all_indexed_free ts e

    all_indexed_free : (ts : Tys) → EachInTypes (IsInScope s) ts → EachInTypes Never (all_indexed (length s) ts)
    all_indexed_free Tys.none e = tt
    all_indexed_free (Tys.more t ts) e = (indexed_free t e.0, all_indexed_free ts e.1)

pub record AreArguments (symbols : List Symbol) (s : Scope) (ts : Tys) : Type 0 where
  pub typed : AreTypes symbols 0 ts
  pub each : EachInTypes (IsInScope s) ts

module _ (table : Table) (ok : IsTable table) (s : Scope) where
  arguments_are : (kinds : Bool) (ts : RawTypes) (us : Tys) → arguments_in table s kinds ts ≡ Ok us
      → AreArguments (symbols_of table) s us
  arguments_are kinds RawTypes.none us h =
      subst (λ (x : Tys). AreArguments (symbols_of table) s x) (ok_same Tys.none us h)
      (record { typed = tt; each = tt })
  arguments_are kinds (RawTypes.more t ts) us h =
      go (is_kind t) kinds h (λ i. arguments_are kinds ts us i) (λ vs i. arguments_are kinds ts vs i)
    where
      go : (k b : Bool)
          → (if k then (if b then arguments_in table s kinds ts else Err Fault.not_a_type)
          else (type_in table s t >>= λ u. arguments_in table s kinds ts >>= λ vs. Ok (Tys.more u vs))) ≡ Ok us
          → (arguments_in table s kinds ts ≡ Ok us → AreArguments (symbols_of table) s us)
          → ((vs : Tys) → arguments_in table s kinds ts ≡ Ok vs → AreArguments (symbols_of table) s vs)
          → AreArguments (symbols_of table) s us
      go true true h whole part = whole h
      go true false h whole part = absurd (no_ok _ us h)
      go false b h whole part =
          let a = both_ok (type_in table s t) _ us h in
          let c = both_ok (arguments_in table s kinds ts) _ us a.2 in
          let v = type_sound table s ok.signature t a.0 a.1 in
          let vs = part c.0 c.1 in
          subst (λ (x : Tys). AreArguments (symbols_of table) s x) (ok_same (Tys.more a.0 c.0) us c.2)
          (record { typed = (v.typed, vs.typed); each = (v.each, vs.each) })

  pub record IsDeclared (x : Name) (d : Symbol) : Type 0 where
    pub declaration : IsDeclaration (symbols_of table) d
    pub name : d.name ≡ x

  constructor_is : (x : Name) (n : ℕ) (vs : Scope) (ts : Tys) (d : Symbol) → constructor_of x n vs ts ≡ Ok d
      → IsDeclared x d
  constructor_is x n [] Tys.none d h =
      let made : Symbol = record { name = x; types = n; arguments = Tys.none; sense = Sense.constructor } in
      subst (λ (y : Symbol). IsDeclared x y) (ok_same made d h) (record { declaration = (tt, tt, refl); name = refl })
  constructor_is x n [] (Tys.more t ts) d h = absurd (no_ok _ d h)
  constructor_is x n (v ∷ vs) ts d h = absurd (no_ok _ d h)

  function_is : (x : Name) (ts : Tys) (t : RawType) (d : Symbol) → AreArguments (symbols_of table) s ts
      → (type_in table s t >>= λ r. Ok (function_of x s ts r)) ≡ Ok d → IsDeclared x d
  function_is x ts t d args h =
      let a = both_ok (type_in table s t) _ d h in
      let r = type_sound table s ok.signature t a.0 a.1 in
      subst (λ (y : Symbol). IsDeclared x y) (ok_same (function_of x s ts a.0) d a.2)
      (record {
        declaration = (
          all_indexed_typed (symbols_of table) s ts args.typed args.each,
          all_indexed_free (symbols_of table) s ts args.each,
          (indexed_typed (symbols_of table) s a.0 r.typed r.each, indexed_free (symbols_of table) s a.0 r.each),
        );
        name = refl;
      })

  result_is : (x : Name) (n : ℕ) (ts : Tys) (t : RawType) (d : Symbol) → AreArguments (symbols_of table) s ts
      → with_result table x n s ts t ≡ Ok d → IsDeclared x d
  result_is x n ts RawType.kind d args h = constructor_is x n s ts d h
  result_is x n ts RawType.truth d args h =
      subst (λ (y : Symbol). IsDeclared x y) (ok_same (predicate_of x s ts) d h)
      (record {
        declaration = (
          all_indexed_typed (symbols_of table) s ts args.typed args.each,
          all_indexed_free (symbols_of table) s ts args.each,
          tt,
        );
        name = refl;
      })
  result_is x n ts RawType.individual d args h = function_is x ts RawType.individual d args h
  result_is x n ts (RawType.variable y) d args h = function_is x ts (RawType.variable y) d args h
  result_is x n ts (RawType.named c us) d args h = function_is x ts (RawType.named c us) d args h

-- a name that is not known is new
new_name : (table : Table) (d : Symbol) → known table d.name ≡ None → IsNew (symbols_of table) d
new_name table d h = record { differs = differs }
  where
    true_false : true ≡ false → ⊥
    true_false h = cc

    differs : (n : ℕ) (e : Symbol) → nth (symbols_of table) n ≡ Some e → e.name ≡ d.name → arity e ≡ arity d → ⊥
    differs n e at name number =
        let test : Entry → Bool = λ x. bytes_eq x.symbol.name d.name in
        let f = none_found 1 test test table h h n e at in
        let s : f.entry.symbol.name ≡ d.name = ap (λ (y : Symbol). y.name) f.same ∙ name in
        true_false (sym ((bytes_eq-Decides f.entry.symbol.name d.name).1 s) ∙ f.first)

declare_new : (table : Table) (x : Name) (top : RawTop) (grown : Table) → IsTable table → known table x ≡ None
    → (if nat_lt (length table) most_symbols
    then (declared_symbol table x top >>= λ d. Ok (with_entry table true d))
    else Err Fault.too_many_symbols) ≡ Ok grown
    → IsGrown table grown
declare_new table x top grown ok new h =
    let a = test_held (nat_lt (length table) most_symbols)
    (declared_symbol table x top >>= λ d. Ok (with_entry table true d)) Fault.too_many_symbols grown h in
    let b = both_ok (declared_symbol table x top) _ grown a.1 in
    let d = b.0 in
    let c = both_ok (type_variables [] top.binders) _ d b.1 in
    let e = both_ok (arguments_in table c.0 (is_kind top.result) top.arguments) _ d c.2 in
    let r = result_is table ok c.0 x (number_of_types top.arguments) e.0 top.result d
    (arguments_are table ok c.0 (is_kind top.result) top.arguments e.0 e.1) e.2 in
    let fresh = new_name table d (rw r.name new) in
    let made = entered table true d ok r.declaration fresh in
    subst (λ (y : Table). IsGrown table y) (ok_same (with_entry table true d) grown b.2)
    (record { good = made.good; grows = made.grows })

pub declare_is : (table : Table) (x : Name) (top : RawTop) (grown : Table) → IsTable table
    → declare table x top ≡ Ok grown → IsGrown table grown
declare_is table x top grown ok h = go (known table x) refl h
  where
    go : (o : Option Numbered) → known table x ≡ o
        → if_new o
        (if nat_lt (length table) most_symbols
        then (declared_symbol table x top >>= λ d. Ok (with_entry table true d))
        else Err Fault.too_many_symbols) ≡ Ok grown
        → IsGrown table grown
    go None e h = declare_new table x top grown ok e h
    go (Some d) e h = absurd (no_ok _ grown h)

-- what the statements so far make
pub record IsState (state : State) : Type 0 where
  pub table : IsTable state.table
  pub premises : All (λ p. IsFormIn (symbols_of state.table) [] p.form) state.premises
  pub conjecture : (f : Form) → state.conjecture ≡ Some f → IsFormIn (symbols_of state.table) [] f

pub start_is : IsState start
start_is = record {
  table =
      record {
        signature = λ n d h. absurd (none-some d h);
        names = record { same = λ m n d e h i s t. absurd (none-some d h) };
      };
  premises = All-nil (λ (p : Premise). IsFormIn [] [] p.form);
  conjecture = λ f h. absurd (none-some f h);
}

kept_all : (a b : List Symbol) (ps : List Premise) → Extends a b → All (λ p. IsFormIn a [] p.form) ps
    → All (λ p. IsFormIn b [] p.form) ps
kept_all a b ps x h =
    All-weaker (λ (p : Premise). IsFormIn a [] p.form) (λ (p : Premise). IsFormIn b [] p.form)
    (λ p i. form_in_kept a b [] p.form x i) ps h

-- a conjecture that stands after the table grew
conjecture_kept : (a b : List Symbol) (o : Option Form) → Extends a b → ((f : Form) → o ≡ Some f → IsFormIn a [] f)
    → (f : Form) → o ≡ Some f → IsFormIn b [] f
conjecture_kept a b o x h f e = form_in_kept a b [] f x (h f e)

abbrev pub with_premise : State → Name → Role → Typed Form → State
with_premise state x role g =
    record {
      table = g.table;
      premises = state.premises ++ record { name = x; role = role; form = g.tree } ∷ [];
      conjecture = state.conjecture;
    }

abbrev pub with_conjecture : State → Typed Form → State
with_conjecture state g = record { table = g.table; premises = state.premises; conjecture = Some g.tree }

abbrev pub with_table : State → Table → State
with_table state table = record { table = table; premises = state.premises; conjecture = state.conjecture }

formula_is : (state : State) (x : Name) (role : Option Role) (f : RawForm) (next : State) → IsState state
    → formula_of state x role f ≡ Ok next → IsState next
formula_is state x (Some role) f next ok h =
    let a = both_ok (form_in state.table [] f) _ next h in
    let g = a.0 in
    let i = form_sound state.table [] f g ok.table tt a.1 in
    let made : Premise = record { name = x; role = role; form = g.tree } in
    let P : Premise → Type 0 = λ p. IsFormIn (symbols_of g.table) [] p.form in
    subst (λ (y : State). IsState y) (ok_same (with_premise state x role g) next a.2)
    (record {
      table = i.grown.good;
      premises =
          All-push P state.premises made
          (kept_all (symbols_of state.table) (symbols_of g.table) state.premises i.grown.grows ok.premises) i.form;
      conjecture =
          conjecture_kept (symbols_of state.table) (symbols_of g.table) state.conjecture i.grown.grows ok.conjecture;
    })
formula_is state x None f next ok h = go state.conjecture h
  where
    some_form : (f g : Form) → Some f ≡ Some g → f ≡ g
    some_form f g h = cc

    go : (o : Option Form) → if_first o (form_in state.table [] f >>= λ g. Ok (with_conjecture state g)) ≡ Ok next
        → IsState next
    go (Some c) h = absurd (no_ok _ next h)
    go None h =
        let a = both_ok (form_in state.table [] f) _ next h in
        let g = a.0 in
        let i = form_sound state.table [] f g ok.table tt a.1 in
        subst (λ (y : State). IsState y) (ok_same (with_conjecture state g) next a.2)
        (record {
          table = i.grown.good;
          premises = kept_all (symbols_of state.table) (symbols_of g.table) state.premises i.grown.grows ok.premises;
          conjecture = λ c e. subst (λ (y : Form). IsFormIn (symbols_of g.table) [] y) (some_form g.tree c e) i.form;
        })

pub statement_is : (state : State) (s : RawStatement) (next : State) → IsState state → statement_in state s ≡ Ok next
    → IsState next
statement_is state (RawStatement.formula x role f) next ok h = formula_is state x (premise_role role) f next ok h
statement_is state (RawStatement.typing x subject top) next ok h =
    let a = both_ok (declare state.table subject top) _ next h in
    let g = declare_is state.table subject top a.0 ok.table a.1 in
    subst (λ (y : State). IsState y) (ok_same (with_table state a.0) next a.2)
    (record {
      table = g.good;
      premises = kept_all (symbols_of state.table) (symbols_of a.0) state.premises g.grows ok.premises;
      conjecture = conjecture_kept (symbols_of state.table) (symbols_of a.0) state.conjecture g.grows ok.conjecture;
    })
statement_is state (RawStatement.inclusion file names) next ok h =
    subst (λ (y : State). IsState y) (ok_same state next h) ok

abbrev pub refusal_of : {A : Type 0} → Refusal → Result A Refusal
refusal_of e = Err e

abbrev pub typed_as : {A : Type 0} → A → Result A Refusal
typed_as x = Ok x

pub no_refusal : {A : Type 0} (e : Refusal) (y : A) → refusal_of {A = A} e ≡ Ok y → ⊥
no_refusal e y h = cc

pub typed_same : {A : Type 0} (x y : A) → typed_as x ≡ Ok y → x ≡ y
typed_same x y h = cc

pub statements_are : (n : ℕ) (state : State) (xs : List RawStatement) (last : State) → IsState state
    → statements_in n state xs ≡ Ok last → IsState last
statements_are n state [] last ok h = subst (λ (y : State). IsState y) (typed_same state last h) ok
statements_are n state (x ∷ xs) last ok h =
    go (statement_in state x) refl h (λ next i e. statements_are (suc n) next xs last i e)
  where
    go : (r : Outcome State) → statement_in state x ≡ r
        → then_typed (refused_at n (symbols_of state.table) r) (λ next. statements_in (suc n) next xs) ≡ Ok last
        → ((next : State) → IsState next → statements_in (suc n) next xs ≡ Ok last → IsState last) → IsState last
    go (Ok next) e h rest = rest next (statement_is state x next ok e) h
    go (Err f) e h rest = absurd (no_refusal _ last h)

-- a problem whose formulas are well typed, closed and without parameters
pub record IsWellTyped (p : Problem) : Type 0 where
  pub signature : IsSignature p.symbols
  pub names : HasDistinctNames p.symbols
  pub premises : All (λ q. IsFormIn p.symbols [] q.form) p.premises
  pub conjecture : IsFormIn p.symbols [] p.conjecture

state_typed : (state : State) → IsState state → IsWellTyped (problem_of state)
state_typed state ok = record {
  signature = ok.table.signature;
  names = ok.table.names;
  premises = ok.premises;
  conjecture = go state.conjecture ok.conjecture;
}
  where
    go : (o : Option Form) → ((f : Form) → o ≡ Some f → IsFormIn (symbols_of state.table) [] f)
        → IsFormIn (symbols_of state.table) [] (to_prove o)
    go None h = record { typed = WellTyped.falsity; each = tt; closed = tt }
    go (Some f) h = h f refl

-- what the statements make is a well typed problem
pub problem_typed : (statements : List RawStatement) (p : Problem) → problem_in statements ≡ Ok p → IsWellTyped p
problem_typed statements p h = go (statements_in 0 start statements) refl h
  where
    go : (r : Result State Refusal) → statements_in 0 start statements ≡ r → problem_if r ≡ Ok p → IsWellTyped p
    go (Ok state) e h =
        subst (λ (y : Problem). IsWellTyped y) (typed_same (problem_of state) p h)
        (state_typed state (statements_are 0 start statements state start_is e))
    go (Err f) e h = absurd (no_refusal _ p h)
