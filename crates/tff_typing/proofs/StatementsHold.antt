-- What the functions give for declarations and statements has a derivation by the rules.
use Rattle.std.proofs.Common.{◌≡◌, ℕ, suc, ◌+◌, true, false, if◌then◌else◌, Option, Some, None, Result, Ok, Err, List, [], ◌∷◌, length, nat_lt, refl, arith, ap, sym, subst, ◌∙◌, ltb-true}
use Rattle.zm_logic.specs.Tree.{Ty, Tys, Form, Symbol, Sense, Binder, Role, Problem}
use Rattle.tptp_reader.specs.declared.tree.RawRole.{RawRole}
use Rattle.tptp_reader.specs.Raw.{Name, RawType, RawTypes, RawVariable, RawForm, RawTop, RawStatement}
use Rattle.tff_typing.specs.Written.{number_of_types, premise_role}
use Rattle.tff_typing.specs.Scope.{Scope}
use Rattle.tff_typing.specs.Table.{Table, Numbered, symbols_of, known, with_entry, most_symbols}
use Rattle.tff_typing.specs.Fault.{Fault, Outcome, ◌>>=◌}
use Rattle.tff_typing.specs.Places.{type_in}
use Rattle.tff_typing.specs.Typing.{form_in}
use Rattle.tff_typing.specs.Statements.{of_kind, type_variables, is_kind, arguments_in, constructor_of, function_of, predicate_of, with_result, declared_symbol, if_new, State, start, if_first, formula_of, statement_in, Refusal, refused_at, then_typed, statements_in, problem_of, problem_if, problem_in}
use Rattle.tff_typing.specs.Rules.{DenotesType, DenoteTypes, AreTypeVariables, AreKinds, DeclaresSymbol, MakesState, MakeStates, MakeProblem}
use Rattle.tff_typing.proofs.Outcomes.{both_ok, ok_same, no_ok, test_held}
use Rattle.tff_typing.proofs.StatementsTyped.{no_refusal, typed_same, with_premise, with_conjecture, with_table}
use Rattle.tff_typing.proofs.RulesHold.{type_holds, form_holds}

kind_holds : (o : Option RawType) (b : Binder) → of_kind o ≡ Ok b → (o ≡ Some RawType.kind) × (b ≡ Binder.of_type)
kind_holds None b h = absurd (no_ok _ b h)
kind_holds (Some RawType.kind) b h = (refl, sym (ok_same Binder.of_type b h))
kind_holds (Some RawType.individual) b h = absurd (no_ok _ b h)
kind_holds (Some RawType.truth) b h = absurd (no_ok _ b h)
kind_holds (Some (RawType.variable x)) b h = absurd (no_ok _ b h)
kind_holds (Some (RawType.named c ts)) b h = absurd (no_ok _ b h)

variables_hold : (s : Scope) (vs : List RawVariable) (after : Scope) → type_variables s vs ≡ Ok after
    → AreTypeVariables s vs after
variables_hold s [] after h =
    subst (λ (y : Scope). AreTypeVariables s [] y) (ok_same s after h) AreTypeVariables.no_variables
variables_hold s (v ∷ vs) after h =
    let a = both_ok (of_kind v.type) _ after h in
    let k = kind_holds v.type a.0 a.1 in
    AreTypeVariables.more_variables k.0
    (subst (λ (b : Binder). AreTypeVariables (record { name = v.name; binder = b } ∷ s) vs after) k.1
    (variables_hold (record { name = v.name; binder = a.0 } ∷ s) vs after a.2))

module _ (table : Table) (s : Scope) where
  no_type : (t : RawType) (ts : RawTypes)
      → (type_in table s t >>= λ u. arguments_in table s true ts >>= λ us. Ok (Tys.more u us)) ≡ Ok Tys.none → ⊥
  no_type t ts h =
      let a = both_ok (type_in table s t) _ Tys.none h in
      let b = both_ok (arguments_in table s true ts) _ Tys.none a.2 in
      apart a.0 b.0 (ok_same (Tys.more a.0 b.0) Tys.none b.2)
    where
      apart : (u : Ty) (us : Tys) → Tys.more u us ≡ Tys.none → ⊥
      apart u us e = cc

  -- before a result $tType each argument is $tType, where there is no argument of a type
  kinds_hold : (ts : RawTypes) → arguments_in table s true ts ≡ Ok Tys.none → AreKinds ts
  kinds_hold RawTypes.none h = AreKinds.no_kinds
  kinds_hold (RawTypes.more RawType.kind ts) h = AreKinds.more_kinds (kinds_hold ts h)
  kinds_hold (RawTypes.more RawType.individual ts) h = absurd (no_type RawType.individual ts h)
  kinds_hold (RawTypes.more RawType.truth ts) h = absurd (no_type RawType.truth ts h)
  kinds_hold (RawTypes.more (RawType.variable x) ts) h = absurd (no_type (RawType.variable x) ts h)
  kinds_hold (RawTypes.more (RawType.named c us) ts) h = absurd (no_type (RawType.named c us) ts h)

  -- without a result $tType each argument has a type
  typed_hold : (t : RawType) (ts : RawTypes) (us : Tys)
      → (type_in table s t >>= λ v. arguments_in table s false ts >>= λ vs. Ok (Tys.more v vs)) ≡ Ok us
      → ((vs : Tys) → arguments_in table s false ts ≡ Ok vs → DenoteTypes table s ts vs)
      → DenoteTypes table s (RawTypes.more t ts) us
  typed_hold t ts us h later =
      let a = both_ok (type_in table s t) _ us h in
      let b = both_ok (arguments_in table s false ts) _ us a.2 in
      subst (λ (y : Tys). DenoteTypes table s (RawTypes.more t ts) y) (ok_same (Tys.more a.0 b.0) us b.2)
      (DenoteTypes.more_types (type_holds table s t a.0 a.1) (later b.0 b.1))

  arguments_hold : (ts : RawTypes) (us : Tys) → arguments_in table s false ts ≡ Ok us → DenoteTypes table s ts us
  arguments_hold RawTypes.none us h =
      subst (λ (y : Tys). DenoteTypes table s RawTypes.none y) (ok_same Tys.none us h) DenoteTypes.no_types
  arguments_hold (RawTypes.more RawType.kind ts) us h = absurd (no_ok _ us h)
  arguments_hold (RawTypes.more RawType.individual ts) us h =
      typed_hold RawType.individual ts us h (λ vs i. arguments_hold ts vs i)
  arguments_hold (RawTypes.more RawType.truth ts) us h =
      typed_hold RawType.truth ts us h (λ vs i. arguments_hold ts vs i)
  arguments_hold (RawTypes.more (RawType.variable x) ts) us h =
      typed_hold (RawType.variable x) ts us h (λ vs i. arguments_hold ts vs i)
  arguments_hold (RawTypes.more (RawType.named c vs) ts) us h =
      typed_hold (RawType.named c vs) ts us h (λ ws i. arguments_hold ts ws i)

longer : (s : Scope) (vs : List RawVariable) (after : Scope) → AreTypeVariables s vs after
    → length after ≡ length s + length vs
longer s vs after AreTypeVariables.no_variables = omega arith
longer s vs after (AreTypeVariables.more_variables {v = v} {vs = others} kind later) =
    let e = longer (record { name = v.name; binder = Binder.of_type } ∷ s) others after later in
    omega (arith, e)

no_variables_none : (vs : List RawVariable) → AreTypeVariables [] vs [] → vs ≡ []
no_variables_none [] h = refl
no_variables_none (v ∷ vs) h = let e = longer [] (v ∷ vs) [] h in absurd (omega (arith, e))

module _ (table : Table) (x : Name) (top : RawTop) (d : Symbol) where
  constructor_holds : (s : Scope) (ts : Tys) → AreTypeVariables [] top.binders s
      → arguments_in table s true top.arguments ≡ Ok ts
      → constructor_of x (number_of_types top.arguments) s ts ≡ Ok d → top.result ≡ RawType.kind
      → DeclaresSymbol table x top d
  constructor_holds [] Tys.none vs args h e =
      let made : Symbol = record {
        name = x;
        types = number_of_types top.arguments;
        arguments = Tys.none;
        sense = Sense.constructor;
      } in
      subst (λ (y : Symbol). DeclaresSymbol table x top y) (ok_same made d h)
      (DeclaresSymbol.constructor (no_variables_none top.binders vs) (kinds_hold table [] top.arguments args) e)
  constructor_holds [] (Tys.more t ts) vs args h e = absurd (no_ok _ d h)
  constructor_holds (v ∷ s) ts vs args h e = absurd (no_ok _ d h)

  function_holds : (s : Scope) (ts : Tys) (t : RawType) → AreTypeVariables [] top.binders s
      → arguments_in table s false top.arguments ≡ Ok ts
      → (type_in table s t >>= λ r. Ok (function_of x s ts r)) ≡ Ok d → top.result ≡ t → DeclaresSymbol table x top d
  function_holds s ts t vs args h e =
      let a = both_ok (type_in table s t) _ d h in
      subst (λ (y : Symbol). DeclaresSymbol table x top y) (ok_same (function_of x s ts a.0) d a.2)
      (DeclaresSymbol.function vs (arguments_hold table s top.arguments ts args)
      (subst (λ (y : RawType). DenotesType table s y a.0) (sym e) (type_holds table s t a.0 a.1)))

  result_holds : (s : Scope) (ts : Tys) (t : RawType) → AreTypeVariables [] top.binders s
      → arguments_in table s (is_kind t) top.arguments ≡ Ok ts
      → with_result table x (number_of_types top.arguments) s ts t ≡ Ok d → top.result ≡ t
      → DeclaresSymbol table x top d
  result_holds s ts RawType.kind vs args h e = constructor_holds s ts vs args h e
  result_holds s ts RawType.truth vs args h e =
      subst (λ (y : Symbol). DeclaresSymbol table x top y) (ok_same (predicate_of x s ts) d h)
      (DeclaresSymbol.predicate vs (arguments_hold table s top.arguments ts args) e)
  result_holds s ts RawType.individual vs args h e = function_holds s ts RawType.individual vs args h e
  result_holds s ts (RawType.variable y) vs args h e = function_holds s ts (RawType.variable y) vs args h e
  result_holds s ts (RawType.named c us) vs args h e = function_holds s ts (RawType.named c us) vs args h e

  declared_holds : declared_symbol table x top ≡ Ok d → DeclaresSymbol table x top d
  declared_holds h =
      let a = both_ok (type_variables [] top.binders) _ d h in
      let b = both_ok (arguments_in table a.0 (is_kind top.result) top.arguments) _ d a.2 in
      result_holds a.0 b.0 top.result (variables_hold [] top.binders a.0 a.1) b.1 b.2 refl

module _ (state : State) where
  new_declaration_holds : (x subject : Name) (top : RawTop) (next : State) → known state.table subject ≡ None
      → ((if nat_lt (length state.table) most_symbols
      then (declared_symbol state.table subject top >>= λ d. Ok (with_entry state.table true d))
      else Err Fault.too_many_symbols) >>= λ table. Ok (with_table state table)) ≡ Ok next
      → MakesState state (RawStatement.typing x subject top) next
  new_declaration_holds x subject top next new h =
      let made = declared_symbol state.table subject top >>= λ d. Ok (with_entry state.table true d) in
      let a = both_ok
      (if nat_lt (length state.table) most_symbols then made else Err Fault.too_many_symbols) _ next h in
      let b = test_held (nat_lt (length state.table) most_symbols) made Fault.too_many_symbols a.0 a.1 in
      let c = both_ok (declared_symbol state.table subject top) _ a.0 b.1 in
      subst (λ (y : State). MakesState state (RawStatement.typing x subject top) y)
      (ap (λ (y : Table). with_table state y) (ok_same (with_entry state.table true c.0) a.0 c.2)
      ∙ ok_same (with_table state a.0) next a.2)
      (MakesState.declaration new (ltb-true (length state.table) most_symbols b.0)
      (declared_holds state.table subject top c.0 c.1))

  declaration_holds : (x subject : Name) (top : RawTop) (next : State) → (o : Option Numbered)
      → known state.table subject ≡ o
      → (if_new o (if nat_lt (length state.table) most_symbols
      then (declared_symbol state.table subject top >>= λ d. Ok (with_entry state.table true d))
      else Err Fault.too_many_symbols) >>= λ table. Ok (with_table state table)) ≡ Ok next
      → MakesState state (RawStatement.typing x subject top) next
  declaration_holds x subject top next None e h = new_declaration_holds x subject top next e h
  declaration_holds x subject top next (Some d) e h = absurd (no_ok _ next h)

  conjecture_holds : (x : Name) (role : RawRole) (f : RawForm) (next : State) → premise_role role ≡ None
      → (o : Option Form) → state.conjecture ≡ o
      → if_first o (form_in state.table [] f >>= λ g. Ok (with_conjecture state g)) ≡ Ok next
      → MakesState state (RawStatement.formula x role f) next
  conjecture_holds x role f next e (Some c) i h = absurd (no_ok _ next h)
  conjecture_holds x role f next e None i h =
      let a = both_ok (form_in state.table [] f) _ next h in
      subst (λ (y : State). MakesState state (RawStatement.formula x role f) y)
      (ok_same (with_conjecture state a.0) next a.2)
      (MakesState.conjecture e i (form_holds state.table [] f a.0 a.1))

  formula_holds : (x : Name) (role : RawRole) (f : RawForm) (next : State) → (o : Option Role) → premise_role role ≡ o
      → formula_of state x o f ≡ Ok next
      → MakesState state (RawStatement.formula x role f) next
  formula_holds x role f next (Some r) e h =
      let a = both_ok (form_in state.table [] f) _ next h in
      subst (λ (y : State). MakesState state (RawStatement.formula x role f) y)
      (ok_same (with_premise state x r a.0) next a.2)
      (MakesState.premise e (form_holds state.table [] f a.0 a.1))
  formula_holds x role f next None e h = conjecture_holds x role f next e state.conjecture refl h

  pub statement_holds : (s : RawStatement) (next : State) → statement_in state s ≡ Ok next → MakesState state s next
  statement_holds (RawStatement.formula x role f) next h = formula_holds x role f next (premise_role role) refl h
  statement_holds (RawStatement.typing x subject top) next h =
      declaration_holds x subject top next (known state.table subject) refl h
  statement_holds (RawStatement.inclusion file names) next h =
      subst (λ (y : State). MakesState state (RawStatement.inclusion file names) y)
      (ok_same state next h) MakesState.inclusion

pub statements_hold : (n : ℕ) (state : State) (xs : List RawStatement) (last : State)
    → statements_in n state xs ≡ Ok last → MakeStates state xs last
statements_hold n state [] last h =
    subst (λ (y : State). MakeStates state [] y) (typed_same state last h) MakeStates.no_statements
statements_hold n state (x ∷ xs) last h =
    go (statement_in state x) refl h (λ next e. statements_hold (suc n) next xs last e)
  where
    go : (r : Outcome State) → statement_in state x ≡ r
        → then_typed (refused_at n (symbols_of state.table) r) (λ next. statements_in (suc n) next xs) ≡ Ok last
        → ((next : State) → statements_in (suc n) next xs ≡ Ok last → MakeStates next xs last)
        → MakeStates state (x ∷ xs) last
    go (Ok next) e h later = MakeStates.more_statements (statement_holds state x next e) (later next h)
    go (Err f) e h later = absurd (no_refusal _ last h)

pub problem_holds : (statements : List RawStatement) (p : Problem) → problem_in statements ≡ Ok p
    → MakeProblem statements p
problem_holds statements p h = go (statements_in 0 start statements) refl h
  where
    go : (r : Result State Refusal) → statements_in 0 start statements ≡ r → problem_if r ≡ Ok p
        → MakeProblem statements p
    go (Ok state) e h =
        let made = statements_hold 0 start statements state e in
        record { state = state; made = made; problem = typed_same (problem_of state) p h }
    go (Err f) e h = absurd (no_refusal _ p h)
