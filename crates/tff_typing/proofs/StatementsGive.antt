-- Where there is a derivation by the rules of declarations and statements, the functions give what it has.
use Rattle.std.proofs.Common.{◌≡◌, ℕ, suc, ◌<◌, Bool, true, false, if◌then◌else◌, Option, Some, None, Result, Ok, Err, List, [], ◌∷◌, ◌++◌, length, nat_lt, refl, ap, ◌∙◌, lt-ltb}
use Rattle.zm_logic.specs.Tree.{Ty, Tys, Form, Symbol, Role, Problem}
use Rattle.tptp_reader.specs.Raw.{Name, RawType, RawTypes, RawVariable, RawForm, RawTop, RawStatement}
use Rattle.tff_typing.specs.Written.{number_of_types, premise_role}
use Rattle.tff_typing.specs.Scope.{Scope}
use Rattle.tff_typing.specs.Table.{Table, Numbered, symbols_of, known, with_entry, most_symbols}
use Rattle.tff_typing.specs.Fault.{Fault, Outcome, ◌>>=◌}
use Rattle.tff_typing.specs.Places.{type_in}
use Rattle.tff_typing.specs.Typing.{Typed, form_in}
use Rattle.tff_typing.specs.Statements.{of_kind, type_variables, is_kind, arguments_in, function_of, with_result, declared_symbol, if_new, declare, State, start, if_first, formula_of, statement_in, Refusal, refused_at, then_typed, statements_in, problem_of, problem_if, problem_in}
use Rattle.tff_typing.specs.Rules.{DenotesType, DenoteTypes, AreTypeVariables, AreKinds, DeclaresSymbol, MakesState, MakeStates, MakeProblem}
use Rattle.tff_typing.proofs.RulesGive.{then_ok, type_given, form_given}

variables_given : (s : Scope) (vs : List RawVariable) (after : Scope) → AreTypeVariables s vs after
    → type_variables s vs ≡ Ok after
variables_given s vs after AreTypeVariables.no_variables = refl
variables_given s vs after (AreTypeVariables.more_variables {v = v} {vs = others} kind later) =
    then_ok (of_kind v.type) _ _ _ (ap (λ o. of_kind o) kind) (variables_given _ others after later)

-- a type that stands for something isn't $tType
no_kind : (table : Table) (s : Scope) (t : RawType) (u : Ty) → DenotesType table s t u → is_kind t ≡ false
no_kind table s t u DenotesType.of_individuals = refl
no_kind table s t u (DenotesType.type_variable h) = refl
no_kind table s t u (DenotesType.constructed h sense number parts) = refl

module _ (table : Table) (s : Scope) where
  kinds_given : (ts : RawTypes) → AreKinds ts → arguments_in table s true ts ≡ Ok Tys.none
  kinds_given ts AreKinds.no_kinds = refl
  kinds_given ts (AreKinds.more_kinds {ts = others} later) = kinds_given others later

  arguments_given : (ts : RawTypes) (us : Tys) → DenoteTypes table s ts us → arguments_in table s false ts ≡ Ok us
  arguments_given ts us DenoteTypes.no_types = refl
  arguments_given ts us (DenoteTypes.more_types {t = t} {ts = others} {u = u} {us = vs} first later) =
      let k = no_kind table s t u first in
      rw k
      (then_ok (type_in table s t) _ u _ (type_given table s t u first)
      (then_ok (arguments_in table s false others) _ vs _ (arguments_given others vs later) refl))

  result_given : (x : Name) (n : ℕ) (ts : Tys) (t : RawType) (r : Ty) → DenotesType table s t r
      → with_result table x n s ts t ≡ Ok (function_of x s ts r)
  result_given x n ts t r DenotesType.of_individuals = refl
  result_given x n ts t r (DenotesType.type_variable {x = y} h) =
      then_ok (type_in table s (RawType.variable y)) _ r _
      (type_given table s (RawType.variable y) r (DenotesType.type_variable h)) refl
  result_given x n ts t r (DenotesType.constructed {c = c} {ts = parts} h sense number each) =
      then_ok (type_in table s (RawType.named c parts)) _ r _
      (type_given table s (RawType.named c parts) r (DenotesType.constructed h sense number each)) refl

module _ (table : Table) (x : Name) (top : RawTop) where
  -- the symbol that three steps give
  steps_give : (s : Scope) (kinds : Bool) (ts : Tys) (d : Symbol) → type_variables [] top.binders ≡ Ok s
      → is_kind top.result ≡ kinds
      → arguments_in table s kinds top.arguments ≡ Ok ts
      → with_result table x (number_of_types top.arguments) s ts top.result ≡ Ok d
      → declared_symbol table x top ≡ Ok d
  steps_give s kinds ts d variables result arguments made =
      then_ok (type_variables [] top.binders) _ s _ variables
      (then_ok (arguments_in table s (is_kind top.result) top.arguments) _ ts _
      (ap (λ b. arguments_in table s b top.arguments) result ∙ arguments)
      made)

  declared_given : (d : Symbol) → DeclaresSymbol table x top d → declared_symbol table x top ≡ Ok d
  declared_given d (DeclaresSymbol.constructor binders kinds result) =
      steps_give [] true Tys.none d (ap (λ vs. type_variables [] vs) binders) (ap (λ t. is_kind t) result)
      (kinds_given table [] top.arguments kinds)
      (ap (λ t. with_result table x (number_of_types top.arguments) [] Tys.none t) result)
  declared_given d (DeclaresSymbol.predicate {s = s} {ts = ts} binders arguments result) =
      steps_give s false ts d (variables_given [] top.binders s binders) (ap (λ t. is_kind t) result)
      (arguments_given table s top.arguments ts arguments)
      (ap (λ t. with_result table x (number_of_types top.arguments) s ts t) result)
  declared_given d (DeclaresSymbol.function {s = s} {ts = ts} {r = r} binders arguments result) =
      steps_give s false ts d (variables_given [] top.binders s binders) (no_kind table s top.result r result)
      (arguments_given table s top.arguments ts arguments)
      (result_given table s x (number_of_types top.arguments) ts top.result r result)

  declaration_given : (d : Symbol) → known table x ≡ None → length table < most_symbols → DeclaresSymbol table x top d
      → declare table x top ≡ Ok (with_entry table true d)
  declaration_given d new room declares = go (known table x) new
    where
      go : (o : Option Numbered) → o ≡ None
          → if_new o (if nat_lt (length table) most_symbols
          then (declared_symbol table x top >>= λ d. Ok (with_entry table true d))
          else Err Fault.too_many_symbols)
          ≡ Ok (with_entry table true d)
      go o e =
          let k : nat_lt (length table) most_symbols ≡ true = lt-ltb (length table) most_symbols room in
          rw (e, k) (then_ok (declared_symbol table x top) _ d _ (declared_given d declares) refl)

abbrev typed : Form → Table → Typed Form
typed g table = record { tree = g; table = table }

premise_given : (state : State) (x : Name) (o : Option Role) (r : Role) (f : RawForm) (g : Form) (after : Table)
    → o ≡ Some r
    → form_in state.table [] f ≡ Ok (typed g after)
    → formula_of state x o f ≡ Ok
    (record state { table = after; premises = state.premises ++ record { name = x; role = r; form = g } ∷ [] })
premise_given state x o r f g after e h = rw e (then_ok (form_in state.table [] f) _ (typed g after) _ h refl)

conjecture_given : (state : State) (x : Name) (o : Option Role) (f : RawForm) (g : Form) (after : Table) → o ≡ None
    → state.conjecture ≡ None
    → form_in state.table [] f ≡ Ok (typed g after)
    → formula_of state x o f ≡ Ok (record state { table = after; conjecture = Some g })
conjecture_given state x o f g after e none h = rw e (go state.conjecture none)
  where
    go : (c : Option Form) → c ≡ None
        → if_first c
        (form_in state.table [] f >>= λ g. Ok (record state { table = g.table; conjecture = Some g.tree }))
        ≡ Ok (record state { table = after; conjecture = Some g })
    go c i = rw i (then_ok (form_in state.table [] f) _ (typed g after) _ h refl)

pub statement_given : (state : State) (x : RawStatement) (after : State) → MakesState state x after
    → statement_in state x ≡ Ok after
statement_given state x after (MakesState.declaration {subject = subject} {top = top} {d = d} new room declares) =
    then_ok (declare state.table subject top) _ (with_entry state.table true d) _
    (declaration_given state.table subject top d new room declares) refl
statement_given state x after
    (MakesState.premise {x = name} {role = role} {r = r} {f = f} {g = g} {after = table} e h) =
    premise_given state name (premise_role role) r f g table e (form_given state.table [] f g table h)
statement_given state x after
    (MakesState.conjecture {x = name} {role = role} {f = f} {g = g} {after = table} e none h) =
    conjecture_given state name (premise_role role) f g table e none (form_given state.table [] f g table h)
statement_given state x after MakesState.inclusion = refl

next_given : (n : ℕ) (symbols : List Symbol) (r : Outcome State) (middle after : State)
    (next : State → Result State Refusal) → r ≡ Ok middle → next middle ≡ Ok after
    → then_typed (refused_at n symbols r) next ≡ Ok after
next_given n symbols r middle after next h i = rw h i

pub statements_given : (n : ℕ) (state : State) (xs : List RawStatement) (after : State) → MakeStates state xs after
    → statements_in n state xs ≡ Ok after
statements_given n state xs after MakeStates.no_statements = refl
statements_given n state xs after (MakeStates.more_statements {middle = middle} {x = x} {xs = others} first later) =
    next_given n (symbols_of state.table) (statement_in state x) middle after
    (λ next. statements_in (suc n) next others) (statement_given state x middle first)
    (statements_given (suc n) middle others after later)

problem_given_by : (r : Result State Refusal) (state : State) (p : Problem) → r ≡ Ok state → problem_of state ≡ p
    → problem_if r ≡ Ok p
problem_given_by r state p h e = rw (h, e) refl

pub problem_given : (statements : List RawStatement) (p : Problem) → MakeProblem statements p
    → problem_in statements ≡ Ok p
problem_given statements p m =
    problem_given_by (statements_in 0 start statements) m.state p
    (statements_given 0 start statements m.state m.made) m.problem
