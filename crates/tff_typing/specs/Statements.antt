-- Statements in order, declarations, premises, and at most one conjecture: what they make, or the first fault in the
-- order of the text. A law says that this agrees with the rules of `Rules`.
use Rattle.std.specs.Prelude.{ℕ, suc, ◌-◌, Bool, true, false, if◌then◌else◌, Option, Some, None, Result, Ok, Err, List, [], ◌∷◌, ◌++◌, length, nat_lt}
use Rattle.zm_logic.specs.Tree.{Ty, Tys, Form, Symbol, Sense, Binder, Role, Premise, Problem}
use Rattle.tptp_reader.specs.Raw.{Name, RawType, RawTypes, RawVariable, RawForm, RawTop, RawStatement}
use Rattle.tff_typing.specs.Written.{number_of_types, premise_role}
use Rattle.tptp_reader.specs.Limits.{IsWithinLimits}
use Rattle.tff_typing.specs.Scope.{Scope}
use Rattle.tff_typing.specs.Table.{Table, Numbered, symbols_of, known, most_symbols, with_entry}
use Rattle.tff_typing.specs.Fault.{Fault, Outcome, ◌>>=◌}
use Rattle.tff_typing.specs.Places.{type_in}
use Rattle.tff_typing.specs.Typing.{form_in}

-- a declaration's type variables are bound indices, the last one 0: the index of each parameter under k binders
abbrev mutual
  pub indexed : ℕ → Ty → Ty
  indexed k (Ty.bound i) = Ty.bound i
  indexed k (Ty.param n) = Ty.bound (k - suc n)
  indexed k (Ty.meta n) = Ty.meta n
  indexed k (Ty.con c ts) = Ty.con c (all_indexed k ts)

  pub all_indexed : ℕ → Tys → Tys
  all_indexed k Tys.none = Tys.none
  all_indexed k (Tys.more t ts) = Tys.more (indexed k t) (all_indexed k ts)

-- a `!>` binder has the kind `$tType`
abbrev pub of_kind : Option RawType → Outcome Binder
of_kind (Some RawType.kind) = Ok Binder.of_type
of_kind (Some RawType.individual) = Err Fault.not_a_type
of_kind (Some RawType.truth) = Err Fault.not_a_type
of_kind (Some (RawType.variable x)) = Err Fault.not_a_type
of_kind (Some (RawType.named c ts)) = Err Fault.not_a_type
of_kind None = Err Fault.not_a_type

abbrev pub type_variables : Scope → List RawVariable → Outcome Scope
type_variables s [] = Ok s
type_variables s (v ∷ vs) = of_kind v.type >>= λ b. type_variables (record { name = v.name; binder = b } ∷ s) vs

abbrev pub is_kind : RawType → Bool
is_kind RawType.individual = false
is_kind RawType.truth = false
is_kind RawType.kind = true
is_kind (RawType.variable x) = false
is_kind (RawType.named c ts) = false

-- the types of the arguments; an argument `$tType` stands only before a result `$tType`
abbrev pub arguments_in : Table → Scope → Bool → RawTypes → Outcome Tys
arguments_in table s kinds RawTypes.none = Ok Tys.none
arguments_in table s kinds (RawTypes.more t ts) =
    if is_kind t
    then (if kinds then arguments_in table s kinds ts else Err Fault.not_a_type)
    else (type_in table s t >>= λ u. arguments_in table s kinds ts >>= λ us. Ok (Tys.more u us))

-- a constructor has no type variables, and no argument other than `$tType`
abbrev pub constructor_of : Name → ℕ → Scope → Tys → Outcome Symbol
constructor_of x n [] Tys.none = Ok (record { name = x; types = n; arguments = Tys.none; sense = Sense.constructor })
constructor_of x n [] (Tys.more t ts) = Err Fault.not_a_type
constructor_of x n (v ∷ vs) ts = Err Fault.not_a_type

abbrev pub function_of : Name → Scope → Tys → Ty → Symbol
function_of x s ts r = record {
  name = x;
  types = length s;
  arguments = all_indexed (length s) ts;
  sense = Sense.function (indexed (length s) r);
}

abbrev pub predicate_of : Name → Scope → Tys → Symbol
predicate_of x s ts =
    record { name = x; types = length s; arguments = all_indexed (length s) ts; sense = Sense.predicate }

-- the symbol of n arguments with this result
abbrev pub with_result : Table → Name → ℕ → Scope → Tys → RawType → Outcome Symbol
with_result table x n s ts RawType.kind = constructor_of x n s ts
with_result table x n s ts RawType.truth = Ok (predicate_of x s ts)
with_result table x n s ts RawType.individual = type_in table s RawType.individual >>= λ r. Ok (function_of x s ts r)
with_result table x n s ts (RawType.variable y) =
    type_in table s (RawType.variable y) >>= λ r. Ok (function_of x s ts r)
with_result table x n s ts (RawType.named c us) =
    type_in table s (RawType.named c us) >>= λ r. Ok (function_of x s ts r)

abbrev pub declared_symbol : Table → Name → RawTop → Outcome Symbol
declared_symbol table x top =
    type_variables [] top.binders >>= λ s.
    arguments_in table s (is_kind top.result) top.arguments >>= λ ts.
    with_result table x (number_of_types top.arguments) s ts top.result

-- a declared name is new
abbrev pub if_new : Option Numbered → Outcome Table → Outcome Table
if_new None r = r
if_new (Some d) r = Err Fault.redeclared

abbrev pub declare : Table → Name → RawTop → Outcome Table
declare table x top =
    if_new (known table x)
    (if nat_lt (length table) most_symbols
    then (declared_symbol table x top >>= λ d. Ok (with_entry table true d))
    else Err Fault.too_many_symbols)

-- what the statements so far make
pub record State : Type 0 where
  pub table : Table
  pub premises : List Premise
  pub conjecture : Option Form

abbrev pub start : State
start = record { table = []; premises = []; conjecture = None }

abbrev pub if_first : Option Form → Outcome State → Outcome State
if_first None r = r
if_first (Some f) r = Err Fault.second_conjecture

abbrev pub formula_of : State → Name → Option Role → RawForm → Outcome State
formula_of state x (Some role) f =
    form_in state.table [] f >>= λ g.
    Ok (record state {
      table = g.table;
      premises = state.premises ++ record { name = x; role = role; form = g.tree } ∷ [];
    })
formula_of state x None f =
    if_first state.conjecture
    (form_in state.table [] f >>= λ g. Ok (record state { table = g.table; conjecture = Some g.tree }))

-- what one more statement makes, or its first fault; an include makes nothing, since its statements stand in its place
abbrev pub statement_in : State → RawStatement → Outcome State
statement_in state (RawStatement.formula x role f) = formula_of state x (premise_role role) f
statement_in state (RawStatement.typing x subject top) =
    declare state.table subject top >>= λ table. Ok (record state { table = table })
statement_in state (RawStatement.inclusion file names) = Ok state

-- the number of the first statement without a typing, the symbols of the statements before it, and its first fault
pub record Refusal : Type 0 where
  pub statement : ℕ
  pub symbols : List Symbol
  pub fault : Fault

abbrev pub refused_at : {A : Type 0} → ℕ → List Symbol → Outcome A → Result A Refusal
refused_at n symbols (Ok x) = Ok x
refused_at n symbols (Err e) = Err (record { statement = n; symbols = symbols; fault = e })

abbrev pub then_typed : Result State Refusal → (State → Result State Refusal) → Result State Refusal
then_typed (Ok x) f = f x
then_typed (Err e) f = Err e

abbrev pub statements_in : ℕ → State → List RawStatement → Result State Refusal
statements_in n state [] = Ok state
statements_in n state (x ∷ xs) =
    then_typed (refused_at n (symbols_of state.table) (statement_in state x)) (λ next. statements_in (suc n) next xs)

-- the symbols that statements make
abbrev pub symbols_if : Result State Refusal → List Symbol
symbols_if (Ok state) = symbols_of state.table
symbols_if (Err e) = []

-- without a conjecture `$false` is to be proved
abbrev pub to_prove : Option Form → Form
to_prove None = Form.falsity
to_prove (Some f) = f

abbrev pub problem_of : State → Problem
problem_of state = record {
  symbols = symbols_of state.table;
  premises = state.premises;
  conjecture = to_prove state.conjecture;
}

abbrev pub problem_if : Result State Refusal → Result Problem Refusal
problem_if (Ok state) = Ok (problem_of state)
problem_if (Err e) = Err e

-- the problem of the statements, or the refusal
abbrev pub problem_in : List RawStatement → Result Problem Refusal
problem_in statements = problem_if (statements_in 0 start statements)

-- each statement is within the reader's limits
abbrev pub AreWithinLimits : List RawStatement → Type 0
AreWithinLimits [] = Unit {0}
AreWithinLimits (x ∷ xs) = IsWithinLimits x × AreWithinLimits xs
