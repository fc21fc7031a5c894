-- What the program's values stand for.
use Rattle.std.specs.Prelude.{take, ◌≡◌, ℕ, suc, true, false, Bool, List, [], ◌∷◌, ◌++◌, map, slice_get, Option, Some, None, option_map, Result, Ok, Err, length, ◌<◌, ◌≤◌}
use Rattle.zm_logic.specs.Tree as tree
use Rattle.zm_logic.specs.View.{type_tree, types_tree, term_tree, terms_tree, form_tree, sense_tree, premise_tree, symbol_tree, problem_tree}
use Rattle.tff_typing.specs.Fault as fault
use Rattle.tff_typing.specs.Table as table
use Rattle.tff_typing.specs.Typing as typing
use Rattle.zm_logic.specs.declared.tree.SymId.{SymId}
use Rattle.tff_typing.specs.declared.fault.Found.{Found}
use Rattle.tff_typing.specs.declared.fault.Found.TheVariants as founds
use Rattle.tff_typing.specs.declared.fault.Fault.{Fault}
use Rattle.tff_typing.specs.declared.fault.Fault.TheVariants as faults
use Rattle.tff_typing.specs.declared.fault.Stop.{Stop}
use Rattle.tff_typing.specs.declared.fault.Stop.TheVariants as stops
use Rattle.tff_typing.specs.Scope as scope
use Rattle.tff_typing.specs.declared.scope.Binder.{Binder}
use Rattle.tff_typing.specs.declared.scope.Binder.TheVariants as binders
use Rattle.tff_typing.specs.declared.scope.Variable.{Variable}
use Rattle.tff_typing.specs.Places as places
use Rattle.tff_typing.specs.Indexed as at
use Rattle.tff_typing.specs.declared.uses.Place.{Place}
use Rattle.tff_typing.specs.declared.uses.Place.TheVariants as the_places
use Rattle.tff_typing.specs.declared.uses.Use.{Use}
use Rattle.tff_typing.specs.declared.terms.Expression.{Expression}
use Rattle.tff_typing.specs.declared.terms.Expression.TheVariants as expressions
use Rattle.tff_typing.specs.declared.terms.Head.{Head}
use Rattle.tff_typing.specs.declared.forms.Side.{Side}
use Rattle.tff_typing.specs.declared.forms.Connective.{Connective}
use Rattle.tff_typing.specs.declared.forms.Connective.TheVariants as connectives
use Rattle.tff_typing.specs.declared.forms.Quantifier.{Quantifier}
use Rattle.tff_typing.specs.declared.forms.Quantifier.TheVariants as quantifiers
use Rattle.tptp_reader.specs.Raw as raw
use Rattle.tff_typing.specs.Statements as statements
use Rattle.tff_typing.specs.Rules.{MakeProblem}
use Rattle.tff_typing.specs.declared.state.State.{State}
use Rattle.tff_typing.specs.declared.problem.Halt.{Halt}
use Rattle.tff_typing.specs.declared.problem.Halt.TheVariants as halts
use Rattle.tff_typing.specs.declared.typed.TypeRefusal.{TypeRefusal}
use Rattle.tff_typing.specs.declared.typed.TypeStop.{TypeStop}
use Rattle.tff_typing.specs.declared.typed.TypeStop.TheVariants as type_stops
use Rattle.zm_logic.specs.declared.problem.Problem.{Problem}
use Rattle.tptp_include.specs.Gathering.{Placed}
use Rattle.tptp_include.specs.Outcomes.{placed_of}
use Rattle.tptp_include.specs.declared.gathered.GatheredStatement.{GatheredStatement}
use Rattle.tff_typing.specs.declared.symbols.Key.{Key}
use Rattle.tff_typing.specs.declared.symbols.Declaration.{Declaration}
use Rattle.tff_typing.specs.declared.symbols.Entry.{Entry}
use Rattle.tff_typing.specs.declared.symbols.Symbols.{Symbols}

abbrev pub found_tree : Found → fault.Found
found_tree founds.Truth = fault.Found.truth
found_tree (founds.OfType t) = fault.Found.of_type (type_tree t)

abbrev pub fault_tree : Fault → fault.Fault
fault_tree faults.SecondConjecture = fault.Fault.second_conjecture
fault_tree faults.Redeclared = fault.Fault.redeclared
fault_tree faults.TooManySymbols = fault.Fault.too_many_symbols
fault_tree faults.Unbound = fault.Fault.unbound
fault_tree faults.Arity = fault.Fault.arity
fault_tree faults.NotAType = fault.Fault.not_a_type
fault_tree faults.NotATerm = fault.Fault.not_a_term
fault_tree (faults.Mismatch w g) = fault.Fault.mismatch (found_tree w) (found_tree g)

-- what a symbol takes; without a declaration it is as many individuals as its key says
abbrev pub types_taken : Option ℕ → Declaration → ℕ
types_taken None d = d.types
types_taken (Some n) d = 0

abbrev pub arguments_taken : Option ℕ → Declaration → tree.Tys
arguments_taken None d = types_tree d.arguments
arguments_taken (Some n) d = table.individuals_of n

abbrev pub symbol_of : List ℕ → Option ℕ → Declaration → tree.Symbol
symbol_of x parts d = record {
  name = x;
  types = types_taken parts d;
  arguments = arguments_taken parts d;
  sense = sense_tree d.sense;
}

abbrev pub was_declared : Option ℕ → Bool
was_declared None = true
was_declared (Some n) = false

abbrev pub entry_tree : Key × Declaration → table.Entry
entry_tree e = record { symbol = symbol_of e.0.name.now e.0.parts e.1; is_declared = was_declared e.0.parts }

abbrev pub table_tree : Symbols → table.Table
table_tree t = map entry_tree t.entries.entries

abbrev pub numbered_at : ℕ → Key × Declaration → table.Numbered
numbered_at i e = record { number = suc i; symbol = symbol_of e.0.name.now e.0.parts e.1 }

abbrev pub entry_numbered : Entry → table.Numbered
entry_numbered e = numbered_at e.place (e.key.now, e.declaration.now)

-- the symbol that a key stands for
abbrev pub found_as : List ℕ → Option ℕ → table.Table → Option table.Numbered
found_as x None t = table.declared t x
found_as x (Some n) t = table.used t x n

abbrev pub found_by : Key → table.Table → Option table.Numbered
found_by k t = found_as k.name.now k.parts t

-- a symbol's entry put at the end of a table that has room, and its place
abbrev pub IsAdded : Result ℕ Stop → table.Table → table.Entry → table.Table → Type 0
IsAdded (Ok i) before e after = (i ≡ length before) × (length before < table.most_symbols) × (after ≡ before ++ e ∷ [])
IsAdded (Err (stops.Refused f)) before e after =
    (fault_tree f ≡ fault.Fault.too_many_symbols) × (table.most_symbols ≤ length before) × (after ≡ before)
IsAdded (Err stops.Memory) before e after = after ≡ before

abbrev pub binder_tree : Binder → tree.Binder
binder_tree binders.OfType = tree.Binder.of_type
binder_tree (binders.OfTerm t) = tree.Binder.of_term (type_tree t)

abbrev pub variable_tree : Variable → scope.Variable
variable_tree v = record { name = v.name.now; binder = binder_tree v.binder }

-- the code's scope has the innermost variable last
abbrev pub onto : scope.Scope → List Variable → scope.Scope
onto s [] = s
onto s (v ∷ vs) = onto (variable_tree v ∷ s) vs

abbrev pub scope_tree : List Variable → scope.Scope
scope_tree vs = onto [] vs

abbrev pub bound_at : ℕ → Variable → scope.Bound
bound_at i v = record { number = i; binder = binder_tree v.binder }

-- the variable at a place of the code's scope
abbrev pub bound_in : List Variable → Option ℕ → Option scope.Bound
bound_in vs None = None
bound_in vs (Some i) = option_map (bound_at i) (slice_get vs i)

abbrev pub sym_number : SymId → ℕ
sym_number f = f.0

abbrev pub place_tree : Place → table.Place
place_tree the_places.Formula = table.Place.formula
place_tree the_places.Term = table.Place.term

abbrev pub use_tree : Use → at.Taken
use_tree u =
    record { number = u.number.0; types = u.types; arguments = types_tree u.arguments; sense = sense_tree u.sense }

abbrev pub expression_tree : Expression → places.Expression
expression_tree (expressions.Term t u) = places.Expression.term (type_tree t) (term_tree u)
expression_tree (expressions.Atom p ts us) = places.Expression.atom p.0 (types_tree ts) (terms_tree us)

abbrev pub head_tree : Head → at.Head
head_tree h = record {
  number = h.number.0;
  skipped = h.skipped;
  types = types_tree h.types;
  wanted_types = types_tree h.wanted;
  sense = sense_tree h.sense;
}

abbrev pub side_tree : Side → at.Side
side_tree s = record { type = type_tree s.ty; term = term_tree s.term }

abbrev pub connective_tree : Connective → raw.Connective
connective_tree connectives.And = raw.Connective.conjunction
connective_tree connectives.Or = raw.Connective.disjunction
connective_tree connectives.Imp = raw.Connective.implication
connective_tree connectives.Iff = raw.Connective.equivalence

abbrev pub quantifier_tree : Quantifier → raw.Quantifier
quantifier_tree quantifiers.Universal = raw.Quantifier.universal
quantifier_tree quantifiers.Existential = raw.Quantifier.existential

-- What a function returned is the outcome, unless memory ran out.
abbrev pub Gives : {A B : Type 0} → (A → B) → Result A Stop → fault.Outcome B → Type 0
Gives view (Ok x) outcome = outcome ≡ Ok (view x)
Gives view (Err (stops.Refused e)) outcome = outcome ≡ Err (fault_tree e)
Gives view (Err stops.Memory) outcome = Unit {0}

-- The same where the table may have grown.
abbrev pub GivesIn : {A B : Type 0} → (A → B) → Result A Stop → Symbols → fault.Outcome (typing.Typed B) → Type 0
GivesIn view (Ok x) after outcome = outcome ≡ Ok (record { tree = view x; table = table_tree after })
GivesIn view (Err (stops.Refused e)) after outcome = outcome ≡ Err (fault_tree e)
GivesIn view (Err stops.Memory) after outcome = Unit {0}

-- The same where the table alone is asked for.
abbrev pub GivesTable : {A : Type 0} → Result A Stop → Symbols → fault.Outcome table.Table → Type 0
GivesTable (Ok x) after outcome = outcome ≡ Ok (table_tree after)
GivesTable (Err (stops.Refused e)) after outcome = outcome ≡ Err (fault_tree e)
GivesTable (Err stops.Memory) after outcome = Unit {0}

abbrev pub declared_as : List ℕ → Declaration → tree.Symbol
declared_as x d = symbol_of x None d

abbrev pub state_tree : State → statements.State
state_tree s = record {
  table = table_tree s.symbols;
  premises = map premise_tree s.premises;
  conjecture = option_map form_tree s.conjecture;
}

-- The same for what the statements so far make.
abbrev pub GivesState : {A : Type 0} → Result A Stop → State → fault.Outcome statements.State → Type 0
GivesState (Ok x) after outcome = outcome ≡ Ok (state_tree after)
GivesState (Err (stops.Refused e)) after outcome = outcome ≡ Err (fault_tree e)
GivesState (Err stops.Memory) after outcome = Unit {0}

abbrev pub raw_statements : List GatheredStatement → List raw.RawStatement
raw_statements xs = map (λ p. p.statement) (map placed_of xs)

-- What the first statements make, or the number and the fault of the first that has no typing.
abbrev pub GivesStates : Result State Halt → List GatheredStatement → Type 0
GivesStates (Ok state) xs = statements.statements_in 0 statements.start (raw_statements xs) ≡ Ok (state_tree state)
GivesStates (Err (halts.At n f)) xs =
    (n < length xs)
    × (statements.statements_in 0 statements.start (raw_statements xs)
    ≡ Err (record {
      statement = n;
      symbols = statements.symbols_if (statements.statements_in 0 statements.start (raw_statements (take n xs)));
      fault = fault_tree f;
    }))
GivesStates (Err halts.Memory) xs = Unit {0}

-- The refusal is the first fault of the first statement that has no typing, at the place of that statement.
pub record Refuses (list : List Placed) (r : TypeRefusal) : Type 0 where
  pub refusal : statements.Refusal
  pub found : statements.problem_in (map (λ p. p.statement) list) ≡ Err refusal
  pub fault : fault_tree r.fault ≡ refusal.fault
  pub symbols : map symbol_tree r.symbols ≡ refusal.symbols
  pub placed : Placed
  pub stands : slice_get list refusal.statement ≡ Some placed
  pub file : r.place.file ≡ placed.file
  pub place : r.place.at ≡ placed.at

-- What the program answers: the problem that the statements make by the rules, or their refusal; of want of memory
-- nothing is said.
abbrev pub Types : List Placed → Result Problem TypeStop → Type 0
Types list (Ok p) = MakeProblem (map (λ p. p.statement) list) (problem_tree p)
Types list (Err (type_stops.Refused r)) = Refuses list r
Types list (Err type_stops.Memory) = Unit {0}
