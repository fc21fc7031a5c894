-- The rules of typing: what a written type, term, formula or statement stands for, under the symbols so far and the
-- variables in scope, and which symbols there are behind it. Each rule has one constructor for each way to be right; of
-- what is wrong with a text that no rule fits, `Typing` and `Statements` tell the first fault.
use Rattle.std.specs.Prelude.{ℕ, suc, ◌≡◌, ◌<◌, Bool, true, false, Option, Some, None, List, [], ◌∷◌, ◌++◌, length}
use Rattle.zm_logic.specs.Tree.{Ty, Tys, Term, Terms, Form, Symbol, Sense, Binder, Role, Problem}
use Rattle.zm_logic.specs.Typing.{individual, argument_types}
use Rattle.zm_logic.specs.Opening.{close}
use Rattle.tptp_reader.specs.declared.tree.RawRole.{RawRole}
use Rattle.tptp_reader.specs.Raw.{Name, RawType, RawTypes, RawTerm, RawTerms, RawVariable, RawForm, RawTop, RawStatement, Connective, Quantifier}
use Rattle.tff_typing.specs.Written.{as_types, number_of_types, number_of_terms, connective_of, quantifier_of, premise_role}
use Rattle.tff_typing.specs.Scope.{Scope, look_up}
use Rattle.tff_typing.specs.Table.{Table, Numbered, Place, formula, term, arity, declared, used, known, undeclared, with_entry, most_symbols}
use Rattle.tff_typing.specs.Places.{Expression, applied, first, rest}
use Rattle.tff_typing.specs.Statements.{function_of, predicate_of, State, start, problem_of}

-- A type in a place that is no result: $i, a type variable in scope, or a declared constructor at as many types as it
-- takes.
mutual
  pub data DenotesType (table : Table) (s : Scope) : RawType → Ty → Type 0 where
    of_individuals : DenotesType table s RawType.individual individual
    type_variable : {x : Name} {n : ℕ} → look_up s x ≡ Some (record { number = n; binder = Binder.of_type })
        → DenotesType table s (RawType.variable x) (Ty.param n)
    constructed : {c : Name} {d : Numbered} {ts : RawTypes} {us : Tys}
        → declared table c ≡ Some d → d.symbol.sense ≡ Sense.constructor → number_of_types ts ≡ arity d.symbol
        → DenoteTypes table s ts us
        → DenotesType table s (RawType.named c ts) (Ty.con d.number us)

  pub data DenoteTypes (table : Table) (s : Scope) : RawTypes → Tys → Type 0 where
    no_types : DenoteTypes table s RawTypes.none Tys.none
    more_types : {t : RawType} {ts : RawTypes} {u : Ty} {us : Tys} → DenotesType table s t u → DenoteTypes table s ts us
        → DenoteTypes table s (RawTypes.more t ts) (Tys.more u us)

-- a term's or a formula's place takes no constructor
abbrev pub IsNoConstructor : Sense → Type 0
IsNoConstructor Sense.constructor = ⊥
IsNoConstructor Sense.predicate = Unit {0}
IsNoConstructor (Sense.function r) = Unit {0}

-- The symbol of a name with n arguments in a term's or a formula's place: the declared one of the name, which takes n
-- arguments; else the one that was used with n arguments; else a new one behind all others.
pub data DenotesSymbol (table : Table) (place : Place) (x : Name) (n : ℕ) : Numbered → Table → Type 0 where
  declared_before : {d : Numbered} → declared table x ≡ Some d → n ≡ arity d.symbol → IsNoConstructor d.symbol.sense
      → DenotesSymbol table place x n d table
  used_before : {d : Numbered} → declared table x ≡ None → used table x n ≡ Some d → IsNoConstructor d.symbol.sense
      → DenotesSymbol table place x n d table
  used_first : declared table x ≡ None → used table x n ≡ None → length table < most_symbols
      → DenotesSymbol table place x n (record { number = suc (length table); symbol = undeclared place x n })
      (with_entry table false (undeclared place x n))

mutual
  -- A term or an atom: a variable of a type, which carries that type; or a symbol at its types, as many as it has type
  -- variables, and then its terms, each of its argument's type at those types.
  pub data DenotesExpression : Table → Scope → Place → RawTerm → Expression → Table → Type 0 where
    term_variable : {table : Table} {s : Scope} {place : Place} {x : Name} {n : ℕ} {t : Ty}
        → look_up s x ≡ Some (record { number = n; binder = Binder.of_term t })
        → DenotesExpression table s place (RawTerm.variable x) (Expression.term t (Term.eps n t)) table
    at_arguments : {table middle after : Table} {s : Scope} {place : Place} {f : Name} {us : RawTerms}
        {d : Numbered} {ts : Tys} {vs : Terms}
        → DenotesSymbol table place f (number_of_terms us) d middle
        → DenoteTypes middle s (as_types (first d.symbol.types us)) ts
        → DenoteTerms middle s (rest d.symbol.types us) (argument_types d.symbol ts) vs after
        → DenotesExpression table s place (RawTerm.named f us) (applied d.number ts vs d.symbol.sense) after

  -- as many terms as types, each of its type
  pub data DenoteTerms : Table → Scope → RawTerms → Tys → Terms → Table → Type 0 where
    no_terms : {table : Table} {s : Scope} → DenoteTerms table s RawTerms.none Tys.none Terms.none table
    more_terms : {table middle after : Table} {s : Scope} {u : RawTerm} {us : RawTerms}
        {w : Ty} {ws : Tys} {a : Term} {vs : Terms}
        → DenotesExpression table s term u (Expression.term w a) middle → DenoteTerms middle s us ws vs after
        → DenoteTerms table s (RawTerms.more u us) (Tys.more w ws) (Terms.more a vs) after

-- the type of a quantifier's variable: that of individuals where none is written
pub data DenotesWritten (table : Table) (s : Scope) : Option RawType → Ty → Type 0 where
  unwritten : DenotesWritten table s None individual
  written : {t : RawType} {u : Ty} → DenotesType table s t u → DenotesWritten table s (Some t) u

-- A formula. The variable that a quantifier binds has the number of the binders round it, and the tree closes on that
-- number. A quantifier binds a variable for terms of a type, or one for types, wherever it stands.
pub data DenotesForm : Table → Scope → RawForm → Form → Table → Type 0 where
  truth : {table : Table} {s : Scope} → DenotesForm table s RawForm.truth Form.truth table
  falsity : {table : Table} {s : Scope} → DenotesForm table s RawForm.falsity Form.falsity table
  atom : {table after : Table} {s : Scope} {u : RawTerm} {p : ℕ} {ts : Tys} {us : Terms}
      → DenotesExpression table s formula u (Expression.atom p ts us) after
      → DenotesForm table s (RawForm.plain u) (Form.atom p ts us) after
  equal : {table middle after : Table} {s : Scope} {left right : RawTerm} {t : Ty} {a b : Term}
      → DenotesExpression table s term left (Expression.term t a) middle
      → DenotesExpression middle s term right (Expression.term t b) after
      → DenotesForm table s (RawForm.equal left right) (Form.equal t a b) after
  negation : {table after : Table} {s : Scope} {f : RawForm} {g : Form}
      → DenotesForm table s f g after → DenotesForm table s (RawForm.negation f) (Form.negation g) after
  binary : {table middle after : Table} {s : Scope} {c : Connective} {f g : RawForm} {a b : Form}
      → DenotesForm table s f a middle → DenotesForm middle s g b after
      → DenotesForm table s (RawForm.binary c f g) (Form.binary (connective_of c) a b) after
  quantified : {table after : Table} {s : Scope} {q : Quantifier} {v : RawVariable}
      {t : Ty} {f : RawForm} {g : Form}
      → DenotesWritten table s v.type t
      → DenotesForm table (record { name = v.name; binder = Binder.of_term t } ∷ s) f g after
      → DenotesForm table s (RawForm.quantified q v f)
      (Form.quantified (quantifier_of q) t (close g (length s))) after
  quantified_types : {table after : Table} {s : Scope} {q : Quantifier} {v : RawVariable} {f : RawForm} {g : Form}
      → v.type ≡ Some RawType.kind
      → DenotesForm table (record { name = v.name; binder = Binder.of_type } ∷ s) f g after
      → DenotesForm table s (RawForm.quantified q v f)
      (Form.quantified_types (quantifier_of q) (close g (length s))) after

-- the type variables of a declaration, put before those in scope: each has the kind $tType
pub data AreTypeVariables : Scope → List RawVariable → Scope → Type 0 where
  no_variables : {s : Scope} → AreTypeVariables s [] s
  more_variables : {s after : Scope} {v : RawVariable} {vs : List RawVariable} → v.type ≡ Some RawType.kind
      → AreTypeVariables (record { name = v.name; binder = Binder.of_type } ∷ s) vs after
      → AreTypeVariables s (v ∷ vs) after

-- each is $tType
pub data AreKinds : RawTypes → Type 0 where
  no_kinds : AreKinds RawTypes.none
  more_kinds : {ts : RawTypes} → AreKinds ts → AreKinds (RawTypes.more RawType.kind ts)

-- the symbol that a name is declared to be: a constructor of types, a predicate, or a function
pub data DeclaresSymbol (table : Table) (x : Name) (top : RawTop) : Symbol → Type 0 where
  constructor : top.binders ≡ [] → AreKinds top.arguments → top.result ≡ RawType.kind
      → DeclaresSymbol table x top (record {
        name = x;
        types = number_of_types top.arguments;
        arguments = Tys.none;
        sense = Sense.constructor;
      })
  predicate : {s : Scope} {ts : Tys} → AreTypeVariables [] top.binders s → DenoteTypes table s top.arguments ts
      → top.result ≡ RawType.truth → DeclaresSymbol table x top (predicate_of x s ts)
  function : {s : Scope} {ts : Tys} {r : Ty} → AreTypeVariables [] top.binders s → DenoteTypes table s top.arguments ts
      → DenotesType table s top.result r → DeclaresSymbol table x top (function_of x s ts r)

-- What is made of one statement more. A declared name is new and there is room for it; there is at most one conjecture;
-- an include makes nothing, since its statements stand in its place.
pub data MakesState (state : State) : RawStatement → State → Type 0 where
  declaration : {x subject : Name} {top : RawTop} {d : Symbol}
      → known state.table subject ≡ None → length state.table < most_symbols → DeclaresSymbol state.table subject top d
      → MakesState state (RawStatement.typing x subject top) (record state { table = with_entry state.table true d })
  premise : {x : Name} {role : RawRole} {r : Role} {f : RawForm} {g : Form} {after : Table}
      → premise_role role ≡ Some r → DenotesForm state.table [] f g after
      → MakesState state (RawStatement.formula x role f)
      (record state { table = after; premises = state.premises ++ record { name = x; role = r; form = g } ∷ [] })
  conjecture : {x : Name} {role : RawRole} {f : RawForm} {g : Form} {after : Table}
      → premise_role role ≡ None → state.conjecture ≡ None → DenotesForm state.table [] f g after
      → MakesState state (RawStatement.formula x role f) (record state { table = after; conjecture = Some g })
  inclusion : {file : Name} {names : Option (List Name)} → MakesState state (RawStatement.inclusion file names) state

-- statements in order
pub data MakeStates : State → List RawStatement → State → Type 0 where
  no_statements : {state : State} → MakeStates state [] state
  more_statements : {state middle after : State} {x : RawStatement} {xs : List RawStatement}
      → MakesState state x middle → MakeStates middle xs after → MakeStates state (x ∷ xs) after

-- the statements make the problem
pub record MakeProblem (statements : List RawStatement) (p : Problem) : Type 0 where
  pub state : State
  pub made : MakeStates start statements state
  pub problem : problem_of state ≡ p
