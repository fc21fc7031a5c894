-- Statements within the reader's limits make a typed problem.
use Rattle.std.proofs.Common.{◌≡◌, ℕ, suc, ◌+◌, ◌≤◌, ◌<◌, zero, max, get_or, Bool, true, false, if◌then◌else◌, Option, Some, None, Result, Ok, Err, List, [], ◌∷◌, length, nat_lt, refl, arith, sym, ap, subst, ◌∙◌}
use Rattle.std.specs.List.{All}
use Rattle.std.proofs.lemmas.List.Elements.{All-push, All-nil, All-weaker}
use Rattle.std.proofs.lemmas.Option.{none-some, same_Some}
use Rattle.zm_logic.specs.Tree.{Ty, Tys, Form, Symbol, Sense, Role, Premise, Problem}
use Rattle.zm_logic.specs.Typing.{WellTyped, nth}
use Rattle.zm_logic.specs.Measure.{type_depth, types_depth}
use Rattle.zm_logic.specs.Problem.{IsProblemForm, IsTypedProblem, symbol_depth, sense_depth}
use Rattle.tptp_reader.specs.Raw.{Name, RawType, RawTypes, RawForm, RawTop, RawStatement}
use Rattle.tff_typing.specs.Written.{number_of_types, premise_role}
use Rattle.tptp_reader.specs.Raw.{raw_type_depth, raw_types_depth, raw_depth}
use Rattle.tptp_reader.specs.Limits.{IsWithinLimits, IsNested}
use Rattle.tff_typing.specs.Statements.{AreWithinLimits}
use Rattle.tff_typing.specs.Scope.{Scope}
use Rattle.tff_typing.specs.Table.{Table, Numbered, symbols_of, known, with_entry, most_symbols}
use Rattle.tff_typing.specs.Fault.{Fault, Outcome, ◌>>=◌}
use Rattle.tff_typing.specs.Places.{type_in}
use Rattle.tff_typing.specs.Typing.{form_in}
use Rattle.tff_typing.specs.Statements.{indexed, all_indexed, type_variables, is_kind, arguments_in, constructor_of, function_of, predicate_of, with_result, declared_symbol, if_new, declare, State, start, if_first, formula_of, statement_in, Refusal, refused_at, then_typed, statements_in, to_prove, problem_of, problem_if, problem_in}
use Rattle.tff_typing.proofs.Outcomes.{both_ok, ok_same, no_ok, test_held}
use Rattle.tff_typing.proofs.Extends.{Extends, form_kept}
use Rattle.tff_typing.proofs.Tables.{symbols_more, InMore, in_more}
use Rattle.tff_typing.proofs.FormsTyped.{form_sound}
use Rattle.tff_typing.proofs.StatementsTyped.{IsState, start_is, statement_is, declare_is, with_premise, with_conjecture, with_table, no_refusal, typed_same}
use Rattle.tff_typing.proofs.DepthBound.{written_type_depth}
use Rattle.tff_typing.proofs.DepthOfForms.{IsShallowTable, function_same, form_depth, problem_form}

mutual
  indexed_depth : (k : ℕ) (t : Ty) → type_depth (indexed k t) ≡ type_depth t
  indexed_depth k (Ty.bound i) = refl
  indexed_depth k (Ty.param n) = refl
  indexed_depth k (Ty.meta n) = refl
  indexed_depth k (Ty.con c ts) = ap (λ d. 1 + d) (all_indexed_depth k ts)

  all_indexed_depth : (k : ℕ) (ts : Tys) → types_depth (all_indexed k ts) ≡ types_depth ts
  all_indexed_depth k Tys.none = refl
  all_indexed_depth k (Tys.more t ts) = cc (indexed_depth k t, all_indexed_depth k ts)

-- a symbol whose result is as deep as a written type may be
pub record IsShallowSymbol (d : Symbol) : Type 0 where
  pub result : (r : Ty) → d.sense ≡ Sense.function r → type_depth r ≤ 201
  pub arguments : types_depth d.arguments ≤ 201

added_shallow : (table : Table) (b : Bool) (d : Symbol) → IsShallowTable table → IsShallowSymbol d
    → IsShallowTable (with_entry table b d)
added_shallow table b d ok small = record { at = at; arguments = arguments }
  where
    arguments : (m : ℕ) (e : Symbol) → nth (symbols_of (with_entry table b d)) m ≡ Some e
        → types_depth e.arguments ≤ 201
    arguments m e h = let q = rw (symbols_more table b d) at h in go (in_more (symbols_of table) d m e q)
      where
        go : InMore (symbols_of table) d m e → types_depth e.arguments ≤ 201
        go (InMore.before l j) = ok.arguments m e j
        go (InMore.last l j) =
            let k = ap (λ (y : Symbol). types_depth y.arguments) j in let s = small.arguments in omega arith

    at : (m : ℕ) (e : Symbol) (r : Ty) → nth (symbols_of (with_entry table b d)) m ≡ Some e → e.sense ≡ Sense.function r
        → type_depth r ≤ 201
    at m e r h i = let q = rw (symbols_more table b d) at h in go (in_more (symbols_of table) d m e q)
      where
        go : InMore (symbols_of table) d m e → type_depth r ≤ 201
        go (InMore.before l j) = ok.at m e r j i
        go (InMore.last l j) = small.result r (ap (λ (y : Symbol). y.sense) j ∙ i)

no_constructor : (r : Ty) → Sense.constructor ≡ Sense.function r → ⊥
no_constructor r h = cc

no_predicate : (r : Ty) → Sense.predicate ≡ Sense.function r → ⊥
no_predicate r h = cc

constructor_shallow : (x : Name) (n : ℕ) (s : Scope) (ts : Tys) (d : Symbol) → constructor_of x n s ts ≡ Ok d
    → IsShallowSymbol d
constructor_shallow x n [] Tys.none d h =
    let made : Symbol = record { name = x; types = n; arguments = Tys.none; sense = Sense.constructor } in
    subst (λ (y : Symbol). IsShallowSymbol y) (ok_same made d h)
    (record { result = λ r e. absurd (no_constructor r e); arguments = omega arith })
constructor_shallow x n [] (Tys.more t ts) d h = absurd (no_ok _ d h)
constructor_shallow x n (v ∷ vs) ts d h = absurd (no_ok _ d h)

function_shallow : (table : Table) (x : Name) (s : Scope) (ts : Tys) (t : RawType) (d : Symbol) → types_depth ts ≤ 201
    → raw_type_depth t ≤ 201
    → (type_in table s t >>= λ r. Ok (function_of x s ts r)) ≡ Ok d → IsShallowSymbol d
function_shallow table x s ts t d m l h =
    let a = both_ok (type_in table s t) _ d h in
    let i = written_type_depth table s t a.0 a.1 in
    let j = indexed_depth (length s) a.0 in
    subst (λ (y : Symbol). IsShallowSymbol y) (ok_same (function_of x s ts a.0) d a.2)
    (record {
      result = λ r e. (let k = ap type_depth (function_same (indexed (length s) a.0) r e) in omega arith);
      arguments = omega (arith, all_indexed_depth (length s) ts);
    })

result_shallow : (table : Table) (x : Name) (n : ℕ) (s : Scope) (ts : Tys) (t : RawType) (d : Symbol)
    → types_depth ts ≤ 201 → raw_type_depth t ≤ 201
    → with_result table x n s ts t ≡ Ok d → IsShallowSymbol d
result_shallow table x n s ts RawType.kind d m l h = constructor_shallow x n s ts d h
result_shallow table x n s ts RawType.truth d m l h =
    subst (λ (y : Symbol). IsShallowSymbol y) (ok_same (predicate_of x s ts) d h)
    (record { result = λ r e. absurd (no_predicate r e); arguments = omega (arith, all_indexed_depth (length s) ts) })
result_shallow table x n s ts RawType.individual d m l h = function_shallow table x s ts RawType.individual d m l h
result_shallow table x n s ts (RawType.variable y) d m l h = function_shallow table x s ts (RawType.variable y) d m l h
result_shallow table x n s ts (RawType.named c us) d m l h = function_shallow table x s ts (RawType.named c us) d m l h

-- the types of a declaration's arguments are no deeper than they are written
arguments_depth : (table : Table) (s : Scope) (kinds : Bool) (ts : RawTypes) (us : Tys)
    → arguments_in table s kinds ts ≡ Ok us → types_depth us ≤ raw_types_depth ts
arguments_depth table s kinds RawTypes.none us h =
    subst (λ (y : Tys). types_depth y ≤ 0) (ok_same Tys.none us h) (omega arith)
arguments_depth table s kinds (RawTypes.more t ts) us h =
    go (is_kind t) (λ vs e. arguments_depth table s kinds ts vs e) h
  where
    kind : (b : Bool) → ((vs : Tys) → arguments_in table s kinds ts ≡ Ok vs → types_depth vs ≤ raw_types_depth ts)
        → (if b then arguments_in table s kinds ts else Err Fault.not_a_type) ≡ Ok us
        → types_depth us ≤ max (raw_type_depth t) (raw_types_depth ts)
    kind true rest h = omega (arith, rest us h)
    kind false rest h = absurd (no_ok _ us h)

    go : (b : Bool) → ((vs : Tys) → arguments_in table s kinds ts ≡ Ok vs → types_depth vs ≤ raw_types_depth ts)
        → (if b
        then (if kinds then arguments_in table s kinds ts else Err Fault.not_a_type)
        else (type_in table s t >>= λ u. arguments_in table s kinds ts >>= λ vs. Ok (Tys.more u vs))) ≡ Ok us
        → types_depth us ≤ max (raw_type_depth t) (raw_types_depth ts)
    go true rest h = kind kinds rest h
    go false rest h =
        let a = both_ok (type_in table s t) _ us h in
        let b = both_ok (arguments_in table s kinds ts) _ us a.2 in
        let d = written_type_depth table s t a.0 a.1 in
        let e = rest b.0 b.1 in
        subst (λ (y : Tys). types_depth y ≤ max (raw_type_depth t) (raw_types_depth ts))
        (ok_same (Tys.more a.0 b.0) us b.2) (omega arith)

declare_shallow : (table : Table) (x : Name) (top : RawTop) (grown : Table) → IsShallowTable table
    → raw_types_depth top.arguments ≤ 201 → raw_type_depth top.result ≤ 201
    → declare table x top ≡ Ok grown → IsShallowTable grown
declare_shallow table x top grown ok m l h = go (known table x) h
  where
    go : (o : Option Numbered)
        → if_new o
        (if nat_lt (length table) most_symbols
        then (declared_symbol table x top >>= λ d. Ok (with_entry table true d))
        else Err Fault.too_many_symbols) ≡ Ok grown
        → IsShallowTable grown
    go (Some d) h = absurd (no_ok _ grown h)
    go None h =
        let a = test_held (nat_lt (length table) most_symbols)
        (declared_symbol table x top >>= λ d. Ok (with_entry table true d)) Fault.too_many_symbols grown h in
        let b = both_ok (declared_symbol table x top) _ grown a.1 in
        let d = b.0 in
        let c = both_ok (type_variables [] top.binders) _ d b.1 in
        let e = both_ok (arguments_in table c.0 (is_kind top.result) top.arguments) _ d c.2 in
        let r = result_shallow table x (number_of_types top.arguments) c.0 e.0 top.result d
        (omega (arith, m, arguments_depth table c.0 (is_kind top.result) top.arguments e.0 e.1)) l e.2 in
        subst (λ (y : Table). IsShallowTable y) (ok_same (with_entry table true d) grown b.2)
        (added_shallow table true d ok r)

-- what statements within the limits make so far
pub record IsTypedState (state : State) : Type 0 where
  pub made : IsState state
  pub shallow : IsShallowTable state.table
  pub premises : All (λ p. IsProblemForm (symbols_of state.table) p.form) state.premises
  pub conjecture : (f : Form) → state.conjecture ≡ Some f → IsProblemForm (symbols_of state.table) f

form_stays : (a b : List Symbol) (f : Form) → Extends a b → IsProblemForm a f → IsProblemForm b f
form_stays a b f x h = record { typed = form_kept a b x h.typed; parameters = h.parameters; shallow = h.shallow }

all_stay : (a b : List Symbol) (ps : List Premise) → Extends a b → All (λ p. IsProblemForm a p.form) ps
    → All (λ p. IsProblemForm b p.form) ps
all_stay a b ps x h =
    All-weaker (λ (p : Premise). IsProblemForm a p.form) (λ (p : Premise). IsProblemForm b p.form)
    (λ p i. form_stays a b p.form x i) ps h

conjecture_stays : (a b : List Symbol) (o : Option Form) → Extends a b → ((f : Form) → o ≡ Some f → IsProblemForm a f)
    → (f : Form) → o ≡ Some f → IsProblemForm b f
conjecture_stays a b o x h f e = form_stays a b f x (h f e)

start_typed : IsTypedState start
start_typed = record {
  made = start_is;
  shallow = record { at = λ n d r h e. absurd (none-some d h); arguments = λ n d h. absurd (none-some d h) };
  premises = All-nil (λ (p : Premise). IsProblemForm [] p.form);
  conjecture = λ f h. absurd (none-some f h);
}

formula_typed : (state : State) (x : Name) (role : Option Role) (f : RawForm) (next : State) → IsTypedState state
    → IsNested f → raw_depth f ≤ 1000
    → IsState next → formula_of state x role f ≡ Ok next → IsTypedState next
formula_typed state x (Some role) f next ok nested low after h =
    let a = both_ok (form_in state.table [] f) _ next h in
    let g = a.0 in
    let i = form_sound state.table [] f g ok.made.table tt a.1 in
    let d = form_depth state.table [] f g ok.made.table tt ok.shallow tt nested a.1 in
    let p = problem_form state.table f g ok.made.table ok.shallow nested low a.1 in
    let made : Premise = record { name = x; role = role; form = g.tree } in
    let P : Premise → Type 0 = λ q. IsProblemForm (symbols_of g.table) q.form in
    let e = ok_same (with_premise state x role g) next a.2 in
    subst (λ (y : State). IsTypedState y) e
    (record {
      made = subst (λ (y : State). IsState y) (sym e) after;
      shallow = d.table;
      premises =
          All-push P state.premises made
          (all_stay (symbols_of state.table) (symbols_of g.table) state.premises i.grown.grows ok.premises) p;
      conjecture =
          conjecture_stays (symbols_of state.table) (symbols_of g.table) state.conjecture i.grown.grows ok.conjecture;
    })
formula_typed state x None f next ok nested low after h = go state.conjecture h
  where
    go : (o : Option Form) → if_first o (form_in state.table [] f >>= λ g. Ok (with_conjecture state g)) ≡ Ok next
        → IsTypedState next
    go (Some c) h = absurd (no_ok _ next h)
    go None h =
        let a = both_ok (form_in state.table [] f) _ next h in
        let g = a.0 in
        let i = form_sound state.table [] f g ok.made.table tt a.1 in
        let d = form_depth state.table [] f g ok.made.table tt ok.shallow tt nested a.1 in
        let p = problem_form state.table f g ok.made.table ok.shallow nested low a.1 in
        let e = ok_same (with_conjecture state g) next a.2 in
        subst (λ (y : State). IsTypedState y) e
        (record {
          made = subst (λ (y : State). IsState y) (sym e) after;
          shallow = d.table;
          premises = all_stay (symbols_of state.table) (symbols_of g.table) state.premises i.grown.grows ok.premises;
          conjecture = λ c q. subst (λ (y : Form). IsProblemForm (symbols_of g.table) y) (same_Some g.tree c q) p;
        })

statement_typed : (state : State) (s : RawStatement) (next : State) → IsTypedState state → IsWithinLimits s
    → statement_in state s ≡ Ok next → IsTypedState next
statement_typed state (RawStatement.formula x role f) next ok l h =
    formula_typed state x (premise_role role) f next ok l.0 l.1
    (statement_is state (RawStatement.formula x role f) next ok.made h) h
statement_typed state (RawStatement.typing x subject top) next ok l h =
    let a = both_ok (declare state.table subject top) _ next h in
    let g = declare_is state.table subject top a.0 ok.made.table a.1 in
    let after = statement_is state (RawStatement.typing x subject top) next ok.made h in
    let e = ok_same (with_table state a.0) next a.2 in
    subst (λ (y : State). IsTypedState y) e
    (record {
      made = subst (λ (y : State). IsState y) (sym e) after;
      shallow = declare_shallow state.table subject top a.0 ok.shallow l.0 l.1 a.1;
      premises = all_stay (symbols_of state.table) (symbols_of a.0) state.premises g.grows ok.premises;
      conjecture = conjecture_stays (symbols_of state.table) (symbols_of a.0) state.conjecture g.grows ok.conjecture;
    })
statement_typed state (RawStatement.inclusion file names) next ok l h =
    subst (λ (y : State). IsTypedState y) (ok_same state next h) ok

statements_typed : (n : ℕ) (state : State) (xs : List RawStatement) (last : State) → IsTypedState state
    → AreWithinLimits xs → statements_in n state xs ≡ Ok last → IsTypedState last
statements_typed n state [] last ok l h = subst (λ (y : State). IsTypedState y) (typed_same state last h) ok
statements_typed n state (x ∷ xs) last ok l h =
    go (statement_in state x) refl h (λ next i e. statements_typed (suc n) next xs last i l.1 e)
  where
    go : (r : Outcome State) → statement_in state x ≡ r
        → then_typed (refused_at n (symbols_of state.table) r) (λ next. statements_in (suc n) next xs) ≡ Ok last
        → ((next : State) → IsTypedState next → statements_in (suc n) next xs ≡ Ok last → IsTypedState last)
        → IsTypedState last
    go (Ok next) e h rest = rest next (statement_typed state x next ok l.0 e) h
    go (Err f) e h rest = absurd (no_refusal _ last h)

sense_shallow : (s : Sense) → ((r : Ty) → s ≡ Sense.function r → type_depth r ≤ 201) → sense_depth s ≤ 201
sense_shallow Sense.constructor h = omega arith
sense_shallow Sense.predicate h = omega arith
sense_shallow (Sense.function r) h = h r refl

nth_got : (ds : List Symbol) (k : ℕ) (e : Symbol) → k < length ds → nth ds k ≡ Some (get_or ds k e)
nth_got [] k e l = absurd (omega arith)
nth_got (d ∷ ds) zero e l = refl
nth_got (d ∷ ds) (suc k) e l = nth_got ds k e (omega arith)

shallow_symbols : (ds : List Symbol) → ((n : ℕ) (d : Symbol) → nth ds n ≡ Some d → types_depth d.arguments ≤ 201)
    → ((n : ℕ) (d : Symbol) (r : Ty) → nth ds n ≡ Some d → d.sense ≡ Sense.function r → type_depth r ≤ 201)
    → All (λ d. symbol_depth d ≤ 1500) ds
shallow_symbols ds a r = λ k e l.
    let h = nth_got ds k e l in
    let d = get_or ds k e in
    let x : types_depth d.arguments ≤ 201 = a k d h in
    let y : sense_depth d.sense ≤ 201 = sense_shallow d.sense (λ t q. r k d t h q) in
    omega arith

state_makes : (state : State) → IsTypedState state → IsTypedProblem (problem_of state)
state_makes state ok = record {
  signature = ok.made.table.signature;
  shallow =
      shallow_symbols (symbols_of state.table) (λ n d h. ok.shallow.arguments n d h)
      (λ n d r h e. ok.shallow.at n d r h e);
  names = λ m n d e h i same. ok.made.table.names.same m n d e h i same.name same.arguments;
  premises = ok.premises;
  conjecture = go state.conjecture ok.conjecture;
}
  where
    go : (o : Option Form) → ((f : Form) → o ≡ Some f → IsProblemForm (symbols_of state.table) f)
        → IsProblemForm (symbols_of state.table) (to_prove o)
    go None h = record { typed = WellTyped.falsity; parameters = tt; shallow = omega arith }
    go (Some f) h = h f refl

-- what the statements make is a typed problem, no deeper than 1,500
pub problem_is_typed : (statements : List RawStatement) (p : Problem) → AreWithinLimits statements
    → problem_in statements ≡ Ok p → IsTypedProblem p
problem_is_typed statements p l h = go (statements_in 0 start statements) refl h
  where
    go : (r : Result State Refusal) → statements_in 0 start statements ≡ r → problem_if r ≡ Ok p → IsTypedProblem p
    go (Ok state) e h =
        subst (λ (y : Problem). IsTypedProblem y) (typed_same (problem_of state) p h)
        (state_makes state (statements_typed 0 start statements state start_typed l e))
    go (Err f) e h = absurd (no_refusal _ p h)
