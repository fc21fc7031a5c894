-- Each statement has a typing by the rules or one first fault, and a refusal stands at the first statement without a
-- typing.
use Rattle.std.proofs.Common.{◌≡◌, ℕ, suc, ◌+◌, Some, Result, Ok, Err, List, [], ◌∷◌, slice_get, take, ◌⊎◌, inl, inr, refl, arith, sym, ap, ◌∙◌}
use Rattle.zm_logic.specs.Tree.{Problem}
use Rattle.tptp_reader.specs.Raw.{RawStatement}
use Rattle.tff_typing.specs.Table.{symbols_of}
use Rattle.tff_typing.specs.Fault.{Fault, Outcome}
use Rattle.tff_typing.specs.Statements.{State, start, statement_in, Refusal, refused_at, then_typed, statements_in, problem_of, problem_if, problem_in}
use Rattle.tff_typing.specs.Rules.{MakesState, MakeStates, MakeProblem}
use Rattle.tff_typing.specs.Refused.{IsFirstUntyped}
use Rattle.tff_typing.proofs.Outcomes.{no_ok}
use Rattle.tff_typing.proofs.StatementsTyped.{no_refusal, refusal_of}
use Rattle.tff_typing.proofs.StatementsGive.{statement_given, problem_given}
use Rattle.tff_typing.proofs.StatementsHold.{statement_holds, problem_holds}

-- one statement
pub statement_or_fault : (state : State) (s : RawStatement)
    → ((after : State) × MakesState state s after) ⊎ ((f : Fault) × (statement_in state s ≡ Err f))
statement_or_fault state s = go (statement_in state s) refl
  where
    go : (r : Outcome State) → statement_in state s ≡ r
        → ((after : State) × MakesState state s after) ⊎ ((f : Fault) × (statement_in state s ≡ Err f))
    go (Ok after) e = inl (after, statement_holds state s after e)
    go (Err f) e = inr (f, e)

pub statement_or_fault_apart : (state after : State) (s : RawStatement) (f : Fault) → MakesState state s after
    → statement_in state s ≡ Err f → ⊥
statement_or_fault_apart state after s f m e = no_ok f after (sym e ∙ statement_given state s after m)

pub one_fault : (state : State) (s : RawStatement) (e f : Fault) → statement_in state s ≡ Err e
    → statement_in state s ≡ Err f → e ≡ f
one_fault state s e f h i = same e f (sym h ∙ i)
  where
    fault : Fault → Outcome State
    fault x = Err x

    same : (e f : Fault) → fault e ≡ Err f → e ≡ f
    same e f h = cc

-- all statements
pub problem_or_refusal : (statements : List RawStatement)
    → ((p : Problem) × MakeProblem statements p) ⊎ ((r : Refusal) × (problem_in statements ≡ Err r))
problem_or_refusal statements = go (problem_in statements) refl
  where
    go : (o : Result Problem Refusal) → problem_in statements ≡ o
        → ((p : Problem) × MakeProblem statements p) ⊎ ((r : Refusal) × (problem_in statements ≡ Err r))
    go (Ok p) e = inl (p, problem_holds statements p e)
    go (Err r) e = inr (r, e)

pub problem_or_refusal_apart : (statements : List RawStatement) (p : Problem) (r : Refusal) → MakeProblem statements p
    → problem_in statements ≡ Err r → ⊥
problem_or_refusal_apart statements p r m e = no_refusal r p (sym e ∙ problem_given statements p m)

refusal_same : {A : Type 0} (q r : Refusal) → refusal_of {A = A} q ≡ Err r → q ≡ r
refusal_same q r h = cc

pub one_refusal : (statements : List RawStatement) (q r : Refusal) → problem_in statements ≡ Err q
    → problem_in statements ≡ Err r → q ≡ r
one_refusal statements q r h i = refusal_same q r (sym h ∙ i)

-- where the walk over statements that begins at a number stops
record StopsAt (n : ℕ) (state : State) (xs : List RawStatement) (r : Refusal) : Type 0 where
  pub index : ℕ
  pub number : r.statement ≡ n + index
  pub before : State
  pub made : MakeStates state (take index xs) before
  pub symbols : symbols_of before.table ≡ r.symbols
  pub untyped : RawStatement
  pub stands : slice_get xs index ≡ Some untyped
  pub fault : statement_in before untyped ≡ Err r.fault

stops : (n : ℕ) (state : State) (xs : List RawStatement) (r : Refusal) → statements_in n state xs ≡ Err r
    → StopsAt n state xs r
stops n state [] r h = absurd (no_refusal r state (sym h))
stops n state (x ∷ xs) r h = go (statement_in state x) refl h (λ next e. stops (suc n) next xs r e)
  where
    go : (o : Outcome State) → statement_in state x ≡ o
        → then_typed (refused_at n (symbols_of state.table) o) (λ next. statements_in (suc n) next xs) ≡ Err r
        → ((next : State) → statements_in (suc n) next xs ≡ Err r → StopsAt (suc n) next xs r)
        → StopsAt n state (x ∷ xs) r
    go (Ok next) e h later =
        let s = later next h in
        record {
          index = suc s.index;
          number = omega (arith, s.number);
          before = s.before;
          made = MakeStates.more_statements (statement_holds state x next e) s.made;
          symbols = s.symbols;
          untyped = s.untyped;
          stands = s.stands;
          fault = s.fault;
        }
    go (Err f) e h later =
        let q = refusal_same (record { statement = n; symbols = symbols_of state.table; fault = f }) r h in
        record {
          index = 0;
          number = (let i : r.statement ≡ n = ap (λ (y : Refusal). y.statement) (sym q) in omega arith);
          before = state;
          made = MakeStates.no_statements;
          symbols = ap (λ (y : Refusal). y.symbols) q;
          untyped = x;
          stands = refl;
          fault = e ∙ ap (λ (y : Refusal). fault y.fault) q;
        }
      where
        fault : Fault → Outcome State
        fault y = Err y

pub refusal_is_first : (statements : List RawStatement) (r : Refusal) → problem_in statements ≡ Err r
    → IsFirstUntyped statements r
refusal_is_first statements r h = made (stops 0 start statements r (stopped (statements_in 0 start statements) h))
  where
    stopped : (o : Result State Refusal) → problem_if o ≡ Err r → o ≡ Err r
    stopped (Ok state) h = absurd (no_refusal r (problem_of state) (sym h))
    stopped (Err q) h = ap (λ (y : Refusal). refusal_of y) (refusal_same q r h)

    made : StopsAt 0 start statements r → IsFirstUntyped statements r
    made s =
        let i : r.statement ≡ s.index = omega (arith, s.number) in
        record {
          before = s.before;
          made = rw i s.made;
          symbols = s.symbols;
          untyped = s.untyped;
          stands = rw i s.stands;
          no_typing = λ after m. statement_or_fault_apart s.before after s.untyped r.fault m s.fault;
          fault = s.fault;
        }
