-- Where statements that make no problem by the rules are refused.
use Rattle.std.specs.Prelude.{◌≡◌, Some, Err, List, take, slice_get}
use Rattle.tptp_reader.specs.Raw.{RawStatement}
use Rattle.tff_typing.specs.Table.{symbols_of}
use Rattle.tff_typing.specs.Statements.{State, start, statement_in, Refusal}
use Rattle.tff_typing.specs.Rules.{MakesState, MakeStates}

-- The refusal stands at the first statement without a typing: those before it make a state with these symbols, by the
-- rules that statement makes none of it, and the fault is its first.
pub record IsFirstUntyped (statements : List RawStatement) (r : Refusal) : Type 0 where
  pub before : State
  pub made : MakeStates start (take r.statement statements) before
  pub symbols : symbols_of before.table ≡ r.symbols
  pub untyped : RawStatement
  pub stands : slice_get statements r.statement ≡ Some untyped
  pub no_typing : (after : State) → MakesState before untyped after → ⊥
  pub fault : statement_in before untyped ≡ Err r.fault
