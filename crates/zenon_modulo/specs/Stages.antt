-- What the parts of a call hand on. A part doesn't know the call: it answers each call that comes to it.
use Rattle.std.specs.Prelude.{ℕ, ◌⊎◌, ◌≡◌, ◌<◌, ◌≤◌, true, List, map, string_bytes, length, Option, Some, None, IfSome, IsSomeAnd, Result, Ok, Err, Vec}
use Rattle.std.specs.declared.alloc.Global.{Global}
use Rattle.zm_base.specs.Library.{NamedFile, file_of}
use Rattle.zm_logic.specs.Tree.{Problem}
use Rattle.zm_logic.specs.Problem.{IsTypedProblem}
use Rattle.zm_logic.specs.Truth.{refuted}
use Rattle.branch.specs.Stopping.{Cause, Stopped}
use Rattle.branch.specs.State.{State, tree}
use Rattle.search.specs.Searched.{IsGrownOf}
use Rattle.tptp_include.specs.declared.refusal.GatherRefusal.{GatherRefusal}
use Rattle.tptp_include.specs.declared.refusal.GatherRefusal.TheVariants as gather
use Rattle.zenon_modulo.specs.declared.outcome.Outcome.{Outcome}
use Rattle.zenon_modulo.specs.declared.outcome.Outcome.TheVariants as outcomes
use Rattle.zenon_modulo.specs.declared.outcome.InputRefusal.{InputRefusal}
use Rattle.zenon_modulo.specs.declared.outcome.InputRefusal.TheVariants as refusals
use Rattle.zenon_modulo.specs.declared.words.Command as commands
use Rattle.zenon_modulo.specs.declared.words.Command.TheVariants as the_commands
use Rattle.zenon_modulo.specs.declared.answer.FileStop.{FileStop}
use Rattle.zenon_modulo.specs.declared.answer.FileStop.TheVariants as stops
use Rattle.zenon_modulo.specs.Fragments.{is_built}
use Rattle.zenon_modulo.specs.Words.{Operand, Command, IsCommand}
use Rattle.zenon_modulo.specs.Input.{Name, name_of, IfTold, IsTaken, HasTooMany, input_limit}
use Rattle.zenon_modulo.specs.Outcome.{answer_of, explanation_of}
use Rattle.zenon_modulo.specs.Claims.{Call, Asks, setting}
use Rattle.zenon_modulo.specs.Message.{refusal_text}
use Rattle.zenon_modulo.specs.Writing.{IsAnswer}

-- what a part gives is an answer to the call
abbrev pub Gives : Call → Outcome → List ℕ → Type 0
Gives c outcome text = IsSomeAnd (answer_of outcome) (λ answer. IsAnswer c answer text)

-- a call that asks for this problem, within so many Steps
abbrev pub AsksFor : Call → Problem → ℕ → Type 0
AsksFor c p steps = Asks c p (λ n. n ≡ steps)

-- it answers each call that asks for the problem, within so many Steps
abbrev pub GivesFor : Problem → ℕ → Outcome → List ℕ → Type 0
GivesFor p steps outcome text = (c : Call) → AsksFor c p steps → Gives c outcome text

-- A call whose operand was read: within so many Steps, these bytes are to be answered, which have this name. They are the
-- operand's text, where that is told.
pub record HasRead (c : Call) (name : Name) (bytes : List ℕ) (steps : ℕ) : Type 0 where
  pub operand : Operand
  pub is_command : IsCommand (map string_bytes c.words) (Command.prove operand steps)
  pub named : name_of operand ≡ name
  pub text : IfTold operand c.left c.files (λ fs text. text ≡ Some bytes)
  pub fits : length bytes ≤ input_limit
  pub taken : IsTaken operand c.left c.left_now

-- a command allows no more than 1,000,000 Steps
abbrev pub IsFew : commands.Command → Type 0
IsFew (the_commands.Prove operand steps) = steps ≤ 1000000

-- A search for a typed problem within the Steps allowed, each of which took the first offer, stopped for the cause.
pub record IsStopped (steps : ℕ) (p : Problem) (why : Cause) (t : State) : Type 0 where
  pub typed : IsTypedProblem p
  pub built : is_built p ≡ true
  pub grown : IsGrownOf p steps 10000 t
  pub stopped : Stopped (setting p) (refuted p) steps (tree t) why

-- an answer that has a tableau
abbrev pub HasTableau : Outcome → Type 0
HasTableau (outcomes.Proved tableau) = Unit {0}
HasTableau (outcomes.Falsified valuation tableau) = Unit {0}
HasTableau (outcomes.Unknown why tableau) = Unit {0}
HasTableau outcome = ⊥

-- an answer that isn't a refusal
abbrev pub IsPlain : Outcome → Type 0
IsPlain (outcomes.Refused refusal) = ⊥
IsPlain outcome = Unit {0}

-- what is told of the refusal, where the answer is one
abbrev pub IsMessage : Outcome → List ℕ → Type 0
IsMessage (outcomes.Refused refusal) message = IfSome (explanation_of refusal) (λ e. message ≡ refusal_text e)
IsMessage outcome message = Unit {0}

-- a refusal with a message, or want of memory for it
abbrev pub IsRefusedOr : InputRefusal → Outcome → Type 0
IsRefusedOr refusal outcome = (outcome ≡ outcomes.Refused refusal) ⊎ (outcome ≡ outcomes.Memory)

-- what a library gave of a file, by the first bytes of it
abbrev pub IsFile : Option (List ℕ) → Result (Vec ℕ Global) FileStop → Type 0
IsFile front (Ok bytes) = (front ≡ Some bytes.items) × (length bytes.items ≤ input_limit)
IsFile front (Err stops.Missing) = front ≡ None
IsFile front (Err stops.TooLarge) = (bytes : List ℕ) × (front ≡ Some bytes) × (input_limit < length bytes)
IsFile front (Err stops.Failed) = ⊥
IsFile front (Err stops.Memory) = ⊥

-- what is read of the file of a name, by the files of the library, where they are told
abbrev pub IsFileRead : Option (List NamedFile) → Name → Result (Vec ℕ Global) FileStop → Type 0
IsFileRead files name (Ok bytes) = IfSome files (λ fs. file_of fs name ≡ Some bytes.items) × (length bytes.items ≤ input_limit)
IsFileRead files name (Err stops.Missing) = IfSome files (λ fs. file_of fs name ≡ None)
IsFileRead files name (Err stops.TooLarge) = IfSome files (λ fs. HasTooMany (file_of fs name))
IsFileRead files name (Err stops.Failed) = Unit {0}
IsFileRead files name (Err stops.Memory) = Unit {0}

-- what is answered where nothing is gathered: the refusal, or what it stands for
abbrev pub IsUngathered : GatherRefusal → Outcome → Type 0
IsUngathered gather.LibraryFault outcome = outcome ≡ outcomes.LibraryFault
IsUngathered gather.Memory outcome = outcome ≡ outcomes.Memory
IsUngathered refusal outcome = IsRefusedOr (refusals.Gather refusal) outcome

-- what is answered where there is no file of this name
abbrev pub IsMissing : Name → Outcome → Type 0
IsMissing name outcome = IsRefusedOr (refusals.Gather (gather.Missing name)) outcome
