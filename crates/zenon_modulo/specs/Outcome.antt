-- The program's answers: the plain answer that each is, its exit status, and claims of one kind of answer.
use Rattle.std.specs.Prelude.{ℕ, List, map, Option, Some, IsSomeAnd}
use Rattle.std.specs.Option.{option_map}
use Rattle.zm_logic.specs.View.{symbol_tree}
use Rattle.zm_logic.specs.Truth.{Valued}
use Rattle.branch.specs.Tableau.{Node}
use Rattle.branch.specs.Stopping.{Cause}
use Rattle.branch.specs.State.{tree}
use Rattle.branch.specs.Causes.{cause_of}
use Rattle.valuation.specs.View.{valued_tree}
use Rattle.tptp_include.specs.declared.refusal.GatherRefusal.TheVariants as gather
use Rattle.tptp_include.specs.Outcomes.{refusal_of}
use Rattle.tff_typing.specs.View.{fault_tree}
use Rattle.tff_typing.specs.declared.typed.TypeRefusal.{TypeRefusal}
use Rattle.zenon_modulo.specs.declared.outcome.Outcome.{Outcome}
use Rattle.zenon_modulo.specs.declared.outcome.Outcome.TheVariants as outcomes
use Rattle.zenon_modulo.specs.declared.outcome.InputRefusal.{InputRefusal}
use Rattle.zenon_modulo.specs.declared.outcome.InputRefusal.TheVariants as refusals
use Rattle.zenon_modulo.specs.Words.{Misuse}
use Rattle.zenon_modulo.specs.WordsRead.{misuse_of}
use Rattle.zenon_modulo.specs.Answer.{Untyped, Explanation, Answer}

abbrev pub untyped_of : TypeRefusal → Untyped
untyped_of t = record {
  file = t.place.file;
  at = t.place.at;
  fault = fault_tree t.fault;
  symbols = map symbol_tree t.symbols;
}

-- what a refusal says; a fault of the library and want of memory say nothing of the input
abbrev pub explanation_of : InputRefusal → Option Explanation
explanation_of (refusals.Gather g) = option_map Explanation.ungathered (refusal_of g)
explanation_of (refusals.Typing t) = Some (Explanation.untyped (untyped_of t))
explanation_of refusals.TooLarge = Some Explanation.too_large
explanation_of refusals.NotBuilt = Some Explanation.not_built

-- the plain answer; a refusal that says nothing of the input is none
abbrev pub answer_of : Outcome → Option Answer
answer_of (outcomes.Proved tableau) = Some (Answer.proved (tree tableau))
answer_of (outcomes.Falsified valuation tableau) = Some (Answer.falsified (map valued_tree valuation) (tree tableau))
answer_of (outcomes.Unknown why tableau) = Some (Answer.unknown (cause_of why) (tree tableau))
answer_of (outcomes.Refused refusal) = option_map Answer.refused (explanation_of refusal)
answer_of (outcomes.Usage refusal) = Some (Answer.misused (misuse_of refusal))
answer_of outcomes.ReadFault = Some Answer.read_fault
answer_of outcomes.LibraryFault = Some Answer.library_fault
answer_of outcomes.WriteFault = Some Answer.write_fault
answer_of outcomes.Memory = Some Answer.memory

-- the exit status
abbrev pub status : Outcome → ℕ
status (outcomes.Proved tableau) = 0
status (outcomes.Falsified valuation tableau) = 1
status (outcomes.Unknown why tableau) = 2
status (outcomes.Refused refusal) = 3
status (outcomes.Usage refusal) = 4
status outcomes.ReadFault = 5
status outcomes.LibraryFault = 5
status outcomes.WriteFault = 6
status outcomes.Memory = 7

-- Refused holds no fault of the library and no want of memory.
abbrev pub RefusesInput : Outcome → Type 0
RefusesInput (outcomes.Refused (refusals.Gather gather.LibraryFault)) = ⊥
RefusesInput (outcomes.Refused (refusals.Gather gather.Memory)) = ⊥
RefusesInput answer = Unit {0}

-- the claim holds of the tableau, where the answer is Proved
abbrev pub IfProved : Outcome → (Node → Type 0) → Type 0
IfProved (outcomes.Proved tableau) claim = claim (tree tableau)
IfProved answer claim = Unit {0}

-- the claim holds of the valuation and the tableau, where the answer is Falsified
abbrev pub IfFalsified : Outcome → (List Valued → Node → Type 0) → Type 0
IfFalsified (outcomes.Falsified valuation tableau) claim = claim (map valued_tree valuation) (tree tableau)
IfFalsified answer claim = Unit {0}

-- the claim holds of the cause and the tableau, where the answer is Unknown
abbrev pub IfUnknown : Outcome → (Cause → Node → Type 0) → Type 0
IfUnknown (outcomes.Unknown why tableau) claim = claim (cause_of why) (tree tableau)
IfUnknown answer claim = Unit {0}

-- the claim holds of the tableau, where the answer has one
abbrev pub IfSearched : Outcome → (Node → Type 0) → Type 0
IfSearched (outcomes.Proved tableau) claim = claim (tree tableau)
IfSearched (outcomes.Falsified valuation tableau) claim = claim (tree tableau)
IfSearched (outcomes.Unknown why tableau) claim = claim (tree tableau)
IfSearched answer claim = Unit {0}

-- where the answer is Refused, the refusal says what is wrong with the input, and the claim holds of that
abbrev pub IfRefused : Outcome → (Explanation → Type 0) → Type 0
IfRefused (outcomes.Refused refusal) claim = IsSomeAnd (explanation_of refusal) claim
IfRefused answer claim = Unit {0}

-- the claim holds where the answer is that the input has too many bytes
abbrev pub IfTooLarge : Outcome → Type 0 → Type 0
IfTooLarge (outcomes.Refused refusals.TooLarge) claim = claim
IfTooLarge answer claim = Unit {0}

-- the claim holds of what is wrong with the words, where the answer is Usage
abbrev pub IfUsage : Outcome → (Misuse → Type 0) → Type 0
IfUsage (outcomes.Usage refusal) claim = claim (misuse_of refusal)
IfUsage answer claim = Unit {0}

-- the claim holds where the answer is ReadFault, LibraryFault, WriteFault
abbrev pub IfReadFault : Outcome → Type 0 → Type 0
IfReadFault outcomes.ReadFault claim = claim
IfReadFault answer claim = Unit {0}

abbrev pub IfLibraryFault : Outcome → Type 0 → Type 0
IfLibraryFault outcomes.LibraryFault claim = claim
IfLibraryFault answer claim = Unit {0}

abbrev pub IfWriteFault : Outcome → Type 0 → Type 0
IfWriteFault outcomes.WriteFault claim = claim
IfWriteFault answer claim = Unit {0}

-- the claim holds of every answer that comes once the operand is read: where it has a tableau, the refusals but that of too
-- large an input, and the fault of the library
abbrev pub IfRead : Outcome → Type 0 → Type 0
IfRead (outcomes.Proved tableau) claim = claim
IfRead (outcomes.Falsified valuation tableau) claim = claim
IfRead (outcomes.Unknown why tableau) claim = claim
IfRead (outcomes.Refused refusals.TooLarge) claim = Unit {0}
IfRead (outcomes.Refused refusal) claim = claim
IfRead outcomes.LibraryFault claim = claim
IfRead answer claim = Unit {0}

-- the claim holds of the plain answer, where the answer isn't WriteFault
abbrev pub IfWritten : Outcome → (Answer → Type 0) → Type 0
IfWritten outcomes.WriteFault claim = Unit {0}
IfWritten answer claim = IsSomeAnd (answer_of answer) claim
