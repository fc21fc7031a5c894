-- What the answers of the program say of gathering.
use Rattle.std.specs.Prelude.{ℕ, ◌<◌, ◌≤◌, List, length, map, Option, Some, None, Result, Ok, Err, Vec, Bool}
use Rattle.std.specs.declared.alloc.Global.{Global}
use denote.Ref.{Bor}
use Rattle.std.specs.BTreeSet.{BTreeSet, contains_by}
use Rattle.std.specs.Cmp.Lexicographic.{slice_cmp}
use Rattle.std.specs.Ordering.{nat_cmp}
use Rattle.tptp_reader.specs.declared.refusal.ReadRefusal.{ReadRefusal}
use Rattle.tptp_reader.specs.declared.refusal.ReadRefusal.TheVariants as read_refusals
use Rattle.tptp_reader.specs.declared.statement.Read.{Read}
use Rattle.tptp_reader.specs.declared.statement.Read.TheVariants as reads
use Rattle.tptp_reader.specs.Raw.{Name}
use Rattle.tptp_reader.specs.Limits.{IsWithinLimits}
use Rattle.tptp_reader.specs.View.{statement_tree}
use Rattle.tptp_reader.specs.Answers.{Answer, Answers}
use Rattle.tptp_include.specs.declared.refusal.GatherRefusal.{GatherRefusal}
use Rattle.tptp_include.specs.declared.refusal.GatherRefusal.TheVariants as refusals
use Rattle.tptp_include.specs.declared.gathered.GatheredStatement.{GatheredStatement}
use Rattle.tptp_include.specs.Gathering.{Placed, Refusal, Outcome}

-- a statement of the program with its place
abbrev pub placed_of : GatheredStatement → Placed
placed_of g = record { file = g.file; at = g.statement.at; statement = statement_tree g.statement }

-- the refusal; a fault of the library and want of memory are none
abbrev pub refusal_of : GatherRefusal → Option Refusal
refusal_of (refusals.Syntax place) = Some (Refusal.syntax place.file place.at)
refusal_of (refusals.TooDeep place) = Some (Refusal.too_deep place.file place.at)
refusal_of (refusals.Unsupported form place) = Some (Refusal.unsupported form place.file place.at)
refusal_of (refusals.IncludeDepth name) = Some (Refusal.include_depth name)
refusal_of (refusals.Cycle name) = Some (Refusal.cycle name)
refusal_of (refusals.Missing name) = Some (Refusal.missing name)
refusal_of refusals.LibraryFault = None
refusal_of refusals.TooLarge = Some Refusal.too_large
refusal_of (refusals.NoSuchFormula name) = Some (Refusal.no_such_formula name)
refusal_of refusals.Memory = None

-- the outcome that a refusal tells
abbrev pub refusal_told : Option Refusal → Option Outcome
refusal_told None = None
refusal_told (Some r) = Some (Outcome.refused r)

-- the outcome that an answer tells, where it tells one: a list, with the bytes read so far, or a refusal
abbrev pub outcome_told : Result (Vec GatheredStatement Global) GatherRefusal → ℕ → Option Outcome
outcome_told (Ok list) count = Some (Outcome.gathered (map placed_of list.items) count)
outcome_told (Err e) count = refusal_told (refusal_of e)

-- the bytes of a file, or the refusal, where an answer tells one
abbrev pub bytes_refused : Option Refusal → Option (Result (List ℕ) Refusal)
bytes_refused None = None
bytes_refused (Some r) = Some (Err r)

abbrev pub bytes_told : Result (Vec ℕ Global) GatherRefusal → Option (Result (List ℕ) Refusal)
bytes_told (Ok bytes) = Some (Ok bytes.items)
bytes_told (Err e) = bytes_refused (refusal_of e)

-- a refusal of the reader, told with the name of the file; want of memory is none
abbrev pub told_in : Name → ReadRefusal → Option Refusal
told_in file (read_refusals.Syntax at) = Some (Refusal.syntax file at)
told_in file (read_refusals.TooDeep at) = Some (Refusal.too_deep file at)
told_in file (read_refusals.Unsupported form at) = Some (Refusal.unsupported form file at)
told_in file read_refusals.Memory = None

-- what was read is the answer at this place, a statement within the limits and the place behind it, or the end
abbrev pub IsRead : List ℕ → ℕ → Read → Type 0
IsRead bytes from (reads.Statement s after) =
    Answers bytes from (Answer.reads s.at (statement_tree s) after) × IsWithinLimits (statement_tree s)
    × (from < after) × (after ≤ length bytes)
IsRead bytes from reads.End = Answers bytes from Answer.ends

-- whether a set of texts has this text
abbrev pub holds : BTreeSet (Bor (List ℕ)) → List ℕ → Bool
holds set text = contains_by (λ k. slice_cmp nat_cmp text k.now) set
