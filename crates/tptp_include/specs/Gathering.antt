-- What is gathered from a text: its statements, with each include replaced by the statements of its file.
use Rattle.std.specs.Prelude.{◌≡◌, ℕ, ◌+◌, Bool, not, List, [], ◌∷◌, ◌++◌, length, filter, find, Option, Some, None, Result, Ok, Err, nat_lt, if◌then◌else◌}
use Rattle.std.specs.List.{list_any}
use Rattle.std.specs.Str.{bytes_eq}
use Rattle.zm_base.specs.Library.{NamedFile, file_of}
use Rattle.tptp_reader.specs.declared.refusal.UnsupportedForm.{UnsupportedForm}
use Rattle.tptp_reader.specs.Raw.{Name, RawStatement}
use Rattle.tptp_reader.specs.Limits.{IsWithinLimits}
use Rattle.tptp_reader.specs.Answers as reader
use Rattle.tptp_reader.specs.Answers.{Answer, Answers}

-- a statement and where it stands: the name of its file, and the place of its first token there
pub record Placed : Type 0 where
  pub file : Name
  pub at : ℕ
  pub statement : RawStatement

pub data Refusal : Type 0 where
  syntax : (file : Name) (at : ℕ) → Refusal
  too_deep : (file : Name) (at : ℕ) → Refusal
  unsupported : UnsupportedForm → (file : Name) (at : ℕ) → Refusal
  include_depth : (file : Name) → Refusal
  cycle : (file : Name) → Refusal
  missing : (file : Name) → Refusal
  too_large : Refusal
  no_such_formula : (name : Name) → Refusal

-- a list of statements, with the number of bytes of all files read so far; or the first refusal
pub data Outcome : Type 0 where
  gathered : List Placed → (count : ℕ) → Outcome
  refused : Refusal → Outcome

-- the most bytes of all files, each counted each time it is read, and the most includes on a path
abbrev pub most_bytes : ℕ
most_bytes = 16777216

abbrev pub most_includes : ℕ
most_includes = 16

-- the reader's refusal of a text, told with the name of its file
abbrev pub refusal_in : Name → reader.Refusal → Refusal
refusal_in file (reader.Refusal.syntax at) = Refusal.syntax file at
refusal_in file (reader.Refusal.too_deep at) = Refusal.too_deep file at
refusal_in file (reader.Refusal.unsupported form at) = Refusal.unsupported form file at

-- these statements before what else is gathered
abbrev pub put : List Placed → Outcome → Outcome
put list (Outcome.gathered rest count) = Outcome.gathered (list ++ rest) count
put list (Outcome.refused r) = Outcome.refused r

-- the name of a statement; an include has none of its own, and none is ever in a list
abbrev pub name_of : RawStatement → Name
name_of (RawStatement.formula name role form) = name
name_of (RawStatement.typing name subject declared) = name
name_of (RawStatement.inclusion file names) = []

-- whether a statement has this name, one of these names, and whether a name is that of no statement
abbrev pub has_name : Name → Placed → Bool
has_name name p = bytes_eq name (name_of p.statement)

abbrev pub has_a_name : List Name → Placed → Bool
has_a_name names p = list_any (λ name. has_name name p) names

abbrev pub is_absent : List Placed → Name → Bool
is_absent list name = not (list_any (has_name name) list)

-- the statements that have one of the names; the first of the names that no statement has is refused
abbrev pub selected : List Name → List Placed → ℕ → Option Name → Outcome
selected names list count None = Outcome.gathered (filter (has_a_name names) list) count
selected names list count (Some name) = Outcome.refused (Refusal.no_such_formula name)

-- what an include keeps of its file: all, or what it asks for by name
abbrev pub kept : Option (List Name) → Outcome → Outcome
kept None o = o
kept (Some names) (Outcome.gathered list count) = selected names list count (find (is_absent list) names)
kept (Some names) (Outcome.refused r) = Outcome.refused r

-- the bytes of a file that an include names, or why they are not read, in this order: too many includes lead to it, it is
-- on the path that leads to it, there is no such file, the bytes of all files would be too many
abbrev pub unless_too_large : ℕ → List ℕ → Result (List ℕ) Refusal
unless_too_large count bytes = if nat_lt most_bytes (count + length bytes) then Err Refusal.too_large else Ok bytes

abbrev pub unless_missing : Name → ℕ → Option (List ℕ) → Result (List ℕ) Refusal
unless_missing file count None = Err (Refusal.missing file)
unless_missing file count (Some bytes) = unless_too_large count bytes

abbrev pub unless_cyclic : List NamedFile → List Name → Name → ℕ → Result (List ℕ) Refusal
unless_cyclic files path file count =
    if list_any (bytes_eq file) path then Err (Refusal.cycle file) else unless_missing file count (file_of files file)

abbrev pub opened : List NamedFile → List Name → Name → ℕ → Result (List ℕ) Refusal
opened files path file count =
    if nat_lt most_includes (length path) then Err (Refusal.include_depth file) else unless_cyclic files path file count

-- a formula or a typing, and no include
abbrev pub IsSingle : RawStatement → Type 0
IsSingle (RawStatement.formula name role form) = Unit {0}
IsSingle (RawStatement.typing name subject declared) = Unit {0}
IsSingle (RawStatement.inclusion file names) = ⊥

-- what stands in a list: a statement within the reader's limits, and no include
abbrev pub IsGathered : Placed → Type 0
IsGathered p = IsSingle p.statement × IsWithinLimits p.statement

-- `path` is the list of the names that lead to a file, from the first file on to the file itself, which is called `name`;
-- `count` is the number of bytes of all files read before.
mutual
  -- What is gathered from one place of a file on: nothing at its end, a refusal of the reader, or what the next statement
  -- gives and what follows it.
  pub data Gathers (files : List NamedFile) : (path : List Name) (name : Name) (bytes : List ℕ) (from count : ℕ) → Outcome → Type 0 where
    at_end : {path : List Name} {name : Name} {bytes : List ℕ} {from count : ℕ} →
        Answers bytes from Answer.ends → Gathers files path name bytes from count (Outcome.gathered [] count)
    at_refusal : {path : List Name} {name : Name} {bytes : List ℕ} {from count : ℕ} {r : reader.Refusal} →
        Answers bytes from (Answer.refuses r) → Gathers files path name bytes from count (Outcome.refused (refusal_in name r))
    at_refused : {path : List Name} {name : Name} {bytes : List ℕ} {from count at after : ℕ} {s : RawStatement} {r : Refusal} →
        Answers bytes from (Answer.reads at s after) → Gives files path name at count s (Outcome.refused r) →
        Gathers files path name bytes from count (Outcome.refused r)
    at_statement : {path : List Name} {name : Name} {bytes : List ℕ} {from count at after read : ℕ} {s : RawStatement} {list : List Placed} {rest : Outcome} →
        Answers bytes from (Answer.reads at s after) → Gives files path name at count s (Outcome.gathered list read) →
        Gathers files path name bytes after read rest → Gathers files path name bytes from count (put list rest)

  -- What one statement gives: itself; or, for an include, what it keeps of its file.
  pub data Gives (files : List NamedFile) : (path : List Name) (name : Name) (at count : ℕ) → RawStatement → Outcome → Type 0 where
    single : {path : List Name} {name : Name} {at count : ℕ} {s : RawStatement} → IsSingle s →
        Gives files path name at count s (Outcome.gathered (record { file = name; at = at; statement = s } ∷ []) count)
    unopened : {path : List Name} {name : Name} {at count : ℕ} {file : Name} {names : Option (List Name)} {r : Refusal} →
        opened files path file count ≡ Err r → Gives files path name at count (RawStatement.inclusion file names) (Outcome.refused r)
    include : {path : List Name} {name : Name} {at count : ℕ} {file : Name} {names : Option (List Name)} {bytes : List ℕ} {o : Outcome} →
        opened files path file count ≡ Ok bytes → Gathers files (path ++ file ∷ []) file bytes 0 (count + length bytes) o →
        Gives files path name at count (RawStatement.inclusion file names) (kept names o)

-- What is gathered from a text that has this name.
abbrev pub GathersAll : List NamedFile → Name → List ℕ → Outcome → Type 0
GathersAll files name bytes o = Gathers files (name ∷ []) name bytes 0 (length bytes) o
