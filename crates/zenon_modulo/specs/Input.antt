-- What the input of a call is: the text of its operand, the statements gathered from it, and the problem that they make.
use Rattle.std.specs.Prelude.{ℕ, ◌≡◌, ◌<◌, ◌≤◌, ◌+◌, false, codes, List, map, length, drop, slice_get, Option, Some, None, IfSome, Err}
use Rattle.zm_base.specs.Outside.{AtEnd}
use Rattle.zm_base.specs.Library.{NamedFile, file_of}
use Rattle.zm_logic.specs.Tree.{Problem}
use Rattle.zm_logic.specs.Problem.{IsTypedProblem}
use Rattle.tptp_include.specs.Gathering.{Placed, Refusal, Outcome, GathersAll}
use Rattle.tff_typing.specs.Rules.{MakeProblem}
use Rattle.tff_typing.specs.Statements as typing
use Rattle.tff_typing.specs.Statements.{problem_in}
use Rattle.zenon_modulo.specs.Words.{Operand}
use Rattle.zenon_modulo.specs.Answer.{Untyped, Explanation}
use Rattle.zenon_modulo.specs.Fragments.{is_built}

abbrev pub Name : Type 0
Name = List ℕ

-- the greatest number of bytes of the input
abbrev pub input_limit : ℕ
input_limit = 16777216

-- the name by which the operand's text is told
abbrev pub name_of : Operand → Name
name_of Operand.source = codes "-"
name_of (Operand.file name) = name

-- The claim holds of the library's files and of the operand's text, where they are told: of the bytes that the source had
-- left, or of the file of the name, if there is one.
abbrev pub IfTold : Operand → Option (List ℕ) → Option (List NamedFile) → (List NamedFile → Option (List ℕ) → Type 0) → Type 0
IfTold Operand.source left files claim = IfSome files (λ fs. IfSome left (λ bytes. claim fs (Some bytes)))
IfTold (Operand.file name) left files claim = IfSome files (λ fs. claim fs (file_of fs name))

-- the statements gathered from a text of this name
pub record IsGatheredFrom (files : List NamedFile) (name : Name) (bytes : List ℕ) (list : List Placed) : Type 0 where
  pub count : ℕ
  pub gathered : GathersAll files name bytes (Outcome.gathered list count)

-- the problem that the statements of a text make, by the rules of typing
pub record Makes (files : List NamedFile) (name : Name) (bytes : List ℕ) (p : Problem) : Type 0 where
  pub list : List Placed
  pub gathered : IsGatheredFrom files name bytes list
  pub typed : MakeProblem (map (λ s. s.statement) list) p

-- the operand's text is these bytes, and they are not too many
pub record IsText (text : Option (List ℕ)) (bytes : List ℕ) : Type 0 where
  pub is_there : text ≡ Some bytes
  pub within : length bytes ≤ input_limit

-- the operand's text spells the problem
pub record Spells (operand : Operand) (files : List NamedFile) (text : Option (List ℕ)) (p : Problem) : Type 0 where
  pub bytes : List ℕ
  pub is_text : IsText text bytes
  pub makes : Makes files (name_of operand) bytes p

-- The problem is spelled by the operand's text, where it is told; and it is a typed problem.
pub record IsProblem (operand : Operand) (left : Option (List ℕ)) (files : Option (List NamedFile)) (p : Problem) : Type 0 where
  pub spelled : IfTold operand left files (λ fs text. Spells operand fs text p)
  pub typed : IsTypedProblem p

-- The statement has no typing, and is the first such: this is its place, and its first fault.
pub record IsFirstUntyped (list : List Placed) (u : Untyped) : Type 0 where
  pub refusal : typing.Refusal
  pub found : problem_in (map (λ s. s.statement) list) ≡ Err refusal
  pub placed : Placed
  pub stands : slice_get list refusal.statement ≡ Some placed
  pub told : u ≡ record { file = placed.file; at = placed.at; fault = refusal.fault; symbols = refusal.symbols }

-- the operand's text has too many bytes
pub record HasTooMany (text : Option (List ℕ)) : Type 0 where
  pub bytes : List ℕ
  pub is_there : text ≡ Some bytes
  pub over : input_limit < length bytes

-- What is wrong with the input: there is no file of the operand's name; the text has too many bytes; gathering from it
-- refuses; the statements that are gathered make no problem, and this is the first of them without a typing; or its problem
-- is one that isn't built.
pub data Explains (operand : Operand) (files : List NamedFile) (text : Option (List ℕ)) : Explanation → Type 0 where
  absent : {name : Name} → operand ≡ Operand.file name → text ≡ None
      → Explains operand files text (Explanation.ungathered (Refusal.missing name))
  too_large : HasTooMany text → Explains operand files text Explanation.too_large
  ungathered : {bytes : List ℕ} {r : Refusal} → IsText text bytes → GathersAll files (name_of operand) bytes (Outcome.refused r)
      → Explains operand files text (Explanation.ungathered r)
  untyped : {bytes : List ℕ} {list : List Placed} {u : Untyped} → IsText text bytes
      → IsGatheredFrom files (name_of operand) bytes list → IsFirstUntyped list u
      → Explains operand files text (Explanation.untyped u)
  not_built : {p : Problem} → Spells operand files text p → is_built p ≡ false → Explains operand files text Explanation.not_built

-- the source was read to its end, if it is the operand, and is else left alone
abbrev pub IsTaken : Operand → Option (List ℕ) → Option (List ℕ) → Type 0
IsTaken Operand.source before now = AtEnd now
IsTaken (Operand.file name) before now = now ≡ before

-- one byte more than the limit was read of the source, if it is the operand, and it is else left alone
abbrev pub IsCut : Operand → Option (List ℕ) → Option (List ℕ) → Type 0
IsCut Operand.source before now = IfSome before (λ given. now ≡ Some (drop (input_limit + 1) given))
IsCut (Operand.file name) before now = now ≡ before
