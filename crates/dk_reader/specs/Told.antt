-- What the reader answers.
use Rattle.std.specs.Prelude.{ℕ, ◌-◌, List, [], length, Option, Some, None}
use Rattle.dk_text.specs.Tokens as tokens
use Rattle.dk_text.specs.Refusals as plain
use Rattle.dk_text.specs.Refusals.{FileAnswers}
use Rattle.dk_reader.specs.declared.refusal.DkReadRefusal.{DkReadRefusal}
use Rattle.dk_reader.specs.declared.refusal.DkReadRefusal.TheVariants.{Syntax, Unsupported, TooDeep, UnknownName, Duplicate, Memory}
use Rattle.dk_reader.specs.declared.refusal.Form.{Form}
use Rattle.dk_reader.specs.declared.refusal.Form.TheVariants.{Command, Name, Pattern, Rule}

abbrev pub form_told : tokens.Foreign → Form
form_told tokens.Foreign.command = Command
form_told tokens.Foreign.quoted = Name
form_told tokens.Foreign.pattern = Pattern

-- the refusal of an entry at this place, in a text of so many bytes
abbrev pub refusal_told : ℕ → ℕ → plain.Refusal → DkReadRefusal
refusal_told all at (plain.Refusal.unsupported form left) = Unsupported (form_told form) (all - left)
refusal_told all at plain.Refusal.syntax = Syntax at
refusal_told all at plain.Refusal.too_deep = TooDeep at
refusal_told all at plain.Refusal.duplicate = Duplicate at
refusal_told all at plain.Refusal.variable_name = Unsupported Name at
refusal_told all at (plain.Refusal.unknown_name left) = UnknownName (all - left)
refusal_told all at plain.Refusal.bad_rule = Unsupported Rule at

-- want of memory is no refusal of the table
abbrev pub told_of : ℕ → ℕ → Option plain.Refusal → DkReadRefusal
told_of all at None = Memory
told_of all at (Some refusal) = refusal_told all at refusal

-- the text is refused so
pub data Refuses (bytes : List ℕ) : DkReadRefusal → Type 0 where
  memory : Refuses bytes Memory
  refused : {refusal : plain.Refusal} {left : ℕ} → FileAnswers [] bytes (plain.FileAnswer.refusal refusal left) →
      Refuses bytes (refusal_told (length bytes) (length bytes - left) refusal)
