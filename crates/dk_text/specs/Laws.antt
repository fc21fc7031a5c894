-- What is proved of the text.
use Rattle.std.specs.Prelude.{◌≡◌, ℕ, List, []}
use Rattle.lp_terms.specs.Signature.{Entry}
use Rattle.lp_terms.specs.File.{IsFile}
use Rattle.dk_text.specs.Names.{Reads}
use Rattle.dk_text.specs.Text.{file_text}
use Rattle.dk_text.specs.Refusals.{FileAnswer, FileAnswers}

-- A text has at most one reading.
abbrev pub ReadingIsUnique : Type 0
ReadingIsUnique = (bytes : List ℕ) (ds es : List Entry) → Reads [] bytes ds → Reads [] bytes es → ds ≡ es

-- The printed text of a file is read, and as that file alone.
abbrev pub PrintedFileIsRead : Type 0
PrintedFileIsRead = (es : List Entry) → IsFile es → Reads [] (file_text es) es × ((ds : List Entry) → Reads [] (file_text es) ds → ds ≡ es)

-- A text has at most one answer: the entries, or the first refusal with its place.
abbrev pub AnswerIsUnique : Type 0
AnswerIsUnique = (bytes : List ℕ) (a b : FileAnswer) → FileAnswers [] bytes a → FileAnswers [] bytes b → a ≡ b
