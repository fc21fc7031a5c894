-- What the program answers at a place of a text.
use Rattle.std.specs.Prelude.{◌≡◌, ℕ, List, Option, Some, None, Result, Ok, Err}
use Rattle.tptp_reader.specs.declared.refusal.ReadRefusal.{ReadRefusal}
use Rattle.tptp_reader.specs.declared.refusal.ReadRefusal.TheVariants as refusals
use Rattle.tptp_reader.specs.declared.statement.Read.{Read}
use Rattle.tptp_reader.specs.declared.statement.Read.TheVariants as reads
use Rattle.tptp_reader.specs.declared.statement.Statement.{Statement}
use Rattle.tptp_reader.specs.Answers.{Answer, Answers, Refusal}
use Rattle.tptp_reader.specs.View.{statement_tree}

abbrev pub refused : ReadRefusal → Option Answer
refused (refusals.Syntax at) = Some (Answer.refuses (Refusal.syntax at))
refused (refusals.TooDeep at) = Some (Answer.refuses (Refusal.too_deep at))
refused (refusals.Unsupported form at) = Some (Answer.refuses (Refusal.unsupported form at))
refused refusals.Memory = None

-- the answer that a result stands for; none where memory ran out
abbrev pub answer_of : Result Read ReadRefusal → Option Answer
answer_of (Ok reads.End) = Some Answer.ends
answer_of (Ok (reads.Statement s after)) = Some (Answer.reads s.at (statement_tree s) after)
answer_of (Err r) = refused r

-- Where a statement was read, with the place behind it, the fact holds of them.
abbrev pub IfStatement : Result Read ReadRefusal → (Statement → ℕ → Type 0) → Type 0
IfStatement (Ok (reads.Statement s after)) P = P s after
IfStatement (Ok reads.End) P = Unit {0}
IfStatement (Err r) P = Unit {0}

-- A place of a text has one answer at most.
abbrev pub OneAnswer : Type 0
OneAnswer = (bytes : List ℕ) (from : ℕ) (a b : Answer) → Answers bytes from a → Answers bytes from b → a ≡ b
