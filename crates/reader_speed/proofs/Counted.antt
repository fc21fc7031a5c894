-- What is told of a statement that was read.
use Rattle.std.proofs.Common.{◌≡◌, ℕ, Ok, subst}
use Rattle.tptp_reader.specs.declared.statement.Read.{Read}
use Rattle.tptp_reader.specs.declared.statement.Read.TheVariants as reads
use Rattle.tptp_reader.specs.declared.statement.Statement.{Statement}
use Rattle.tptp_reader.specs.Answered.{IfStatement}

pub told : (read : Read) (s : Statement) (after : ℕ) (P : Statement → ℕ → Type 0) → read ≡ reads.Statement s after → IfStatement (Ok read) P → P s after
told read s after P e h = subst (λ (r : Read). IfStatement (Ok r) P) e h
