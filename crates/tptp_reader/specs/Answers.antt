-- What is answered at a place of a text: its end, the statement that stands there, or the first refusal.
use Rattle.std.specs.Prelude.{◌≡◌, ◌≢◌, ◌<◌, ◌≤◌, ℕ, true, List, slice_index, Some, None}
use Rattle.tptp_lex.specs.declared.lexer.Token as lex
use Rattle.tptp_lex.specs.Lexing.{IsNext, IsFault, OnlyBlank}
use Rattle.tptp_reader.specs.declared.refusal.UnsupportedForm.{UnsupportedForm}
use Rattle.tptp_reader.specs.Raw.{RawStatement, raw_depth}
use Rattle.tptp_lex.specs.declared.token.TokenKind.TheVariants.{End}
use Rattle.tptp_reader.specs.Tokens.{Token, Tokens}
use Rattle.tptp_reader.specs.Brackets.{is_wide}
use Rattle.tptp_reader.specs.Rows.{Fault, early_fault}
use Rattle.tptp_reader.specs.Grammar.{IsStatement}

pub data Refusal : Type 0 where
  syntax : (at : ℕ) → Refusal
  too_deep : (at : ℕ) → Refusal
  unsupported : UnsupportedForm → (at : ℕ) → Refusal

-- the end; a statement with its place and the place behind it; a refusal
pub data Answer : Type 0 where
  ends : Answer
  reads : (at : ℕ) → RawStatement → (after : ℕ) → Answer
  refuses : Refusal → Answer

-- The tokens from this place on are those of a wide statement.
pub record IsWide (bytes : List ℕ) (from : ℕ) (tokens : List Token) (places : List ℕ) (after : ℕ) : Type 0 where
  pub spelled : Tokens bytes from tokens places after
  pub wide : is_wide tokens ≡ true

-- the refusal of a token that stands at its place
abbrev pub refusal_at : List ℕ → Fault → Refusal
refusal_at places (Fault.unsupported form n) = Refusal.unsupported form (slice_index places n)
refusal_at places (Fault.too_deep n) = Refusal.too_deep (slice_index places n)

-- how deep the formula of a statement is
abbrev pub formula_depth : RawStatement → ℕ
formula_depth (RawStatement.formula name role f) = raw_depth f
formula_depth (RawStatement.typing name subject top) = 0
formula_depth (RawStatement.inclusion file names) = 0

-- What is answered to a wide statement: the first fault of its rows; else that it isn't in the grammar; else that its
-- formula is more than 1000 deep; else the statement.
pub data Judges (tokens : List Token) (places : List ℕ) (after : ℕ) : Answer → Type 0 where
  faulty : {fault : Fault} → early_fault tokens ≡ Some fault → Judges tokens places after (Answer.refuses (refusal_at places fault))
  ungrammatical : early_fault tokens ≡ None → ((s : RawStatement) → IsStatement tokens s → ⊥) → Judges tokens places after (Answer.refuses (Refusal.syntax (slice_index places 0)))
  deeper : {s : RawStatement} → early_fault tokens ≡ None → IsStatement tokens s → 1000 < formula_depth s → Judges tokens places after (Answer.refuses (Refusal.too_deep (slice_index places 0)))
  spelled : {s : RawStatement} → early_fault tokens ≡ None → IsStatement tokens s → formula_depth s ≤ 1000 → Judges tokens places after (Answer.reads (slice_index places 0) s after)

-- The answer from one place of a text on.
pub data Answers (bytes : List ℕ) (from : ℕ) : Answer → Type 0 where
  at_end : OnlyBlank bytes from → Answers bytes from Answer.ends
  at_fault : {at : ℕ} → IsFault bytes from at → Answers bytes from (Answer.refuses (Refusal.syntax at))
  not_wide : {t : lex.Token} → IsNext bytes from t → t.kind ≢ End →
      ((tokens : List Token) (places : List ℕ) (after : ℕ) → IsWide bytes from tokens places after → ⊥) →
      Answers bytes from (Answer.refuses (Refusal.syntax t.start))
  wide : {tokens : List Token} {places : List ℕ} {after : ℕ} {answer : Answer} → IsWide bytes from tokens places after → Judges tokens places after answer → Answers bytes from answer
