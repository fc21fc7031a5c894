-- What the reader answers: the entries, or the refusal of the first entry that has one, the rows in order.
use Rattle.std.specs.Prelude.{◌≡◌, ◌≢◌, ℕ, zero, suc, max, Bool, true, false, cond, ◌&&◌, nat_lt, List, [], ◌∷◌, length, Option, Some, None}
use Rattle.lp_terms.specs.Term.{Lp}
use Rattle.lp_terms.specs.Signature.{Entry}
use Rattle.lp_terms.specs.Names.{is_among, is_variable}
use Rattle.lp_terms.specs.File.{declared_after, occurs}
use Rattle.dk_text.specs.Tokens.{Foreign, Token, foreign, Skips, EntryTokens}
use Rattle.dk_text.specs.Grammar.{Raw, word, universe, bracket, apply, product, abstraction, Binding, binding, RawEntry, declaration, definition, rewriting, IsEntry}
use Rattle.dk_text.specs.Names.{Resolved, known, unknown, resolved_entry}

-- the greatest number of brackets and constructors round one name or sort
abbrev pub nesting : Raw → ℕ
nesting (word x left) = 0
nesting universe = 0
nesting (bracket t) = suc (nesting t)
nesting (apply f a) = suc (max (nesting f) (nesting a))
nesting (product x a b) = suc (max (nesting a) (nesting b))
nesting (abstraction x a b) = suc (max (nesting a) (nesting b))

abbrev pub context_nesting : List Binding → ℕ
context_nesting [] = 0
context_nesting (binding x a ∷ bs) = max (nesting a) (context_nesting bs)

abbrev pub entry_nesting : RawEntry → ℕ
entry_nesting (declaration x f a) = nesting a
entry_nesting (definition x a b) = max (nesting a) (nesting b)
entry_nesting (rewriting bs a b) = max (context_nesting bs) (max (nesting a) (nesting b))

-- Places are told by the number of bytes from there to the end of the text.
pub data Refusal : Type 0 where
  unsupported : (form : Foreign) (left : ℕ) → Refusal
  syntax : Refusal
  too_deep : Refusal
  duplicate : Refusal
  variable_name : Refusal
  unknown_name : (left : ℕ) → Refusal
  bad_rule : Refusal

pub data Answer : Type 0 where
  accepted : (entry : Entry) → Answer
  refused : (refusal : Refusal) → Answer

-- the first token that is left out
abbrev pub first_foreign : List Token → Option Refusal
first_foreign [] = None
first_foreign (foreign form left ∷ tokens) = Some (unsupported form left)
first_foreign (token ∷ tokens) = first_foreign tokens

abbrev pub is_declared : List (List ℕ) → RawEntry → Bool
is_declared names (declaration x f a) = is_among x names
is_declared names (definition x a b) = is_among x names
is_declared names (rewriting bs a b) = false

abbrev pub declares_variable : RawEntry → Bool
declares_variable (declaration x f a) = is_variable x
declares_variable (definition x a b) = is_variable x
declares_variable (rewriting bs a b) = false

-- a constant applied to patterns, and a pattern
abbrev mutual
  pub is_applied_constant : Lp → Bool
  is_applied_constant (Lp.const name) = true
  is_applied_constant (Lp.app f a) = is_applied_constant f && is_pattern a
  is_applied_constant t = false

  pub is_pattern : Lp → Bool
  is_pattern (Lp.index i) = true
  is_pattern (Lp.const name) = true
  is_pattern (Lp.app f a) = is_applied_constant f && is_pattern a
  is_pattern t = false

-- each index below n occurs
abbrev pub all_occur : ℕ → Lp → Bool
all_occur zero t = true
all_occur (suc n) t = occurs n t && all_occur n t

abbrev pub is_rule : Entry → Bool
is_rule (Entry.rule context a b) = is_applied_constant a && all_occur (length context) a
is_rule (Entry.declare name f a) = true
is_rule (Entry.define name a b) = true

abbrev pub judged_names : Resolved Entry → Answer
judged_names (unknown left) = refused (unknown_name left)
judged_names (known e) = cond (is_rule e) (accepted e) (refused bad_rule)

-- the rows behind Syntax, in order
abbrev pub judged : List (List ℕ) → RawEntry → Answer
judged names raw =
    cond (nat_lt 8000 (entry_nesting raw)) (refused too_deep) (
    cond (is_declared names raw) (refused duplicate) (
    cond (declares_variable raw) (refused variable_name) (
    judged_names (resolved_entry names raw))))

-- What the tokens of an entry are answered, where these names are declared before.
pub data Answers (names : List (List ℕ)) (tokens : List Token) : Answer → Type 0 where
  left_out : {r : Refusal} → first_foreign tokens ≡ Some r → Answers names tokens (refused r)
  no_entry : first_foreign tokens ≡ None → ((raw : RawEntry) → IsEntry tokens raw → ⊥) → Answers names tokens (refused syntax)
  read : {raw : RawEntry} → first_foreign tokens ≡ None → IsEntry tokens raw → Answers names tokens (judged names raw)

-- the entries of a text, or its refusal and the number of bytes from the refused entry to the end
pub data FileAnswer : Type 0 where
  file : (entries : List Entry) → FileAnswer
  refusal : (refusal : Refusal) (left : ℕ) → FileAnswer

abbrev pub behind : Entry → FileAnswer → FileAnswer
behind e (file es) = file (e ∷ es)
behind e (refusal r left) = refusal r left

pub data FileAnswers : List (List ℕ) → List ℕ → FileAnswer → Type 0 where
  end : {names : List (List ℕ)} {bytes : List ℕ} → Skips bytes [] → FileAnswers names bytes (file [])
  entry : {names : List (List ℕ)} {bytes at rest : List ℕ} {tokens : List Token} {e : Entry} {answer : FileAnswer} → Skips bytes at → at ≢ [] → EntryTokens bytes tokens rest →
      Answers names tokens (accepted e) → FileAnswers (declared_after names e) rest answer → FileAnswers names bytes (behind e answer)
  stop : {names : List (List ℕ)} {bytes at rest : List ℕ} {tokens : List Token} {r : Refusal} → Skips bytes at → at ≢ [] → EntryTokens bytes tokens rest →
      Answers names tokens (refused r) → FileAnswers names bytes (refusal r (length at))
