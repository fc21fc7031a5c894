-- What is answered of an entry's tokens.
use Rattle.std.specs.Prelude.{◌≡◌, ℕ, List, ◌∷◌, length, Option, Some, None, Result, Ok, Err, IfSome}
use Rattle.lp_terms.specs.Signature as signature
use Rattle.lp_terms.specs.View.{entry_of}
use Rattle.lp_terms.specs.declared.file.Entry.{Entry}
use Rattle.dk_text.specs.Tokens.{Token, id, def_word}
use Rattle.dk_text.specs.Refusals as plain
use Rattle.dk_reader.specs.declared.judge.Refusal.{Refusal}
use Rattle.dk_reader.specs.declared.judge.Refusal.TheVariants as layer
use Rattle.dk_reader.specs.Seen.{form_of}

-- the refusal of the table; want of memory is none
abbrev pub refusal_seen : Refusal → Option plain.Refusal
refusal_seen (layer.Unsupported form left) = Some (plain.Refusal.unsupported (form_of form) left)
refusal_seen layer.Syntax = Some plain.Refusal.syntax
refusal_seen layer.TooDeep = Some plain.Refusal.too_deep
refusal_seen layer.Duplicate = Some plain.Refusal.duplicate
refusal_seen layer.VariableName = Some plain.Refusal.variable_name
refusal_seen (layer.UnknownName left) = Some (plain.Refusal.unknown_name left)
refusal_seen layer.BadRule = Some plain.Refusal.bad_rule
refusal_seen layer.Memory = None

-- the result is this answer, or want of memory
abbrev pub Tells : Result Entry Refusal → plain.Answer → Type 0
Tells (Ok e) answer = answer ≡ plain.Answer.accepted (entry_of e)
Tells (Err r) answer = IfSome (refusal_seen r) (λ s. answer ≡ plain.Answer.refused s)

-- how many variables the context of an entry has
abbrev pub context_size : signature.Entry → ℕ
context_size (signature.Entry.declare name definable type) = 0
context_size (signature.Entry.rule context left right) = length context
context_size (signature.Entry.define name type body) = 0

-- the name that these tokens begin with
abbrev pub first_name : List Token → Option (List ℕ)
first_name (id x left ∷ tokens) = Some x
first_name tokens = None

-- the name that is declared by an entry of these tokens
abbrev pub name_at : List Token → Option (List ℕ)
name_at (def_word ∷ tokens) = first_name tokens
name_at tokens = first_name tokens

-- the names with one that is declared
abbrev pub with_name : Option (List ℕ) → List (List ℕ) → List (List ℕ)
with_name None names = names
with_name (Some x) names = x ∷ names
