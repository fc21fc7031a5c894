-- What is refused in the tokens of a wide statement before its grammar is asked, row by row in their order. A row answers
-- the number of the token that is refused.
use Rattle.std.specs.Prelude.{ℕ, suc, ◌+◌, nat_le, ◌||◌, ◌&&◌, Bool, cond, List, [], ◌∷◌, drop, codes, Option, Some, None}
use Rattle.std.specs.Option.{option_map, is_some}
use Rattle.std.specs.Str.{bytes_eq}
use Rattle.tptp_lex.specs.declared.signs.Sign.TheVariants.{At, Caret, Plus, Minus}
use Rattle.tptp_reader.specs.declared.lexeme.Defined.TheVariants.{Other}
use Rattle.tptp_reader.specs.declared.tree.RawRole.{RawRole}
use Rattle.tptp_reader.specs.declared.tree.RawRole.TheVariants as roles
use Rattle.tptp_reader.specs.declared.refusal.UnsupportedForm.{UnsupportedForm}
use Rattle.tptp_reader.specs.declared.refusal.UnsupportedForm.TheVariants as forms
use Rattle.tptp_reader.specs.Tokens.{Token, lower, defined, distinct, number, sign}
use Rattle.tptp_reader.specs.Brackets.{Class, class_of, role_start, formula_start, formula_part}

-- a refused token of a statement, by its number
pub data Fault : Type 0 where
  unsupported : UnsupportedForm → (token : ℕ) → Fault
  too_deep : (token : ℕ) → Fault

-- the first of two
abbrev pub or_else : Option Fault → Option Fault → Option Fault
or_else None other = other
or_else (Some fault) other = Some fault

-- fof and tff
abbrev pub is_formula_word : List ℕ → Bool
is_formula_word word = bytes_eq word (codes "fof") || bytes_eq word (codes "tff")

-- the statements of other languages
abbrev pub is_other_word : List ℕ → Bool
is_other_word word = bytes_eq word (codes "cnf") || bytes_eq word (codes "thf") || bytes_eq word (codes "tcf") || bytes_eq word (codes "tpi")

-- the role that a word names
abbrev pub role_of : List ℕ → Option RawRole
role_of word =
    cond (bytes_eq word (codes "axiom")) (Some roles.Axiom)
    (cond (bytes_eq word (codes "hypothesis")) (Some roles.Hypothesis)
    (cond (bytes_eq word (codes "definition")) (Some roles.Definition)
    (cond (bytes_eq word (codes "assumption")) (Some roles.Assumption)
    (cond (bytes_eq word (codes "lemma")) (Some roles.Lemma)
    (cond (bytes_eq word (codes "theorem")) (Some roles.Theorem)
    (cond (bytes_eq word (codes "corollary")) (Some roles.Corollary)
    (cond (bytes_eq word (codes "negated_conjecture")) (Some roles.NegatedConjecture)
    (cond (bytes_eq word (codes "conjecture")) (Some roles.Conjecture) None))))))))

-- a role that a statement of the language may have: type stands in tff alone
abbrev pub is_role : List ℕ → List ℕ → Bool
is_role word role = is_some (role_of role) || (bytes_eq word (codes "tff") && bytes_eq role (codes "type"))

-- a statement of another language
abbrev pub statement_row : List ℕ → Option Fault
statement_row word = cond (is_other_word word) (Some (Fault.unsupported forms.Statement 0)) None

-- a lower in the role's place that isn't one of the roles, or behind which a subrole stands
abbrev pub role_fault : List ℕ → ℕ → List Token → Option Fault
role_fault word n (lower role ∷ sign Minus ∷ tokens) = Some (Fault.unsupported forms.Role n)
role_fault word n (lower role ∷ tokens) = cond (is_role word role) None (Some (Fault.unsupported forms.Role n))
role_fault word n tokens = None

abbrev pub role_row : List ℕ → List Token → Option Fault
role_row word tokens = role_fault word (role_start tokens) (drop (role_start tokens) tokens)

-- Within a formula part: count, how many brackets are open and how many negations and heads of quantifiers are pending;
-- base, how many of these were there when the bracket round this place was opened, with it; outer, the counts and bases
-- before each open bracket, the innermost first.
pub record Nesting : Type 0 where
  pub count : ℕ
  pub base : ℕ
  pub outer : List (ℕ × ℕ)

abbrev pub unnested : Nesting
unnested = record { count = 0; base = 0; outer = [] }

-- a bracket is opened
abbrev pub deeper : Nesting → Nesting
deeper s = record { count = suc s.count; base = suc s.count; outer = (s.count, s.base) ∷ s.outer }

-- a negation or the head of a quantifier comes
abbrev pub with_pending : Nesting → Nesting
with_pending s = record { count = suc s.count; base = s.base; outer = s.outer }

-- what is pending on this level is no more
abbrev pub settled : Nesting → Nesting
settled s = record { count = s.base; base = s.base; outer = s.outer }

-- a bracket is closed
abbrev pub closed_from : Nesting → List (ℕ × ℕ) → Nesting
closed_from s [] = settled s
closed_from s (level ∷ outer) = record { count = level.0; base = level.1; outer = outer }

abbrev pub closed : Nesting → Nesting
closed s = closed_from s s.outer

-- the token, if one more than the limit is open at it, else one found later
abbrev pub unless_full : ℕ → ℕ → Option ℕ → Option ℕ
unless_full limit count later = cond (nat_le limit count) (Some 0) (option_map suc later)

-- what a token of a class does
abbrev pub nested_step : ℕ → Class → Nesting → (Nesting → Option ℕ) → Option ℕ
nested_step limit Class.opening s go = unless_full limit s.count (go (deeper s))
nested_step limit Class.pending s go = unless_full limit s.count (go (with_pending s))
nested_step limit Class.closing s go = option_map suc (go (closed s))
nested_step limit Class.separating s go = option_map suc (go (settled s))
nested_step limit Class.other s go = option_map suc (go s)

-- how many tokens stand before the first at which more are open or pending than the limit
abbrev pub nested : ℕ → Nesting → List Token → Option ℕ
nested limit s [] = None
nested limit s (token ∷ tokens) = nested_step limit (class_of token) s (λ t. nested limit t tokens)

abbrev pub nesting_row : List Token → Option Fault
nesting_row tokens = option_map (λ n. Fault.too_deep (formula_start tokens + n)) (nested 200 unnested (formula_part tokens))

-- what isn't read in a formula
abbrev pub unsupported_form : Token → Option UnsupportedForm
unsupported_form (number text) = Some forms.Numeral
unsupported_form distinct = Some forms.DistinctObject
unsupported_form (defined Other) = Some forms.DefinedWord
unsupported_form (sign At) = Some forms.Operator
unsupported_form (sign Caret) = Some forms.Operator
unsupported_form (sign Plus) = Some forms.Operator
unsupported_form (sign Minus) = Some forms.Operator
unsupported_form token = None

abbrev pub unsupported_from : ℕ → List Token → Option Fault
unsupported_from n [] = None
unsupported_from n (token ∷ tokens) = or_else (option_map (λ form. Fault.unsupported form n) (unsupported_form token)) (unsupported_from (suc n) tokens)

-- the first token of the formula part that isn't read in formulas
abbrev pub token_row : List Token → Option Fault
token_row tokens = unsupported_from (formula_start tokens) (formula_part tokens)

-- the rows of a fof or tff statement, in order
abbrev pub formula_rows : List ℕ → List Token → Option Fault
formula_rows word tokens = or_else (role_row word tokens) (or_else (nesting_row tokens) (token_row tokens))

-- the first fault of a statement's tokens, if the rows before the grammar refuse one
abbrev pub early_fault : List Token → Option Fault
early_fault (lower word ∷ tokens) = or_else (statement_row word) (cond (is_formula_word word) (formula_rows word (lower word ∷ tokens)) None)
early_fault tokens = None
