-- The nesting of a part of a statement, token by token, up to where the part ends.
use Rattle.std.specs.Prelude.{ℕ, nat_lt, ◌&&◌, Bool, true, false, cond, List, [], ◌∷◌}
use Rattle.tptp_lex.specs.declared.signs.Sign.TheVariants.{Close, CloseList, Comma}
use Rattle.tptp_reader.specs.Tokens.{Token, sign}
use Rattle.tptp_reader.specs.Brackets.{Class, class_of}
use Rattle.tptp_reader.specs.Rows.{Nesting, deeper, with_pending, closed, settled}

-- a comma or a closing bracket ends the part where no bracket is open
abbrev pub ends_part : Token → List (ℕ × ℕ) → Bool
ends_part (sign Comma) [] = true
ends_part (sign Close) [] = true
ends_part (sign CloseList) [] = true
ends_part token outer = false

-- what a token of a class asks, and how it goes on behind it
abbrev pub within_step : Class → Nesting → (Nesting → Bool) → Bool
within_step Class.opening s go = nat_lt s.count 200 && go (deeper s)
within_step Class.pending s go = nat_lt s.count 200 && go (with_pending s)
within_step Class.closing s go = go (closed s)
within_step Class.separating s go = go (settled s)
within_step Class.other s go = go s

-- up to the end of the part, no more than 200 are open or pending at any place
abbrev pub within : Nesting → List Token → Bool
within s [] = true
within s (token ∷ tokens) = cond (ends_part token s.outer) true (within_step (class_of token) s (λ t. within t tokens))
