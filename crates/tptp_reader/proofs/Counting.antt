-- One more level, one more token of a part, and the row of the roles.
use Rattle.std.proofs.Common.{◌≡◌, ℕ, zero, suc, ◌+◌, ◌-◌, ◌<◌, ◌≤◌, cond, List, [], ◌∷◌, ◌++◌, Some, None, length, take, drop, refl, sym, ◌∙◌, ap, arith, inl, inr, ◌⊎◌}
use Rattle.std.specs.Prelude.{map, min}
use Rattle.std.proofs.lemmas.List.{reverse-append, drop-map, take-map, take_rest, drop_all, drop_min}
use Rattle.std.proofs.Math.Seq.{drop-length}
use Rattle.tptp_reader.specs.declared.lexeme.Lexeme.{Lexeme}
use Rattle.tptp_reader.specs.Parsing.{seen}
use Rattle.tptp_lex.specs.declared.signs.Sign.{Sign}
use Rattle.tptp_lex.specs.declared.signs.Sign.TheVariants.{Open, Close, OpenList, CloseList, Comma, Stop, Colon, And, Or, Not, Implies, If, Iff, Xor, NotAnd, NotOr, Equal, NotEqual, All, Exists, AllTypes, Arrow, Star, At, Caret, Plus, Minus}
use Rattle.tptp_reader.specs.declared.nesting.Level.{Level}
use Rattle.tptp_reader.specs.declared.refusal.UnsupportedForm.TheVariants as forms
use Rattle.tptp_reader.specs.Brackets.{to_comma, part_end, formula_start, formula_part}
use Rattle.tptp_reader.specs.Counted.{part_behind, counted_behind, level_of, levels_of, has_subrole}
use Rattle.tptp_reader.specs.Rows.{Fault, is_role, role_fault}
use Rattle.tptp_reader.specs.Tokens.{Token, lower, upper, defined, quoted, distinct, number, sign}

pub level_pushed : (xs : List Level) (x : Level) → levels_of (xs ++ x ∷ []) ≡ level_of x ∷ levels_of xs
level_pushed xs x = ap (map level_of) (reverse-append xs (x ∷ []))

sign_counted : (opened : ℕ) (s : Sign) (tokens : List Token) → to_comma opened (sign s ∷ tokens) ≡ counted_behind (part_behind opened (sign s)) tokens
sign_counted opened Open tokens = refl
sign_counted zero Close tokens = refl
sign_counted (suc opened) Close tokens = refl
sign_counted opened OpenList tokens = refl
sign_counted zero CloseList tokens = refl
sign_counted (suc opened) CloseList tokens = refl
sign_counted zero Comma tokens = refl
sign_counted (suc opened) Comma tokens = refl
sign_counted opened Stop tokens = refl
sign_counted opened Colon tokens = refl
sign_counted opened And tokens = refl
sign_counted opened Or tokens = refl
sign_counted opened Not tokens = refl
sign_counted opened Implies tokens = refl
sign_counted opened If tokens = refl
sign_counted opened Iff tokens = refl
sign_counted opened Xor tokens = refl
sign_counted opened NotAnd tokens = refl
sign_counted opened NotOr tokens = refl
sign_counted opened Equal tokens = refl
sign_counted opened NotEqual tokens = refl
sign_counted opened All tokens = refl
sign_counted opened Exists tokens = refl
sign_counted opened AllTypes tokens = refl
sign_counted opened Arrow tokens = refl
sign_counted opened Star tokens = refl
sign_counted opened At tokens = refl
sign_counted opened Caret tokens = refl
sign_counted opened Plus tokens = refl
sign_counted opened Minus tokens = refl

pub token_counted : (opened : ℕ) (token : Token) (tokens : List Token) → to_comma opened (token ∷ tokens) ≡ counted_behind (part_behind opened token) tokens
token_counted opened (lower text) tokens = refl
token_counted opened (upper text) tokens = refl
token_counted opened (defined word) tokens = refl
token_counted opened (quoted text) tokens = refl
token_counted opened distinct tokens = refl
token_counted opened (number text) tokens = refl
token_counted opened (sign s) tokens = sign_counted opened s tokens

abbrev role_refused : ℕ → Fault
role_refused n = Fault.unsupported forms.Role n

subrole_sign : (word role : List ℕ) (n : ℕ) (s : Sign) (tokens : List Token) →
    role_fault word n (lower role ∷ sign s ∷ tokens) ≡ cond (has_subrole (sign s ∷ tokens)) (Some (role_refused n)) (cond (is_role word role) None (Some (role_refused n)))
subrole_sign word role n Open tokens = refl
subrole_sign word role n Close tokens = refl
subrole_sign word role n OpenList tokens = refl
subrole_sign word role n CloseList tokens = refl
subrole_sign word role n Comma tokens = refl
subrole_sign word role n Stop tokens = refl
subrole_sign word role n Colon tokens = refl
subrole_sign word role n And tokens = refl
subrole_sign word role n Or tokens = refl
subrole_sign word role n Not tokens = refl
subrole_sign word role n Implies tokens = refl
subrole_sign word role n If tokens = refl
subrole_sign word role n Iff tokens = refl
subrole_sign word role n Xor tokens = refl
subrole_sign word role n NotAnd tokens = refl
subrole_sign word role n NotOr tokens = refl
subrole_sign word role n Equal tokens = refl
subrole_sign word role n NotEqual tokens = refl
subrole_sign word role n All tokens = refl
subrole_sign word role n Exists tokens = refl
subrole_sign word role n AllTypes tokens = refl
subrole_sign word role n Arrow tokens = refl
subrole_sign word role n Star tokens = refl
subrole_sign word role n At tokens = refl
subrole_sign word role n Caret tokens = refl
subrole_sign word role n Plus tokens = refl
subrole_sign word role n Minus tokens = refl

pub subrole_row : (word role : List ℕ) (n : ℕ) (tokens : List Token) →
    role_fault word n (lower role ∷ tokens) ≡ cond (has_subrole tokens) (Some (role_refused n)) (cond (is_role word role) None (Some (role_refused n)))
subrole_row word role n [] = refl
subrole_row word role n (lower text ∷ tokens) = refl
subrole_row word role n (upper text ∷ tokens) = refl
subrole_row word role n (defined meaning ∷ tokens) = refl
subrole_row word role n (quoted text ∷ tokens) = refl
subrole_row word role n (distinct ∷ tokens) = refl
subrole_row word role n (number text ∷ tokens) = refl
subrole_row word role n (sign s ∷ tokens) = subrole_sign word role n s tokens

pub seen_from : (start : ℕ) (xs : List Lexeme) → map seen (drop start xs) ≡ drop start (map seen xs)
seen_from start xs = sym (drop-map seen start xs)

within_case : (start : ℕ) (xs : List Lexeme) → (start < length xs) ⊎ (length xs ≤ start) → drop (min start (length xs)) xs ≡ drop start xs
within_case start xs (inl lt) = ap (λ n. drop n xs) (let e : min start (length xs) ≡ start = omega arith in e)
within_case start xs (inr le) =
    ap (λ n. drop n xs) (let e : min start (length xs) ≡ length xs = omega arith in e) ∙ drop-length xs ∙ sym (drop_all start xs le)

-- a part ends behind its start
pub part_length : (start n : ℕ) → (start + n) - start ≡ n
part_length start n = omega arith

pub front_from : (n start : ℕ) (xs : List Lexeme) → n ≡ min start (length xs) → map seen (take (length xs - n) (drop n xs)) ≡ drop start (map seen xs)
front_from n start xs e = ap (map seen) (take_rest xs n ∙ ap (λ (k : ℕ). drop k xs) e ∙ drop_min start xs) ∙ seen_from start xs

counted_part : (start : ℕ) (tokens : List Token) → take (to_comma 0 (drop start tokens)) (drop start tokens) ≡ take (part_end tokens start - start) (drop start tokens)
counted_part start tokens = ap (λ (n : ℕ). take n (drop start tokens)) (sym (part_length start (to_comma 0 (drop start tokens))))

pub part_front : (n start : ℕ) (rest : List Lexeme) (tokens : List Token) → n ≡ to_comma 0 (map seen rest) → map seen rest ≡ drop start tokens → start ≡ formula_start tokens → map seen (take n rest) ≡ formula_part tokens
part_front n start rest tokens e f g =
    sym (take-map seen n rest) ∙ ap (λ (m : ℕ). take m (map seen rest)) e ∙ ap (λ (ts : List Token). take (to_comma 0 ts) ts) f
    ∙ ap (λ (k : ℕ). take (to_comma 0 (drop k tokens)) (drop k tokens)) g ∙ counted_part (formula_start tokens) tokens
