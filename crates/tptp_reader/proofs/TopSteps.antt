-- The slow readers of declared types and of declarations, a step at a time.
use Rattle.std.proofs.Common.{◌≡◌, ◌<◌, ◌-◌, ℕ, zero, suc, List, ◌∷◌, Some, None, refl, ◌∙◌, ap, arith}
use Rattle.tptp_lex.specs.declared.signs.Sign.TheVariants.{Open, Close, AllTypes}
use Rattle.tptp_reader.specs.Tokens.{Token, sign}
use Rattle.tptp_reader.specs.Parsing.{first_sign, behind}
use Rattle.tptp_reader.specs.SlowLists.{goes_on, ended_by}
use Rattle.tptp_reader.specs.SlowTops.{plain_top_in, bracketed_top_by, bound_top_by, top_by, top_in, bound_top_in, bracketed_top_in, declaration_in, typing_by, typing_in, bracketed_typing_in}
use Rattle.tptp_reader.proofs.Behind.{behind_taken, behind_none}

pub top_step : (room : ℕ) (tokens : List Token) → top_in room tokens ≡ top_by (bound_top_in room) (bracketed_top_in room) room tokens
unfolding top_in bound_top_in bracketed_top_in
top_step zero tokens = refl
top_step (suc room) tokens = refl

pub top_bound : (room : ℕ) (tokens rest : List Token) → tokens ≡ sign AllTypes ∷ rest → top_in room tokens ≡ bound_top_in room rest
top_bound room tokens rest e =
    top_step room tokens ∙ ap (λ r. goes_on r (bound_top_in room) (goes_on (behind Open tokens) (bracketed_top_in room) (plain_top_in room tokens))) (behind_taken AllTypes tokens rest e)

other_top : (room : ℕ) (tokens : List Token) → (first_sign tokens ≡ Some AllTypes → ⊥) → top_in room tokens ≡ goes_on (behind Open tokens) (bracketed_top_in room) (plain_top_in room tokens)
other_top room tokens differs =
    top_step room tokens ∙ ap (λ r. goes_on r (bound_top_in room) (goes_on (behind Open tokens) (bracketed_top_in room) (plain_top_in room tokens))) (behind_none AllTypes tokens differs)

pub top_bracketed : (room : ℕ) (tokens rest : List Token) → (first_sign tokens ≡ Some AllTypes → ⊥) → tokens ≡ sign Open ∷ rest → top_in room tokens ≡ bracketed_top_in room rest
top_bracketed room tokens rest differs e =
    other_top room tokens differs ∙ ap (λ r. goes_on r (bracketed_top_in room) (plain_top_in room tokens)) (behind_taken Open tokens rest e)

pub top_plain : (room : ℕ) (tokens : List Token) → (first_sign tokens ≡ Some AllTypes → ⊥) → (first_sign tokens ≡ Some Open → ⊥) → top_in room tokens ≡ plain_top_in room tokens
top_plain room tokens differs other =
    other_top room tokens differs ∙ ap (λ r. goes_on r (bracketed_top_in room) (plain_top_in room tokens)) (behind_none Open tokens other)

pub ruleset top_steps = (top_bound, top_bracketed, top_plain)

pub bound_full : (room : ℕ) (tokens : List Token) → room ≡ 0 → bound_top_in room tokens ≡ None
unfolding bound_top_in
bound_full zero tokens e = refl
bound_full (suc room) tokens e = absurd (omega arith)

pub bound_step : (room : ℕ) (tokens : List Token) → 0 < room → bound_top_in room tokens ≡ bound_top_by (top_in (room - 1)) (room - 1) tokens
unfolding bound_top_in
bound_step zero tokens h = absurd (omega arith)
bound_step (suc room) tokens h = let e : suc room - 1 ≡ room = omega arith in rw e refl

pub ruleset bound_steps = (bound_full, bound_step)

pub bracket_full : (room : ℕ) (tokens : List Token) → room ≡ 0 → bracketed_top_in room tokens ≡ None
unfolding bracketed_top_in
bracket_full zero tokens e = refl
bracket_full (suc room) tokens e = absurd (omega arith)

pub bracket_step : (room : ℕ) (tokens : List Token) → 0 < room → bracketed_top_in room tokens ≡ bracketed_top_by (top_in (room - 1)) (room - 1) room tokens
unfolding bracketed_top_in
bracket_step zero tokens h = absurd (omega arith)
bracket_step (suc room) tokens h = let e : suc room - 1 ≡ room = omega arith in rw e refl

pub ruleset bracket_steps = (bracket_full, bracket_step)

pub typing_step : (room : ℕ) (tokens : List Token) → typing_in room tokens ≡ typing_by (bracketed_typing_in room) room tokens
unfolding typing_in bracketed_typing_in
typing_step zero tokens = refl
typing_step (suc room) tokens = refl

pub typing_bracketed : (room : ℕ) (tokens rest : List Token) → tokens ≡ sign Open ∷ rest → typing_in room tokens ≡ bracketed_typing_in room rest
typing_bracketed room tokens rest e =
    typing_step room tokens ∙ ap (λ r. goes_on r (bracketed_typing_in room) (declaration_in room tokens)) (behind_taken Open tokens rest e)

pub typing_plain : (room : ℕ) (tokens : List Token) → (first_sign tokens ≡ Some Open → ⊥) → typing_in room tokens ≡ declaration_in room tokens
typing_plain room tokens differs =
    typing_step room tokens ∙ ap (λ r. goes_on r (bracketed_typing_in room) (declaration_in room tokens)) (behind_none Open tokens differs)

pub ruleset typing_steps = (typing_bracketed, typing_plain)

pub bracketed_typing_full : (room : ℕ) (tokens : List Token) → room ≡ 0 → bracketed_typing_in room tokens ≡ None
unfolding bracketed_typing_in
bracketed_typing_full zero tokens e = refl
bracketed_typing_full (suc room) tokens e = absurd (omega arith)

pub bracketed_typing_step : (room : ℕ) (tokens : List Token) → 0 < room → bracketed_typing_in room tokens ≡ ended_by Close (typing_in (room - 1) tokens)
unfolding bracketed_typing_in
bracketed_typing_step zero tokens h = absurd (omega arith)
bracketed_typing_step (suc room) tokens h = let e : suc room - 1 ≡ room = omega arith in rw e refl

pub ruleset bracketed_typing_steps = (bracketed_typing_full, bracketed_typing_step)
