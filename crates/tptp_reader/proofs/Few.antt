-- As few tokens as may be open at one place open no more.
use Rattle.std.proofs.Common.{◌≡◌, ℕ, suc, ◌+◌, ◌<◌, ◌≤◌, List, [], ◌∷◌, length, Option, Some, None, cond, refl, sym, ◌∙◌, ap, arith}
use Rattle.std.specs.Prelude.{map}
use Rattle.std.specs.Option.{option_map}
use Rattle.std.proofs.lemmas.Bool.{lt-leb}
use Rattle.std.proofs.lemmas.List.{length-map}
use Rattle.tptp_reader.specs.declared.lexeme.Lexeme.{Lexeme}
use Rattle.tptp_reader.specs.Brackets.{Class, class_of}
use Rattle.tptp_reader.specs.Rows.{Nesting, unnested, deeper, with_pending, settled, closed_from, closed, unless_full, nested_step, nested}
use Rattle.tptp_reader.specs.Parsing.{seen}
use Rattle.tptp_reader.specs.Tokens.{Token}

-- no level counts more than so many
abbrev LevelsUnder : ℕ → List (ℕ × ℕ) → Type 0
LevelsUnder most [] = Unit {0}
LevelsUnder most (level ∷ outer) = (level.0 ≤ most) × (level.1 ≤ most) × LevelsUnder most outer

record Under (most : ℕ) (s : Nesting) : Type 0 where
  count : s.count ≤ most
  base : s.base ≤ most
  outer : LevelsUnder most s.outer

levels_raised : (most : ℕ) (outer : List (ℕ × ℕ)) → LevelsUnder most outer → LevelsUnder (suc most) outer
levels_raised most [] u = tt
levels_raised most (level ∷ outer) u = let c = u.0 in let b = u.1 in (omega arith, omega arith, levels_raised most outer u.2)

raised : (most : ℕ) (s : Nesting) → Under most s → Under (suc most) s
raised most s u = let c = u.count in let b = u.base in record { count = omega arith; base = omega arith; outer = levels_raised most s.outer u.outer }

deeper_under : (most : ℕ) (s : Nesting) → Under most s → Under (suc most) (deeper s)
deeper_under most s u =
    let c = u.count in let b = u.base in
    record { count = omega arith; base = omega arith; outer = (omega arith, omega arith, levels_raised most s.outer u.outer) }

pending_under : (most : ℕ) (s : Nesting) → Under most s → Under (suc most) (with_pending s)
pending_under most s u = let c = u.count in let b = u.base in record { count = omega arith; base = omega arith; outer = levels_raised most s.outer u.outer }

settled_under : (most : ℕ) (s : Nesting) → Under most s → Under (suc most) (settled s)
settled_under most s u = let b = u.base in record { count = omega arith; base = omega arith; outer = levels_raised most s.outer u.outer }

closed_under : (most : ℕ) (s : Nesting) (outer : List (ℕ × ℕ)) → Under most s → LevelsUnder most outer → Under (suc most) (closed_from s outer)
closed_under most s [] u o = settled_under most s u
closed_under most s (level ∷ outer) u o =
    let c = o.0 in let b = o.1 in record { count = omega arith; base = omega arith; outer = levels_raised most outer o.2 }

not_full : (limit count : ℕ) (later : Option ℕ) → count < limit → later ≡ None → unless_full limit count later ≡ None
not_full limit count later lt e =
    ap (λ b. cond b (Some 0) (option_map suc later)) (lt-leb limit count lt) ∙ ap (option_map suc) e

one_under : (limit most : ℕ) (c : Class) (s : Nesting) (go : Nesting → Option ℕ) → Under most s → most < limit →
    ((t : Nesting) → Under (suc most) t → go t ≡ None) → nested_step limit c s go ≡ None
one_under limit most Class.opening s go u lt k = let c = u.count in not_full limit s.count (go (deeper s)) (omega arith) (k (deeper s) (deeper_under most s u))
one_under limit most Class.pending s go u lt k = let c = u.count in not_full limit s.count (go (with_pending s)) (omega arith) (k (with_pending s) (pending_under most s u))
one_under limit most Class.closing s go u lt k = ap (option_map suc) (k (closed s) (closed_under most s s.outer u u.outer))
one_under limit most Class.separating s go u lt k = ap (option_map suc) (k (settled s) (settled_under most s u))
one_under limit most Class.other s go u lt k = ap (option_map suc) (k s (raised most s u))

all_under : (limit most : ℕ) (s : Nesting) (tokens : List Token) → Under most s → most + length tokens ≤ limit → nested limit s tokens ≡ None
all_under limit most s [] u le = refl
all_under limit most s (token ∷ tokens) u le =
    one_under limit most (class_of token) s (λ t. nested limit t tokens) u (omega arith) (λ t v. all_under limit (suc most) t tokens v (omega arith))

few_nested : (tokens : List Token) → length tokens ≤ 200 → nested 200 unnested tokens ≡ None
few_nested tokens le = all_under 200 0 unnested tokens (record { count = omega arith; base = omega arith; outer = tt }) (omega arith)

pub few_lexemes : (lexemes : List Lexeme) → length lexemes ≤ 200 → ◌≡◌ {A = Option ℕ} None (nested 200 unnested (map seen lexemes))
few_lexemes lexemes le = sym (few_nested (map seen lexemes) (let e = length-map lexemes seen in omega arith))
