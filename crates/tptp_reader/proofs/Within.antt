-- Where the scan of the nesting refuses nothing in a part, the part is within the limit.
use Rattle.std.proofs.Common.{◌≡◌, true, false, Bool, ℕ, suc, cond, List, [], ◌∷◌, length, take, Option, Some, None, refl, arith}
use Rattle.std.specs.Prelude.{nat_le, nat_lt}
use Rattle.std.specs.Option.{option_map}
use Rattle.std.proofs.lemmas.Bool.Decides.{nat_tests}
use Rattle.std.proofs.lemmas.Bool.{and_from}
use Rattle.tptp_lex.specs.declared.signs.Sign.TheVariants.{Open, Close, OpenList, CloseList, Comma, And, Or, Not, Implies, If, Iff, Xor, NotAnd, NotOr, All, Exists, AllTypes}
use Rattle.tptp_reader.specs.Tokens.{Token, sign}
use Rattle.tptp_reader.specs.Brackets.{to_comma}
use Rattle.tptp_reader.specs.Rows.{Nesting, nested, unless_full}
use Rattle.tptp_reader.specs.Within.{within}

no_later : (later : Option ℕ) → option_map suc later ≡ None → later ≡ None
no_later None e = refl
no_later (Some n) e = absurd cc

not_full : (count : ℕ) (later : Option ℕ) (b : Bool) → nat_le 200 count ≡ b → cond b (Some 0) (option_map suc later) ≡ None → (nat_lt count 200 ≡ true) × (later ≡ None)
not_full count later false e h = (grind (arith, nat_tests, e), no_later later h)
not_full count later true e h = absurd cc

room_left : (count : ℕ) (later : Option ℕ) → unless_full 200 count later ≡ None → (nat_lt count 200 ≡ true) × (later ≡ None)
room_left count later e = not_full count later (nat_le 200 count) refl e

abbrev state : ℕ → ℕ → List (ℕ × ℕ) → Nesting
state count base outer = record { count = count; base = base; outer = outer }

-- the same, with the parts of the state apart
parts_within : (c b : ℕ) (outer : List (ℕ × ℕ)) (tokens : List Token) → nested 200 (state c b outer) (take (to_comma (length outer) tokens) tokens) ≡ None → within (state c b outer) tokens ≡ true
parts_within c b outer [] e = refl
parts_within c b outer (sign Open ∷ tokens) e = let h = room_left _ _ e in and_from _ _ h.0 (parts_within (suc c) (suc c) ((c, b) ∷ outer) tokens h.1)
parts_within c b outer (sign OpenList ∷ tokens) e = let h = room_left _ _ e in and_from _ _ h.0 (parts_within (suc c) (suc c) ((c, b) ∷ outer) tokens h.1)
parts_within c b outer (sign Not ∷ tokens) e = let h = room_left _ _ e in and_from _ _ h.0 (parts_within (suc c) b outer tokens h.1)
parts_within c b outer (sign All ∷ tokens) e = let h = room_left _ _ e in and_from _ _ h.0 (parts_within (suc c) b outer tokens h.1)
parts_within c b outer (sign Exists ∷ tokens) e = let h = room_left _ _ e in and_from _ _ h.0 (parts_within (suc c) b outer tokens h.1)
parts_within c b outer (sign AllTypes ∷ tokens) e = let h = room_left _ _ e in and_from _ _ h.0 (parts_within (suc c) b outer tokens h.1)
parts_within c b outer (sign And ∷ tokens) e = parts_within b b outer tokens (no_later _ e)
parts_within c b outer (sign Or ∷ tokens) e = parts_within b b outer tokens (no_later _ e)
parts_within c b outer (sign Implies ∷ tokens) e = parts_within b b outer tokens (no_later _ e)
parts_within c b outer (sign If ∷ tokens) e = parts_within b b outer tokens (no_later _ e)
parts_within c b outer (sign Iff ∷ tokens) e = parts_within b b outer tokens (no_later _ e)
parts_within c b outer (sign Xor ∷ tokens) e = parts_within b b outer tokens (no_later _ e)
parts_within c b outer (sign NotAnd ∷ tokens) e = parts_within b b outer tokens (no_later _ e)
parts_within c b outer (sign NotOr ∷ tokens) e = parts_within b b outer tokens (no_later _ e)
parts_within c b [] (sign Comma ∷ tokens) e = refl
parts_within c b [] (sign Close ∷ tokens) e = refl
parts_within c b [] (sign CloseList ∷ tokens) e = refl
parts_within c b (level ∷ outer) (sign Comma ∷ tokens) e = parts_within b b (level ∷ outer) tokens (no_later _ e)
parts_within c b (level ∷ outer) (sign Close ∷ tokens) e = parts_within level.0 level.1 outer tokens (no_later _ e)
parts_within c b (level ∷ outer) (sign CloseList ∷ tokens) e = parts_within level.0 level.1 outer tokens (no_later _ e)
parts_within c b outer (token ∷ tokens) e = parts_within c b outer tokens (no_later _ e)

-- where the scan of a part finds no place too deep, the part is within the limit
pub part_within : (s : Nesting) (tokens : List Token) → nested 200 s (take (to_comma (length s.outer) tokens) tokens) ≡ None → within s tokens ≡ true
part_within s tokens e = parts_within s.count s.base s.outer tokens e
