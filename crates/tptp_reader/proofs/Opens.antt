-- What the scan of the nesting says of an open bracket and of the head of a quantifier.
use Rattle.std.proofs.Common.{◌≡◌, ◌<◌, true, ℕ, List, ◌∷◌, arith}
use Rattle.std.specs.Prelude.{nat_lt}
use Rattle.std.proofs.lemmas.Bool.Decides.{nat_tests}
use Rattle.std.proofs.lemmas.Bool.{and_parts}
use Rattle.tptp_lex.specs.declared.signs.Sign.TheVariants.{Open, OpenList, AllTypes}
use Rattle.tptp_reader.specs.Tokens.{Token, sign}
use Rattle.tptp_reader.specs.Rows.{Nesting, deeper, with_pending}
use Rattle.tptp_reader.specs.Within.{within}

below_limit : (count : ℕ) → nat_lt count 200 ≡ true → count < 200
below_limit count e = grind (arith, nat_tests, e)

-- there is room for an open bracket
pub opens : (s : Nesting) (inner : List Token) → within s (sign Open ∷ inner) ≡ true → s.count < 200
opens s inner h = below_limit s.count ((and_parts (nat_lt s.count 200) (within (deeper s) inner) h).0)

pub inside : (s : Nesting) (inner : List Token) → within s (sign Open ∷ inner) ≡ true → within (deeper s) inner ≡ true
inside s inner h = (and_parts (nat_lt s.count 200) (within (deeper s) inner) h).1

pub inside_list : (s : Nesting) (inner : List Token) → within s (sign OpenList ∷ inner) ≡ true → within (deeper s) inner ≡ true
inside_list s inner h = (and_parts (nat_lt s.count 200) (within (deeper s) inner) h).1

-- there is room for the head of a quantifier of type variables
pub binds : (s : Nesting) (inner : List Token) → within s (sign AllTypes ∷ inner) ≡ true → s.count < 200
binds s inner h = below_limit s.count ((and_parts (nat_lt s.count 200) (within (with_pending s) inner) h).0)

pub bound : (s : Nesting) (inner : List Token) → within s (sign AllTypes ∷ inner) ≡ true → within (with_pending s) inner ≡ true
bound s inner h = (and_parts (nat_lt s.count 200) (within (with_pending s) inner) h).1
