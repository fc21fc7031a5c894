-- The words of the slow readers, which say what a front of the tokens spells, and what stands behind it.
use Rattle.std.specs.Prelude.{ℕ, zero, suc, List, [], ◌∷◌, ◌++◌, length, Option, Some, None}
use Rattle.tptp_lex.specs.declared.signs.Sign.{Sign}
use Rattle.tptp_reader.specs.Tokens.{Token}
use Rattle.tptp_reader.specs.Parsing.{behind, then}

-- goes on with what is there, or is another
abbrev pub goes_on : {A B : Type 0} → Option A → (A → B) → B → B
goes_on None go other = other
goes_on (Some x) go other = go x

-- what is made of a thing that was read
abbrev pub made : {A B : Type 0} → (A → B) → Option (A × List Token) → Option (B × List Token)
made make read = then read (λ x. Some (make x.0, x.1))

-- what was read, with a sign behind it
abbrev pub ended_by : {A : Type 0} → Sign → Option (A × List Token) → Option (A × List Token)
ended_by s read = then read (λ x. then (behind s x.1) (λ rest. Some (x.0, rest)))

-- goes on with items, as long as the sign stands before one; turns: how many more may be read
abbrev pub followed : {A : Type 0} → (List Token → Option (A × List Token)) → Sign → ℕ → List A → List Token → Option (List A × List Token)
followed item between zero xs tokens = Some (xs, tokens)
followed item between (suc turns) xs tokens =
    goes_on (behind between tokens) (λ rest. then (item rest) (λ x. followed item between turns (xs ++ x.0 ∷ []) x.1)) (Some (xs, tokens))

-- the items behind those that were read
abbrev pub followed_all : {A : Type 0} → (List Token → Option (A × List Token)) → Sign → List A → List Token → Option (List A × List Token)
followed_all item between xs tokens = followed item between (length tokens) xs tokens

-- one item or more, with the sign between
abbrev pub separated : {A : Type 0} → (List Token → Option (A × List Token)) → Sign → List Token → Option (List A × List Token)
separated item between tokens = then (item tokens) (λ x. followed_all item between (x.0 ∷ []) x.1)
