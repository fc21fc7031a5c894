-- What reading one entry of a text comes to.
use Rattle.std.specs.Prelude.{◌≡◌, ℕ, ◌<◌, List, length}
use Rattle.lp_terms.specs.Signature.{Entry}
use Rattle.lp_terms.specs.Measure.{entry_depth, limit}
use Rattle.lp_terms.specs.File.{IsEntryOf, declared_after}
use Rattle.dk_text.specs.Tokens.{Token, EntryTokens}
use Rattle.dk_text.specs.Refusals.{Refusal, Answers, accepted, refused}

-- The tokens are accepted as the entry, which keeps what a file's entries keep, and its name is declared.
pub record Accepts (names inner : List (List ℕ)) (tokens : List Token) (e : Entry) : Type 0 where
  pub answer : Answers names tokens (accepted e)
  pub in_order : IsEntryOf names e
  pub bounded : entry_depth e < limit
  pub declares : inner ≡ declared_after names e

-- The text here begins with tokens that are accepted as the entry, and goes on with the rest.
pub record Advances (names inner : List (List ℕ)) (here : List ℕ) (e : Entry) (rest : List ℕ) : Type 0 where
  pub tokens : List Token
  pub lexes : EntryTokens here tokens rest
  pub accepts : Accepts names inner tokens e
  pub shrinks : length rest < length here

-- The text here begins with tokens that are refused.
pub record Stops (names : List (List ℕ)) (here : List ℕ) (refusal : Refusal) : Type 0 where
  pub tokens : List Token
  pub rest : List ℕ
  pub lexes : EntryTokens here tokens rest
  pub refuses : Answers names tokens (refused refusal)
