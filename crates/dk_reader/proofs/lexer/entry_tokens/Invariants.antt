use Rattle.std.proofs.Common.{◌+◌, ◌≤◌, ℕ, List, length, map, ◌++◌}
use Rattle.dk_text.specs.Tokens.{Token, EntryTokens}
use Rattle.dk_reader.specs.Seen.{seen}
use Rattle.dk_reader.proofs.lexer.entry_tokens.Given as goal

-- the tokens of what is left stand behind those so far
abbrev pub invariant-loop-front : goal.invariant-loop-front
invariant-loop-front l = record {
  onwards : (ts : List Token) (to : List ℕ) → EntryTokens l.rest ts to → EntryTokens l.bytes (map seen l.tokens.items ++ ts) to;
  shrinks : length l.rest + length l.tokens.items ≤ length l.bytes;
}

abbrev pub decreases-loop-front : goal.decreases-loop-front
decreases-loop-front l = length l.rest
