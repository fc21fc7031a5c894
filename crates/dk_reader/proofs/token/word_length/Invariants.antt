use Rattle.std.proofs.Common.{◌≡◌, ◌++◌, take, drop}
use Rattle.dk_text.specs.Tokens.{word_of, after_word}
use Rattle.dk_reader.proofs.token.word_length.Given as goal

-- the word goes on from here
abbrev pub invariant-loop-i : goal.invariant-loop-i
invariant-loop-i l = record {
  word : take l.i l.bytes ++ word_of (drop l.i l.bytes) ≡ word_of l.bytes;
  after : after_word (drop l.i l.bytes) ≡ after_word l.bytes;
}
