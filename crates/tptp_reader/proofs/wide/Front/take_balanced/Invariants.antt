use Rattle.std.proofs.Common.{◌≡◌, ℕ, ◌-◌, [], ◌∷◌, length}
use Rattle.tptp_reader.specs.Brackets.{Bracket}
use Rattle.tptp_reader.specs.Scanning.{Awaits, closes}
use Rattle.tptp_reader.proofs.wide.Front.take_balanced.Given as goal

-- the open brackets tell what has to follow
abbrev pub invariant-loop-self : goal.invariant-loop-self
invariant-loop-self l = record {
  same_text : l.self.text ≡ l.fn.self.text;
  awaits : (from : ℕ) → Awaits from l.fn.self (closes (Bracket.round ∷ [])) → Awaits from l.self (closes l.brackets);
}

abbrev pub decreases-loop-self : goal.decreases-loop-self
decreases-loop-self l = length l.self.text - l.self.reached
