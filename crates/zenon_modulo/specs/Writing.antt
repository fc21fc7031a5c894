-- What a call writes.
use Rattle.std.specs.Prelude.{ℕ, ◌≡◌, ◌≤◌, List, Option, length, take}
use Rattle.zm_logic.specs.Tree.{Problem}
use Rattle.zm_base.specs.Outside.{Rose, Takes, Counts}
use Rattle.zm_base.specs.declared.traits.Sink as sinks
use Rattle.zenon_modulo.specs.Answer.{Answer}
use Rattle.zenon_modulo.specs.Claims.{Call, Claims}
use Rattle.zenon_modulo.specs.Text.{out_text, diag_text}

-- The call may give the answer, and the text is what is written for it to the sink for results. Both are of one problem.
pub record IsAnswer (c : Call) (answer : Answer) (text : List ℕ) : Type 0 where
  pub problem : Problem
  pub claims : Claims c problem answer
  pub written : text ≡ out_text problem answer

-- What a sink tells: the bytes that it took, before and now, and their number, before and now.
pub record Gain : Type 0 where
  pub held : Option (List ℕ)
  pub held_now : Option (List ℕ)
  pub taken : Option ℕ
  pub taken_now : Option ℕ

-- what a sink tells, before and now
abbrev pub gain_of : {A : Type 0} → sinks.Ghosts A → (sink sink_now : A) → Gain
gain_of K sink sink_now = record {
  held = K.held sink;
  held_now = K.held sink_now;
  taken = K.taken sink;
  taken_now = K.taken sink_now;
}

-- the sink's count of faults rose
abbrev pub Fails : {A : Type 0} → sinks.Ghosts A → (sink sink_now : A) → Type 0
Fails K sink sink_now = Rose (K.faults sink) (K.faults sink_now)

-- the sink took exactly this text, and counted its bytes
pub record Gains (text : List ℕ) (sink : Gain) : Type 0 where
  pub held : Takes text sink.held sink.held_now
  pub taken : Counts (length text) sink.taken sink.taken_now

-- the sink took a prefix of this text, and counted as many bytes
pub record GainsFront (text : List ℕ) (sink : Gain) : Type 0 where
  pub count : ℕ
  pub within : count ≤ length text
  pub held : Takes (take count text) sink.held sink.held_now
  pub taken : Counts count sink.taken sink.taken_now

-- The call may give this answer, and each sink gained exactly its part of the answer's text.
pub record IsWritten (c : Call) (out diag : Gain) (answer : Answer) : Type 0 where
  pub text : List ℕ
  pub is_answer : IsAnswer c answer text
  pub out_gains : Gains text out
  pub diag_gains : Gains (diag_text answer) diag

-- There is an answer that the call may give, and each sink gained a prefix of its part of that answer's text.
pub record IsCutShort (c : Call) (out diag : Gain) : Type 0 where
  pub answer : Answer
  pub text : List ℕ
  pub is_answer : IsAnswer c answer text
  pub out_gains : GainsFront text out
  pub diag_gains : GainsFront (diag_text answer) diag
