-- What a call that writes a text says.
use Rattle.std.specs.Prelude.{ℕ, List, length, Result, Ok, OnOk, OnErr}
use Rattle.zm_base.specs.declared.traits.Sink.{Ghosts}
use Rattle.zm_base.specs.Outside.{HasCause, Takes, Counts, TakesPrefix}

-- After Ok the sink took the text, after a failure a proper prefix of it. It failed only where the count of faults rose.
pub record Writes {S T E : Type 0} (sink : Ghosts S) (text : List ℕ) (before now : S) (result : Result T E) : Type 0 where
  pub held : OnOk result (Takes text (sink.held before) (sink.held now))
  pub taken : OnOk result (Counts (length text) (sink.taken before) (sink.taken now))
  pub prefix : OnErr result (TakesPrefix text (sink.held before) (sink.held now) (sink.taken before) (sink.taken now))
  pub cause : HasCause (sink.faults before) (sink.faults now) result

-- The sink took the text, and no write has failed.
abbrev pub Wrote : {S : Type 0} → Ghosts S → List ℕ → S → S → Type 0
Wrote sink text before now = Writes {T = ℕ} {E = ℕ} sink text before now (Ok 0)
