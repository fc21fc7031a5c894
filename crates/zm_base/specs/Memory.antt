-- What callers see of a source and of a sink in memory.
use Rattle.std.specs.Prelude.{◌⊎◌, ℕ, ◌<◌, ◌≤◌, List, length, Contains}
use Rattle.zm_base.specs.Outside.{raised}

-- A source in memory.
pub record MemorySource : Type 0 where
  -- the bytes not yet read
  pub left : List ℕ
  -- the most bytes that one call gives
  pub piece : ℕ
  -- the numbers of the calls that fail, the first call being 1
  pub fails : List ℕ
  -- the number of calls so far
  pub calls : ℕ
  -- how many of them failed
  pub faults : ℕ

-- A sink in memory.
pub record MemorySink : Type 0 where
  -- the bytes that it took
  pub held : List ℕ
  -- the most bytes that it holds
  pub capacity : ℕ
  -- the most bytes that one call takes
  pub piece : ℕ
  -- the numbers of the calls that fail, the first call being 1
  pub fails : List ℕ
  -- the number of calls so far
  pub calls : ℕ
  -- how many of them failed
  pub faults : ℕ

-- The next call fails: its number is listed, or there is a byte to take and no room for it.
abbrev pub Refuses : MemorySink → List ℕ → Type 0
Refuses sink bytes =
    Contains sink.fails (raised sink.calls) ⊎ ((0 < length bytes) × (sink.capacity ≤ length sink.held))
