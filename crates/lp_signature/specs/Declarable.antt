-- What a problem keeps whose signature is a file's.
use Rattle.std.specs.Prelude.{ℕ, ◌+◌, ◌<◌, ◌^◌, List, [], ◌∷◌, length, All}
use Rattle.lp_terms.specs.Measure.{limit}
use Rattle.lp_terms.specs.Signature.{Entry}
use Rattle.lp_terms.specs.File.{declared_after}
use Rattle.zm_logic.specs.Tree.{Symbol, Problem}
use Rattle.zm_logic.specs.Typing.{how_many}

-- the numbers are bytes
abbrev pub AreBytes : List ℕ → Type 0
AreBytes bs = All (λ b. b < 256) bs

-- a file can declare the symbol: its name is bytes, and it has fewer arguments than the limit on binders
pub record IsDeclarable (d : Symbol) : Type 0 where
  pub name : AreBytes d.name
  pub arguments : d.types + how_many d.arguments < limit

-- a file can declare each symbol and each premise of the problem
pub record IsWritable (p : Problem) : Type 0 where
  pub symbols : All IsDeclarable p.symbols
  pub premises : length p.premises < 2 ^ 64

-- the names that are declared after the entries
abbrev pub declared_by : List (List ℕ) → List Entry → List (List ℕ)
declared_by declared [] = declared
declared_by declared (e ∷ es) = declared_by (declared_after declared e) es
