-- What a search is given beside its formulas.
use Rattle.std.specs.Prelude.{ℕ, Bool, List}
use Rattle.zm_logic.specs.Tree.{Symbol, Rule}

-- the symbols, the rewrite rules, the most steps that a normal form may take, and whether children whose formulas no
-- closed sibling needs are skipped
pub record Setting : Type 0 where
  pub symbols : List Symbol
  pub rules : List Rule
  pub rewrites : ℕ
  pub prunes : Bool
