-- The selection of rules from the premises of a problem.
use Rattle.std.specs.Prelude.{ℕ, suc, ◌≡◌, ◌⊎◌, Option, Some, None, List, [], ◌∷◌, map}
use Rattle.zm_logic.specs.Tree.{Rule, Premise, Problem}
use Rattle.rule_select.specs.Lawful.{IsRule, IsKept}

-- a list of rules, and for each premise the number of its rule, or none where the premise is kept
pub record Selection : Type 0 where
  pub rules : List Rule
  pub rule_of : List (Option ℕ)

-- the premises are sorted, in order, into rules, which are numbered from n on, and those that are kept
pub data Sorts : ℕ → List Premise → List Rule → List (Option ℕ) → Type 0 where
  done : {n : ℕ} → Sorts n [] [] []
  rule : {n : ℕ} {p : Premise} {r : Rule} {ps : List Premise} {rules : List Rule} {numbers : List (Option ℕ)}
      → IsRule p r → Sorts (suc n) ps rules numbers → Sorts n (p ∷ ps) (r ∷ rules) (Some n ∷ numbers)
  keep : {n : ℕ} {p : Premise} {ps : List Premise} {rules : List Rule} {numbers : List (Option ℕ)}
      → IsKept p → Sorts n ps rules numbers → Sorts n (p ∷ ps) rules (None ∷ numbers)

-- the selection has every premise that is a rule as one, and keeps the others
abbrev pub Selects : Problem → Selection → Type 0
Selects p s = Sorts 0 p.premises s.rules s.rule_of

-- the selection with no rule, which keeps each premise
abbrev pub all_kept : Problem → Selection
all_kept p = record { rules = []; rule_of = map (λ premise. None) p.premises }

-- the selection keeps every premise
abbrev pub KeepsAll : Problem → Selection → Type 0
KeepsAll p s = s ≡ all_kept p

-- a selection of the problem, with its rules or without any
abbrev pub IsSelection : Problem → Selection → Type 0
IsSelection p s = Selects p s ⊎ KeepsAll p s

-- the numbers of the kept premises, in order, the first premise having the number n
abbrev pub kept_from : ℕ → List (Option ℕ) → List ℕ
kept_from n [] = []
kept_from n (None ∷ numbers) = n ∷ kept_from (suc n) numbers
kept_from n (Some k ∷ numbers) = kept_from (suc n) numbers

abbrev pub kept_numbers : Selection → List ℕ
kept_numbers s = kept_from 0 s.rule_of

-- the premises that have no rule, in order
abbrev pub kept_of : List Premise → List (Option ℕ) → List Premise
kept_of (p ∷ ps) (None ∷ numbers) = p ∷ kept_of ps numbers
kept_of (p ∷ ps) (Some k ∷ numbers) = kept_of ps numbers
kept_of _ _ = []

abbrev pub kept_premises : Problem → Selection → List Premise
kept_premises p s = kept_of p.premises s.rule_of
