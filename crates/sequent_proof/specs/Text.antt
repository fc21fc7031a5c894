-- The printed text of a derivation: one line a rule, two spaces for each level. A conversion has no line and no level.
use Rattle.std.specs.Prelude.{ℕ, zero, suc, List, [], ◌++◌, Option, Some, None, codes}
use Rattle.sequent_proof.specs.Rules.{RuleName}
use Rattle.sequent_proof.specs.Tree.{DTree, DTrees}

-- the printed name of a rule; a conversion has none
abbrev pub label : RuleName → Option (List ℕ)
label RuleName.falsity = Some (codes "false")
label RuleName.not_truth = Some (codes "not-true")
label RuleName.closes = Some (codes "axiom")
label RuleName.reflexive = Some (codes "refl")
label RuleName.symmetric = Some (codes "sym")
label RuleName.not_not = Some (codes "not-not")
label RuleName.conjunction = Some (codes "and")
label RuleName.not_or = Some (codes "not-or")
label RuleName.not_implies = Some (codes "not-imp")
label RuleName.disjunction = Some (codes "or")
label RuleName.not_and = Some (codes "not-and")
label RuleName.implication = Some (codes "imp")
label RuleName.equivalence = Some (codes "iff")
label RuleName.not_iff = Some (codes "not-iff")
label RuleName.existential = Some (codes "exists")
label RuleName.not_for_all = Some (codes "not-forall")
label RuleName.universal = Some (codes "forall")
label RuleName.not_exists = Some (codes "not-exists")
label RuleName.equal_arguments = Some (codes "eq-pred")
label RuleName.equal_values = Some (codes "eq-fun")
label RuleName.transitive_first = Some (codes "eq-trans first")
label RuleName.transitive_second = Some (codes "eq-trans second")
label RuleName.conversion = None

-- two spaces for each level
abbrev pub indentation : ℕ → List ℕ
indentation zero = []
indentation (suc level) = codes "  " ++ indentation level

-- a name on a line of its own
abbrev pub line : ℕ → List ℕ → List ℕ
line level name = indentation level ++ (name ++ codes "\n")

-- what a node writes, and the level of its children
abbrev pub line_at : ℕ → Option (List ℕ) → List ℕ
line_at level (Some name) = line level name
line_at level None = []

abbrev pub level_above : ℕ → Option (List ℕ) → ℕ
level_above level (Some name) = suc level
level_above level None = level

-- the lines of a tree whose root stands at the level
abbrev mutual
  pub lines : ℕ → DTree → List ℕ
  lines level (DTree.node g name a b part ts) =
      line_at level (label name) ++ lines_of_all (level_above level (label name)) ts

  pub lines_of_all : ℕ → DTrees → List ℕ
  lines_of_all level DTrees.none = []
  lines_of_all level (DTrees.more t ts) = lines level t ++ lines_of_all level ts
