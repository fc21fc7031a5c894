-- Derivations as trees. A node's sequent is what it adds and the sequent below it; the sequent below the root is empty.
use Rattle.std.specs.Prelude.{ℕ, ◌+◌, ◌<◌, ◌≤◌, ◌≡◌, true, max, List, [], ◌∷◌, ◌++◌, length, Option, All}
use Rattle.zm_logic.specs.Tree.{Form, Rule, Symbol, Opening}
use Rattle.zm_logic.specs.Index.{side_has}
use Rattle.zm_logic.specs.Typing.{WellTyped}
use Rattle.zm_logic.specs.Problem.{IsTypedRule}
use Rattle.sequent_proof.specs.Rules.{RuleName, Applies}

-- a rule's name, the formulas that it acts on, the part that a quantifier's variable becomes, and the upper sequents' trees
mutual
  pub data DTree : Type 0 where
    node : (added : List Form) (name : RuleName) (first : Form) (second : Option Form) (part : Option Opening)
        (children : DTrees) → DTree

  pub data DTrees : Type 0 where
    none : DTrees
    more : DTree → DTrees → DTrees

-- what the node adds: at the root, the sequent that is derived
abbrev pub added : DTree → List Form
added (DTree.node g name a b part ts) = g

-- the greatest number of nodes from the root to a leaf
abbrev mutual
  pub depth : DTree → ℕ
  depth (DTree.node g name a b part ts) = 1 + depth_all ts

  pub depth_all : DTrees → ℕ
  depth_all DTrees.none = 0
  depth_all (DTrees.more t ts) = max (depth t) (depth_all ts)

module _ (symbols : List Symbol) (rules : List Rule) where
  -- the tree is a derivation above a sequent: every formula is well typed, the rule applies, and so it is for each child,
  -- which adds what the rule says
  abbrev mutual
    pub IsDerivation : List Form → DTree → Type 0
    IsDerivation below (DTree.node g name a b part ts) =
        All (WellTyped symbols) (g ++ below)
        × ((upper : List (List Form)) × Applies symbols rules (g ++ below) name a b part upper × AreAbove (g ++ below) upper ts)

    pub AreAbove : List Form → List (List Form) → DTrees → Type 0
    AreAbove gamma [] DTrees.none = Unit {0}
    AreAbove gamma (fs ∷ upper) (DTrees.more t ts) = (added t ≡ fs) × IsDerivation gamma t × AreAbove gamma upper ts
    AreAbove gamma [] (DTrees.more t ts) = ⊥
    AreAbove gamma (fs ∷ upper) DTrees.none = ⊥

  -- under its binders the rule has two well typed sides of one type, and each binder occurs in the left side
  pub record IsProofRule (r : Rule) : Type 0 where
    pub typed : IsTypedRule symbols r
    pub bound : (i : ℕ) → i < length r.binders → side_has i r.left ≡ true

  -- what a derivation keeps
  pub record IsKept (tree : DTree) : Type 0 where
    pub rules_are_typed : All IsProofRule rules
    pub derives : IsDerivation [] tree
    pub shallow : depth tree ≤ 4294967295
