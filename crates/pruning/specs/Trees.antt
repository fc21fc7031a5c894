-- The derivation of a closed tableau.
use Rattle.std.specs.Prelude.{cond, List, [], ◌∷◌, Option, None, Some}
use Rattle.zm_logic.specs.Tree.{Form}
use Rattle.zm_logic.specs.Same.{same}
use Rattle.branch.specs.Branch.{extend}
use Rattle.branch.specs.Tableau.{Node, Children, uses, is_idle}
use Rattle.sequent_proof.specs.Rules.{RuleName}
use Rattle.sequent_proof.specs.Tree.{DTree, DTrees}
use Rattle.pruning.specs.Steps.{step_rule, closing_rule}

-- From formulas to their normal forms: a conversion for each formula that isn't its own normal form, in order. Each adds the
-- normal form to the sequent. Above the last one stands the tree that is given for what this one adds.
abbrev pub converted : List Form → List Form → List Form → (List Form → DTree) → DTree
converted added (x ∷ raw) (y ∷ normal) above =
    cond (same x y) (converted added raw normal above)
    (DTree.node added RuleName.conversion x (Some y) None (DTrees.more (converted (y ∷ []) raw normal above) DTrees.none))
converted added _ _ above = above added

abbrev pub or_else : Option DTree → DTree → DTree
or_else None t = t
or_else (Some u) t = u

-- The tree of a node on a branch, whose root adds the given formulas. A Step and a Closed leaf are a rule each, but a Step
-- with an idle child isn't used: the tree of the first such child stands in its place. A tableau without an Open leaf
-- asks for no tree of an Open or a Skipped leaf.
abbrev mutual
  pub derivation_tree : (branch added : List Form) → Node → DTree
  derivation_tree b g (Node.step k t a ns) =
      or_else (idle_tree b g ns) (DTree.node g (step_rule a) a.first a.second a.part (derivation_trees b ns))
  derivation_tree b g (Node.closed c) = DTree.node g (closing_rule c) c.first c.second None DTrees.none
  derivation_tree b g Node.opened = DTree.node g RuleName.falsity Form.falsity None None DTrees.none
  derivation_tree b g Node.skipped = DTree.node g RuleName.falsity Form.falsity None None DTrees.none

  -- the tree of the first child that uses none of its new formulas, if there is one
  pub idle_tree : (branch added : List Form) → Children → Option DTree
  idle_tree b g Children.none = None
  idle_tree b g (Children.more r f n ns) =
      cond (is_idle b f n (uses (extend b f) n)) (Some (derivation_tree (extend b f) g n)) (idle_tree b g ns)

  -- each child adds its formulas before normalising
  pub derivation_trees : (branch : List Form) → Children → DTrees
  derivation_trees b Children.none = DTrees.none
  derivation_trees b (Children.more r f n ns) =
      DTrees.more (converted r r f (λ g. derivation_tree (extend b f) g n)) (derivation_trees b ns)

-- The tree of a tableau that was begun from given formulas with these normal forms. Its root adds the given formulas.
abbrev pub tableau_derivation : (given normal : List Form) → Node → DTree
tableau_derivation given normal tree = converted given given normal (λ g. derivation_tree (extend [] normal) g tree)
