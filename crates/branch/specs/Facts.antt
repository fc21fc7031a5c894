-- A fact of every branch of a tree that is entered, with the table and the Steps above there.
use Rattle.std.specs.Prelude.{List, ◌∷◌}
use Rattle.zm_logic.specs.Tree.{Form}
use Rattle.branch.specs.Branch.{extend}
use Rattle.branch.specs.Tableau.{Node, Children, enter_child, after}
use Rattle.branch.specs.Introduced.{Above}

module _ (P : List Form → List Above → List Form → Type 0) where
  -- P of the table, the Steps above and the branch, at the node and at each node below it
  abbrev mutual
    pub EachBranch : List Form → List Above → List Form → Node → Type 0
    EachBranch t above b (Node.step k c a ns) = P t above b × EachBelow t (record { kind = c; act = a } ∷ above) b ns
    EachBranch t above b (Node.closed c) = P t above b
    EachBranch t above b Node.opened = P t above b
    EachBranch t above b Node.skipped = Unit {0}

    pub EachBelow : List Form → List Above → List Form → Children → Type 0
    EachBelow t above b Children.none = Unit {0}
    EachBelow t above b (Children.more r f n ns) =
        EachBranch (enter_child t f n) above (extend b f) n × EachBelow (after (enter_child t f n) n) above b ns
