-- The first Open leaf replaced by a node.
use Rattle.std.specs.Prelude.{Bool, cond, List, [], ◌∷◌}
use Rattle.zm_logic.specs.Tree.{Form}
use Rattle.branch.specs.Branch.{extend}
use Rattle.branch.specs.Offers.{Child}
use Rattle.branch.specs.Tableau.{Node, Children, is_finished, skips}

-- the children as Skipped leaves, and as Open leaves
abbrev pub skipping : Children → Children
skipping Children.none = Children.none
skipping (Children.more r f n ns) = Children.more r f Node.skipped (skipping ns)

abbrev pub opening : List Child → Children
opening [] = Children.none
opening (c ∷ cs) = Children.more c.raw c.normal Node.opened (opening cs)

-- The node in the place of the first Open leaf. Where a child above it is idle then, and tableaux are pruned, the later
-- children are Skipped.
abbrev mutual
  pub replaced : Bool → List Form → Node → Node → Node
  replaced prunes b x (Node.step k t a ns) = Node.step k t a (replaced_in prunes b x ns)
  replaced prunes b x (Node.closed c) = Node.closed c
  replaced prunes b x Node.opened = x
  replaced prunes b x Node.skipped = Node.skipped

  pub replaced_in : Bool → List Form → Node → Children → Children
  replaced_in prunes b x Children.none = Children.none
  replaced_in prunes b x (Children.more r f n ns) =
      cond (is_finished n) (Children.more r f n (replaced_in prunes b x ns))
      (Children.more r f (replaced prunes (extend b f) x n)
      (cond (skips prunes b f (replaced prunes (extend b f) x n)) (skipping ns) ns))
