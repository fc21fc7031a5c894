-- How many leaves of a tableau are Open.
use Rattle.std.specs.Prelude.{ℕ, ◌+◌}
use Rattle.branch.specs.Tableau.{Node, Children}

abbrev mutual
  pub open_leaves : Node → ℕ
  open_leaves (Node.step k t a ns) = open_leaves_of ns
  open_leaves (Node.closed c) = 0
  open_leaves Node.opened = 1
  open_leaves Node.skipped = 0

  pub open_leaves_of : Children → ℕ
  open_leaves_of Children.none = 0
  open_leaves_of (Children.more r f n ns) = open_leaves n + open_leaves_of ns
