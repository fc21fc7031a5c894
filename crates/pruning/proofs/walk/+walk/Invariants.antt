use Rattle.std.proofs.Common.{◌≡◌, ◌+◌, map, take}
use Rattle.branch.specs.Ids.{node_ids, child_ids, children_of}
use Rattle.pruning.specs.Walked.{AreUsed}
use Rattle.pruning.proofs.Walked.{weight, weights}
use Rattle.pruning.proofs.walk.+walk.Given as goal

abbrev pub invariant-walk_children-loop-child : goal.invariant-walk_children-loop-child
invariant-walk_children-loop-child l = record {
  branch : l.branch ≡ l.initial.branch;
  used : AreUsed l.store l.branch (map child_ids (take l.child-index l.children)) l.used;
}

abbrev pub decreases-walk : goal.decreases-walk
decreases-walk l = weight (node_ids l.node.now)

abbrev pub decreases-walk_children : goal.decreases-walk_children
decreases-walk_children l = weights (children_of (map child_ids l.children.now))

abbrev pub decreases-walk_child : goal.decreases-walk_child
decreases-walk_child l = weight (child_ids l.child.now).node + 3

abbrev pub decreases-enter : goal.decreases-enter
decreases-enter l = weight (child_ids l.child.now).node + 2

abbrev pub decreases-walk_below : goal.decreases-walk_below
decreases-walk_below l = weight (child_ids l.child.now).node + 1
