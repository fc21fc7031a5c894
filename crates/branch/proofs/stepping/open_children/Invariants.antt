use Rattle.std.proofs.Common.{◌≡◌, map, take}
use Rattle.branch.specs.Ids.{child_ids}
use Rattle.branch.specs.Stepping.{open_leaves}
use Rattle.branch.proofs.stepping.open_children.Given as goal

abbrev pub invariant-loop-place : goal.invariant-loop-place
invariant-loop-place l = map child_ids l.children.items ≡ open_leaves (take l.place l.raw) (take l.place l.normal)
