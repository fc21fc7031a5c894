use Rattle.std.proofs.Common.{subst}
use Rattle.branch.specs.Ids.{node_ids}
use Rattle.branch.specs.Path.{next, IsAdded}
use Rattle.branch.proofs.Places.{added_found, added_nothing}
use Rattle.branch.proofs.next.next_path.Goals as goal

pub returns-then-branch : goal.returns-then-branch
returns-then-branch c =
    let m = next c.args.path.now (node_ids c.args.node.now) in
    added_found c.new-found.result c.add_next.new.found m c.new-found.ensures
    (subst (λ b. IsAdded c.new-found.result c.add_next.new.found m b) c.if-branch.true c.in_ok-add_next.ensures)

pub returns-else-branch : goal.returns-else-branch
returns-else-branch c =
    let m = next c.args.path.now (node_ids c.args.node.now) in
    added_nothing c.new-found.result c.add_next.new.found m
    (subst (λ b. IsAdded c.new-found.result c.add_next.new.found m b) c.if-branch.false c.in_ok-add_next.ensures)
