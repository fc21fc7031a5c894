use Rattle.zm_logic.specs.Tree.{Form}
use Rattle.zm_logic.specs.View.{form_tree}
use Rattle.branch.specs.Roots.{premise_forms}
use Rattle.branch.proofs.Begun.{root_added}
use Rattle.branch.proofs.start.roots_of.Goals as goal

pub returns : goal.returns
returns c =
    let made = c.in_ok-id.ensures in
    root_added c.premise_roots.new.store c.denied.new.store made.kept (premise_forms c.args.premises.now) c.in_ok-roots.roots c.push.new.self
    (Form.negation (form_tree c.args.conjecture.now)) c.rooted.result c.in_ok-id.id c.in_ok-roots.ensures made.has made.tree c.rooted.ensures
    c.in_ok-push.ensures.ok
