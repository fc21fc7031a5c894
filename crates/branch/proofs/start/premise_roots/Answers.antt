use Rattle.std.proofs.Common.{◌≤◌, [], ap, sym, subst, ◌∙◌}
use Rattle.zm_logic.specs.Measure.{depth}
use Rattle.zm_logic.specs.View.{form_tree}
use Rattle.zm_logic.specs.declared.problem.Premise.{Premise}
use Rattle.branch.specs.Roots.{AreRoots}
use Rattle.branch.proofs.Begun.{no_roots, premise_added}
use Rattle.branch.proofs.start.premise_roots.Goals as goal

pub loop-premise-init : goal.loop-premise-init
loop-premise-init c = subst (AreRoots c.args.store.now []) (sym c.new-roots.ensures) (no_roots c.args.store.now)

pub entered-requires : goal.entered-requires
entered-requires c =
    subst (λ (p : Premise). depth (form_tree p.form) ≤ 1500) (sym c.premise-item.is)
    (c.requires c.loop-premise.premise-index c.premise-item.result c.loop-premise-test.true)

pub loop-premise-preserved : goal.loop-premise-preserved
loop-premise-preserved c =
    let made = c.in_ok-id.ensures in
    let here = made.tree ∙ ap (λ (p : Premise). form_tree p.form) c.premise-item.is in
    premise_added c.loop-premise.store c.entered.new.store made.kept c.args.premises.now c.loop-premise.premise-index c.premise-item.result
    c.loop-premise.roots c.push.new.self c.rooted.result c.in_ok-id.id c.loop-premise-test.true c.loop-premise.invariant made.has here c.rooted.ensures
    c.in_ok-push.ensures.ok
