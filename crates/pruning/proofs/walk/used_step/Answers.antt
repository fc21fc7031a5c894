use Rattle.pruning.proofs.Walked.{step_walked}
use Rattle.pruning.proofs.walk.used_step.Goals as goal

pub returns : goal.returns
returns c = λ pick kind b cs all.
    step_walked c.args.store.now b pick kind c.args.act cs c.args.used (record { tree = c.in_ok-tree.tree; uses = c.in_ok-uses.uses }) c.requires.act
    c.in_ok-tree.ensures c.in_ok-uses.ensures all
