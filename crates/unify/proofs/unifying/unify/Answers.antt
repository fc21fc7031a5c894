use Rattle.unify.proofs.Onward.{far_starts}
use Rattle.unify.proofs.unifying.unify.Goals as goal

pub bindings-init : goal.bindings-init
bindings-init c =
    far_starts c.args.store.now c.new-made.result.items c.new-known.result c.args.tasks.items c.new-made.ensures.items c.new-known.ensures.types c.new-known.ensures.terms
    c.requires.has c.requires.unmarked
