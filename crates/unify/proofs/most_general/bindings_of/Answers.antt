use Rattle.std.proofs.Common.{List, [], sym, subst}
use Rattle.unify.specs.Unification.{Unifies}
use Rattle.unify.specs.Lawful.{AreLawful}
use Rattle.unify.specs.View.{latest}
use Rattle.unify.specs.Task.{equations}
use Rattle.unify.specs.declared.binding.Binding.{Binding}
use Rattle.unify.proofs.General.{lawful_all}
use Rattle.unify.proofs.Whole.{some_of}
use Rattle.unify.proofs.most_general.bindings_of.Goals as goal

pub solved_bindings-requires-clause-lawful : goal.solved_bindings-requires-clause-lawful
solved_bindings-requires-clause-lawful c =
    let s = c.args.store.now in
    let u = some_of (λ made. Unifies [] (equations s c.args.tasks.items) (latest s made.items)) c.in_ok-made.field-0 _ c.in-Some.is c.in_ok-made.ensures.some in
    subst (λ (bs : List Binding). AreLawful (latest s bs)) (sym c.deref.ensures.value) (lawful_all u tt)
