use Rattle.std.proofs.Common.{◌≢◌, List, []}
use Rattle.term_store.specs.Trees.{form_of}
use Rattle.unify.specs.Binding as trees
use Rattle.unify.specs.Substitution.{Substitution, put_form}
use Rattle.unify.specs.Unification.{Unifies}
use Rattle.unify.specs.Task.{equations}
use Rattle.unify.proofs.Finish.{none_without_parts, none_for_parts}
use Rattle.unify.proofs.FormSteps.{if_found, if_missed}
use Rattle.unify.proofs.Listed.{if_none}
use Rattle.unify.proofs.most_general.mgu.Goals as goal

pub returns-then-not-branch-clause-none : goal.returns-then-not-branch-clause-none
returns-then-not-branch-clause-none c =
    let s = c.args.store.now in
    none_without_parts (form_of s c.args.left) (form_of s c.args.right) c.requires.alike (if_missed _ _ c.in_ok-push_form_parts.field-0 c.if-not-branch.true c.in_ok-push_form_parts.ensures.parts)

pub returns-clause-none : goal.returns-clause-none
returns-clause-none c =
    let s = c.args.store.now in let f = form_of s c.args.left in let g = form_of s c.args.right in
    let es = equations s c.push_form_parts.new.tasks.items in
    let pushed = if_found _ _ c.in_ok-push_form_parts.field-0 c.if-not-branch.false c.in_ok-push_form_parts.ensures.parts in
    if_none ((made : List trees.Binding) → Unifies [] es made → ⊥) ((a : Substitution) → put_form a f ≢ put_form a g)
    (λ h. none_for_parts f g es pushed.0 h) c.bindings_of.result c.bindings_of.ensures.none
