use Rattle.std.proofs.Common.{◌≡◌, ◌≢◌, List, [], ◌∷◌, ◌++◌, ap, sym, subst, ◌∙◌}
use Rattle.term_store.specs.Trees.{term_of}
use Rattle.unify.specs.Binding as trees
use Rattle.unify.specs.Substitution.{Substitution, put_term}
use Rattle.unify.specs.Unification.{Unifies}
use Rattle.unify.specs.Task.{equations}
use Rattle.unify.specs.declared.task.Task.{Task}
use Rattle.unify.specs.declared.task.Task.TheVariants.{Terms}
use Rattle.unify.proofs.Finish.{none_for_terms}
use Rattle.unify.proofs.Listed.{if_none}
use Rattle.unify.proofs.most_general.mgu_terms.Goals as goal

pub returns-clause-none : goal.returns-clause-none
returns-clause-none c =
    let s = c.args.store.now in let f = term_of s c.args.left in let g = term_of s c.args.right in
    let tasks = c.push.new.self.items in
    let is : tasks ≡ Terms c.args.left c.args.right ∷ [] = c.in_ok-push.ensures.items ∙ ap (λ (ts : List Task). ts ++ Terms c.args.left c.args.right ∷ []) c.new-tasks.ensures.items in
    if_none ((made : List trees.Binding) → Unifies [] (equations s tasks) made → ⊥) ((a : Substitution) → put_term a f ≢ put_term a g)
    (λ h. none_for_terms f g (λ made u. h made (subst (λ (ts : List Task). Unifies [] (equations s ts) made) (sym is) u))) c.bindings_of.result c.bindings_of.ensures.none
