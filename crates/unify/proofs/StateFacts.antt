-- What a state tells of the task that is taken.
use Rattle.std.proofs.Common.{◌≡◌, ◌<◌, List, [], ◌∷◌, ◌++◌, All, sym, subst}
use Rattle.std.proofs.lemmas.List.Elements.{All-head, All-tail}
use Rattle.zm_logic.specs.Tree.{Ty, Term}
use Rattle.zm_logic.specs.Measure.{type_depth}
use Rattle.term_store.specs.Trees.{Tables, HasType, type_of}
use Rattle.term_store.specs.declared.ids.TyId.{TyId}
use Rattle.unify.specs.Binding as trees
use Rattle.unify.specs.View.{HasBinding, binding_of, latest_on, latest}
use Rattle.unify.specs.Task.{HasSide, HasTask, IsState, IfStep}
use Rattle.unify.specs.declared.binding.Binding.{Binding}
use Rattle.unify.specs.declared.binding.Binding.TheVariants.{OfTerm, OfType}
use Rattle.unify.specs.declared.task.Task.{Task}
use Rattle.unify.specs.declared.task.Known.{Known}
use Rattle.unify.specs.declared.task.Step.{Step}
use Rattle.unify.specs.declared.task.Step.TheVariants as steps
use Rattle.unify.proofs.Closed.{RightSides, of_head_type}
use Rattle.unify.proofs.Waiting.{each_last}

pub task_has : (s : Tables) (made : List Binding) (known : Known) (rest : List Task) (task : Task) → IsState s made known (rest ++ task ∷ []) → HasTask s task
task_has s made known rest task l = (each_last (HasTask s) rest (task ∷ []) l.tasks).0

-- types in right sides are no deeper than those of the equations
abbrev Shallow : Ty → Type 0
Shallow t = type_depth t < 2000

abbrev Any : Term → Type 0
Any u = Unit {0}

sides_on : (s : Tables) (before : List trees.Binding) (made : List Binding) → RightSides Shallow Any before → All (HasBinding s) made → RightSides Shallow Any (latest_on s before made)
sides_on s before [] r h = r
sides_on s before (b ∷ bs) r h = sides_on s (binding_of s b ∷ before) bs (one b (All-head (HasBinding s) b bs h)) (All-tail (HasBinding s) b bs h)
  where
    one : (c : Binding) → HasBinding s c → RightSides Shallow Any (binding_of s c ∷ before)
    one (OfTerm m t u) k = (tt, r)
    one (OfType m t) k = (k.1, r)

pub head_side : (s : Tables) (made : List Binding) → All (HasBinding s) made → (i head : TyId) → HasSide s i → HasType s head
    → type_of s head ≡ trees.head_type (latest s made) (type_of s i) → HasSide s head
head_side s made h i head a b e =
    (b, subst Shallow (sym e) (of_head_type Shallow Any (latest s made) (sides_on s [] made tt h) (type_of s i) a.1))

-- what follows from what a step does
pub if_step : {P Q R S : Type 0} (F G : Binding → Type 0) (step : Step) → (P → Q) → ((b : Binding) → F b → G b) → (R → S) → IfStep P F R step → IfStep Q G S step
if_step F G steps.Goes f g h x = f x
if_step F G (steps.Binds b) f g h x = g b x
if_step F G steps.Clashes f g h x = h x
