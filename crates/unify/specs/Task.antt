-- Tasks: the equations that are still to be solved, the last one first, with marks between.
use Rattle.std.specs.Prelude.{ℕ, ◌≡◌, ◌+◌, ◌<◌, ◌≤◌, length, ◌&&◌, nat_eq, Bool, true, List, [], ◌∷◌, ◌++◌, All}
use Rattle.indexmap.specs.IndexSet.{contains}
use Rattle.zm_logic.specs.Tree.{Ty, Tys, Term, Terms}
use Rattle.zm_logic.specs.Measure.{type_depth, term_depth}
use Rattle.term_store.specs.Node.{types_at, terms_at, TypesBelow, TermsBelow}
use Rattle.term_store.specs.Trees.{Tables, all_trees, HasType, HasTerm, type_of, term_of}
use Rattle.term_store.specs.declared.ids.TyId.{TyId}
use Rattle.term_store.specs.declared.ids.TermId.{TermId}
use Rattle.unify.specs.Substitution.{Substitution}
use Rattle.unify.specs.Equation.{Equation, Solves, TypeParts, TermParts}
use Rattle.unify.specs.Binding as trees
use Rattle.unify.specs.Solution.{Agrees}
use Rattle.unify.specs.Unification.{Unifies}
use Rattle.unify.specs.Lawful.{AreLawful}
use Rattle.unify.specs.Weight.{type_weight, term_weight}
use Rattle.unify.specs.Metas.{unbound}
use Rattle.unify.specs.Pending.{Each, IsMarked}
use Rattle.unify.specs.View.{HasBinding, latest}
use Rattle.unify.specs.declared.binding.Binding.{Binding}
use Rattle.unify.specs.declared.task.Task.{Task}
use Rattle.unify.specs.declared.task.Task.TheVariants as tasks
use Rattle.unify.specs.declared.task.Step.{Step}
use Rattle.unify.specs.declared.task.Step.TheVariants as steps
use Rattle.unify.specs.declared.task.Pair.{Pair}
use Rattle.unify.specs.declared.task.Known.{Known}

-- the tasks for two lists of one length, the first pair last
abbrev pub type_tasks : List TyId → List TyId → List Task
type_tasks [] js = []
type_tasks (i ∷ is) [] = []
type_tasks (i ∷ is) (j ∷ js) = type_tasks is js ++ tasks.Types i j ∷ []

abbrev pub term_tasks : List TermId → List TermId → List Task
term_tasks [] js = []
term_tasks (i ∷ is) [] = []
term_tasks (i ∷ is) (j ∷ js) = term_tasks is js ++ tasks.Terms i j ∷ []

-- the parts of two trees are added, types to be taken before terms
pub record PushesParts (is js : List TyId) (us vs : List TermId) (old new : List Task) : Type 0 where
  pub types : length is ≡ length js
  pub terms : length us ≡ length vs
  pub grown : new ≡ old ++ (term_tasks us vs ++ type_tasks is js)

-- the marks
abbrev pub marks : List Task → ℕ
marks [] = 0
marks (tasks.Types i j ∷ ts) = marks ts
marks (tasks.Terms i j ∷ ts) = marks ts
marks (tasks.TypesDone i j ∷ ts) = 1 + marks ts
marks (tasks.TermsDone i j ∷ ts) = 1 + marks ts

-- the weight of equations under bindings
abbrev pub weight : List trees.Binding → Equation → ℕ
weight bs (Equation.of_types s t) = type_weight (trees.solved_type bs s) + type_weight (trees.solved_type bs t)
weight bs (Equation.of_terms s t) = term_weight (trees.solved_term bs s) + term_weight (trees.solved_term bs t)

abbrev pub weights : List trees.Binding → List Equation → ℕ
weights bs [] = 0
weights bs (e ∷ es) = weight bs e + weights bs es

-- one pair of places
abbrev pub same_pair : Pair → Pair → Bool
same_pair p q = nat_eq p.left q.left && nat_eq p.right q.right

module _ (s : Tables) where
  -- a type of the store that may be the type of a metavariable there
  abbrev pub HasSide : TyId → Type 0
  HasSide i = HasType s i × (type_depth (type_of s i) < 2000)

  abbrev pub HasTask : Task → Type 0
  HasTask (tasks.Types i j) = HasSide i × HasSide j
  HasTask (tasks.Terms i j) = HasTerm s i × HasTerm s j
  HasTask (tasks.TypesDone i j) = HasType s i × HasType s j
  HasTask (tasks.TermsDone i j) = HasTerm s i × HasTerm s j

  -- the equations of tasks, before others
  abbrev pub pending : List Equation → List Task → List Equation
  pending es [] = es
  pending es (tasks.Types i j ∷ ts) = pending (Equation.of_types (type_of s i) (type_of s j) ∷ es) ts
  pending es (tasks.Terms i j ∷ ts) = pending (Equation.of_terms (term_of s i) (term_of s j) ∷ es) ts
  pending es (tasks.TypesDone i j ∷ ts) = pending es ts
  pending es (tasks.TermsDone i j ∷ ts) = pending es ts

  abbrev pub equations : List Task → List Equation
  equations ts = pending [] ts

  module _ (bs : List trees.Binding) where
    -- what a task asks of a substitution that solves the bindings, and what a mark gives
    abbrev pub AsksTask : ((a : Substitution) × Agrees a bs) → Task → Type 0
    AsksTask a (tasks.Types i j) = Solves a.0 (Equation.of_types (type_of s i) (type_of s j))
    AsksTask a (tasks.Terms i j) = Solves a.0 (Equation.of_terms (term_of s i) (term_of s j))
    AsksTask a (tasks.TypesDone i j) = Unit {0}
    AsksTask a (tasks.TermsDone i j) = Unit {0}

    abbrev pub GivesTask : ((a : Substitution) × Agrees a bs) → Task → Type 0
    GivesTask a (tasks.Types i j) = Unit {0}
    GivesTask a (tasks.Terms i j) = Unit {0}
    GivesTask a (tasks.TypesDone i j) = Solves a.0 (Equation.of_types (type_of s i) (type_of s j))
    GivesTask a (tasks.TermsDone i j) = Solves a.0 (Equation.of_terms (term_of s i) (term_of s j))

    -- the pairs that are known are equal under the bindings
    pub record Knows (known : Known) : Type 0 where
      pub types : (p : Pair) → contains same_pair known.types p ≡ true
          → trees.solved_type bs (type_of s (record { 0 = p.left })) ≡ trees.solved_type bs (type_of s (record { 0 = p.right }))
      pub terms : (p : Pair) → contains same_pair known.terms p ≡ true
          → trees.solved_term bs (term_of s (record { 0 = p.left })) ≡ trees.solved_term bs (term_of s (record { 0 = p.right }))

    -- the work that is left while no binding is made
    abbrev pub load : List Task → ℕ
    load ts = weights bs (equations ts) + marks ts

  -- bindings made, pairs known, and tasks left
  pub record IsState (made : List Binding) (pairs : Known) (waiting : List Task) : Type 0 where
    pub have : All (HasBinding s) made
    pub lawful : AreLawful (latest s made)
    pub known : Knows (latest s made) pairs
    pub tasks : Each HasTask waiting
    pub marked : IsMarked (AsksTask (latest s made)) (GivesTask (latest s made)) waiting

-- two types with one constructor give way to their arguments
pub record SplitsTypes (s : Tables) (left right : TyId) (old new : List Task) : Type 0 where
  pub symbol : ℕ
  pub left_parts : List TyId
  pub right_parts : List TyId
  pub left_is : type_of s left ≡ Ty.con symbol (types_at (all_trees s).types left_parts)
  pub right_is : type_of s right ≡ Ty.con symbol (types_at (all_trees s).types right_parts)
  pub left_below : TypesBelow (length s.types) left_parts
  pub right_below : TypesBelow (length s.types) right_parts
  pub lengths : length left_parts ≡ length right_parts
  pub grown : new ≡ old ++ (tasks.TypesDone left right ∷ type_tasks left_parts right_parts)

-- they have no parts in common
abbrev pub TypesDiffer : Tables → TyId → TyId → Type 0
TypesDiffer s left right =
    (c : ℕ) (ss ts : Tys) (rest all : List Equation) → type_of s left ≡ Ty.con c ss → type_of s right ≡ Ty.con c ts → TypeParts ss ts rest all → ⊥

-- two terms with one function give way to their arguments
pub record SplitsTerms (s : Tables) (left right : TermId) (old new : List Task) : Type 0 where
  pub symbol : ℕ
  pub left_types : List TyId
  pub right_types : List TyId
  pub left_parts : List TermId
  pub right_parts : List TermId
  pub left_is : term_of s left ≡ Term.app symbol (types_at (all_trees s).types left_types) (terms_at (all_trees s).terms left_parts)
  pub right_is : term_of s right ≡ Term.app symbol (types_at (all_trees s).types right_types) (terms_at (all_trees s).terms right_parts)
  pub left_types_below : TypesBelow (length s.types) left_types
  pub right_types_below : TypesBelow (length s.types) right_types
  pub left_below : TermsBelow (length s.terms) left_parts
  pub right_below : TermsBelow (length s.terms) right_parts
  pub left_bounded : term_depth (term_of s left) ≤ 2000
  pub right_bounded : term_depth (term_of s right) ≤ 2000
  pub parts : PushesParts left_types right_types left_parts right_parts (old ++ tasks.TermsDone left right ∷ []) new

abbrev pub TermsDiffer : Tables → TermId → TermId → Type 0
TermsDiffer s left right =
    (f : ℕ) (ss ts : Tys) (us vs : Terms) (rest middle all : List Equation)
    → term_of s left ≡ Term.app f ss us → term_of s right ≡ Term.app f ts vs → TermParts us vs rest middle → TypeParts ss ts middle all → ⊥

-- the equations of both have the same outcome
pub record SameOutcome (bs : List trees.Binding) (es : List Equation) (cs : List trees.Binding) (ds : List Equation) : Type 0 where
  pub there : (made : List trees.Binding) → Unifies bs es made → Unifies cs ds made
  pub back : (made : List trees.Binding) → Unifies cs ds made → Unifies bs es made

module _ (s : Tables) (made : List Binding) where
  -- tasks give way to others
  pub record GivesWay (before : List Task) (known : Known) (after : List Task) : Type 0 where
    pub state : IsState s made known after
    pub outcome : SameOutcome (latest s made) (equations s before) (latest s made) (equations s after)
    pub lighter : load s (latest s made) after < load s (latest s made) before
    pub fewer : unbound (latest s made) (equations s after) < unbound (latest s made) (equations s before) + 1

  -- tasks make a binding
  pub record MakesBinding (before : List Task) (binding : Binding) (known : Known) (after : List Task) : Type 0 where
    pub state : IsState s (made ++ binding ∷ []) known after
    pub outcome : SameOutcome (latest s made) (equations s before) (latest s (made ++ binding ∷ [])) (equations s after)
    pub fewer : unbound (latest s (made ++ binding ∷ [])) (equations s after) < unbound (latest s made) (equations s before)

  -- tasks can't be done
  abbrev pub Clash : List Task → Type 0
  Clash before = (all : List trees.Binding) → Unifies (latest s made) (equations s before) all → ⊥

-- what holds where a step goes on, where it makes a binding, and where it can't be made
abbrev pub IfStep : Type 0 → (Binding → Type 0) → Type 0 → Step → Type 0
IfStep P Q R steps.Goes = P
IfStep P Q R (steps.Binds b) = Q b
IfStep P Q R steps.Clashes = R
