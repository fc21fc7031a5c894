-- Bindings of metavariables, and trees under them.
use Rattle.std.specs.Prelude.{ℕ, ◌==◌, ◌&&◌, if◌then◌else◌, List, [], ◌∷◌}
use Rattle.zm_logic.specs.Tree.{Ty, Term}
use Rattle.zm_logic.specs.Same.{same_type}
use Rattle.unify.specs.Substitution.{Substitution, put_type, put_term}

-- a metavariable with the right side that it was given
pub data Binding : Type 0 where
  of_type : (number : ℕ) (to : Ty) → Binding
  of_term : (number : ℕ) (type : Ty) (to : Term) → Binding

-- one metavariable stands for a tree, and every other one for itself
abbrev pub only_type : ℕ → Ty → Substitution
only_type m u = record { type = λ n. if n == m then u else Ty.meta n; term = λ n t. Term.meta n t }

abbrev pub only_term : ℕ → Ty → Term → Substitution
only_term m k u =
    record { type = λ n. Ty.meta n; term = λ n t. if (n == m) && same_type t k then u else Term.meta n t }

-- a tree with all bindings put in. The latest binding stands first: its right side may hold what earlier ones bind, and
-- it binds what their right sides may hold.
abbrev pub solved_type : List Binding → Ty → Ty
solved_type [] t = t
solved_type (Binding.of_type m u ∷ bs) t = put_type (only_type m (solved_type bs u)) (solved_type bs t)
solved_type (Binding.of_term m k u ∷ bs) t = solved_type bs t

abbrev pub solved_term : List Binding → Term → Term
solved_term [] t = t
solved_term (Binding.of_type m u ∷ bs) t = put_term (only_type m (solved_type bs u)) (solved_term bs t)
solved_term (Binding.of_term m k u ∷ bs) t = put_term (only_term m k (solved_term bs u)) (solved_term bs t)

-- the bindings as one substitution
abbrev pub unifier : List Binding → Substitution
unifier bs = record { type = λ n. solved_type bs (Ty.meta n); term = λ n t. solved_term bs (Term.meta n t) }

-- what a side stands for at its head: while it is a bound metavariable, it is replaced by the right side as made
abbrev pub if_type_meta : ℕ → Ty → Ty → Ty
if_type_meta m u (Ty.meta n) = if n == m then u else Ty.meta n
if_type_meta m u (Ty.bound i) = Ty.bound i
if_type_meta m u (Ty.param n) = Ty.param n
if_type_meta m u (Ty.con c ts) = Ty.con c ts

abbrev pub if_term_meta : ℕ → Ty → Term → Term → Term
if_term_meta m k u (Term.meta n t) = if (n == m) && same_type t k then u else Term.meta n t
if_term_meta m k u (Term.bound i) = Term.bound i
if_term_meta m k u (Term.eps n t) = Term.eps n t
if_term_meta m k u (Term.app f ts us) = Term.app f ts us

abbrev pub head_type : List Binding → Ty → Ty
head_type [] t = t
head_type (Binding.of_type m u ∷ bs) t = if_type_meta m u (head_type bs t)
head_type (Binding.of_term m k u ∷ bs) t = head_type bs t

abbrev pub head_term : List Binding → Term → Term
head_term [] t = t
head_term (Binding.of_type m u ∷ bs) t = head_term bs t
head_term (Binding.of_term m k u ∷ bs) t = if_term_meta m k u (head_term bs t)
