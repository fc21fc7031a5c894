-- The variables in scope. The variable under n binders has the number n, and is the parameter of that number:
-- a type variable the type parameter, any other the epsilon term that carries its type.
use Rattle.std.specs.Prelude.{ℕ, ◌==◌, if◌then◌else◌, ◌≡◌, bytes_eq, Option, Some, None, List, [], ◌∷◌, length}
use Rattle.zm_logic.specs.Tree.{Binder}
use Rattle.zm_logic.specs.Parameter.{Parameter}
use Rattle.tptp_reader.specs.Raw.{Name}

pub record Variable : Type 0 where
  pub name : Name
  pub binder : Binder

-- the innermost first
abbrev pub Scope : Type 0
Scope = List Variable

pub record Bound : Type 0 where
  pub number : ℕ
  pub binder : Binder

-- what the innermost variable of the name is, None where none is bound
abbrev pub look_up : Scope → Name → Option Bound
look_up [] x = None
look_up (v ∷ vs) x = if bytes_eq v.name x then Some (record { number = length vs; binder = v.binder }) else look_up vs x

-- the binder of a number
abbrev pub binder_of : Scope → ℕ → Option Binder
binder_of [] n = None
binder_of (v ∷ vs) n = if n == length vs then Some v.binder else binder_of vs n

-- the parameter is a variable in scope
abbrev pub IsInScope : Scope → Parameter → Type 0
IsInScope s (Parameter.type_param n) = binder_of s n ≡ Some Binder.of_type
IsInScope s (Parameter.type_meta n) = ⊥
IsInScope s (Parameter.eps n t) = binder_of s n ≡ Some (Binder.of_term t)
IsInScope s (Parameter.meta n t) = ⊥
