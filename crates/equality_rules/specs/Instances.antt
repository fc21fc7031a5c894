-- Instances: what bindings put into quantified formulas.
use Rattle.std.specs.Prelude.{cond, List, [], ◌∷◌, ◌++◌, Option, None, Some, map, reverse, slice_get}
use Rattle.zm_logic.specs.Tree.{Form, Opening, Symbol}
use Rattle.param_store.specs.RawOffers.{Quantified, Raw, quantified, opened}
use Rattle.unify.specs.Binding.{Binding}
use Rattle.unify.specs.Answer.{solved_binding}
use Rattle.equality_rules.specs.Typed.{has_type}

-- the formula of a metavariable's number, opened with what the metavariable is bound to
abbrev pub opened_where : Form → Option Quantified → Opening → List Raw
opened_where f None w = []
opened_where f (Some q) w = opened f q w ∷ []

abbrev pub instance_of : Option Form → Opening → List Raw
instance_of None w = []
instance_of (Some f) w = opened_where f (quantified f) w

module _ (symbols : List Symbol) (table : List Form) where
  -- A binding of a type always gives an instance, and a binding of a term only where the term has the metavariable's type.
  abbrev pub instance : Binding → List Raw
  instance (Binding.of_type m u) = instance_of (slice_get table m) (Opening.of_type u)
  instance (Binding.of_term m t u) = cond (has_type symbols u t) (instance_of (slice_get table m) (Opening.of_term u)) []

  -- the instances of bindings, in their order
  abbrev pub instances : List Binding → List Raw
  instances [] = []
  instances (b ∷ bs) = instance b ++ instances bs

-- bindings in the order in which they were made, each with all of them put into its right side. As they are given, the
-- latest stands first.
abbrev pub in_order : List Binding → List Binding
in_order made = map (solved_binding made) (reverse made)

-- the instances of the unifier that makes two trees one, and none where nothing makes them one
pub data InstancesOf (symbols : List Symbol) (table : List Form) (Unifies : List Binding → Type 0) (Differ : Type 0) : List Raw → Type 0 where
  unified : (made : List Binding) → Unifies made → InstancesOf symbols table Unifies Differ (instances symbols table (in_order made))
  apart : Differ → InstancesOf symbols table Unifies Differ []
