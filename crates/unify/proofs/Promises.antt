-- The laws.
use Rattle.std.proofs.Common.{inl, inr, List, [], sym, ◌∙◌}
use Rattle.unify.specs.Substitution.{Substitution}
use Rattle.unify.specs.Equation.{SolvesAll}
use Rattle.unify.specs.Binding.{Binding, solved_type, solved_term, unifier}
use Rattle.unify.specs.Unification.{Unifies}
use Rattle.unify.specs.Laws as laws
use Rattle.unify.proofs.Solved.{agrees_type, agrees_term}
use Rattle.unify.proofs.General.{lawful_all, solved_all, most_general}
use Rattle.unify.proofs.Theorem.{mgu_or_none}
use Rattle.unify.proofs.Determined.{one_outcome, one_unifier}
use Rattle.unify.proofs.Dropped.{dropped, added}
use Rattle.unify.proofs.Parts.{made_parts}
use Rattle.unify.proofs.Unifier.{put_unifier_type, put_unifier_term, solves_all_solved, unifier_agrees}
use Rattle.unify.proofs.Forms.{parts_put, parts_solved, forms_or_none}

pub bindings_solve : laws.BindingsSolve
bindings_solve es made u = solved_all u tt

pub bindings_are_most_general : laws.BindingsAreMostGeneral
bindings_are_most_general es made u a z = most_general u tt a tt z

pub solutions_are_instances : laws.SolutionsAreInstances
solutions_are_instances es made u a z =
    let g = most_general u tt a tt z in (λ t. agrees_type a made g t, λ t. agrees_term a made g t)

pub bindings_or_no_solution : laws.BindingsOrNoSolution
bindings_or_no_solution es = elim (mgu_or_none es) [ inl r ↦ inl (r.0, r.1) | inr r ↦ inr r ]

pub bindings_where_solvable : laws.BindingsWhereSolvable
bindings_where_solvable es = (there, back)
  where
    there : ((made : List Binding) × Unifies [] es made) → ((a : Substitution) × SolvesAll a es)
    there u = (unifier u.0, solves_all_solved u.0 es (solved_all u.1 tt))

    back : ((a : Substitution) × SolvesAll a es) → ((made : List Binding) × Unifies [] es made)
    back s = elim (mgu_or_none es) [ inl r ↦ (r.0, r.1) | inr r ↦ absurd (r s.0 s.1) ]

pub bindings_are_determined : laws.BindingsAreDetermined
bindings_are_determined bs es made also u v = one_outcome u v

pub solved_equations_add_nothing : laws.SolvedEquationsAddNothing
solved_equations_add_nothing es bs e rest made u h =
    let l = lawful_all u tt in (added bs l made e rest h, dropped bs l made e rest h)

pub right_sides_are_parts : laws.RightSidesAreParts
right_sides_are_parts es made u = made_parts es u

pub solved_trees_are_solved : laws.SolvedTreesAreSolved
solved_trees_are_solved es made u =
    let g = unifier_agrees made (lawful_all u tt) in (
      λ t. sym (put_unifier_type made (solved_type made t)) ∙ agrees_type (unifier made) made g t ∙ put_unifier_type made t,
      λ t. sym (put_unifier_term made (solved_term made t)) ∙ agrees_term (unifier made) made g t ∙ put_unifier_term made t,
    )

pub forms_are_unified : laws.FormsAreUnified
forms_are_unified f g made u = parts_solved made u.1 (solved_all u.2 tt)

pub unifiers_of_forms_are_most_general : laws.UnifiersOfFormsAreMostGeneral
unifiers_of_forms_are_most_general f g made u a e = most_general u.2 tt a tt (parts_put a u.1 e)

pub unifier_of_forms_or_none : laws.UnifierOfFormsOrNone
unifier_of_forms_or_none f g h = forms_or_none f g h

pub unifiers_of_forms_are_determined : laws.UnifiersOfFormsAreDetermined
unifiers_of_forms_are_determined f g made also u v = one_unifier u v
