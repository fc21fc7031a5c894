-- The answer, one binding further, and from the bindings to the calls.
use Rattle.std.proofs.Common.{◌≡◌, ◌≢◌, List, [], ◌∷◌, ◌++◌, map, reverse, inl, inr, ap, sym, ◌∙◌, append-nil, append_assoc}
use Rattle.std.proofs.lemmas.List.{reverse-append}
use Rattle.zm_logic.specs.Tree.{Term, Form}
use Rattle.term_store.specs.Trees.{Tables}
use Rattle.unify.specs.Substitution.{Substitution, put_form, put_term}
use Rattle.unify.specs.Equation.{Equation, SolvesAll, FormParts}
use Rattle.unify.specs.Binding as trees
use Rattle.unify.specs.Unification.{Unifies, AreAtomsOrEqualities}
use Rattle.unify.specs.View.{binding_of, latest_on, latest}
use Rattle.unify.specs.declared.binding.Binding.{Binding}
use Rattle.unify.proofs.Theorem.{mgu_or_none}
use Rattle.unify.proofs.Forms.{parts_put, forms_or_none}

-- the bindings in the order in which they were made
reverse_more : (x : trees.Binding) (xs : List trees.Binding) → reverse (x ∷ xs) ≡ reverse xs ++ (x ∷ [])
reverse_more x xs = reverse-append (x ∷ []) xs

in_order_on : (s : Tables) (before : List trees.Binding) (made : List Binding) → reverse (latest_on s before made) ≡ reverse before ++ map (binding_of s) made
in_order_on s before [] = sym (append-nil (reverse before))
in_order_on s before (b ∷ bs) =
    in_order_on s (binding_of s b ∷ before) bs
    ∙ ap (λ xs. xs ++ map (binding_of s) bs) (reverse_more (binding_of s b) before)
    ∙ append_assoc (reverse before) (binding_of s b ∷ []) (map (binding_of s) bs)

pub in_order : (s : Tables) (made : List Binding) → reverse (latest s made) ≡ map (binding_of s) made
in_order s made = in_order_on s [] made

-- no bindings for the equations: no substitution solves them
pub none_solves : (es : List Equation) → ((made : List trees.Binding) → Unifies [] es made → ⊥) → (a : Substitution) → SolvesAll a es → ⊥
none_solves es h a z = elim (mgu_or_none es) [ inl r ↦ absurd (h r.0 r.1) | inr r ↦ r a z ]

-- no parts, or no bindings for the parts: no substitution makes the formulas one
pub none_for_parts : (f g : Form) (es : List Equation) → FormParts f g es → ((made : List trees.Binding) → Unifies [] es made → ⊥)
    → (a : Substitution) → put_form a f ≢ put_form a g
none_for_parts f g es p h a e = none_solves es h a (parts_put a p e)

pub none_without_parts : (f g : Form) → AreAtomsOrEqualities f g → ((es : List Equation) → FormParts f g es → ⊥) → (a : Substitution) → put_form a f ≢ put_form a g
none_without_parts f g alike h a e = elim (forms_or_none f g alike) [ inl r ↦ absurd (h r.1.0 r.1.1) | inr r ↦ r a e ]

pub none_for_terms : (s t : Term) → ((made : List trees.Binding) → Unifies [] (Equation.of_terms s t ∷ []) made → ⊥) → (a : Substitution) → put_term a s ≢ put_term a t
none_for_terms s t h a e = none_solves (Equation.of_terms s t ∷ []) h a (e, tt)
