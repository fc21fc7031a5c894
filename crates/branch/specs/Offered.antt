-- The rules by which a branch has raw offers, one constructor a rule.
use Rattle.std.specs.Prelude.{ℕ, ◌≡◌, true, false, List, [], ◌∷◌, Some, slice_get}
use Rattle.std.specs.List.{Contains}
use Rattle.zm_logic.specs.Tree.{Ty, Tys, Term, Terms, Form, Opening, differ}
use Rattle.zm_logic.specs.Typing.{HasType, symbol_at}
use Rattle.param_store.specs.RawOffers.{Act, Quantified, on, on_with, one, split, quantified, own_part, number_of, at_part}
use Rattle.unify.specs.Binding.{Binding}
use Rattle.unify.specs.Unification.{UnifiesForms, UnifiesTerms}
use Rattle.equality_rules.specs.Instances.{in_order}
use Rattle.equality_rules.specs.Equality.{unequal, on_pair}
use Rattle.branch.specs.Setting.{Setting}
use Rattle.branch.specs.BranchOffers.{Kind, split_kind, opened_kind}

-- the bindings are those of two formulas of the branch, one of them negated, or of the sides of an inequation there
pub data Solves (branch : List Form) (made : List Binding) : Type 0 where
  of_pair : (f g : Form) → Contains branch f → Contains branch (Form.negation g) → UnifiesForms f g made → Solves branch made
  of_swapped : (f g : Form) → Contains branch (Form.negation f) → Contains branch g → UnifiesForms f g made → Solves branch made
  of_sides : (t : Ty) (u v : Term) → Contains branch (differ t u v) → UnifiesTerms u v made → Solves branch made

-- the branch has a raw offer of this kind, which acts on these formulas, with these children
pub data Offered (s : Setting) (table branch : List Form) : Kind → Act → List (List Form) → Type 0 where
  splits : {cs : List (List Form)} (f : Form) → Contains branch f → split f ≡ cs → (cs ≡ [] → ⊥)
      → Offered s table branch (split_kind cs) (on f) cs
  opens : (f : Form) (q : Quantified) → Contains branch f → quantified f ≡ Some q
      → Offered s table branch (opened_kind q.kind) (on_with f (own_part (number_of table f) q))
      (one (at_part q (own_part (number_of table f) q)) ∷ [])
  at_term : (n : ℕ) (t : Ty) (u : Term) (f : Form) (q : Quantified) (made : List Binding) → Solves branch made
      → Contains (in_order made) (Binding.of_term n t u) → HasType s.symbols u t
      → slice_get table n ≡ Some f → quantified f ≡ Some q
      → Offered s table branch Kind.instance (on_with f (Opening.of_term u)) (one (at_part q (Opening.of_term u)) ∷ [])
  at_type : (n : ℕ) (u : Ty) (f : Form) (q : Quantified) (made : List Binding) → Solves branch made
      → Contains (in_order made) (Binding.of_type n u)
      → slice_get table n ≡ Some f → quantified f ≡ Some q
      → Offered s table branch Kind.instance (on_with f (Opening.of_type u)) (one (at_part q (Opening.of_type u)) ∷ [])
  values : (t : Ty) (f : ℕ) (ts : Tys) (us vs : Terms) → Contains branch (differ t (Term.app f ts us) (Term.app f ts vs))
      → Offered s table branch Kind.equality (on (differ t (Term.app f ts us) (Term.app f ts vs)))
      (unequal (symbol_at s.symbols f) ts us vs)
  arguments : (p : ℕ) (ts : Tys) (us vs : Terms) → Contains branch (Form.atom p ts us)
      → Contains branch (Form.negation (Form.atom p ts vs))
      → Offered s table branch Kind.equality (on_pair (Form.atom p ts us) (Form.atom p ts vs) false)
      (unequal (symbol_at s.symbols p) ts us vs)
  first_sides : (t : Ty) (u v w x : Term) → Contains branch (Form.equal t u v) → Contains branch (differ t w x)
      → Offered s table branch Kind.equality (on_pair (Form.equal t u v) (Form.equal t w x) false)
      (one (differ t w u) ∷ one (differ t v x) ∷ [])
  second_sides : (t : Ty) (u v w x : Term) → Contains branch (Form.equal t u v) → Contains branch (differ t w x)
      → Offered s table branch Kind.equality (on_pair (Form.equal t u v) (Form.equal t w x) true)
      (one (differ t w v) ∷ one (differ t u x) ∷ [])
