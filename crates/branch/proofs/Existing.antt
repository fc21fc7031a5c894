-- Each part of a branch has its entries: two sides have a unifier or none, and a unifier's bindings are bounded or one of
-- them is the first that is too deep.
use Rattle.std.proofs.Common.{ℕ, ◌≡◌, ◌+◌, ◌<◌, ◌≤◌, ◌⊎◌, Bool, cond, Option, None, Some, option_map, List, [], ◌∷◌, ◌++◌, All, length, reverse, inl, inr, refl, ap, sym, subst}
use Rattle.std.proofs.lemmas.List.Elements.{All-nil, All-cons}
use Rattle.zm_logic.specs.Tree.{Term, Form, Side, differ}
use Rattle.unify.specs.Answer.{solved_depth, name_of}
use Rattle.unify.specs.Binding.{Binding}
use Rattle.unify.specs.Equation.{Equation}
use Rattle.unify.specs.Unification.{UnifiesForms, UnifiesTerms}
use Rattle.unify.proofs.Promises.{bindings_or_no_solution, unifier_of_forms_or_none}
use Rattle.equality_rules.specs.Equality.{value_steps, pair_steps}
use Rattle.equality_rules.specs.Instances.{InstancesOf, instances, in_order}
use Rattle.equality_rules.specs.Offered.{sides}
use Rattle.equality_rules.specs.Pairs.{Opposites, opposites, FormsDiffer, TermsDiffer}
use Rattle.equality_rules.specs.Refused.{AreBounded, IsFirstDeepBinding}
use Rattle.equality_rules.proofs.Answering.{sides_alike}
use Rattle.equality_rules.proofs.Unifying.{alike_forms, no_unifier, no_term_unifier, one_of_forms, one_of_terms}
use Rattle.branch.specs.Setting.{Setting}
use Rattle.branch.specs.BranchOffers.{Kind, Entry, entries, own_entries, instance_entries, BindingEntries, SingleEntries, PairEntries, PairsWith, EntriesFrom}
use Rattle.branch.proofs.Unchanged.{within_or_deep}
use Rattle.branch.proofs.Unifiers.{IsOne}

-- the first of some bindings that is too deep
record IsFirstDeep (made bs : List Binding) : Type 0 where
  before : List Binding
  binding : Binding
  after : List Binding
  order : bs ≡ before ++ binding ∷ after
  bounded : All (λ b. solved_depth made b ≤ 2000) before
  deep : 2000 < solved_depth made binding

module _ (made : List Binding) where
  abbrev IsWithin : Binding → Type 0
  IsWithin b = solved_depth made b ≤ 2000

  all_or_first : (bs : List Binding) → All IsWithin bs ⊎ IsFirstDeep made bs
  all_or_first [] = inl (All-nil IsWithin)
  all_or_first (b ∷ bs) = elim (within_or_deep (solved_depth made b)) [
    | inr d ↦ inr (record { before = []; binding = b; after = bs; order = refl; bounded = All-nil IsWithin; deep = d })
    | inl w ↦ elim (all_or_first bs) [
      | inl h ↦ inl (All-cons IsWithin b bs w h)
      | inr h ↦ inr (record {
        before = b ∷ h.before;
        binding = h.binding;
        after = h.after;
        order = ap (λ xs. b ∷ xs) h.order;
        bounded = All-cons IsWithin b h.before w h.bounded;
        deep = h.deep;
      })
    ]
  ]

  bounded_or_deep : AreBounded made ⊎ ((u : Term) × IsFirstDeepBinding made u)
  bounded_or_deep = elim (all_or_first (reverse made)) [
    | inl h ↦ inl h
    | inr h ↦ inr (
      name_of h.binding,
      record {
        before = h.before;
        binding = h.binding;
        after = h.after;
        order = h.order;
        bounded = h.bounded;
        deep = h.deep;
        named = refl;
      },
    )
  ]

module _ (s : Setting) (table : List Form) where
  module _ (Unifies : List Binding → Type 0) (Differ : Type 0) (one : IsOne Unifies) (apart : Differ → (made : List Binding) → Unifies made → ⊥)
      (j : ℕ) (i : Option ℕ) where
    binding_entries : ((made : List Binding) × Unifies made) ⊎ Differ → (xs : List Entry) × BindingEntries s table Unifies Differ j i xs
    binding_entries (inr d) = (instance_entries j i [], BindingEntries.listed (λ made u. absurd (apart d made u)) (InstancesOf.apart d))
    binding_entries (inl x) = elim (bounded_or_deep x.0) [
      | inl h ↦ (
        instance_entries j i (instances s.symbols table (in_order x.0)),
        BindingEntries.listed (λ made u. subst AreBounded (one x.0 made x.1 u) h) (InstancesOf.unified x.0 x.1),
      )
      | inr h ↦ (Entry.unbound (Side.of_term h.0) ∷ [], BindingEntries.too_deep x.0 h.0 x.1 h.1)
    ]

  terms_or_none : (u v : Term) → ((made : List Binding) × UnifiesTerms u v made) ⊎ TermsDiffer u v
  terms_or_none u v = elim (bindings_or_no_solution (Equation.of_terms u v ∷ [])) [
    | inl x ↦ inl x
    | inr x ↦ inr (λ a e. x a (e, tt))
  ]

  forms_or_none : (g f : Form) (o : Opposites) → opposites g f ≡ Some o
      → ((made : List Binding) × UnifiesForms o.left o.right made) ⊎ FormsDiffer o.left o.right
  forms_or_none g f o e =
      unifier_of_forms_or_none o.left o.right (alike_forms o.left o.right (sides_alike g f o.left o.right (sym (ap (λ x. option_map sides x) e))))

  module _ (v : Bool) where
    pub single_there : (j : ℕ) (f : Form) → (xs : List Entry) × SingleEntries s table v j f xs
    single_there j (Form.negation (Form.equal t a b)) =
        let x = binding_entries (UnifiesTerms a b) (TermsDiffer a b) (one_of_terms a b) (no_term_unifier a b) j None (terms_or_none a b) in (
          x.0 ++ entries Kind.equality (differ t a b) j None (cond v (value_steps s.symbols (differ t a b) a b) []),
          SingleEntries.inequation t a b x.1,
        )
    single_there j f = ([], SingleEntries.other (λ t a b e. cc))

    pair_by : (j i : ℕ) (g f : Form) (x : Option Opposites) → opposites g f ≡ x → (xs : List Entry) × PairEntries s table v j i g f xs
    pair_by j i g f None e = ([], PairEntries.none e)
    pair_by j i g f (Some o) e =
        let x = binding_entries (UnifiesForms o.left o.right) (FormsDiffer o.left o.right) (one_of_forms o.left o.right) (no_unifier o.left o.right) j (Some i)
        (forms_or_none g f o e) in
        (x.0 ++ entries Kind.equality f j (Some i) (cond v (pair_steps s.symbols o.plain o.denied) []), PairEntries.opposed o e x.1)

    pub pairs_there : (j : ℕ) (f : Form) (i : ℕ) (gs : List Form) → (xs : List Entry) × PairsWith s table v j f i gs xs
    pairs_there j f i [] = ([], PairsWith.none)
    pairs_there j f i (g ∷ gs) =
        let x = pair_by j i g f (opposites g f) refl in
        let y = pairs_there j f (i + 1) gs in
        (x.0 ++ y.0, PairsWith.more x.1 y.1)

    pub rest_there : (gs fs : List Form) → (xs : List Entry) × EntriesFrom s table v gs fs xs
    rest_there gs [] = ([], EntriesFrom.none)
    rest_there gs (f ∷ fs) =
        let x = single_there (length gs) f in
        let y = pairs_there (length gs) f 0 gs in
        let z = rest_there (gs ++ f ∷ []) fs in
        ((own_entries table (length gs) f ++ (x.0 ++ y.0)) ++ z.0, EntriesFrom.more x.1 y.1 z.1)
