-- The raw offers of a branch: all that may be done to it, before normalising, from the whole branch and the table of
-- numbers.
use Rattle.std.specs.Prelude.{ℕ, ◌+◌, ◌≡◌, Bool, false, ◌||◌, cond, List, [], ◌∷◌, ◌++◌, Option, None, Some, length}
use Rattle.zm_logic.specs.Tree.{Ty, Term, Form, Side, differ}
use Rattle.param_store.specs.RawOffers.{Raw, QuantifierKind, Quantified, split, split_offers, quantified, number_of, opened_offers}
use Rattle.unify.specs.Binding.{Binding}
use Rattle.unify.specs.Unification.{UnifiesForms, UnifiesTerms}
use Rattle.equality_rules.specs.Refused.{AreBounded, IsFirstDeepBinding}
use Rattle.equality_rules.specs.Instances.{InstancesOf}
use Rattle.equality_rules.specs.Equality.{value_steps, pair_steps}
use Rattle.equality_rules.specs.Pairs.{Opposites, is_equality, opposites, FormsDiffer, TermsDiffer}
use Rattle.branch.specs.Setting.{Setting}

pub data Kind : Type 0 where
  alpha : Kind
  beta : Kind
  delta : Kind
  gamma : Kind
  instance : Kind
  equality : Kind

-- A raw offer with its kind and its place: that of the later formula, and for a pair that of the earlier one. `blamed` is
-- the formula that is named where a child is too deep.
pub record Placed : Type 0 where
  pub kind : Kind
  pub raw : Raw
  pub blamed : Form
  pub later : ℕ
  pub earlier : Option ℕ

-- a raw offer, or bindings that are too deep, which count as one
pub data Entry : Type 0 where
  offer : Placed → Entry
  unbound : (at : Side) → Entry

-- raw offers of a kind, at a place
abbrev pub entries : Kind → Form → ℕ → Option ℕ → List Raw → List Entry
entries k f j i [] = []
entries k f j i (r ∷ rs) =
    Entry.offer (record { kind = k; raw = r; blamed = f; later = j; earlier = i }) ∷ entries k f j i rs

-- one child: alpha, two: beta
abbrev pub split_kind : List (List Form) → Kind
split_kind [] = Kind.alpha
split_kind (c ∷ []) = Kind.alpha
split_kind (c ∷ d ∷ cs) = Kind.beta

abbrev pub opened_kind : QuantifierKind → Kind
opened_kind QuantifierKind.delta = Kind.delta
opened_kind QuantifierKind.gamma = Kind.gamma

abbrev pub opened_entries : List Form → ℕ → Form → Option Quantified → List Entry
opened_entries table j f None = []
opened_entries table j f (Some q) = entries (opened_kind q.kind) f j None (opened_offers (number_of table f) f (Some q))

-- alpha, beta, delta and gamma
abbrev pub own_entries : List Form → ℕ → Form → List Entry
own_entries table j f =
    entries (split_kind (split f)) f j None (split_offers f (split f)) ++ opened_entries table j f (quantified f)

-- instances, each blamed on its quantified formula
abbrev pub instance_entries : ℕ → Option ℕ → List Raw → List Entry
instance_entries j i [] = []
instance_entries j i (r ∷ rs) = entries Kind.instance r.act.first j i (r ∷ []) ++ instance_entries j i rs

-- whether an unnegated equality is on the branch
abbrev pub has_equality : List Form → Bool
has_equality [] = false
has_equality (f ∷ fs) = is_equality f || has_equality fs

module _ (s : Setting) (table : List Form) where
  -- What the bindings that make two trees one give: their instances, or one entry where a binding is too deep.
  pub data BindingEntries (Unifies : List Binding → Type 0) (Differ : Type 0) (j : ℕ) (i : Option ℕ) : List Entry → Type 0 where
    listed : {rs : List Raw} → ((made : List Binding) → Unifies made → AreBounded made)
        → InstancesOf s.symbols table Unifies Differ rs → BindingEntries Unifies Differ j i (instance_entries j i rs)
    too_deep : (made : List Binding) (u : Term) → Unifies made → IsFirstDeepBinding made u
        → BindingEntries Unifies Differ j i (Entry.unbound (Side.of_term u) ∷ [])

  module _ (equality : Bool) where
    -- what an inequation offers beyond its rule: the instances of its two sides, and the equality step on their arguments
    pub data SingleEntries (j : ℕ) : Form → List Entry → Type 0 where
      inequation : {xs : List Entry} (t : Ty) (u v : Term) → BindingEntries (UnifiesTerms u v) (TermsDiffer u v) j None xs
          → SingleEntries j (differ t u v)
          (xs ++ entries Kind.equality (differ t u v) j None (cond equality (value_steps s.symbols (differ t u v) u v) []))
      other : {f : Form} → ((t : Ty) (u v : Term) → f ≡ differ t u v → ⊥) → SingleEntries j f []

    -- what an earlier and a later formula offer, one of which is a negation: instances, and equality steps
    pub data PairEntries (j i : ℕ) (g f : Form) : List Entry → Type 0 where
      none : opposites g f ≡ None → PairEntries j i g f []
      opposed : {xs : List Entry} (o : Opposites) → opposites g f ≡ Some o
          → BindingEntries (UnifiesForms o.left o.right) (FormsDiffer o.left o.right) j (Some i) xs
          → PairEntries j i g f (xs ++ entries Kind.equality f j (Some i) (cond equality (pair_steps s.symbols o.plain o.denied) []))

    -- what a formula offers with each of the formulas before it, of which the first has place i
    pub data PairsWith (j : ℕ) (f : Form) : ℕ → List Form → List Entry → Type 0 where
      none : {i : ℕ} → PairsWith j f i [] []
      more : {i : ℕ} {g : Form} {gs : List Form} {xs ys : List Entry} → PairEntries j i g f xs → PairsWith j f (i + 1) gs ys
          → PairsWith j f i (g ∷ gs) (xs ++ ys)

    -- By the later place: a formula's own offers, then those with each earlier formula. The first list holds the formulas
    -- before those of the second.
    pub data EntriesFrom : List Form → List Form → List Entry → Type 0 where
      none : {gs : List Form} → EntriesFrom gs [] []
      more : {gs fs : List Form} {f : Form} {xs ys zs : List Entry} → SingleEntries (length gs) f xs
          → PairsWith (length gs) f 0 gs ys → EntriesFrom (gs ++ f ∷ []) fs zs
          → EntriesFrom gs (f ∷ fs) ((own_entries table (length gs) f ++ (xs ++ ys)) ++ zs)

-- the raw offers of a branch, in order
abbrev pub AreRawOffers : Setting → List Form → List Form → List Entry → Type 0
AreRawOffers s table branch es = EntriesFrom s table (has_equality branch) [] branch es
