-- Unification: the bindings that equations give, taken in order, each under the bindings made before it.
use Rattle.std.specs.Prelude.{ℕ, ◌≡◌, ◌≢◌, List, [], ◌∷◌}
use Rattle.zm_logic.specs.Tree.{Ty, Tys, Term, Terms, Form}
use Rattle.unify.specs.Equation.{Equation, TypeParts, TermParts, FormParts}
use Rattle.unify.specs.Binding.{Binding, solved_type, solved_term, head_type, head_term}

-- a metavariable over types doesn't occur in the tree
abbrev mutual
  pub LacksTypeMeta : ℕ → Ty → Type 0
  LacksTypeMeta m (Ty.bound i) = Unit {0}
  LacksTypeMeta m (Ty.param n) = Unit {0}
  LacksTypeMeta m (Ty.meta n) = n ≢ m
  LacksTypeMeta m (Ty.con c ts) = LackTypeMeta m ts

  pub LackTypeMeta : ℕ → Tys → Type 0
  LackTypeMeta m Tys.none = Unit {0}
  LackTypeMeta m (Tys.more t ts) = LacksTypeMeta m t × LackTypeMeta m ts

-- a metavariable over terms doesn't occur in the tree
abbrev mutual
  pub LacksTermMeta : ℕ → Ty → Term → Type 0
  LacksTermMeta m k (Term.bound i) = Unit {0}
  LacksTermMeta m k (Term.eps n t) = Unit {0}
  LacksTermMeta m k (Term.meta n t) = Term.meta n t ≢ Term.meta m k
  LacksTermMeta m k (Term.app f ts us) = LackTermMeta m k us

  pub LackTermMeta : ℕ → Ty → Terms → Type 0
  LackTermMeta m k Terms.none = Unit {0}
  LackTermMeta m k (Terms.more u us) = LacksTermMeta m k u × LackTermMeta m k us

-- the sides are taken as they are under the bindings made so far
module _ (bs : List Binding) where
  -- both sides are one tree
  abbrev pub AreSame : Equation → Type 0
  AreSame (Equation.of_types s t) = head_type bs s ≡ head_type bs t
  AreSame (Equation.of_terms s t) = head_term bs s ≡ head_term bs t

  -- a metavariable on the left, else one on the right, is bound to the other side, which doesn't hold it
  pub data Binds : Equation → Binding → Type 0 where
    left_type : {s t : Ty} {m : ℕ} → head_type bs s ≡ Ty.meta m → LacksTypeMeta m (solved_type bs t)
        → Binds (Equation.of_types s t) (Binding.of_type m (head_type bs t))
    right_type : {s t : Ty} {m : ℕ} → ((n : ℕ) → head_type bs s ≢ Ty.meta n)
        → head_type bs t ≡ Ty.meta m → LacksTypeMeta m (solved_type bs s)
        → Binds (Equation.of_types s t) (Binding.of_type m (head_type bs s))
    left_term : {s t : Term} {m : ℕ} {k : Ty} → head_term bs s ≡ Term.meta m k → LacksTermMeta m k (solved_term bs t)
        → Binds (Equation.of_terms s t) (Binding.of_term m k (head_term bs t))
    right_term : {s t : Term} {m : ℕ} {k : Ty} → ((n : ℕ) (j : Ty) → head_term bs s ≢ Term.meta n j)
        → head_term bs t ≡ Term.meta m k → LacksTermMeta m k (solved_term bs s)
        → Binds (Equation.of_terms s t) (Binding.of_term m k (head_term bs s))

  -- two sides with one symbol give the equations between their parts, types before terms, and then the rest
  pub data Splits : Equation → List Equation → List Equation → Type 0 where
    types : {s t : Ty} {c : ℕ} {ss ts : Tys} {rest all : List Equation}
        → head_type bs s ≡ Ty.con c ss → head_type bs t ≡ Ty.con c ts
        → TypeParts ss ts rest all → Splits (Equation.of_types s t) rest all
    terms : {s t : Term} {f : ℕ} {ss ts : Tys} {us vs : Terms} {rest middle all : List Equation}
        → head_term bs s ≡ Term.app f ss us → head_term bs t ≡ Term.app f ts vs
        → TermParts us vs rest middle → TypeParts ss ts middle all → Splits (Equation.of_terms s t) rest all

-- the equations, taken in order, turn the bindings made before them into these. The latest binding stands first.
pub data Unifies : List Binding → List Equation → List Binding → Type 0 where
  done : {bs : List Binding} → Unifies bs [] bs
  same : {bs cs : List Binding} {e : Equation} {es : List Equation}
      → AreSame bs e → Unifies bs es cs → Unifies bs (e ∷ es) cs
  binds : {bs cs : List Binding} {e : Equation} {b : Binding} {es : List Equation}
      → ¬ AreSame bs e → Binds bs e b → Unifies (b ∷ bs) es cs → Unifies bs (e ∷ es) cs
  splits : {bs cs : List Binding} {e : Equation} {es all : List Equation}
      → ¬ AreSame bs e → Splits bs e es all → Unifies bs all cs → Unifies bs (e ∷ es) cs

-- both are atoms, or both are equalities
abbrev pub AreAtomsOrEqualities : Form → Form → Type 0
AreAtomsOrEqualities (Form.atom p ss us) (Form.atom q ts vs) = Unit {0}
AreAtomsOrEqualities (Form.equal s a b) (Form.equal t c d) = Unit {0}
AreAtomsOrEqualities _ _ = ⊥

-- the most general unifier of two terms, and of two atoms or two equalities, as bindings, the latest first
abbrev pub UnifiesTerms : Term → Term → List Binding → Type 0
UnifiesTerms s t made = Unifies [] (Equation.of_terms s t ∷ []) made

abbrev pub UnifiesForms : Form → Form → List Binding → Type 0
UnifiesForms f g made = (es : List Equation) × FormParts f g es × Unifies [] es made
