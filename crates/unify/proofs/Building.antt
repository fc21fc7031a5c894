-- Trees with all bindings put in stay so while the store grows.
use Rattle.std.proofs.Common.{ℕ, zero, suc, ◌≡◌, ◌≢◌, ◌+◌, ◌<◌, ◌≤◌, nat_eq, cond, Some, inl, inr, List, [], ◌∷◌, ◌++◌, All, length, get_or, take, refl, ap, sym, subst, ◌∙◌, arith}
use Rattle.std.proofs.lemmas.List.{take_more}
use Rattle.std.proofs.lemmas.Bool.Decides.{eqb_tells}
use Rattle.std.proofs.lemmas.List.Elements.{All-head, All-tail}
use Rattle.indexmap.specs.IndexMap.{IndexMap, get}
use Rattle.zm_logic.specs.Tree.{Ty, Tys, Term, Terms}
use Rattle.zm_logic.specs.Measure.{type_depth, types_depth, term_depth, terms_depth}
use Rattle.zm_logic.proofs.Lists.{with_type, with_term}
use Rattle.term_store.specs.Node.{type_at, types_at, term_at, terms_at}
use Rattle.term_store.specs.Trees.{Tables, HasType, HasTerm, type_of, term_of, Extends}
use Rattle.term_store.specs.declared.ids.TyId.{TyId}
use Rattle.term_store.specs.declared.ids.TermId.{TermId}
use Rattle.term_store.proofs.Kept.{still_type, still_term, kept_type, kept_term}
use Rattle.unify.specs.Substitution.{put_type, put_term}
use Rattle.unify.specs.Binding as trees
use Rattle.unify.specs.Lawful.{AreLawful}
use Rattle.unify.specs.View.{HasBinding, binding_of, latest_on, latest}
use Rattle.unify.specs.Solving.{all_types, all_terms, KnowsSolved}
use Rattle.unify.specs.declared.binding.Binding.{Binding}
use Rattle.unify.specs.declared.binding.Binding.TheVariants.{OfTerm, OfType}
use Rattle.unify.specs.declared.solving.Solved.{Solved}
use Rattle.unify.proofs.Solved.{solved_types, solved_con, solved_app, unbound_type, unbound_term, head_solved_type, head_solved_term, head_unbound_type, head_unbound_term}
use Rattle.unify.proofs.Total.{solved_bound, solved_param, solved_bound_term, solved_eps}
use Rattle.unify.proofs.Unifier.{put_unifier_type, put_unifier_types, put_unifier_term, put_unifier_terms}
use Rattle.unify.proofs.HeadSteps.{id_of}
use Rattle.unify.proofs.TermWalk.{term_id}

module _ (s t : Tables) (x : Extends s t) where
  has_kept : (b : Binding) → HasBinding s b → HasBinding t b
  has_kept (OfTerm m k u) h = (still_type s t x k h.0, still_term s t x u h.1)
  has_kept (OfType m k) h = (still_type s t x k h.0, subst (λ z. type_depth z < 2000) (sym (kept_type s t x k h.0)) h.1)

  pub same_binding : (b : Binding) → HasBinding s b → binding_of t b ≡ binding_of s b
  same_binding (OfTerm m k u) h = let e = kept_type s t x k h.0 in let f = kept_term s t x u h.1 in cc
  same_binding (OfType m k) h = ap (trees.Binding.of_type m) (kept_type s t x k h.0)

  latest_kept_on : (before : List trees.Binding) (made : List Binding) → All (HasBinding s) made → latest_on t before made ≡ latest_on s before made
  latest_kept_on before [] h = refl
  latest_kept_on before (b ∷ bs) h =
      ap (λ c. latest_on t (c ∷ before) bs) (same_binding b (All-head (HasBinding s) b bs h))
      ∙ latest_kept_on (binding_of s b ∷ before) bs (All-tail (HasBinding s) b bs h)

  -- the bindings stay
  pub latest_kept : (made : List Binding) → All (HasBinding s) made → latest t made ≡ latest s made
  latest_kept made h = latest_kept_on [] made h

  pub have_kept : (made : List Binding) → All (HasBinding s) made → All (HasBinding t) made
  have_kept made h = λ k d l. has_kept _ (h k d l)

  -- and what is known of trees with all of them put in
  pub knows_kept : (bs : List trees.Binding) (kept : Solved) → KnowsSolved s bs kept → KnowsSolved t bs kept
  knows_kept bs kept h = record {
    types = λ i r e. (let k = h.types i r e in
        (still_type s t x i k.0, (still_type s t x r k.1.0, kept_type s t x r k.1.0 ∙ k.1.1 ∙ ap (trees.solved_type bs) (sym (kept_type s t x i k.0)))));
    terms = λ i r e. (let k = h.terms i r e in
        (still_term s t x i k.0, (still_term s t x r k.1.0, kept_term s t x r k.1.0 ∙ k.1.1 ∙ ap (trees.solved_term bs) (sym (kept_term s t x i k.0)))));
  }

  -- what a tree of the earlier store is with all of them put in
  pub type_goal : (made : List Binding) → All (HasBinding s) made → (i : TyId) → HasType s i
      → trees.solved_type (latest t made) (type_of t i) ≡ trees.solved_type (latest s made) (type_of s i)
  type_goal made h i g = ap (λ bs. trees.solved_type bs (type_of t i)) (latest_kept made h) ∙ ap (trees.solved_type (latest s made)) (kept_type s t x i g)

  pub term_goal : (made : List Binding) → All (HasBinding s) made → (i : TermId) → HasTerm s i
      → trees.solved_term (latest t made) (term_of t i) ≡ trees.solved_term (latest s made) (term_of s i)
  term_goal made h i g = ap (λ bs. trees.solved_term bs (term_of t i)) (latest_kept made h) ∙ ap (trees.solved_term (latest s made)) (kept_term s t x i g)

-- one id more
module _ (bs : List trees.Binding) where
  types_push : (T : List Ty) (is : List TyId) (i : TyId) → types_at T (is ++ i ∷ []) ≡ with_type (types_at T is) (type_at T i)
  types_push T [] i = refl
  types_push T (j ∷ is) i = ap (Tys.more (type_at T j)) (types_push T is i)

  terms_push : (U : List Term) (is : List TermId) (i : TermId) → terms_at U (is ++ i ∷ []) ≡ with_term (terms_at U is) (term_at U i)
  terms_push U [] i = refl
  terms_push U (j ∷ is) i = ap (Terms.more (term_at U j)) (terms_push U is i)

  put_with_type : (ts : Tys) (t : Ty) → all_types bs (with_type ts t) ≡ with_type (all_types bs ts) (trees.solved_type bs t)
  put_with_type Tys.none t = ap (λ z. Tys.more z Tys.none) (put_unifier_type bs t)
  put_with_type (Tys.more u ts) t = ap (Tys.more (put_type (trees.unifier bs) u)) (put_with_type ts t)

  put_with_term : (us : Terms) (u : Term) → all_terms bs (with_term us u) ≡ with_term (all_terms bs us) (trees.solved_term bs u)
  put_with_term Terms.none u = ap (λ z. Terms.more z Terms.none) (put_unifier_term bs u)
  put_with_term (Terms.more v us) u = ap (Terms.more (put_term (trees.unifier bs) v)) (put_with_term us u)

  pub all_types_more : (T : List Ty) (is : List TyId) (n : ℕ) (d : TyId) → n < length is
      → all_types bs (types_at T (take (n + 1) is)) ≡ with_type (all_types bs (types_at T (take n is))) (trees.solved_type bs (type_at T (get_or is n d)))
  all_types_more T is n d l = rw (take_more is n d l, types_push T (take n is) (get_or is n d)) (put_with_type (types_at T (take n is)) (type_at T (get_or is n d)))

  pub all_terms_more : (U : List Term) (is : List TermId) (n : ℕ) (d : TermId) → n < length is
      → all_terms bs (terms_at U (take (n + 1) is)) ≡ with_term (all_terms bs (terms_at U (take n is))) (trees.solved_term bs (term_at U (get_or is n d)))
  all_terms_more U is n d l = rw (take_more is n d l, terms_push U (take n is) (get_or is n d)) (put_with_term (terms_at U (take n is)) (term_at U (get_or is n d)))

  -- a tree is no deeper than its list
  pub type_within : (T : List Ty) (is : List TyId) (n : ℕ) (d : TyId) → n < length is
      → type_depth (trees.solved_type bs (type_at T (get_or is n d))) ≤ types_depth (all_types bs (types_at T is))
  type_within T [] n d l = absurd (omega arith)
  type_within T (i ∷ is) zero d l = let e = ap type_depth (put_unifier_type bs (type_at T i)) in omega (arith, e)
  type_within T (i ∷ is) (suc n) d l = omega (arith, type_within T is n d (omega arith))

  pub term_within : (U : List Term) (is : List TermId) (n : ℕ) (d : TermId) → n < length is
      → term_depth (trees.solved_term bs (term_at U (get_or is n d))) ≤ terms_depth (all_terms bs (terms_at U is))
  term_within U [] n d l = absurd (omega arith)
  term_within U (i ∷ is) zero d l = let e = ap term_depth (put_unifier_term bs (term_at U i)) in omega (arith, e)
  term_within U (i ∷ is) (suc n) d l = omega (arith, term_within U is n d (omega arith))

  -- the head of a side tells what it is
  module _ (l : AreLawful bs) where
    pub type_leaf : (t h : Ty) → h ≡ trees.head_type bs t → ((c : ℕ) (ts : Tys) → h ≢ Ty.con c ts) → h ≡ trees.solved_type bs t
    type_leaf t (Ty.bound n) e f = sym (solved_bound bs n) ∙ ap (trees.solved_type bs) e ∙ head_solved_type bs l t
    type_leaf t (Ty.param n) e f = sym (solved_param bs n) ∙ ap (trees.solved_type bs) e ∙ head_solved_type bs l t
    type_leaf t (Ty.meta n) e f = sym (unbound_type bs n (head_unbound_type bs l t n (sym e))) ∙ ap (trees.solved_type bs) e ∙ head_solved_type bs l t
    type_leaf t (Ty.con c ts) e f = absurd (f c ts refl)

    pub type_whole : (t h : Ty) (c : ℕ) (ts : Tys) → h ≡ trees.head_type bs t → h ≡ Ty.con c ts → Ty.con c (all_types bs ts) ≡ trees.solved_type bs t
    type_whole t h c ts e f =
        ap (Ty.con c) (put_unifier_types bs ts) ∙ sym (solved_con bs c ts) ∙ ap (trees.solved_type bs) (sym f ∙ e) ∙ head_solved_type bs l t

    pub term_leaf : (t h : Term) → h ≡ trees.head_term bs t → ((f : ℕ) (ts : Tys) (us : Terms) → h ≢ Term.app f ts us) → h ≡ trees.solved_term bs t
    term_leaf t (Term.bound n) e f = sym (solved_bound_term bs n) ∙ ap (trees.solved_term bs) e ∙ head_solved_term bs l t
    term_leaf t (Term.eps n k) e f = sym (solved_eps bs n k) ∙ ap (trees.solved_term bs) e ∙ head_solved_term bs l t
    term_leaf t (Term.meta n k) e f = sym (unbound_term bs n k (head_unbound_term bs l t n k (sym e))) ∙ ap (trees.solved_term bs) e ∙ head_solved_term bs l t
    term_leaf t (Term.app g ts us) e f = absurd (f g ts us refl)

    pub term_whole : (t h : Term) (g : ℕ) (ts : Tys) (us : Terms) → h ≡ trees.head_term bs t → h ≡ Term.app g ts us
        → Term.app g (all_types bs ts) (all_terms bs us) ≡ trees.solved_term bs t
    term_whole t h g ts us e f =
        ap (λ z. Term.app g z (all_terms bs us)) (put_unifier_types bs ts) ∙ ap (Term.app g (solved_types bs ts)) (put_unifier_terms bs us)
        ∙ sym (solved_app bs g ts us) ∙ ap (trees.solved_term bs) (sym f ∙ e) ∙ head_solved_term bs l t

-- a tree has a depth
pub type_positive : (t : Ty) → 0 < type_depth t
type_positive (Ty.bound i) = omega arith
type_positive (Ty.param i) = omega arith
type_positive (Ty.meta i) = omega arith
type_positive (Ty.con c ts) = omega arith

pub term_positive : (t : Term) → 0 < term_depth t
term_positive (Term.bound i) = omega arith
term_positive (Term.eps i t) = omega arith
term_positive (Term.meta i t) = omega arith
term_positive (Term.app f ts us) = omega arith

-- one solved tree more is kept
pub types_kept_more : {S : Type 0} (P : TyId → TyId → Type 0) (old new : IndexMap TyId TyId S) (k r : TyId)
    → ((q : TyId) → get (λ x y. nat_eq x.0 y.0) new q ≡ cond (nat_eq k.0 q.0) (Some r) (get (λ x y. nat_eq x.0 y.0) old q))
    → ((i j : TyId) → get (λ x y. nat_eq x.0 y.0) old i ≡ Some j → P i j) → P k r → (i j : TyId) → get (λ x y. nat_eq x.0 y.0) new i ≡ Some j → P i j
types_kept_more P old new k r u h p i j e =
    elim (eqb_tells k.0 i.0) [
      | inl x ↦ (let f : k ≡ i = ap (λ (n : ℕ). id_of n) x.1 in
          let g = sym e ∙ u i ∙ ap (λ b. cond b (Some r) (get (λ x y. nat_eq x.0 y.0) old i)) x.0 in
          let w : j ≡ r = cc in
          subst (λ z. P z j) f (subst (P k) (sym w) p))
      | inr x ↦ (let f = u i ∙ ap (λ b. cond b (Some r) (get (λ x y. nat_eq x.0 y.0) old i)) x.0 in h i j (sym f ∙ e))
    ]

pub terms_kept_more : {S : Type 0} (P : TermId → TermId → Type 0) (old new : IndexMap TermId TermId S) (k r : TermId)
    → ((q : TermId) → get (λ x y. nat_eq x.0 y.0) new q ≡ cond (nat_eq k.0 q.0) (Some r) (get (λ x y. nat_eq x.0 y.0) old q))
    → ((i j : TermId) → get (λ x y. nat_eq x.0 y.0) old i ≡ Some j → P i j) → P k r → (i j : TermId) → get (λ x y. nat_eq x.0 y.0) new i ≡ Some j → P i j
terms_kept_more P old new k r u h p i j e =
    elim (eqb_tells k.0 i.0) [
      | inl x ↦ (let f : k ≡ i = ap (λ (n : ℕ). term_id n) x.1 in
          let g = sym e ∙ u i ∙ ap (λ b. cond b (Some r) (get (λ x y. nat_eq x.0 y.0) old i)) x.0 in
          let w : j ≡ r = cc in
          subst (λ z. P z j) f (subst (P k) (sym w) p))
      | inr x ↦ (let f = u i ∙ ap (λ b. cond b (Some r) (get (λ x y. nat_eq x.0 y.0) old i)) x.0 in h i j (sym f ∙ e))
    ]
