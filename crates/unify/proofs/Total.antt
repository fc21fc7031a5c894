-- Each list of equations has bindings or no solution.
use Rattle.std.proofs.Common.{ℕ, ◌≡◌, ◌≢◌, ◌+◌, ◌≤◌, ◌⊎◌, inl, inr, List, [], ◌∷◌, refl, ap, sym, subst, ◌∙◌, arith}
use Rattle.std.proofs.lemmas.Bool.Decides.{eqb_tells}
use Rattle.zm_logic.specs.Tree.{Ty, Tys, Term, Terms}
use Rattle.unify.specs.Weight.{type_weight, types_weight, term_weight, terms_weight}
use Rattle.unify.specs.Lawful.{AreLawful}
use Rattle.unify.specs.Substitution.{Substitution, put_type, put_types, put_term, put_terms}
use Rattle.unify.specs.Equation.{Equation, Solves, TypeParts, TermParts}
use Rattle.unify.specs.Binding.{Binding, only_type, only_term, solved_type, solved_term, head_type, head_term}
use Rattle.unify.specs.Unification.{LacksTypeMeta, LacksTermMeta, Binds, Splits, AreSame}
use Rattle.unify.specs.Solution.{Agrees}
use Rattle.unify.proofs.Same.{same_type_tells, same_types_tell, same_meta_tells}
use Rattle.unify.proofs.Solved.{solved_types, solved_terms, agrees_type, agrees_term, solved_con, solved_app, unbound_type, unbound_term, head_solved_type, head_solved_term, head_unbound_type, head_unbound_term}
use Rattle.unify.proofs.General.{put_head_type, put_head_term}
use Rattle.unify.proofs.Measure.{occur_types, occur_terms}

-- no substitution that solves the bindings solves the equation
abbrev pub Fails : List Binding → Equation → Type 0
Fails bs e = (a : Substitution) → Agrees a bs → Solves a e → ⊥

-- equal terms, decided
mutual
  pub term_decides : (s t : Term) → (s ≡ t) ⊎ (s ≢ t)
  term_decides (Term.bound i) (Term.bound j) = elim (eqb_tells i j) [ inl x ↦ inl (ap Term.bound x.1) | inr x ↦ inr (λ e. x.1 (cc)) ]
  term_decides (Term.eps n s) (Term.eps m t) = elim (eqb_tells n m) [
    | inl x ↦ elim (same_type_tells s t) [ inl y ↦ (let p = x.1 in let q = y.1 in inl (cc)) | inr y ↦ inr (λ e. y.1 (cc)) ]
    | inr x ↦ inr (λ e. x.1 (cc))
  ]
  term_decides (Term.meta n s) (Term.meta m t) = elim (same_meta_tells n m s t) [ inl x ↦ inl x.1 | inr x ↦ inr x.1 ]
  term_decides (Term.app f ss us) (Term.app g ts vs) = elim (eqb_tells f g) [
    | inl x ↦ elim (same_types_tell ss ts) [
      | inl y ↦ elim (terms_decide us vs) [ inl z ↦ (let p = x.1 in let q = y.1 in inl (cc)) | inr z ↦ inr (λ e. z (cc)) ]
      | inr y ↦ inr (λ e. y.1 (cc))
    ]
    | inr x ↦ inr (λ e. x.1 (cc))
  ]
  term_decides _ _ = inr (λ e. cc)

  pub terms_decide : (ss ts : Terms) → (ss ≡ ts) ⊎ (ss ≢ ts)
  terms_decide Terms.none Terms.none = inl refl
  terms_decide (Terms.more s ss) (Terms.more t ts) = elim (term_decides s t) [
    | inl x ↦ elim (terms_decide ss ts) [ inl y ↦ inl (cc) | inr y ↦ inr (λ e. y (cc)) ]
    | inr x ↦ inr (λ e. x (cc))
  ]
  terms_decide _ _ = inr (λ e. cc)

-- part equations, or lists that no substitution makes equal
pub type_parts : (ss ts : Tys) (rest : List Equation) → ((all : List Equation) × TypeParts ss ts rest all) ⊎ ((a : Substitution) → put_types a ss ≢ put_types a ts)
type_parts Tys.none Tys.none rest = inl (rest, TypeParts.none)
type_parts (Tys.more s ss) (Tys.more t ts) rest = elim (type_parts ss ts rest) [ inl x ↦ inl (Equation.of_types s t ∷ x.0, TypeParts.more x.1) | inr x ↦ inr (λ a e. x a (cc)) ]
type_parts _ _ rest = inr (λ a e. cc)

pub term_parts : (ss ts : Terms) (rest : List Equation) → ((all : List Equation) × TermParts ss ts rest all) ⊎ ((a : Substitution) → put_terms a ss ≢ put_terms a ts)
term_parts Terms.none Terms.none rest = inl (rest, TermParts.none)
term_parts (Terms.more s ss) (Terms.more t ts) rest = elim (term_parts ss ts rest) [ inl x ↦ inl (Equation.of_terms s t ∷ x.0, TermParts.more x.1) | inr x ↦ inr (λ a e. x a (cc)) ]
term_parts _ _ rest = inr (λ a e. cc)

-- what one equation leads to
pub data Outcome (bs : List Binding) (e : Equation) (es : List Equation) : Type 0 where
  same : AreSame bs e → Outcome bs e es
  binds : (b : Binding) → ¬ AreSame bs e → Binds bs e b → Outcome bs e es
  splits : (all : List Equation) → ¬ AreSame bs e → Splits bs e es all → Outcome bs e es
  fails : Fails bs e → Outcome bs e es

-- what no binding changes
pub solved_bound : (bs : List Binding) (i : ℕ) → solved_type bs (Ty.bound i) ≡ Ty.bound i
solved_bound [] i = refl
solved_bound (Binding.of_type m u ∷ bs) i = ap (put_type (only_type m (solved_type bs u))) (solved_bound bs i)
solved_bound (Binding.of_term m k u ∷ bs) i = solved_bound bs i

pub solved_param : (bs : List Binding) (i : ℕ) → solved_type bs (Ty.param i) ≡ Ty.param i
solved_param [] i = refl
solved_param (Binding.of_type m u ∷ bs) i = ap (put_type (only_type m (solved_type bs u))) (solved_param bs i)
solved_param (Binding.of_term m k u ∷ bs) i = solved_param bs i

pub solved_none : (bs : List Binding) → solved_types bs Tys.none ≡ Tys.none
solved_none [] = refl
solved_none (Binding.of_type m u ∷ bs) = ap (put_types (only_type m (solved_type bs u))) (solved_none bs)
solved_none (Binding.of_term m k u ∷ bs) = solved_none bs

pub solved_bound_term : (bs : List Binding) (i : ℕ) → solved_term bs (Term.bound i) ≡ Term.bound i
solved_bound_term [] i = refl
solved_bound_term (Binding.of_type m u ∷ bs) i = ap (put_term (only_type m (solved_type bs u))) (solved_bound_term bs i)
solved_bound_term (Binding.of_term m k u ∷ bs) i = ap (put_term (only_term m k (solved_term bs u))) (solved_bound_term bs i)

pub solved_eps : (bs : List Binding) (i : ℕ) (t : Ty) → solved_term bs (Term.eps i t) ≡ Term.eps i t
solved_eps [] i t = refl
solved_eps (Binding.of_type m u ∷ bs) i t = ap (put_term (only_type m (solved_type bs u))) (solved_eps bs i t)
solved_eps (Binding.of_term m k u ∷ bs) i t = ap (put_term (only_term m k (solved_term bs u))) (solved_eps bs i t)

pub solved_no_term : (bs : List Binding) → solved_terms bs Terms.none ≡ Terms.none
solved_no_term [] = refl
solved_no_term (Binding.of_type m u ∷ bs) = ap (put_terms (only_type m (solved_type bs u))) (solved_no_term bs)
solved_no_term (Binding.of_term m k u ∷ bs) = ap (put_terms (only_term m k (solved_term bs u))) (solved_no_term bs)

module _ (bs : List Binding) (l : AreLawful bs) (es : List Equation) where
  -- of types
  module _ (s t : Ty) where
    clash : (x y : Ty) → head_type bs s ≡ x → head_type bs t ≡ y → ((a : Substitution) → Agrees a bs → put_type a x ≢ put_type a y) → Outcome bs (Equation.of_types s t) es
    clash x y p q h = Outcome.fails (λ a g z. h a g (sym (ap (put_type a) p) ∙ put_head_type a bs l g s ∙ z ∙ sym (put_head_type a bs l g t) ∙ ap (put_type a) q))

    left : (m : ℕ) (y : Ty) → head_type bs s ≡ Ty.meta m → head_type bs t ≡ y → (Ty.meta m ≢ y) → LacksTypeMeta m (solved_type bs y) → Outcome bs (Equation.of_types s t) es
    left m y p q n o =
        let o' = subst (LacksTypeMeta m) (ap (solved_type bs) (sym q) ∙ head_solved_type bs l t) o in
        Outcome.binds (Binding.of_type m (head_type bs t)) (λ e. n (sym p ∙ e ∙ q)) (Binds.left_type p o')

    right : (x : Ty) (m : ℕ) → head_type bs s ≡ x → ((n : ℕ) → x ≢ Ty.meta n) → head_type bs t ≡ Ty.meta m → LacksTypeMeta m (solved_type bs x) → Outcome bs (Equation.of_types s t) es
    right x m p n q o =
        let o' = subst (LacksTypeMeta m) (ap (solved_type bs) (sym p) ∙ head_solved_type bs l s) o in
        Outcome.binds (Binding.of_type m (head_type bs s)) (λ e. n m (sym p ∙ e ∙ q)) (Binds.right_type (λ k e. n k (sym p ∙ e)) q o')

    -- a metavariable that the parts hold can't stand for the whole
    heavy : (m c : ℕ) (ts : Tys) → ((a : Substitution) → type_weight (a.type m) ≤ types_weight (put_types a (solved_types bs ts)))
        → (a : Substitution) → Agrees a bs → a.type m ≢ put_type a (Ty.con c ts)
    heavy m c ts h a g e =
        let d : a.type m ≡ Ty.con c (put_types a (solved_types bs ts)) = e ∙ sym (agrees_type a bs g (Ty.con c ts)) ∙ ap (put_type a) (solved_con bs c ts) in
        let w : type_weight (a.type m) ≡ 1 + types_weight (put_types a (solved_types bs ts)) = ap type_weight d in
        absurd (omega (arith, w, h a))

    of_heads : (x y : Ty) → head_type bs s ≡ x → head_type bs t ≡ y → Outcome bs (Equation.of_types s t) es
    of_heads (Ty.meta m) (Ty.meta n) p q = elim (eqb_tells m n) [
      | inl x ↦ Outcome.same (p ∙ ap Ty.meta x.1 ∙ sym q)
      | inr x ↦ left m (Ty.meta n) p q (λ e. x.1 (cc)) (subst (LacksTypeMeta m) (sym (unbound_type bs n (head_unbound_type bs l t n q))) (λ e. x.1 (sym e)))
    ]
    of_heads (Ty.meta m) (Ty.bound i) p q = left m (Ty.bound i) p q (λ e. cc) (subst (LacksTypeMeta m) (sym (solved_bound bs i)) tt)
    of_heads (Ty.meta m) (Ty.param i) p q = left m (Ty.param i) p q (λ e. cc) (subst (LacksTypeMeta m) (sym (solved_param bs i)) tt)
    of_heads (Ty.meta m) (Ty.con c ts) p q = elim (occur_types m (solved_types bs ts)) [
      | inl x ↦ left m (Ty.con c ts) p q (λ e. cc) (subst (LacksTypeMeta m) (sym (solved_con bs c ts)) x)
      | inr x ↦ clash (Ty.meta m) (Ty.con c ts) p q (heavy m c ts x)
    ]
    of_heads (Ty.bound i) (Ty.meta m) p q = right (Ty.bound i) m p (λ n e. cc) q (subst (LacksTypeMeta m) (sym (solved_bound bs i)) tt)
    of_heads (Ty.param i) (Ty.meta m) p q = right (Ty.param i) m p (λ n e. cc) q (subst (LacksTypeMeta m) (sym (solved_param bs i)) tt)
    of_heads (Ty.con c ts) (Ty.meta m) p q = elim (occur_types m (solved_types bs ts)) [
      | inl x ↦ right (Ty.con c ts) m p (λ n e. cc) q (subst (LacksTypeMeta m) (sym (solved_con bs c ts)) x)
      | inr x ↦ clash (Ty.con c ts) (Ty.meta m) p q (λ a g e. heavy m c ts x a g (sym e))
    ]
    of_heads (Ty.bound i) (Ty.bound j) p q = elim (eqb_tells i j) [ inl x ↦ Outcome.same (p ∙ ap Ty.bound x.1 ∙ sym q) | inr x ↦ clash (Ty.bound i) (Ty.bound j) p q (λ a g e. x.1 (cc)) ]
    of_heads (Ty.param i) (Ty.param j) p q = elim (eqb_tells i j) [ inl x ↦ Outcome.same (p ∙ ap Ty.param x.1 ∙ sym q) | inr x ↦ clash (Ty.param i) (Ty.param j) p q (λ a g e. x.1 (cc)) ]
    of_heads (Ty.con c ss) (Ty.con d ts) p q = elim (same_type_tells (Ty.con c ss) (Ty.con d ts)) [
      | inl z ↦ Outcome.same (p ∙ z.1 ∙ sym q)
      | inr z ↦ elim (eqb_tells c d) [
        | inl x ↦ elim (type_parts ss ts es) [
          | inl y ↦ Outcome.splits y.0 (λ e. z.1 (sym p ∙ e ∙ q)) (Splits.types p (q ∙ ap (λ k. Ty.con k ts) (sym x.1)) y.1)
          | inr y ↦ clash (Ty.con c ss) (Ty.con d ts) p q (λ a g e. y a (cc))
        ]
        | inr x ↦ clash (Ty.con c ss) (Ty.con d ts) p q (λ a g e. x.1 (cc))
      ]
    ]
    of_heads x y p q = clash x y p q (λ a g e. cc)

  -- of terms
  module _ (s t : Term) where
    clash_terms : (x y : Term) → head_term bs s ≡ x → head_term bs t ≡ y → ((a : Substitution) → Agrees a bs → put_term a x ≢ put_term a y) → Outcome bs (Equation.of_terms s t) es
    clash_terms x y p q h = Outcome.fails (λ a g z. h a g (sym (ap (put_term a) p) ∙ put_head_term a bs l g s ∙ z ∙ sym (put_head_term a bs l g t) ∙ ap (put_term a) q))

    left_term : (m : ℕ) (k : Ty) (y : Term) → head_term bs s ≡ Term.meta m k → head_term bs t ≡ y → (Term.meta m k ≢ y) → LacksTermMeta m k (solved_term bs y) → Outcome bs (Equation.of_terms s t) es
    left_term m k y p q n o =
        let o' = subst (LacksTermMeta m k) (ap (solved_term bs) (sym q) ∙ head_solved_term bs l t) o in
        Outcome.binds (Binding.of_term m k (head_term bs t)) (λ e. n (sym p ∙ e ∙ q)) (Binds.left_term p o')

    right_term : (x : Term) (m : ℕ) (k : Ty) → head_term bs s ≡ x → ((n : ℕ) (j : Ty) → x ≢ Term.meta n j) → head_term bs t ≡ Term.meta m k → LacksTermMeta m k (solved_term bs x) → Outcome bs (Equation.of_terms s t) es
    right_term x m k p n q o =
        let o' = subst (LacksTermMeta m k) (ap (solved_term bs) (sym p) ∙ head_solved_term bs l s) o in
        Outcome.binds (Binding.of_term m k (head_term bs s)) (λ e. n m k (sym p ∙ e ∙ q)) (Binds.right_term (λ i j e. n i j (sym p ∙ e)) q o')

    heavy_term : (m : ℕ) (k : Ty) (f : ℕ) (ts : Tys) (us : Terms) → ((a : Substitution) → term_weight (a.term m k) ≤ terms_weight (put_terms a (solved_terms bs us)))
        → (a : Substitution) → Agrees a bs → a.term m k ≢ put_term a (Term.app f ts us)
    heavy_term m k f ts us h a g e =
        let d : a.term m k ≡ Term.app f (put_types a (solved_types bs ts)) (put_terms a (solved_terms bs us)) = e ∙ sym (agrees_term a bs g (Term.app f ts us)) ∙ ap (put_term a) (solved_app bs f ts us) in
        let w : term_weight (a.term m k) ≡ 1 + (types_weight (put_types a (solved_types bs ts)) + terms_weight (put_terms a (solved_terms bs us))) = ap term_weight d in
        absurd (omega (arith, w, h a))

    of_term_heads : (x y : Term) → head_term bs s ≡ x → head_term bs t ≡ y → Outcome bs (Equation.of_terms s t) es
    of_term_heads (Term.meta m k) (Term.meta n j) p q = elim (same_meta_tells n m j k) [
      | inl x ↦ Outcome.same (p ∙ sym x.1 ∙ sym q)
      | inr x ↦ left_term m k (Term.meta n j) p q (λ e. x.1 (sym e)) (subst (LacksTermMeta m k) (sym (unbound_term bs n j (head_unbound_term bs l t n j q))) x.1)
    ]
    of_term_heads (Term.meta m k) (Term.bound i) p q = left_term m k (Term.bound i) p q (λ e. cc) (subst (LacksTermMeta m k) (sym (solved_bound_term bs i)) tt)
    of_term_heads (Term.meta m k) (Term.eps i j) p q = left_term m k (Term.eps i j) p q (λ e. cc) (subst (LacksTermMeta m k) (sym (solved_eps bs i j)) tt)
    of_term_heads (Term.meta m k) (Term.app f ts us) p q = elim (occur_terms m k (solved_terms bs us)) [
      | inl x ↦ left_term m k (Term.app f ts us) p q (λ e. cc) (subst (LacksTermMeta m k) (sym (solved_app bs f ts us)) x)
      | inr x ↦ clash_terms (Term.meta m k) (Term.app f ts us) p q (heavy_term m k f ts us x)
    ]
    of_term_heads (Term.bound i) (Term.meta m k) p q = right_term (Term.bound i) m k p (λ n j e. cc) q (subst (LacksTermMeta m k) (sym (solved_bound_term bs i)) tt)
    of_term_heads (Term.eps i j) (Term.meta m k) p q = right_term (Term.eps i j) m k p (λ n j e. cc) q (subst (LacksTermMeta m k) (sym (solved_eps bs i j)) tt)
    of_term_heads (Term.app f ts us) (Term.meta m k) p q = elim (occur_terms m k (solved_terms bs us)) [
      | inl x ↦ right_term (Term.app f ts us) m k p (λ n j e. cc) q (subst (LacksTermMeta m k) (sym (solved_app bs f ts us)) x)
      | inr x ↦ clash_terms (Term.app f ts us) (Term.meta m k) p q (λ a g e. heavy_term m k f ts us x a g (sym e))
    ]
    of_term_heads (Term.bound i) (Term.bound j) p q = elim (eqb_tells i j) [ inl x ↦ Outcome.same (p ∙ ap Term.bound x.1 ∙ sym q) | inr x ↦ clash_terms (Term.bound i) (Term.bound j) p q (λ a g e. x.1 (cc)) ]
    of_term_heads (Term.eps i j) (Term.eps n k) p q = elim (term_decides (Term.eps i j) (Term.eps n k)) [ inl x ↦ Outcome.same (p ∙ x ∙ sym q) | inr x ↦ clash_terms (Term.eps i j) (Term.eps n k) p q (λ a g e. x e) ]
    of_term_heads (Term.app f ss us) (Term.app h ts vs) p q = elim (term_decides (Term.app f ss us) (Term.app h ts vs)) [
      | inl z ↦ Outcome.same (p ∙ z ∙ sym q)
      | inr z ↦ elim (eqb_tells f h) [
        | inl x ↦ elim (term_parts us vs es) [
          | inl w ↦ elim (type_parts ss ts w.0) [
            | inl y ↦ Outcome.splits y.0 (λ e. z (sym p ∙ e ∙ q)) (Splits.terms p (q ∙ ap (λ k. Term.app k ts vs) (sym x.1)) w.1 y.1)
            | inr y ↦ clash_terms (Term.app f ss us) (Term.app h ts vs) p q (λ a g e. y a (cc))
          ]
          | inr w ↦ clash_terms (Term.app f ss us) (Term.app h ts vs) p q (λ a g e. w a (cc))
        ]
        | inr x ↦ clash_terms (Term.app f ss us) (Term.app h ts vs) p q (λ a g e. x.1 (cc))
      ]
    ]
    of_term_heads x y p q = clash_terms x y p q (λ a g e. cc)

  -- each equation has an outcome
  pub outcome : (e : Equation) → Outcome bs e es
  outcome (Equation.of_types s t) = of_heads s t (head_type bs s) (head_type bs t) refl refl
  outcome (Equation.of_terms s t) = of_term_heads s t (head_term bs s) (head_term bs t) refl refl
