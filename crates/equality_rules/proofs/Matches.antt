-- A type of a declaration at its types, case by case.
use Rattle.std.proofs.Common.{ℕ, ◌≡◌, false, None, Some, List, [], ◌∷◌, refl, ap, sym, ◌∙◌, ◌⊎◌, inl, inr}
use Rattle.zm_logic.specs.Tree.{Ty, Tys}
use Rattle.zm_logic.specs.Same.{same_type}
use Rattle.zm_logic.specs.declared.tree.Ty as code
use Rattle.zm_logic.specs.declared.tree.Ty.{Ty as Code}
use Rattle.zm_logic.specs.View.{type_tree}
use Rattle.term_store.specs.Node.{type_at, types_at}
use Rattle.term_store.specs.declared.ids.TyId.{TyId}
use Rattle.equality_rules.specs.Heads.{standing_id, stands, instance_at}
use Rattle.equality_rules.proofs.Folds.{tree_bound, tree_param, tree_meta}
use Rattle.equality_rules.proofs.Standing.{standing_some, standing_loose, stands_some}
use Rattle.equality_rules.proofs.Heads.{same_turned}

module _ (T : List Ty) (is : List TyId) where
  -- a variable for which a type stands, and one for which none does
  pub bound_some : (x : Ty) (i : ℕ) (t : TyId) (u : Ty) → x ≡ Ty.bound i → standing_id is i ≡ Some t
      → same_type (type_at T t) u ≡ same_type (instance_at (types_at T is) x) u
  bound_some x i t u e f =
      ap (λ y. same_type y u) (sym (standing_some T is i t f)) ∙ ap (λ y. same_type (instance_at (types_at T is) y) u) (sym e)

  pub bound_none : (x : Ty) (i : ℕ) (u : Ty) → x ≡ Ty.bound i → standing_id is i ≡ None
      → same_type (Ty.bound i) u ≡ same_type (instance_at (types_at T is) x) u
  bound_none x i u e f =
      ap (λ y. same_type y u) (sym (standing_loose T is i f)) ∙ ap (λ y. same_type (instance_at (types_at T is) y) u) (sym e)

  -- on the right a variable for which a type stands
  pub right_some : (r u : Ty) (t : TyId) → stands r is ≡ Some t → same_type u (type_at T t) ≡ same_type u (instance_at (types_at T is) r)
  right_some r u t e = ap (same_type u) (sym (stands_some T r is t e))

  -- and anything else
  pub bound_right : (i : ℕ) (r : Ty) → stands r is ≡ None → same_type (Ty.bound i) r ≡ same_type (Ty.bound i) (instance_at (types_at T is) r)
  bound_right i (Ty.bound j) e = ap (same_type (Ty.bound i)) (sym (standing_loose T is j e))
  bound_right i (Ty.param n) e = refl
  bound_right i (Ty.meta n) e = refl
  bound_right i (Ty.con c ss) e = refl

  pub param_right : (n : ℕ) (r : Ty) → stands r is ≡ None → same_type (Ty.param n) r ≡ same_type (Ty.param n) (instance_at (types_at T is) r)
  param_right n (Ty.bound j) e = ap (same_type (Ty.param n)) (sym (standing_loose T is j e))
  param_right n (Ty.param m) e = refl
  param_right n (Ty.meta m) e = refl
  param_right n (Ty.con c ss) e = refl

  pub meta_right : (n : ℕ) (r : Ty) → stands r is ≡ None → same_type (Ty.meta n) r ≡ same_type (Ty.meta n) (instance_at (types_at T is) r)
  meta_right n (Ty.bound j) e = ap (same_type (Ty.meta n)) (sym (standing_loose T is j e))
  meta_right n (Ty.param m) e = refl
  meta_right n (Ty.meta m) e = refl
  meta_right n (Ty.con c ss) e = refl

  pub con_right : (c : ℕ) (ss : Tys) (r : Ty) → stands r is ≡ None → ((d : ℕ) (us : Tys) → r ≡ Ty.con d us → ⊥)
      → false ≡ same_type (Ty.con c ss) (instance_at (types_at T is) r)
  con_right c ss (Ty.bound j) e h = ap (same_type (Ty.con c ss)) (sym (standing_loose T is j e))
  con_right c ss (Ty.param m) e h = refl
  con_right c ss (Ty.meta m) e h = refl
  con_right c ss (Ty.con d us) e h = absurd (h d us refl)

module _ (T : List Ty) (is : List TyId) (ss : Tys) where
  -- a parameter, and a metavariable, on the left
  pub param_both : (n : ℕ) (l r : Ty) → l ≡ Ty.param n → stands r is ≡ None → same_type l r ≡ same_type (instance_at ss l) (instance_at (types_at T is) r)
  param_both n l r e f =
      ap (λ x. same_type x r) e ∙ param_right T is n r f ∙ ap (λ x. same_type (instance_at ss x) (instance_at (types_at T is) r)) (sym e)

  pub meta_both : (n : ℕ) (l r : Ty) → l ≡ Ty.meta n → stands r is ≡ None → same_type l r ≡ same_type (instance_at ss l) (instance_at (types_at T is) r)
  meta_both n l r e f =
      ap (λ x. same_type x r) e ∙ meta_right T is n r f ∙ ap (λ x. same_type (instance_at ss x) (instance_at (types_at T is) r)) (sym e)

-- a type of the code that has another constructor
pub no_con : (x : Code) → ((i : ℕ) × (x ≡ code.Bound i)) ⊎ ((n : ℕ) × (x ≡ code.Param n)) ⊎ ((n : ℕ) × (x ≡ code.Meta n))
    → (d : ℕ) (us : Tys) → type_tree x ≡ Ty.con d us → ⊥
no_con x (inl y) d us e = let f : Ty.bound y.0 ≡ Ty.con d us = sym (ap type_tree y.1 ∙ tree_bound y.0) ∙ e in cc
no_con x (inr (inl y)) d us e = let f : Ty.param y.0 ≡ Ty.con d us = sym (ap type_tree y.1 ∙ tree_param y.0) ∙ e in cc
no_con x (inr (inr y)) d us e = let f : Ty.meta y.0 ≡ Ty.con d us = sym (ap type_tree y.1 ∙ tree_meta y.0) ∙ e in cc

-- two variables, the left one of which stands for a type
pub left_some : (T : List Ty) (is : List TyId) (x : Ty) (i : ℕ) (t : TyId) (u : Ty) → x ≡ Ty.bound i → standing_id is i ≡ Some t
    → same_type u (type_at T t) ≡ same_type (instance_at (types_at T is) x) u
left_some T is x i t u e f = same_turned u (type_at T t) ∙ bound_some T is x i t u e f

-- the one type for the one variable
pub wanted_is : (T : List Ty) (t : TyId) → instance_at (types_at T (t ∷ [])) (type_tree (code.Bound 0)) ≡ type_at T t
wanted_is T t = ap (instance_at (types_at T (t ∷ []))) (tree_bound 0)
