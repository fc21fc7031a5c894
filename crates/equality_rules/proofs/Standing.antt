-- What stands for a type variable of a declaration, among types and among their ids.
use Rattle.std.proofs.Common.{ℕ, suc, ◌≡◌, ◌-◌, ◌<◌, ◌≤◌, Bool, true, false, ◌==◌, if◌then◌else◌, None, Some, List, [], ◌∷◌, length, get_or, refl, ap, sym, subst, ◌∙◌, inl, inr, arith}
use Rattle.std.proofs.lemmas.Bool.Decides.{eqb_tells}
use Rattle.std.proofs.lemmas.Option.{none-some, same_Some}
use Rattle.zm_logic.specs.Tree.{Ty}
use Rattle.zm_logic.specs.Typing.{how_many}
use Rattle.term_store.specs.Node.{type_at, types_at, TypesBelow}
use Rattle.term_store.specs.declared.ids.TyId.{TyId}
use Rattle.equality_rules.specs.Heads.{standing, standing_id, stands, instance_at}

pub how_many_at : (T : List Ty) (is : List TyId) → how_many (types_at T is) ≡ length is
how_many_at T [] = refl
how_many_at T (i ∷ is) = omega (arith, how_many_at T is)

-- the place of what stands for a variable, counted from the end
pub standing_place : (is : List TyId) (i : ℕ) (d : TyId) → i < length is → standing_id is i ≡ Some (get_or is (length is - 1 - i) d)
standing_place [] i d l = absurd (omega arith)
standing_place (t ∷ ts) i d l =
    elim (eqb_tells i (length ts)) [
      | inl x ↦
          (let z : length (t ∷ ts) - 1 - i ≡ 0 = omega (arith, x.1) in
          ap (λ b. if b then Some t else standing_id ts i) x.0 ∙ ap (λ n. Some (get_or (t ∷ ts) n d)) (sym z))
      | inr x ↦
          (let m : i < length ts = omega (arith, x.1, l) in
          let z : length (t ∷ ts) - 1 - i ≡ suc (length ts - 1 - i) = omega (arith, m) in
          ap (λ b. if b then Some t else standing_id ts i) x.0 ∙ standing_place ts i d m ∙ ap (λ n. Some (get_or (t ∷ ts) n d)) (sym z))
    ]

pub standing_none : (is : List TyId) (i : ℕ) → length is ≤ i → standing_id is i ≡ None
standing_none [] i l = refl
standing_none (t ∷ ts) i l =
    elim (eqb_tells i (length ts)) [
      | inl x ↦ absurd (omega (arith, x.1, l))
      | inr x ↦ ap (λ b. if b then Some t else standing_id ts i) x.0 ∙ standing_none ts i (omega (arith, l))
    ]

pub standing_below : (k : ℕ) (is : List TyId) (i : ℕ) (t : TyId) → TypesBelow k is → standing_id is i ≡ Some t → t.0 < k
standing_below k [] i t b e = absurd (none-some t e)
standing_below k (j ∷ js) i t b e =
    elim (eqb_tells i (length js)) [
      | inl x ↦
          (let f : Some j ≡ Some t = sym (ap (λ c. if c then Some j else standing_id js i) x.0) ∙ e in
          subst (λ y. y.0 < k) (same_Some j t f) b.0)
      | inr x ↦ standing_below k js i t b.1 (sym (ap (λ c. if c then Some j else standing_id js i) x.0) ∙ e)
    ]

-- the type at a variable, by whether it is the first one
standing_step : (T : List Ty) (j : TyId) (js : List TyId) (i : ℕ) (b : Bool) → (i == length js) ≡ b
    → standing (types_at T (j ∷ js)) i ≡ (if b then type_at T j else standing (types_at T js) i)
standing_step T j js i b e =
    ap (λ n. if i == n then type_at T j else standing (types_at T js) i) (how_many_at T js)
    ∙ ap (λ c. if c then type_at T j else standing (types_at T js) i) e

pub standing_some : (T : List Ty) (is : List TyId) (i : ℕ) (t : TyId) → standing_id is i ≡ Some t → standing (types_at T is) i ≡ type_at T t
standing_some T [] i t e = absurd (none-some t e)
standing_some T (j ∷ js) i t e =
    elim (eqb_tells i (length js)) [
      | inl x ↦
          (let f : Some j ≡ Some t = sym (ap (λ c. if c then Some j else standing_id js i) x.0) ∙ e in
          standing_step T j js i true x.0 ∙ ap (type_at T) (same_Some j t f))
      | inr x ↦ standing_step T j js i false x.0 ∙ standing_some T js i t (sym (ap (λ c. if c then Some j else standing_id js i) x.0) ∙ e)
    ]

pub standing_loose : (T : List Ty) (is : List TyId) (i : ℕ) → standing_id is i ≡ None → standing (types_at T is) i ≡ Ty.bound i
standing_loose T [] i e = refl
standing_loose T (j ∷ js) i e =
    elim (eqb_tells i (length js)) [
      | inl x ↦ absurd (none-some j (sym e ∙ ap (λ c. if c then Some j else standing_id js i) x.0))
      | inr x ↦ standing_step T j js i false x.0 ∙ standing_loose T js i (sym (ap (λ c. if c then Some j else standing_id js i) x.0) ∙ e)
    ]

-- a declared type that is a variable
pub stands_below : (k : ℕ) (r : Ty) (is : List TyId) (t : TyId) → TypesBelow k is → stands r is ≡ Some t → t.0 < k
stands_below k (Ty.bound i) is t b e = standing_below k is i t b e
stands_below k (Ty.param n) is t b e = absurd (none-some t e)
stands_below k (Ty.meta n) is t b e = absurd (none-some t e)
stands_below k (Ty.con c ss) is t b e = absurd (none-some t e)

pub stands_some : (T : List Ty) (r : Ty) (is : List TyId) (t : TyId) → stands r is ≡ Some t → instance_at (types_at T is) r ≡ type_at T t
stands_some T (Ty.bound i) is t e = standing_some T is i t e
stands_some T (Ty.param n) is t e = absurd (none-some t e)
stands_some T (Ty.meta n) is t e = absurd (none-some t e)
stands_some T (Ty.con c ss) is t e = absurd (none-some t e)
