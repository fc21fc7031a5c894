-- A branch that isn't closed holds no formula with its negation.
use Rattle.std.proofs.Common.{◌≡◌, Bool, true, false, cond, not, refl, ap, sym, subst, ◌∙◌, List, [], ◌∷◌, ◌++◌, ◌⊎◌, inl, inr, Contains, None, Some}
use Rattle.std.proofs.lemmas.List.Elements.{Contains-append_left, Contains-push}
use Rattle.zm_logic.proofs.Sames.{Contains-cases, Contains-none, same-self}
use Rattle.zm_logic.specs.Tree.{Form}
use Rattle.zm_logic.specs.Same.{same}
use Rattle.zm_logic.specs.Truth.{truth_of}
use Rattle.branch.specs.Branch.{closing, closing_of, closing_with, closing_at, closing_from, closes_alone, is_swapped, pair_of, alone}
use Rattle.branch.proofs.Lists.{or-none}

pub with-none : (gs : List Form) (f g : Form) → closing_with gs f ≡ None → Contains gs g → closing_of g f ≡ None
with-none [] f g e h = absurd (Contains-none g h)
with-none (x ∷ gs) f g e h =
    let p = or-none (closing_of x f) (closing_with gs f) e in
    let P : Form → Type 0 = λ y. closing_of y f ≡ None in
    elim (Contains-cases x gs g h) [ inl i ↦ subst P i p.0 | inr a ↦ with-none gs f g p.1 a ]

pub at-none : (gs : List Form) (f : Form) → closing_at gs f ≡ None → (closes_alone f ≡ false) × (closing_with gs f ≡ None)
at-none gs f e = go (closes_alone f) refl e
  where
    go : (v : Bool) → closes_alone f ≡ v → cond v (Some (alone f)) (closing_with gs f) ≡ None → (closes_alone f ≡ false) × (closing_with gs f ≡ None)
    go true q e = cc
    go false q e = (q, e)

pub alone-none : (gs fs : List Form) (f : Form) → closing_from gs fs ≡ None → Contains fs f → closes_alone f ≡ false
alone-none gs [] f e h = absurd (Contains-none f h)
alone-none gs (x ∷ fs) f e h =
    let p = or-none (closing_at gs x) (closing_from (gs ++ x ∷ []) fs) e in
    let P : Form → Type 0 = λ y. closes_alone y ≡ false in
    elim (Contains-cases x fs f h) [ inl i ↦ subst P i (at-none gs x p.0).0 | inr a ↦ alone-none (gs ++ x ∷ []) fs f p.1 a ]

-- an earlier formula with a later one
pub across : (gs fs : List Form) (g f : Form) → closing_from gs fs ≡ None → Contains gs g → Contains fs f → closing_of g f ≡ None
across gs [] g f e hg h = absurd (Contains-none f h)
across gs (x ∷ fs) g f e hg h =
    let p = or-none (closing_at gs x) (closing_from (gs ++ x ∷ []) fs) e in
    let P : Form → Type 0 = λ y. closing_of g y ≡ None in
    elim (Contains-cases x fs f h) [
      | inl i ↦ subst P i (with-none gs x g (at-none gs x p.0).1 hg)
      | inr a ↦ across (gs ++ x ∷ []) fs g f p.1 (Contains-append_left gs (x ∷ []) g hg) a
    ]

pub between : (gs fs : List Form) (g f : Form) → closing_from gs fs ≡ None → Contains fs g → Contains fs f → (g ≡ f) ⊎ ((closing_of g f ≡ None) ⊎ (closing_of f g ≡ None))
between gs [] g f e hg hf = absurd (Contains-none f hf)
between gs (x ∷ fs) g f e hg hf =
    let p = or-none (closing_at gs x) (closing_from (gs ++ x ∷ []) fs) e in
    let P : Form → Type 0 = λ y. closing_of y f ≡ None in
    let Q : Form → Type 0 = λ y. closing_of y g ≡ None in
    elim (Contains-cases x fs g hg) [
      | inl i ↦ elim (Contains-cases x fs f hf) [
        | inl j ↦ inl (sym i ∙ j)
        | inr b ↦ inr (inl (subst P i (across (gs ++ x ∷ []) fs x f p.1 (Contains-push gs x) b)))
      ]
      | inr a ↦ elim (Contains-cases x fs f hf) [
        | inl j ↦ inr (inr (subst Q j (across (gs ++ x ∷ []) fs x g p.1 (Contains-push gs x) a)))
        | inr b ↦ between (gs ++ x ∷ []) fs g f p.1 a b
      ]
    ]

pub of-none : (g f : Form) → closing_of g f ≡ None → (same f (Form.negation g) ≡ false) × (same g (Form.negation f) ≡ false)
of-none g f e = go (same f (Form.negation g)) (same g (Form.negation f)) refl refl e
  where
    go : (u v : Bool) → same f (Form.negation g) ≡ u → same g (Form.negation f) ≡ v
        → cond u (Some (pair_of g f false)) (cond v (Some (pair_of f g false)) (cond (is_swapped g f) (Some (pair_of g f true)) (cond (is_swapped f g) (Some (pair_of f g true)) None))) ≡ None
        → (same f (Form.negation g) ≡ false) × (same g (Form.negation f) ≡ false)
    go true v p q e = cc
    go false true p q e = cc
    go false false p q e = (p, q)

pub not-own-negation : (f : Form) → f ≡ Form.negation f → ⊥
not-own-negation f e = go (truth_of (λ x. true) f) (ap (truth_of (λ x. true)) e)
  where
    go : (v : Bool) → v ≡ not v → ⊥
    go true h = cc
    go false h = cc

pub unclosed-pair : (b : List Form) (f : Form) → closing b ≡ None → Contains b f → Contains b (Form.negation f) → ⊥
unclosed-pair b f e h k =
    let s = same-self (Form.negation f) in
    elim (between [] b f (Form.negation f) e h k) [
      | inl i ↦ not-own-negation f i
      | inr q ↦ elim q [
        | inl i ↦ let r = (of-none f (Form.negation f) i).0 in cc
        | inr i ↦ let r = (of-none (Form.negation f) f i).1 in cc
      ]
    ]

pub unclosed-alone : (b : List Form) (f : Form) → closing b ≡ None → Contains b f → closes_alone f ≡ false
unclosed-alone b f e h = alone-none [] b f e h
