-- Numbers: places in the table of ids, and in the table of the trees.
use Rattle.std.proofs.Common.{ℕ, zero, suc, ◌≡◌, ◌+◌, Bool, true, false, not, cond, if◌then◌else◌, Option, None, Some, IfSome, List, [], ◌∷◌, ◌++◌, length, slice_get, refl, ap, sym, subst, ◌∙◌, inl, inr, arith}
use Rattle.std.specs.List.{list_any, position_or_len, AllByRecursion, IsDistinct}
use Rattle.std.proofs.lemmas.Bool.{eq-eqb, false_from_ne_true}
use Rattle.std.proofs.lemmas.Bool.Decides.{eqb_tells}
use Rattle.std.proofs.lemmas.Option.{slice_get_within}
use Rattle.std.proofs.lemmas.List.Folds.{position_or_len_push}
use Rattle.std.proofs.lemmas.Map.Keys.{IsDistinct-head, IsDistinct-tail}
use Rattle.term_store.proofs.Equal.{same_form}
use Rattle.zm_logic.specs.Same.{same}
use Rattle.zm_logic.proofs.Sames.{same-self, same-true}
use Rattle.term_store.specs.Trees.{Tables, AreShared, HasForm, form_of}
use Rattle.term_store.specs.declared.ids.FormId.{FormId}
use Rattle.param_store.specs.Numbers.{same_id, number_in, with_form}
use Rattle.param_store.specs.RawOffers.{number_of}
use Rattle.param_store.specs.View.{forms_of, HasForms}

-- the first place, by the head of the list
position_step : {X : Type 0} (p : X → Bool) (x : X) (xs : List X) → position_or_len p (x ∷ xs) ≡ cond (p x) 0 (1 + position_or_len p xs)
position_step p x xs = by (p x) (position_or_len p xs)
  where
    by : (b : Bool) (n : ℕ) → cond (not b) (1 + n) 0 ≡ cond b 0 (1 + n)
    by true n = refl
    by false n = refl

pub same_id_self : (f : FormId) → same_id f f ≡ true
same_id_self f = eq-eqb f.0 f.0 refl

same_id_turned : (f g : FormId) → same_id g f ≡ false → same_id f g ≡ false
same_id_turned f g e = elim (eqb_tells f.0 g.0) [ inl x ↦ let k : same_id g f ≡ true = eq-eqb g.0 f.0 (sym x.1) in cc | inr x ↦ x.0 ]

-- what holds of each formula of the list holds of the one at a place
at_place : (P : FormId → Type 0) (ids : List FormId) (n : ℕ) (f : FormId) → AllByRecursion P ids → slice_get ids n ≡ Some f → P f
at_place P [] n f h e = absurd (let l = slice_get_within [] n f e in omega arith)
at_place P (g ∷ ids) zero f h e = let k : g ≡ f = cc in subst P k h.0
at_place P (g ∷ ids) (suc n) f h e = at_place P ids n f h.1 e

-- of distinct formulas each has its place as its number
pub number_at : (ids : List FormId) (n : ℕ) (f : FormId) → IsDistinct same_id ids → slice_get ids n ≡ Some f → number_in ids f ≡ n
number_at [] n f h e = absurd (let l = slice_get_within [] n f e in omega arith)
number_at (g ∷ ids) zero f h e =
    let k : g ≡ f = cc in
    let s : same_id f g ≡ true = subst (λ x. same_id f x ≡ true) (sym k) (same_id_self f) in
    position_step (same_id f) g ids ∙ ap (λ b. cond b 0 (1 + number_in ids f)) s
number_at (g ∷ ids) (suc n) f h e =
    let s : same_id f g ≡ false = same_id_turned f g (at_place (λ x. same_id g x ≡ false) ids n f (IsDistinct-head same_id g ids h) e) in
    let i : number_in ids f ≡ n = number_at ids n f (IsDistinct-tail same_id g ids h) e in
    position_step (same_id f) g ids ∙ ap (λ b. cond b 0 (1 + number_in ids f)) s ∙ omega (arith, i)

pub number_given : (ids : List FormId) (n : ℕ) (o : Option FormId) → IsDistinct same_id ids → o ≡ slice_get ids n → IfSome o (λ f. number_in ids f ≡ n)
number_given ids n None h e = tt
number_given ids n (Some f) h e = number_at ids n f h (sym e)

-- a formula keeps its number when it is put into the table
pub number_with : (ids : List FormId) (f : FormId) → number_in (with_form ids f) f ≡ number_in ids f
number_with ids f = by (list_any (same_id f) ids)
  where
    pushed : number_in (ids ++ f ∷ []) f ≡ number_in ids f
    pushed =
        let p = position_or_len_push (same_id f) ids f in
        let s = same_id_self f in
        elim (eqb_tells (number_in ids f) (length ids)) [
          | inl x ↦ p ∙ ap (λ b. cond b (length ids + cond (same_id f f) 0 1) (number_in ids f)) x.0 ∙ ap (λ b. length ids + cond b 0 1) s ∙ omega (arith, x.1)
          | inr x ↦ p ∙ ap (λ b. cond b (length ids + cond (same_id f f) 0 1) (number_in ids f)) x.0
        ]

    by : (b : Bool) → number_in (if b then ids else ids ++ f ∷ []) f ≡ number_in ids f
    by true = refl
    by false = pushed

pub has_push : (s : Tables) (ids : List FormId) (f : FormId) → HasForms s ids → HasForm s f → HasForms s (ids ++ f ∷ [])
has_push s [] f h k = (k, tt)
has_push s (i ∷ is) f h k = (h.0, has_push s is f h.1 k)

pub has_with : (s : Tables) (ids : List FormId) (f : FormId) → HasForms s ids → HasForm s f → HasForms s (with_form ids f)
has_with s ids f h k = by (list_any (same_id f) ids)
  where
    by : (b : Bool) → HasForms s (if b then ids else ids ++ f ∷ [])
    by true = h
    by false = has_push s ids f h k

-- ids are the same where their trees are
module _ (s : Tables) (shared : AreShared s) where
  pub same_is : (f g : FormId) → HasForm s f → HasForm s g → same (form_of s g) (form_of s f) ≡ same_id f g
  same_is f g h k = elim (eqb_tells f.0 g.0) [
    | inl x ↦ subst (λ i. same (form_of s i) (form_of s f) ≡ true) (same_form f g x.1) (same-self (form_of s f)) ∙ sym x.0
    | inr x ↦ false_from_ne_true _ (λ e. x.1 (sym (ap (λ i. i.0) (shared.forms g f k h (same-true _ _ e))))) ∙ sym x.0
  ]

  -- so the number of a tree in the table of the trees is that of its id
  pub number_is : (ids : List FormId) (f : FormId) → HasForms s ids → HasForm s f → number_of (forms_of s ids) (form_of s f) ≡ number_in ids f
  number_is [] f h k = refl
  number_is (g ∷ ids) f h k =
      let a : same (form_of s g) (form_of s f) ≡ same_id f g = same_is f g k h.0 in
      let i : number_of (forms_of s ids) (form_of s f) ≡ number_in ids f = number_is ids f h.1 k in
      position_step (λ x. same x (form_of s f)) (form_of s g) (forms_of s ids)
      ∙ ap (λ b. cond b 0 (1 + number_of (forms_of s ids) (form_of s f))) a
      ∙ ap (λ n. cond (same_id f g) 0 (1 + n)) i
      ∙ sym (position_step (same_id f) g ids)
