-- Branches and tables of numbers with one formula more.
use Rattle.std.proofs.Common.{ℕ, ◌≡◌, ◌+◌, ◌<◌, Bool, true, false, cond, if◌then◌else◌, refl, ap, sym, ◌∙◌, List, [], ◌∷◌, ◌++◌, ◌||◌, length, get_or, take, filter}
use Rattle.std.specs.List.{list_any}
use Rattle.std.proofs.lemmas.List.{map-append, append-nil}
use Rattle.std.proofs.lemmas.List.Elements.{filter-append}
use Rattle.std.proofs.Math.Seq.{take-append_seam, take-length}
use Rattle.zm_logic.specs.Tree.{Form}
use Rattle.zm_logic.specs.Same.{has}
use Rattle.term_store.specs.Trees.{Tables, AreShared, HasForm, form_of}
use Rattle.term_store.specs.declared.ids.FormId.{FormId}
use Rattle.param_store.specs.Numbers.{same_id, with_form, numbers_with}
use Rattle.param_store.specs.RawOffers.{is_quantified}
use Rattle.param_store.specs.View.{forms_of, HasForms}
use Rattle.param_store.proofs.Numbers.{same_is, has_with}
use Rattle.branch.specs.Branch.{add, extend}
use Rattle.branch.specs.Tableau.{enter}
use Rattle.branch.proofs.Held.{forms_front}

pub extend_push : (b fs : List Form) (f : Form) → extend b (fs ++ f ∷ []) ≡ add (extend b fs) f
extend_push b [] f = refl
extend_push b (g ∷ fs) f = extend_push (add b g) fs f

enter_push : (b fs : List Form) (f : Form) → enter b (fs ++ f ∷ []) ≡ cond (is_quantified f) (add (enter b fs) f) (enter b fs)
enter_push b fs f = ap (extend b) (filter-append is_quantified fs (f ∷ [])) ∙ by (is_quantified f)
  where
    by : (v : Bool) → extend b (filter is_quantified fs ++ cond v (f ∷ []) []) ≡ cond v (add (enter b fs) f) (enter b fs)
    by true = extend_push b (filter is_quantified fs) f
    by false = ap (extend b) (append-nil (filter is_quantified fs))

-- a front of a front is a front
take_kept : {A : Type 0} (xs ys zs : List A) → take (length xs) ys ≡ xs → take (length ys) zs ≡ ys → take (length xs) zs ≡ xs
take_kept [] ys zs e f = refl
take_kept (x ∷ xs) [] zs e f = absurd (let q = e in cc)
take_kept (x ∷ xs) (y ∷ ys) [] e f = absurd (let q = f in cc)
take_kept (x ∷ xs) (y ∷ ys) (z ∷ zs) e f =
    let a : take (length xs) ys ≡ xs = cc in
    let b : take (length ys) zs ≡ ys = cc in
    let c = take_kept xs ys zs a b in
    let p : y ≡ x = cc in
    let q : z ≡ y = cc in
    cc

module _ (s : Tables) where
  -- the branch with the formulas up to a place of a loop
  pub more_added : (b : List Form) (ids : List FormId) (i : ℕ) (d : FormId) → i < length ids
      → extend b (forms_of s (take (i + 1) ids)) ≡ add (extend b (forms_of s (take i ids))) (form_of s (get_or ids i d))
  more_added b ids i d l = ap (extend b) (forms_front s ids i d l) ∙ extend_push b (forms_of s (take i ids)) (form_of s (get_or ids i d))

  -- the branch with a formula that isn't there
  pub pushed_is : (ids : List FormId) (f : FormId) → has (forms_of s ids) (form_of s f) ≡ false → forms_of s (ids ++ f ∷ []) ≡ add (forms_of s ids) (form_of s f)
  pushed_is ids f e = map-append (form_of s) ids (f ∷ []) ∙ sym (ap (λ b. cond b (forms_of s ids) (forms_of s ids ++ form_of s f ∷ [])) e)

  -- and so the table
  pub more_entered : (b : List Form) (ids : List FormId) (i : ℕ) (d : FormId) → i < length ids
      → enter b (forms_of s (take (i + 1) ids))
      ≡ cond (is_quantified (form_of s (get_or ids i d))) (add (enter b (forms_of s (take i ids))) (form_of s (get_or ids i d))) (enter b (forms_of s (take i ids)))
  more_entered b ids i d l = ap (enter b) (forms_front s ids i d l) ∙ enter_push b (forms_of s (take i ids)) (form_of s (get_or ids i d))

  pub held_numbers : (v : Bool) (ids : List FormId) (f : FormId) → HasForms s ids → HasForm s f → HasForms s (numbers_with v ids f)
  held_numbers true ids f h k = has_with s ids f h k
  held_numbers false ids f h k = h

  module _ (shared : AreShared s) where
    pub has_is : (ids : List FormId) (f : FormId) → HasForms s ids → HasForm s f → has (forms_of s ids) (form_of s f) ≡ list_any (same_id f) ids
    has_is [] f h k = refl
    has_is (g ∷ ids) f h k =
        ap (λ b. b || has (forms_of s ids) (form_of s f)) (same_is s shared f g k h.0)
        ∙ ap (λ b. same_id f g || b) (has_is ids f h.1 k)

    pub with_is : (ids : List FormId) (f : FormId) → HasForms s ids → HasForm s f → forms_of s (with_form ids f) ≡ add (forms_of s ids) (form_of s f)
    with_is ids f h k =
        by (list_any (same_id f) ids) ∙ ap (λ b. cond b (forms_of s ids) (forms_of s ids ++ form_of s f ∷ [])) (sym (has_is ids f h k))
      where
        by : (v : Bool) → forms_of s (if v then ids else ids ++ f ∷ []) ≡ cond v (forms_of s ids) (forms_of s ids ++ form_of s f ∷ [])
        by true = refl
        by false = map-append (form_of s) ids (f ∷ [])

    pub numbers_are : (v : Bool) (ids : List FormId) (f : FormId) → HasForms s ids → HasForm s f
        → forms_of s (numbers_with v ids f) ≡ cond v (add (forms_of s ids) (form_of s f)) (forms_of s ids)
    numbers_are true ids f h k = with_is ids f h k
    numbers_are false ids f h k = refl

take_with : (ids : List FormId) (f : FormId) → take (length ids) (with_form ids f) ≡ ids
take_with ids f = by (list_any (same_id f) ids)
  where
    by : (b : Bool) → take (length ids) (if b then ids else ids ++ f ∷ []) ≡ ids
    by true = take-length ids
    by false = take-append_seam ids (f ∷ [])

take_numbers : (v : Bool) (ids : List FormId) (f : FormId) → take (length ids) (numbers_with v ids f) ≡ ids
take_numbers true ids f = take_with ids f
take_numbers false ids f = take-length ids

-- the numbers at a loop's start are kept at its front
pub still_front : (v : Bool) (first ids now : List FormId) (f : FormId) → take (length first) ids ≡ first → now ≡ numbers_with v ids f
    → take (length first) now ≡ first
still_front v first ids now f e n = ap (take (length first)) n ∙ take_kept first ids (numbers_with v ids f) e (take_numbers v ids f)

-- the table with the numbers up to a place of a loop
pub more_numbered : (s : Tables) → AreShared s → (b : List Form) (ids now forms : List FormId) (i : ℕ) (d : FormId)
    → HasForms s ids → HasForm s (get_or forms i d) → i < length forms
    → forms_of s ids ≡ enter b (forms_of s (take i forms)) → now ≡ numbers_with (is_quantified (form_of s (get_or forms i d))) ids (get_or forms i d)
    → forms_of s now ≡ enter b (forms_of s (take (i + 1) forms))
more_numbered s shared b ids now forms i d h k l before n =
    let x = get_or forms i d in
    ap (forms_of s) n ∙ numbers_are s shared (is_quantified (form_of s x)) ids x h k
    ∙ ap (λ fs. cond (is_quantified (form_of s x)) (add fs (form_of s x)) fs) before
    ∙ sym (more_entered s b forms i d l)
