-- Lists of ids that grow or are cut, and filters of their formulas.
use Rattle.std.proofs.Common.{◌≡◌, ℕ, zero, suc, ◌+◌, ◌-◌, ◌<◌, ◌≤◌, Bool, true, false, cond, not, ◌&&◌, refl, ap, sym, subst, ◌∙◌, List, [], ◌∷◌, ◌++◌, length, get_or, take, drop, filter, arith, map}
use Rattle.std.proofs.Math.Seq.{take-append_seam, drop-cons}
use Rattle.std.proofs.lemmas.List.{take_more, drop_more, map-append, append-nil}
use Rattle.std.proofs.lemmas.List.Elements.{filter-append}
use Rattle.zm_logic.specs.Tree.{Form}
use Rattle.zm_logic.specs.Same.{has}
use Rattle.term_store.specs.Trees.{Tables, HasForm, form_of}
use Rattle.term_store.specs.declared.ids.FormId.{FormId}
use Rattle.param_store.specs.View.{forms_of, HasForms}
use Rattle.branch.specs.Tableau.{without, is_apart}
use Rattle.branch.proofs.Held.{forms_front}
use Rattle.sequent_proof.specs.Tree.{DTree}
use Rattle.pruning.specs.Walked.{conversion, conversions}

-- a front of a longer list
pub push_front : {A : Type 0} (xs ys : List A) (x : A) → ys ≡ xs ++ x ∷ [] → take (length xs) ys ≡ xs
push_front xs ys x e = ap (take (length xs)) e ∙ take-append_seam xs (x ∷ [])

-- a front of a front is a front
pub front_of_front : {A : Type 0} (xs ys zs : List A) → take (length xs) ys ≡ xs → take (length ys) zs ≡ ys → take (length xs) zs ≡ xs
front_of_front [] ys zs e f = refl
front_of_front (x ∷ xs) [] zs e f = absurd (let q = e in cc)
front_of_front (x ∷ xs) (y ∷ ys) [] e f = absurd (let q = f in cc)
front_of_front (x ∷ xs) (y ∷ ys) (z ∷ zs) e f =
    let a : take (length xs) ys ≡ xs = cc in
    let b : take (length ys) zs ≡ ys = cc in
    let c = front_of_front xs ys zs a b in
    let p : y ≡ x = cc in
    let q : z ≡ y = cc in
    cc

-- a list without its last member
front_kept : {A : Type 0} (n : ℕ) (ys : List A) (x : A) → n < length (ys ++ x ∷ []) → take n (ys ++ x ∷ []) ≡ take n ys
front_kept zero ys x l = refl
front_kept (suc n) [] x l = absurd (omega arith)
front_kept (suc n) (y ∷ ys) x l = ap (λ zs. y ∷ zs) (front_kept n ys x (omega arith))

pub take_pushed : {A : Type 0} (n : ℕ) (xs ys : List A) (x : A) → xs ≡ ys ++ x ∷ [] → n < length xs → take n xs ≡ take n ys
take_pushed n xs ys x e l = subst (λ zs. n < length zs → take n zs ≡ take n ys) (sym e) (front_kept n ys x) l

-- the formulas up to a place of a loop that aren't known
pub without_more : (s : Tables) (known : List Form) (ids : List FormId) (i : ℕ) (d : FormId) → i < length ids
    → without known (forms_of s (take (i + 1) ids))
    ≡ cond (has known (form_of s (get_or ids i d))) (without known (forms_of s (take i ids))) (without known (forms_of s (take i ids)) ++ form_of s (get_or ids i d) ∷ [])
without_more s known ids i d l =
    ap (without known) (forms_front s ids i d l)
    ∙ (filter-append (λ g. not (has known g)) (forms_of s (take i ids)) (form_of s (get_or ids i d) ∷ []) ∙ by (has known (form_of s (get_or ids i d))))
  where
    by : (v : Bool) → without known (forms_of s (take i ids)) ++ cond (not v) (form_of s (get_or ids i d) ∷ []) []
        ≡ cond v (without known (forms_of s (take i ids))) (without known (forms_of s (take i ids)) ++ form_of s (get_or ids i d) ∷ [])
    by true = append-nil (without known (forms_of s (take i ids)))
    by false = refl

-- conversions from a place of a loop on
conversions_none : (xs : List Form) (t : DTree) → conversions xs [] t ≡ t
conversions_none [] t = refl
conversions_none (x ∷ xs) t = refl

pub conversions_end : (s : Tables) (raw normal : List FormId) (p : ℕ) (t : DTree) → ((n : ℕ) → n < length raw → n < length normal → n < p)
    → conversions (forms_of s (drop p raw)) (forms_of s (drop p normal)) t ≡ t
conversions_end s [] normal zero t h = refl
conversions_end s [] normal (suc p) t h = refl
conversions_end s (x ∷ raw) [] zero t h = refl
conversions_end s (x ∷ raw) [] (suc p) t h = conversions_none (forms_of s (drop p raw)) t
conversions_end s (x ∷ raw) (y ∷ normal) zero t h = absurd (let l = h 0 (omega arith) (omega arith) in omega (arith, l))
conversions_end s (x ∷ raw) (y ∷ normal) (suc p) t h =
    conversions_end s raw normal p t (λ n k l. let m = h (suc n) (omega (arith, k)) (omega (arith, l)) in omega (arith, m))

pub conversions_more : (s : Tables) (raw normal : List FormId) (p : ℕ) (d : FormId) (t : DTree) → p < length raw → p < length normal
    → conversions (forms_of s (drop p raw)) (forms_of s (drop p normal)) t
    ≡ conversion (form_of s (get_or raw p d)) (form_of s (get_or normal p d)) (conversions (forms_of s (drop (suc p) raw)) (forms_of s (drop (suc p) normal)) t)
conversions_more s raw normal p d t k l =
    ap (λ xs. conversions (forms_of s xs) (forms_of s (drop p normal)) t) (drop-cons raw p d k)
    ∙ ap (λ ys. conversions (forms_of s (get_or raw p d ∷ drop (suc p) raw)) (forms_of s ys) t) (drop-cons normal p d l)

-- one place earlier
pub conversions_before : (s : Tables) (raw normal : List FormId) (p q : ℕ) (d : FormId) (t u : DTree) → suc q ≡ p → p ≤ length raw → p ≤ length normal
    → u ≡ conversions (forms_of s (drop p raw)) (forms_of s (drop p normal)) t
    → conversion (form_of s (get_or raw q d)) (form_of s (get_or normal q d)) u
    ≡ conversions (forms_of s (drop q raw)) (forms_of s (drop q normal)) t
conversions_before s raw normal p q d t u z k l e =
    ap (conversion (form_of s (get_or raw q d)) (form_of s (get_or normal q d))) e
    ∙ (ap (λ n. conversion (form_of s (get_or raw q d)) (form_of s (get_or normal q d)) (conversions (forms_of s (drop n raw)) (forms_of s (drop n normal)) t)) (sym z)
    ∙ sym (conversions_more s raw normal q d t (omega (arith, z, k)) (omega (arith, z, l))))

-- formulas from a place of a loop on that aren't used
module _ (s : Tables) (used : List Form) where
  apart_step : (ids : List FormId) (i : ℕ) (d : FormId) → i < length ids
      → is_apart (forms_of s (drop i ids)) used ≡ (not (has used (form_of s (get_or ids i d))) && is_apart (forms_of s (drop (i + 1) ids)) used)
  apart_step ids i d l = rw (drop_more ids i d l)

  pub apart_no : (ids : List FormId) (i : ℕ) (d : FormId) → i < length ids → has used (form_of s (get_or ids i d)) ≡ true
      → is_apart (forms_of s (drop i ids)) used ≡ false
  apart_no ids i d l e = apart_step ids i d l ∙ ap (λ v. not v && is_apart (forms_of s (drop (i + 1) ids)) used) e

  pub apart_yes : (ids : List FormId) (i : ℕ) (d : FormId) → i < length ids → has used (form_of s (get_or ids i d)) ≡ false
      → is_apart (forms_of s (drop i ids)) used ≡ is_apart (forms_of s (drop (i + 1) ids)) used
  apart_yes ids i d l e = apart_step ids i d l ∙ ap (λ v. not v && is_apart (forms_of s (drop (i + 1) ids)) used) e

  pub apart_end : (ids : List FormId) (i : ℕ) → length ids ≤ i → is_apart (forms_of s (drop i ids)) used ≡ true
  apart_end [] zero l = refl
  apart_end [] (suc i) l = refl
  apart_end (x ∷ xs) zero l = absurd (omega arith)
  apart_end (x ∷ xs) (suc i) l = apart_end xs i (omega arith)
