-- Which raw offers are left: formulas stand on a branch as their ids do.
use Rattle.std.proofs.Common.{ℕ, zero, suc, ◌≡◌, ◌+◌, ◌<◌, ◌≤◌, Bool, true, false, ◌&&◌, ◌||◌, not, cond, Option, Some, List, [], ◌∷◌, ◌++◌, length, take, drop, get_or, map, filter, append-nil, append_assoc, slice_get, refl, ap, sym, subst, ◌∙◌, arith}
use Rattle.std.proofs.lemmas.List.{take_more, drop_more, map-append}
use Rattle.std.proofs.lemmas.List.Elements.{filter-append}
use Rattle.std.specs.List.{remove}
use Rattle.zm_logic.specs.Tree.{Form}
use Rattle.zm_logic.specs.Same.{has}
use Rattle.term_store.specs.Trees.{Tables, HasForm, form_of}
use Rattle.term_store.specs.declared.ids.FormId.{FormId}
use Rattle.param_store.specs.RawOffers.{Raw}
use Rattle.param_store.specs.View.{forms_of, lists_of, raw_of, HasForms, HasLists, HasRaw, HasRaws}
use Rattle.param_store.specs.declared.offer.RawOffer.{RawOffer}
use Rattle.branch.specs.declared.listed.Listed.{Listed}
use Rattle.branch.specs.BranchOffers.{Kind}
use Rattle.branch.specs.Offers.{Offer, has_all, has_some, normals, is_useful}
use Rattle.branch.specs.Left.{unchanged, offer_at, offers_at}
use Rattle.branch.specs.Listed.{IsListed, AreListed, listed_of}
use Rattle.branch.proofs.Lasting.{listed_push}

module _ (s : Tables) (b : List Form) where
  -- the formulas of a child from a place on, and the children from a place on
  abbrev pub all_from : ℕ → List FormId → Bool
  all_from i child = has_all b (forms_of s (drop i child))

  abbrev pub some_from : ℕ → List (List FormId) → Bool
  some_from i children = has_some b (lists_of s (drop i children))

  all_step : (child : List FormId) (i : ℕ) (d : FormId) → i < length child
      → all_from i child ≡ (has b (form_of s (get_or child i d)) && all_from (i + 1) child)
  all_step child i d l = rw (drop_more child i d l)

  pub all_yes : (child : List FormId) (i : ℕ) (d : FormId) → i < length child → has b (form_of s (get_or child i d)) ≡ true
      → all_from i child ≡ all_from (i + 1) child
  all_yes child i d l e = all_step child i d l ∙ ap (λ x. x && all_from (i + 1) child) e

  pub all_no : (child : List FormId) (i : ℕ) (d : FormId) → i < length child → has b (form_of s (get_or child i d)) ≡ false → all_from i child ≡ false
  all_no child i d l e = all_step child i d l ∙ ap (λ x. x && all_from (i + 1) child) e

  pub all_end : (child : List FormId) (i : ℕ) → length child ≤ i → all_from i child ≡ true
  all_end [] zero l = refl
  all_end [] (suc i) l = refl
  all_end (x ∷ xs) zero l = absurd (omega arith)
  all_end (x ∷ xs) (suc i) l = all_end xs i (omega arith)

  some_step : (children : List (List FormId)) (i : ℕ) (d : List FormId) → i < length children
      → some_from i children ≡ (has_all b (forms_of s (get_or children i d)) || some_from (i + 1) children)
  some_step children i d l = rw (drop_more children i d l)

  pub some_yes : (children : List (List FormId)) (i : ℕ) (d : List FormId) → i < length children → has_all b (forms_of s (get_or children i d)) ≡ true
      → some_from i children ≡ true
  some_yes children i d l e = some_step children i d l ∙ ap (λ x. x || some_from (i + 1) children) e

  pub some_no : (children : List (List FormId)) (i : ℕ) (d : List FormId) → i < length children → has_all b (forms_of s (get_or children i d)) ≡ false
      → some_from i children ≡ some_from (i + 1) children
  some_no children i d l e = some_step children i d l ∙ ap (λ x. x || some_from (i + 1) children) e

  pub some_end : (children : List (List FormId)) (i : ℕ) → length children ≤ i → some_from i children ≡ false
  some_end [] zero l = refl
  some_end [] (suc i) l = refl
  some_end (x ∷ xs) zero l = absurd (omega arith)
  some_end (x ∷ xs) (suc i) l = some_end xs i (omega arith)

-- one raw offer is left, or none
normals_are : (rs : List (List Form)) → normals (unchanged rs) ≡ rs
normals_are [] = refl
normals_are (r ∷ rs) = ap (λ cs. r ∷ cs) (normals_are rs)

module _ (b : List Form) (k : Kind) (j : ℕ) (i : Option ℕ) where
  useful_is : (r : Raw) → is_useful b (offer_at k j i r) ≡ not (has_some b r.children)
  useful_is r = ap (λ cs. not (has_some b cs)) (normals_are r.children)

  one_left : (r : Raw) → has_some b r.children ≡ false → offers_at b k j i (r ∷ []) ≡ offer_at k j i r ∷ []
  one_left r e = ap (λ x. cond x (offer_at k j i r ∷ []) []) (useful_is r ∙ ap not e)

  one_left_out : (r : Raw) → has_some b r.children ≡ true → offers_at b k j i (r ∷ []) ≡ []
  one_left_out r e = ap (λ x. cond x (offer_at k j i r ∷ []) []) (useful_is r ∙ ap not e)

  -- it is listed, or not
  module _ (s : Tables) (old : List Listed) where
    pub left_out : (r : Raw) → has_some b r.children ≡ true → (os : List Offer) → AreListed s os old → AreListed s (os ++ offers_at b k j i (r ∷ [])) old
    left_out r e os h = subst (λ xs. AreListed s xs old) (sym (ap (λ x. os ++ x) (one_left_out r e) ∙ append-nil os)) h

    pub listed_one : (r : Raw) → has_some b r.children ≡ false → (new : List Listed) (l : Listed) → new ≡ old ++ l ∷ [] → IsListed s l → listed_of s l ≡ offer_at k j i r
        → (os : List Offer) → AreListed s os old → AreListed s (os ++ offers_at b k j i (r ∷ [])) new
    listed_one r e new l q m t os h =
        subst (λ xs. AreListed s xs new) (sym (ap (λ x. os ++ x) (one_left r e)))
        (subst (AreListed s (os ++ offer_at k j i r ∷ [])) (sym q) (listed_push s os (offer_at k j i r) old l h m t))

  -- raw offers up to a place, and one more
  offers_both : (rs qs : List Raw) → offers_at b k j i (rs ++ qs) ≡ offers_at b k j i rs ++ offers_at b k j i qs
  offers_both rs qs = ap (filter (is_useful b)) (map-append (offer_at k j i) rs qs) ∙ filter-append (is_useful b) (map (offer_at k j i) rs) (map (offer_at k j i) qs)

  pub offers_more : (s : Tables) (raws : List RawOffer) (n : ℕ) (d : RawOffer) → n < length raws
      → offers_at b k j i (map (raw_of s) (take (n + 1) raws))
      ≡ offers_at b k j i (map (raw_of s) (take n raws)) ++ offers_at b k j i (raw_of s (get_or raws n d) ∷ [])
  offers_more s raws n d l =
      ap (λ xs. offers_at b k j i (map (raw_of s) xs)) (take_more raws n d l)
      ∙ ap (offers_at b k j i) (map-append (raw_of s) (take n raws) (get_or raws n d ∷ []))
      ∙ offers_both (map (raw_of s) (take n raws)) (raw_of s (get_or raws n d) ∷ [])

-- the first of a list that is taken out
pub first_is : {A : Type 0} (xs ys : List A) (x : A) → slice_get xs 0 ≡ Some x → ys ≡ remove xs 0 → xs ≡ x ∷ ys
first_is [] ys x e h = absurd (let q = e in cc)
first_is (y ∷ xs) ys x e h = let i : y ≡ x = cc in let j : ys ≡ xs = h in cc

-- What is listed so far of all raw offers, where some are still to come.
pub record RestListed (s : Tables) (b : List Form) (k : Kind) (j : ℕ) (i : Option ℕ) (os : List Offer) (all rest : List Raw) (new : List Listed) : Type 0 where
  pub so_far : List Offer
  pub listed : AreListed s so_far new
  pub whole : so_far ++ offers_at b k j i rest ≡ os ++ offers_at b k j i all

module _ (s : Tables) (b : List Form) (k : Kind) (j : ℕ) (i : Option ℕ) (os : List Offer) (all : List Raw) where
  pub rest_all : (old : List Listed) → AreListed s os old → RestListed s b k j i os all all old
  rest_all old h = record { so_far = os; listed = h; whole = refl }

  -- the first of the rest is listed, or left out
  pub rest_less : (r : Raw) (rest : List Raw) (old new : List Listed) → RestListed s b k j i os all (r ∷ rest) old
      → ((ps : List Offer) → AreListed s ps old → AreListed s (ps ++ offers_at b k j i (r ∷ [])) new) → RestListed s b k j i os all rest new
  rest_less r rest old new h put = record {
    so_far = h.so_far ++ offers_at b k j i (r ∷ []);
    listed = put h.so_far h.listed;
    whole = append_assoc h.so_far (offers_at b k j i (r ∷ [])) (offers_at b k j i rest)
        ∙ (ap (λ ps. h.so_far ++ ps) (sym (offers_both b k j i (r ∷ []) rest)) ∙ h.whole);
  }

  pub rest_none : (new : List Listed) → RestListed s b k j i os all [] new → AreListed s (os ++ offers_at b k j i all) new
  rest_none new h = subst (λ ps. AreListed s ps new) (sym (append-nil h.so_far) ∙ h.whole) h.listed

-- what is the store's at a place
pub form_at_place : (s : Tables) (ids : List FormId) (j : ℕ) (d : FormId) → j < length ids → HasForms s ids → HasForm s (get_or ids j d)
form_at_place s [] j d l h = absurd (omega arith)
form_at_place s (i ∷ is) zero d l h = h.0
form_at_place s (i ∷ is) (suc j) d l h = form_at_place s is j d (omega arith) h.1

pub forms_at_place : (s : Tables) (lists : List (List FormId)) (j : ℕ) (d : List FormId) → j < length lists → HasLists s lists → HasForms s (get_or lists j d)
forms_at_place s [] j d l h = absurd (omega arith)
forms_at_place s (i ∷ is) zero d l h = h.0
forms_at_place s (i ∷ is) (suc j) d l h = forms_at_place s is j d (omega arith) h.1

pub raw_at_place : (s : Tables) (raws : List RawOffer) (j : ℕ) (d : RawOffer) → j < length raws → HasRaws s raws → HasRaw s (get_or raws j d)
raw_at_place s [] j d l h = absurd (omega arith)
raw_at_place s (i ∷ is) zero d l h = h.0
raw_at_place s (i ∷ is) (suc j) d l h = raw_at_place s is j d (omega arith) h.1
