-- Formulas found in another list than the branch's.
use Rattle.std.proofs.Common.{ℕ, ◌≡◌, ◌+◌, ◌<◌, Bool, true, false, ◌&&◌, ◌||◌, not, cond, refl, ap, sym, subst, ◌∙◌, Option, List, [], ◌∷◌, ◌++◌, length, get_or, take, filter, map}
use Rattle.zm_logic.specs.Tree.{Form}
use Rattle.zm_logic.specs.Same.{same, has}
use Rattle.zm_logic.proofs.Sames.{same-true}
use Rattle.term_store.specs.Trees.{Tables, Extends, form_of}
use Rattle.term_store.specs.declared.ids.FormId.{FormId}
use Rattle.param_store.specs.RawOffers.{Raw}
use Rattle.param_store.specs.View.{forms_of, HasForms}
use Rattle.param_store.proofs.Stay.{forms_still, forms_stay}
use Rattle.branch.specs.declared.lookup.Lookup.{Lookup}
use Rattle.branch.specs.Branch.{add}
use Rattle.branch.specs.BranchOffers.{Kind}
use Rattle.branch.specs.Left.{form_at, offer_at, offers_at}
use Rattle.branch.specs.Lookup.{Skips, IsLookup, is_plain, is_denial}
use Rattle.branch.specs.Offers.{Offer, has_all, has_some, normals, is_useful}
use Rattle.branch.proofs.Held.{forms_front}

-- what stands in two lists, one after the other
pub has_both : (b c : List Form) (x : Form) → has (b ++ c) x ≡ (has b x || has c x)
has_both [] c x = refl
has_both (f ∷ fs) c x = by (same f x) (has_both fs c x)
  where
    by : (v : Bool) → has (fs ++ c) x ≡ (has fs x || has c x) → (v || has (fs ++ c) x) ≡ ((v || has fs x) || has c x)
    by true rest = refl
    by false rest = rest

or_false : (w : Bool) → w ≡ (w || false)
or_false true = refl
or_false false = refl

-- a formula that is added is behind the others, as far as it can be told
pub has_added : (b : List Form) (f x : Form) → has (add b f) x ≡ has (b ++ f ∷ []) x
has_added b f x = by (has b f) refl
  where
    -- where the formula stands there
    stood : (v : Bool) → same f x ≡ v → has b f ≡ true → has b x ≡ (has b x || (v || false))
    stood true e h = let i : has b x ≡ true = ap (has b) (sym (same-true f x e)) ∙ h in rw i refl
    stood false e h = or_false (has b x)

    by : (v : Bool) → has b f ≡ v → has (cond v b (b ++ f ∷ [])) x ≡ has (b ++ f ∷ []) x
    by true h = stood (same f x) refl h ∙ sym (has_both b (f ∷ []) x)
    by false h = refl

-- the formulas up to a place of a loop, with the next one
pub found_more : (s : Tables) (forms found now : List FormId) (i : ℕ) (d : FormId) → i < length forms
    → ((x : Form) → has (forms_of s found) x ≡ has (forms_of s (take i forms)) x) → forms_of s now ≡ add (forms_of s found) (form_of s (get_or forms i d))
    → (x : Form) → has (forms_of s now) x ≡ has (forms_of s (take (i + 1) forms)) x
found_more s forms found now i d l h e x =
    let f = form_of s (get_or forms i d) in
    ap (λ fs. has fs x) e ∙ has_added (forms_of s found) f x ∙ has_both (forms_of s found) (f ∷ []) x
    ∙ ap (λ v. v || has (f ∷ []) x) (h x) ∙ sym (has_both (forms_of s (take i forms)) (f ∷ []) x) ∙ ap (λ fs. has fs x) (sym (forms_front s forms i d l))

-- lists in which the same formulas stand leave the same offers
module _ (b c : List Form) (e : (x : Form) → has b x ≡ has c x) where
  all_alike : (fs : List Form) → has_all b fs ≡ has_all c fs
  all_alike [] = refl
  all_alike (f ∷ fs) = ap (λ v. v && has_all b fs) (e f) ∙ ap (λ v. has c f && v) (all_alike fs)

  some_alike : (cs : List (List Form)) → has_some b cs ≡ has_some c cs
  some_alike [] = refl
  some_alike (fs ∷ cs) = ap (λ v. v || has_some b cs) (all_alike fs) ∙ ap (λ v. has_all c fs || v) (some_alike cs)

  useful_alike : (os : List Offer) → filter (is_useful b) os ≡ filter (is_useful c) os
  useful_alike [] = refl
  useful_alike (o ∷ os) =
      ap (λ v. cond (not v) (o ∷ filter (is_useful b) os) (filter (is_useful b) os)) (some_alike (normals o.children))
      ∙ ap (λ xs. cond (is_useful c o) (o ∷ xs) xs) (useful_alike os)

  pub offers_alike : (k : Kind) (j : ℕ) (i : Option ℕ) (rs : List Raw) → offers_at b k j i rs ≡ offers_at c k j i rs
  offers_alike k j i rs = useful_alike (map (offer_at k j i) rs)

-- a lookup stays one while the store grows
pub lookup_stays : (s t : Tables) → Extends s t → (forms : List FormId) (l : Lookup) → HasForms s forms → IsLookup s forms l → IsLookup t forms l
lookup_stays s t e forms l h k =
    let b = forms_stay s t e forms h in
    let f = forms_stay s t e l.found k.has_found in
    record {
      has_found = forms_still s t e l.found k.has_found;
      found = λ x. ap (λ fs. has fs x) f ∙ k.found x ∙ ap (λ fs. has fs x) (sym b);
      plain = subst (λ fs. Skips (λ i. is_plain (form_at fs i) ≡ false) 0 l.plain (length forms)) (sym b) k.plain;
      denied = subst (λ fs. Skips (λ i. is_denial (form_at fs i) ≡ false) 0 l.denied (length forms)) (sym b) k.denied;
    }
