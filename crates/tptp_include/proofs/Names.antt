-- Sets of names, and what they hold.
use Rattle.std.proofs.Common.{◌≡◌, ℕ, suc, ◌+◌, ◌<◌, Bool, true, false, cond, ◌||◌, refl, ◌∙◌, ap, sym, Some, List, [], ◌∷◌, length, drop, get_or, find, add-one}
use Rattle.std.proofs.Math.Seq.{drop-cons}
use Rattle.std.proofs.lemmas.Cmp.{nat_list_eq_equiv}
use Rattle.std.proofs.lemmas.Map.Text.{is_eq-slice_cmp}
use Rattle.std.specs.BTreeSet.{BTreeSet, Updates}
use Rattle.std.specs.Cmp.Lexicographic.{slice_cmp}
use Rattle.std.specs.List.{list_any}
use Rattle.std.specs.Ordering.{nat_cmp}
use Rattle.std.specs.Str.{bytes_eq}
use denote.Ref.{Bor}
use Rattle.tptp_include.specs.Outcomes.{holds}

cond_or : (b x : Bool) → cond b true x ≡ b || x
cond_or true x = refl
cond_or false x = refl

-- a set with one more text
pub holds_more : (s n : BTreeSet (Bor (List ℕ))) (key : Bor (List ℕ)) →
    Updates (λ x y. slice_cmp nat_cmp x.now y.now) s n key true →
    (text : List ℕ) → holds n text ≡ bytes_eq key.now text || holds s text
holds_more s n key updates text =
    let query : Bor (List ℕ) = record { ref_ptr = (0, 0); now = text } in
    updates.0 query ∙ ap (λ o. cond o true (holds s text)) (is_eq-slice_cmp key.now text) ∙ cond_or (bytes_eq key.now text) (holds s text)

pub same_bytes_back : (a b : List ℕ) → bytes_eq a b ≡ bytes_eq b a
same_bytes_back a b = nat_list_eq_equiv.symm a b

regrouped : (e h r : Bool) → (e || h) || r ≡ h || (e || r)
regrouped true true r = refl
regrouped true false r = refl
regrouped false true r = refl
regrouped false false r = refl

any_step : {X : Type 0} (test : X → Bool) (xs : List X) (i : ℕ) (x : X) → i < length xs → x ≡ get_or xs i x →
    list_any test (drop i xs) ≡ test x || list_any test (drop (i + 1) xs)
any_step test xs i x within is =
    ap (list_any test) (drop-cons xs i x within)
    ∙ ap (λ y. test y || list_any test (drop (suc i) xs)) (sym is)
    ∙ ap (λ j. test x || list_any test (drop j xs)) (sym (add-one i))

-- what holds of a set and of what is left holds when the next one has moved over
pub moved_over : {X : Type 0} (test : X → Bool) (xs : List X) (i : ℕ) (x : X) (before now : Bool) → i < length xs → x ≡ get_or xs i x →
    now ≡ test x || before → before || list_any test (drop i xs) ≡ list_any test xs →
    now || list_any test (drop (i + 1) xs) ≡ list_any test xs
moved_over test xs i x before now within is grown all =
    ap (λ b. b || list_any test (drop (i + 1) xs)) grown
    ∙ regrouped (test x) before (list_any test (drop (i + 1) xs))
    ∙ ap (λ r. before || r) (sym (any_step test xs i x within is))
    ∙ all

pub find_alike : {X : Type 0} (p q : X → Bool) → ((x : X) → p x ≡ q x) → (xs : List X) → find p xs ≡ find q xs
find_alike p q same [] = refl
find_alike p q same (x ∷ xs) = ap (λ b. cond b (Some x) (find p xs)) (same x) ∙ ap (cond (q x) (Some x)) (find_alike p q same xs)
