-- Matching is sound and complete, and the parts are determined.
use Rattle.std.proofs.Common.{ℕ, ◌≡◌, Bool, true, false, ◌&&◌, if◌then◌else◌, refl, sym, ◌∙◌, subst, arith, List, [], ◌∷◌, length, Option, Some, None}
use Rattle.zm_logic.specs.Tree.{Binder, Opening, Side}
use Rattle.rule_index.specs.Instance.{same_side}
use Rattle.rule_index.specs.Instance.{put}
use Rattle.rule_index.specs.Matching.{find, find_all, is_of, are_of, match_side}
use Rattle.rule_index.specs.Usable.{IsLeft}
use Rattle.rule_index.specs.Fits.{IsMatch}
use Rattle.rule_index.proofs.Equal.{both_true, sides_are_equal, side_is_itself}
use Rattle.rule_index.proofs.Found.{Entry, entry_is_below, found, same_length}

some_is : {A : Type 0} {a b : A} → ◌≡◌ {A = Option A} (Some a) (Some b) → a ≡ b
some_is e = cc

pub match_is_sound : (bs : List Binder) (left x : Side) (os : List Opening) → match_side bs left x ≡ Some os → IsMatch bs left x os
match_is_sound bs left x os e = go (are_of fs bs && same_side (put fs left) x) refl e
  where
    fs : List Opening
    fs = find_all bs left x

    go : (b : Bool) → (are_of (find_all bs left x) bs && same_side (put (find_all bs left x) left) x) ≡ b
        → (if b then Some (find_all bs left x) else None) ≡ Some os → IsMatch bs left x os
    go true t e =
        let y = both_true (are_of (find_all bs left x) bs) (same_side (put (find_all bs left x) left) x) t in
        let is : find_all bs left x ≡ os = cc in
        subst (IsMatch bs left x) is (record { kinds = y.0; instance = sides_are_equal (put (find_all bs left x) left) x y.1 })
    go false t e = cc

-- parts of the binders from some on are those that are found
all_found : (bs : List Binder) (all : List Opening) (left : Side)
    → ((i : ℕ) (o : Opening) → Entry all i o → find i left (put all left) ≡ o)
    → (cs : List Binder) (os : List Opening) → are_of os cs ≡ true → ((i : ℕ) (o : Opening) → Entry os i o → Entry all i o)
    → find_all cs left (put all left) ≡ os
all_found bs all left f [] [] k into = refl
all_found bs all left f (c ∷ cs) (o ∷ os) k into =
    let x = both_true (is_of o c) (are_of os cs) k in
    let first : find (length cs) left (put all left) ≡ o =
    subst (λ n. find n left (put all left) ≡ o) (same_length os cs x.1) (f (length os) o (into (length os) o Entry.here)) in
    cc (first, all_found bs all left f cs os x.1 (λ i p e. into i p (Entry.there (entry_is_below e) e)))
all_found bs all left f [] (o ∷ os) k into = cc
all_found bs all left f (c ∷ cs) [] k into = cc

pub match_is_complete : (bs : List Binder) (left x : Side) (os : List Opening) → IsLeft bs left → IsMatch bs left x os → match_side bs left x ≡ Some os
match_is_complete bs left x os l m =
    subst (λ y. match_side bs left y ≡ Some os) m.instance
    (rw (parts, m.kinds, side_is_itself (put os left)))
  where
    parts : find_all bs left (put os left) ≡ os
    parts =
        all_found bs os left
        (λ i o e. found bs os m.kinds i o e left l.kinded (l.bound i (let n : length os ≡ length bs = same_length os bs m.kinds in let h = entry_is_below e in omega arith)))
        bs os m.kinds (λ i o e. e)

pub parts_are_determined : (bs : List Binder) (left x : Side) (os ps : List Opening) → IsLeft bs left → IsMatch bs left x os → IsMatch bs left x ps → os ≡ ps
parts_are_determined bs left x os ps l m n = some_is (sym (match_is_complete bs left x os l m) ∙ match_is_complete bs left x ps l n)
