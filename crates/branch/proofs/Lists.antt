-- What stands in a list.
use Rattle.std.proofs.Common.{◌≡◌, ℕ, zero, suc, Bool, true, false, cond, refl, ap, sym, subst, ◌∙◌, List, [], ◌∷◌, ◌⊎◌, inl, inr, Contains, Option, None, Some, filter, flat_map, map, reverse, slice_get}
use Rattle.std.specs.Option.{option_or}
use Rattle.std.proofs.lemmas.List.{reverse-append}
use Rattle.std.proofs.lemmas.List.Elements.{Contains-append_cases}
use Rattle.zm_logic.proofs.Sames.{Contains-here, Contains-there, Contains-cases, Contains-none, only}

pub get-contains : {A : Type 0} (xs : List A) (k : ℕ) (x : A) → slice_get xs k ≡ Some x → Contains xs x
get-contains [] k x e = cc
get-contains (y ∷ ys) zero x e = let p : y ≡ x = cc in rw p (Contains-here x ys)
get-contains (y ∷ ys) (suc k) x e = Contains-there y ys x (get-contains ys k x e)

pub filter-kept : {A : Type 0} (p : A → Bool) (xs : List A) (x : A) → Contains (filter p xs) x → Contains xs x
filter-kept p [] x h = h
filter-kept {A} p (y ∷ ys) x h = go (p y) (filter-kept p ys x) h
  where
    go : (v : Bool) → (Contains (filter p ys) x → Contains ys x) → Contains (cond v (y ∷ filter p ys) (filter p ys)) x → Contains (y ∷ ys) x
    go true rest h = elim (Contains-cases y (filter p ys) x h) [ inl e ↦ rw e (Contains-here x ys) | inr a ↦ Contains-there y ys x (rest a) ]
    go false rest h = Contains-there y ys x (rest h)

pub filter-none : {A : Type 0} (p : A → Bool) (xs : List A) (x : A) → filter p xs ≡ [] → Contains xs x → p x ≡ false
filter-none p [] x e h = absurd (Contains-none x h)
filter-none {A} p (y ∷ ys) x e h = go (p y) refl (filter-none p ys x) e
  where
    go : (v : Bool) → p y ≡ v → (filter p ys ≡ [] → Contains ys x → p x ≡ false) → cond v (y ∷ filter p ys) (filter p ys) ≡ [] → p x ≡ false
    go true q rest e = cc
    go false q rest e = elim (Contains-cases y ys x h) [ inl i ↦ rw (← i) q | inr a ↦ rest e a ]

pub flat_map-source : {A B : Type 0} (f : A → List B) (xs : List A) (y : B) → Contains (flat_map f xs) y → (x : A) × Contains xs x × Contains (f x) y
flat_map-source f [] y h = absurd (Contains-none y h)
flat_map-source f (x ∷ xs) y h =
    elim (Contains-append_cases (f x) (flat_map f xs) y h) [
      | inl a ↦ (x, Contains-here x xs, a)
      | inr a ↦ let s = flat_map-source f xs y a in (s.0, Contains-there x xs s.0 s.1, s.2)
    ]

pub cond-cases : {A : Type 0} (x : Bool) (a b c : A) → cond x a b ≡ c → ((x ≡ true) × (a ≡ c)) ⊎ ((x ≡ false) × (b ≡ c))
cond-cases true a b c e = inl (refl, e)
cond-cases false a b c e = inr (refl, e)

pub or-cases : {A : Type 0} (x y : Option A) (c : A) → option_or x y ≡ Some c → (x ≡ Some c) ⊎ (y ≡ Some c)
or-cases None y c e = inr e
or-cases (Some a) y c e = inl e

pub or-none : {A : Type 0} (x y : Option A) → option_or x y ≡ None → (x ≡ None) × (y ≡ None)
or-none None y e = (refl, e)
or-none (Some a) y e = cc

pub filter-has : {A : Type 0} (p : A → Bool) (xs : List A) (x : A) → Contains xs x → p x ≡ true → Contains (filter p xs) x
filter-has p [] x h e = absurd (Contains-none x h)
filter-has {A} p (y ∷ ys) x h e = go (p y) refl (λ i. filter-has p ys x i e)
  where
    go : (v : Bool) → p y ≡ v → (Contains ys x → Contains (filter p ys) x) → Contains (cond v (y ∷ filter p ys) (filter p ys)) x
    go true q rest = elim (Contains-cases y ys x h) [
      | inl i ↦ let Q : A → Type 0 = λ z. Contains (y ∷ filter p ys) z in subst Q i (Contains-here y (filter p ys))
      | inr i ↦ Contains-there y (filter p ys) x (rest i)
    ]
    go false q rest = elim (Contains-cases y ys x h) [
      | inl i ↦ absurd (let z : p x ≡ false = ap p (sym i) ∙ q in cc)
      | inr i ↦ rest i
    ]

pub map-source : {A B : Type 0} (f : A → B) (xs : List A) (y : B) → Contains (map f xs) y → (x : A) × Contains xs x × (f x ≡ y)
map-source f [] y h = absurd (Contains-none y h)
map-source f (x ∷ xs) y h = elim (Contains-cases (f x) (map f xs) y h) [
  | inl e ↦ (x, Contains-here x xs, e)
  | inr i ↦ let s = map-source f xs y i in (s.0, Contains-there x xs s.0 s.1, s.2)
]

pub reverse-has : {A : Type 0} (xs : List A) (x : A) → Contains (reverse xs) x → Contains xs x
reverse-has [] x h = h
reverse-has {A} (y ∷ ys) x h =
    let P : List A → Type 0 = λ zs. Contains zs x in
    elim (Contains-append_cases (reverse ys) (y ∷ []) x (subst P (reverse-append (y ∷ []) ys) h)) [
      | inl i ↦ Contains-there y ys x (reverse-has ys x i)
      | inr i ↦ let Q : A → Type 0 = λ z. Contains (y ∷ ys) z in subst Q (only y x i) (Contains-here y ys)
    ]
