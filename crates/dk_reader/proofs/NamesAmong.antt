-- A name is among those that are listed the other way round.
use Rattle.std.proofs.Common.{◌≡◌, ℕ, Bool, true, false, ◌||◌, List, [], ◌∷◌, ◌++◌, map, reverse, refl, sym, ◌∙◌, ap}
use Rattle.std.specs.Prelude.{if◌then◌else◌}
use Rattle.std.specs.List.{list_any}
use Rattle.indexmap.specs.IndexSet.{insert_key}
use Rattle.std.proofs.lemmas.List.{map-append}
use Rattle.std.specs.Str.{bytes_eq}
use Rattle.std.proofs.lemmas.List.{reverse-append}
use Rattle.std.proofs.lemmas.Slice.Eq.{bytes_eq-Decides}
use Rattle.std.proofs.Math.Bool.{or_comm, or_assoc}
use Rattle.lp_terms.specs.Names.{is_among}

same_test : (a b : Bool) → (a ≡ true → b ≡ true) → (b ≡ true → a ≡ true) → a ≡ b
same_test true b f g = sym (f refl)
same_test false true f g = g refl
same_test false false f g = refl

bytes_eq_turned : (x y : List ℕ) → bytes_eq x y ≡ bytes_eq y x
bytes_eq_turned x y = same_test (bytes_eq x y) (bytes_eq y x)
    (λ h. (bytes_eq-Decides y x).1 (sym ((bytes_eq-Decides x y).0 h))) (λ h. (bytes_eq-Decides x y).1 (sym ((bytes_eq-Decides y x).0 h)))

or_false : (b : Bool) → (b || false) ≡ b
or_false true = refl
or_false false = refl

among_last : (name x : List ℕ) (xs : List (List ℕ)) → is_among name (xs ++ x ∷ []) ≡ (is_among name xs || bytes_eq x name)
among_last name x [] = or_false (bytes_eq x name)
among_last name x (y ∷ xs) = ap (λ b. bytes_eq y name || b) (among_last name x xs) ∙ sym (or_assoc (bytes_eq y name) (is_among name xs) (bytes_eq x name))

pub among_reversed : {A : Type 0} (f : A → List ℕ) (name : List ℕ) (ks : List A) → list_any (λ k. bytes_eq name (f k)) ks ≡ is_among name (reverse (map f ks))
among_reversed f name [] = refl
among_reversed f name (k ∷ ks) =
    ap (λ b. bytes_eq name (f k) || b) (among_reversed f name ks)
    ∙ or_comm (bytes_eq name (f k)) (is_among name (reverse (map f ks)))
    ∙ ap (λ b. is_among name (reverse (map f ks)) || b) (bytes_eq_turned name (f k))
    ∙ sym (among_last name (f k) (reverse (map f ks)))
    ∙ ap (λ z. is_among name z) (sym (reverse-append (f k ∷ []) (map f ks)))

-- a name that isn't among them goes first
pub declared_first : {A : Type 0} (f : A → List ℕ) (name : A) (ks others : List A) → is_among (f name) (reverse (map f ks)) ≡ false →
    others ≡ insert_key (λ x y. bytes_eq (f x) (f y)) ks name → reverse (map f others) ≡ f name ∷ reverse (map f ks)
declared_first f name ks others none e =
    let absent : list_any (λ k. bytes_eq (f name) (f k)) ks ≡ false = among_reversed f (f name) ks ∙ none in
    ap (λ z. reverse (map f z)) (e ∙ ap (λ b. if b then ks else ks ++ name ∷ []) absent)
    ∙ ap reverse (map-append f ks (name ∷ []))
    ∙ reverse-append (map f ks) (f name ∷ [])
