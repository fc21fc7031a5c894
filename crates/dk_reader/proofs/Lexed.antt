-- The tokens of an entry, one after another.
use Rattle.std.proofs.Common.{◌≡◌, ℕ, true, false, List, [], ◌∷◌, ◌++◌, append_assoc, refl, sym, ◌∙◌, subst}
use Rattle.std.proofs.lemmas.Bool.{both_ways}
use Rattle.std.proofs.lemmas.List.{append-nil}
use Rattle.dk_text.specs.Tokens.{Token, point, found, nothing, token_at, is_point, Skips, EntryTokens}

-- the tokens of what is left stand behind these
abbrev pub Onwards : List ℕ → List ℕ → List Token → Type 0
Onwards bytes rest before = (ts : List Token) (to : List ℕ) → EntryTokens rest ts to → EntryTokens bytes (before ++ ts) to

point_is : (t : Token) → is_point t ≡ true → t ≡ point
point_is point h = refl
point_is t h = absurd (both_ways false refl h)

pub none_left : (bytes rest at : List ℕ) (before : List Token) → Onwards bytes rest before → Skips rest at → nothing ≡ token_at at → EntryTokens bytes before at
none_left bytes rest at before on skips e = subst (λ (z : List Token). EntryTokens bytes z at) (append-nil before) (on [] at (EntryTokens.cut skips (sym e)))

pub point_left : (bytes rest at to : List ℕ) (before now : List Token) (t : Token) → Onwards bytes rest before → Skips rest at → found t to ≡ token_at at → is_point t ≡ true → now ≡ before ++ t ∷ [] → EntryTokens bytes now to
point_left bytes rest at to before now t on skips e p same =
    let there : EntryTokens bytes (before ++ point ∷ []) to = on (point ∷ []) to (EntryTokens.last skips (sym e ∙ (λ i. found (point_is t p i) to))) in
    subst (λ (z : List Token). EntryTokens bytes z to) (sym same) (subst (λ (u : Token). EntryTokens bytes (before ++ u ∷ []) to) (sym (point_is t p)) there)

pub more_left : (bytes rest at to : List ℕ) (before now : List Token) (t : Token) → Onwards bytes rest before → Skips rest at → found t to ≡ token_at at → is_point t ≡ false → now ≡ before ++ t ∷ [] → Onwards bytes to now
more_left bytes rest at to before now t on skips e p same ts end d =
    subst (λ (z : List Token). EntryTokens bytes (z ++ ts) end) (sym same)
    (subst (λ (z : List Token). EntryTokens bytes z end) (sym (append_assoc before (t ∷ []) ts)) (on (t ∷ ts) end (EntryTokens.more skips (sym e) p d)))
