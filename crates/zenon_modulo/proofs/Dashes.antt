-- The word that ends options, from one place on.
use Rattle.std.proofs.Common.{ℕ, ◌≡◌, ◌+◌, ◌<◌, ◌≤◌, true, false, ◌||◌, List, length, get_or, drop, map, ap}
use Rattle.std.specs.List.{list_any}
use Rattle.std.proofs.lemmas.List.{drop_more, drop_all}
use Rattle.zenon_modulo.specs.Words.{Word, is_dashes}

module _ {X : Type 0} (f : X → Word) where
  pub dashes_here : (ws : List X) (i : ℕ) (d : X) → i < length ws → is_dashes (f (get_or ws i d)) ≡ true
      → list_any is_dashes (map f (drop i ws)) ≡ true
  dashes_here ws i d h e = rw (drop_more ws i d h) (ap (λ b. b || list_any is_dashes (map f (drop (i + 1) ws))) e)

  pub dashes_later : (ws : List X) (i : ℕ) (d : X) → i < length ws → is_dashes (f (get_or ws i d)) ≡ false
      → list_any is_dashes (map f (drop i ws)) ≡ list_any is_dashes (map f (drop (i + 1) ws))
  dashes_later ws i d h e = rw (drop_more ws i d h) (ap (λ b. b || list_any is_dashes (map f (drop (i + 1) ws))) e)

  pub dashes_end : (ws : List X) (i : ℕ) → length ws ≤ i → list_any is_dashes (map f (drop i ws)) ≡ false
  dashes_end ws i h = rw (drop_all i ws h)
