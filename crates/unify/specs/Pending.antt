-- Work that waits in a list, its last item first, with marks between: what a mark gives holds once all that stands
-- behind it, and so is done before, holds.
use Rattle.std.specs.Prelude.{List, [], ◌∷◌}

-- each item has the property
abbrev pub Each : {X : Type 0} → (X → Type 0) → List X → Type 0
Each P [] = Unit {0}
Each P (x ∷ xs) = P x × Each P xs

module _ {I X : Type 0} (Asks Gives : I → X → Type 0) where
  -- all items hold
  abbrev pub AllAsked : I → List X → Type 0
  AllAsked a [] = Unit {0}
  AllAsked a (x ∷ xs) = Asks a x × AllAsked a xs

  -- each mark is right
  abbrev pub IsMarked : List X → Type 0
  IsMarked [] = Unit {0}
  IsMarked (x ∷ xs) = ((a : I) → AllAsked a xs → Gives a x) × IsMarked xs
