-- The binders round a place.
use Rattle.std.specs.Prelude.{◌≡◌, ℕ, Bool, false, List, None}
use Rattle.std.specs.List.{list_any}
use Rattle.std.specs.Str.{bytes_eq}
use Rattle.std.specs.Borrow.{Bor}
use Rattle.dk_text.specs.Names.{Scope, index_of}

-- With the binders of a term that nests no deeper than is read there are still fewer than the limit on binders.
abbrev pub most_binders : ℕ
most_binders = 4294959294

-- the name is one of these
abbrev pub is_noted : List ℕ → List (Bor (List ℕ)) → Bool
is_noted name noted = list_any (λ k. bytes_eq name k.now) noted

-- no binder has a name that isn't one of these
abbrev pub AllNoted : List (Bor (List ℕ)) → Scope → Type 0
AllNoted noted scope = (name : List ℕ) → is_noted name noted ≡ false → index_of name scope ≡ None
