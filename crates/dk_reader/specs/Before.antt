-- A context of which some bindings were read.
use Rattle.std.specs.Prelude.{◌≡◌, ℕ, ◌≤◌, Bool, true, false, List, [], ◌++◌, length}
use Rattle.dk_text.specs.Tokens.{Token, comma, close_square}
use Rattle.dk_text.specs.Grammar.{Binding, IsContext}
use Rattle.dk_text.specs.Names.{Scope}
use Rattle.dk_reader.specs.Binders.{most_binders}
use Rattle.dk_reader.specs.Parts.{Context, context_of, scope_behind}
use Rattle.dk_reader.specs.Entries.{SpellsContext}

-- the bindings that were read before these tokens
pub record Before (names : List (List ℕ)) (tokens rest : List Token) (context : Context) (scope : Scope) : Type 0 where
  pub bindings : List Binding
  pub onwards : (to : List Token) (bs : List Binding) → IsContext rest to bs → IsContext tokens to (bindings ++ bs)
  pub back : (to : List Token) (all : List Binding) → IsContext tokens to all → (bs : List Binding) × IsContext rest to bs
  pub known : context ≡ context_of names bindings
  pub scoped : scope ≡ scope_behind [] bindings
  pub few : length scope ≤ most_binders

-- what stands behind a binding: a closing bracket, or a comma where another binding follows
abbrev pub end_of : Bool → Token
end_of true = close_square
end_of false = comma

-- behind a binding the context is whole, or goes on
abbrev pub GoesOn : Bool → List (List ℕ) → List Token → List Token → Context → Scope → Type 0
GoesOn true names tokens rest context scope = SpellsContext names scope tokens rest context
GoesOn false names tokens rest context scope = Before names tokens rest context scope
