-- What the definitions promise of one another. Each statement is the contract of a function of the module laws.
use Rattle.std.specs.Prelude.{◌≡◌, true, ◌↔◌, List}
use Rattle.zm_logic.specs.Tree.{Ty, Term, Symbol}
use Rattle.zm_logic.specs.Typing.{HasType}
use Rattle.equality_rules.specs.Typed.{has_type}

-- the test of types decides whether a term is well typed and has the type
abbrev pub TypingIsTested : Type 0
TypingIsTested = (symbols : List Symbol) (u : Term) (t : Ty) → (has_type symbols u t ≡ true) ↔ HasType symbols u t
