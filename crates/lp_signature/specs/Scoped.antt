-- Scopes and the contexts that they fit, and what keeps the translation of a formula where it is opened.
use Rattle.std.specs.Prelude.{ℕ, ◌≡◌, List, Some}
use Rattle.lp_terms.specs.Signature.{Entry, Declares}
use Rattle.lp_terms.specs.Typing.{Context, Class, Has}
use Rattle.zm_logic.specs.Tree.{Ty, Tys, Symbol, Sense}
use Rattle.zm_logic.specs.Parameter.{Parameter, EachInType, IsNot}
use Rattle.zm_logic.specs.Index.{IsClosedType}
use Rattle.zm_logic.specs.Typing.{IsType, symbol_at}
use Rattle.lp_signature.specs.Prelude.{types, term, any}
use Rattle.lp_signature.specs.Names.{constant}
use Rattle.lp_signature.specs.Translation.{Scope, read_type, read_term, type_of, symbol_type}

-- no type that a scope's parameter carries holds the number n
abbrev pub Avoids : ℕ → Scope → Type 0
Avoids n Scope.none = Unit {0}
Avoids n (Scope.of_type m x s) = Avoids n s
Avoids n (Scope.of_term m t x s) = EachInType (IsNot n) t × Avoids n s

-- the type that the parameter carries has no loose index
abbrev pub CarriesClosed : Parameter → Type 0
CarriesClosed (Parameter.type_param n) = Unit {0}
CarriesClosed (Parameter.type_meta n) = Unit {0}
CarriesClosed (Parameter.eps n t) = IsClosedType 0 t
CarriesClosed (Parameter.meta n t) = IsClosedType 0 t

-- what the scope's parameters carry are types
abbrev pub CarriesTypes : List Symbol → Scope → Type 0
CarriesTypes symbols Scope.none = Unit {0}
CarriesTypes symbols (Scope.of_type n x s) = CarriesTypes symbols s
CarriesTypes symbols (Scope.of_term n t x s) = IsType symbols 0 t × CarriesTypes symbols s

-- each symbol of the list before has its constant, as the list symbols numbers it, declared with the symbol's type; and
-- the constructors in before take types alone
pub record Declared (sigma : List Entry) (symbols before : List Symbol) : Type 0 where
  pub constants : (c : ℕ) (d : Symbol) → symbol_at before c ≡ Some d
      → Declares sigma (constant symbols c) (symbol_type symbols d)
  pub constructors : (c : ℕ) (d : Symbol) → symbol_at before c ≡ Some d → d.sense ≡ Sense.constructor
      → d.arguments ≡ Tys.none

-- the context fits the scope: each type parameter is read as a type, each epsilon term of a type as a term of that type, and
-- what the scope's parameters carry are types
pub record Fits (sigma : List Entry) (symbols : List Symbol) (g : Context) (s : Scope) : Type 0 where
  pub types_read : (n : ℕ) → Has sigma g (read_type s n) (Class.of types)
  pub terms_read : (n : ℕ) (t : Ty) → IsType symbols 0 t
      → Has sigma g (read_term s n t (any (type_of symbols s 0 t))) (Class.of (term (type_of symbols s 0 t)))
  pub carried : CarriesTypes symbols s
