-- Whether a term is well typed and has a type, as a test.
use Rattle.std.specs.Prelude.{ℕ, Bool, true, false, ◌&&◌, ◌==◌, Option, None, Some, List}
use Rattle.zm_logic.specs.Tree.{Ty, Tys, Term, Terms, Symbol, Sense}
use Rattle.zm_logic.specs.Opening.{openings, type_instance}
use Rattle.zm_logic.specs.Typing.{how_many, argument_types, symbol_at}
use Rattle.zm_logic.specs.Same.{same_type}

abbrev pub is_constructor : Sense → Bool
is_constructor Sense.constructor = true
is_constructor Sense.predicate = false
is_constructor (Sense.function r) = false

-- a constructor that takes as many types
abbrev pub constructs : Option Symbol → ℕ → Bool
constructs None n = false
constructs (Some d) n = is_constructor d.sense && (d.types == n)

abbrev pub result_is : Sense → Tys → Ty → Bool
result_is Sense.constructor ts t = false
result_is Sense.predicate ts t = false
result_is (Sense.function r) ts t = same_type (type_instance (openings ts) r) t

-- a function that takes as many types, and at these types makes terms of this type
abbrev pub makes : Option Symbol → Tys → Ty → Bool
makes None ts t = false
makes (Some d) ts t = (d.types == how_many ts) && result_is d.sense ts t

abbrev pub arguments_at : Option Symbol → Tys → Tys
arguments_at None ts = Tys.none
arguments_at (Some d) ts = argument_types d ts

module _ (symbols : List Symbol) where
  abbrev mutual
    pub is_type : Ty → Bool
    is_type (Ty.bound i) = false
    is_type (Ty.param n) = true
    is_type (Ty.meta n) = true
    is_type (Ty.con c ts) = constructs (symbol_at symbols c) (how_many ts) && are_types ts

    pub are_types : Tys → Bool
    are_types Tys.none = true
    are_types (Tys.more t ts) = is_type t && are_types ts

  abbrev mutual
    pub has_type : Term → Ty → Bool
    has_type (Term.bound i) t = false
    has_type (Term.eps n s) t = is_type s && same_type s t
    has_type (Term.meta n s) t = is_type s && same_type s t
    has_type (Term.app f ts us) t =
        makes (symbol_at symbols f) ts t && (are_types ts && have_types us (arguments_at (symbol_at symbols f) ts))

    pub have_types : Terms → Tys → Bool
    have_types Terms.none Tys.none = true
    have_types (Terms.more u us) (Tys.more s ss) = has_type u s && have_types us ss
    have_types _ _ = false
