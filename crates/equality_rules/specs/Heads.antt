-- The test of types, part by part: a term is well typed, and its head gives it a type.
use Rattle.std.specs.Prelude.{ℕ, zero, suc, Bool, true, false, ◌&&◌, ◌==◌, if◌then◌else◌, Option, None, Some, List, [], ◌∷◌, length}
use Rattle.zm_logic.specs.Tree.{Ty, Tys, Term, Terms, Symbol, Sense}
use Rattle.zm_logic.specs.Typing.{how_many, symbol_at, nth}
use Rattle.zm_logic.specs.Same.{same_type}
use Rattle.term_store.specs.declared.ids.TyId.{TyId}
use Rattle.equality_rules.specs.Typed.{is_type, are_types}

-- what stands for a type variable of a declaration, the last one being 0
abbrev pub standing : Tys → ℕ → Ty
standing Tys.none i = Ty.bound i
standing (Tys.more t ts) i = if i == how_many ts then t else standing ts i

-- the same among ids
abbrev pub standing_id : List TyId → ℕ → Option TyId
standing_id [] i = None
standing_id (t ∷ ts) i = if i == length ts then Some t else standing_id ts i

-- what stands for a declared type, where it is a variable
abbrev pub stands : Ty → List TyId → Option TyId
stands (Ty.bound i) ts = standing_id ts i
stands (Ty.param n) ts = None
stands (Ty.meta n) ts = None
stands (Ty.con c ss) ts = None

-- a declared type with all its type variables put in at once
abbrev mutual
  pub instance_at : Tys → Ty → Ty
  instance_at ts (Ty.bound i) = standing ts i
  instance_at ts (Ty.param n) = Ty.param n
  instance_at ts (Ty.meta n) = Ty.meta n
  instance_at ts (Ty.con c ss) = Ty.con c (instances_at ts ss)

  pub instances_at : Tys → Tys → Tys
  instances_at ts Tys.none = Tys.none
  instances_at ts (Tys.more s ss) = Tys.more (instance_at ts s) (instances_at ts ss)

abbrev pub is_function : Sense → Bool
is_function Sense.constructor = false
is_function Sense.predicate = false
is_function (Sense.function r) = true

-- a function that takes as many types
abbrev pub takes : Option Symbol → ℕ → Bool
takes None n = false
takes (Some d) n = is_function d.sense && (d.types == n)

-- what it makes at these types is of this type
abbrev pub makes_at : Sense → Tys → Ty → Bool
makes_at Sense.constructor ts t = false
makes_at Sense.predicate ts t = false
makes_at (Sense.function r) ts t = same_type (instance_at ts r) t

abbrev pub result_is : Option Symbol → Tys → Ty → Bool
result_is None ts t = false
result_is (Some d) ts t = makes_at d.sense ts t

-- the types of its arguments at these types
abbrev pub arguments_at : Option Symbol → Tys → Tys
arguments_at None ts = Tys.none
arguments_at (Some d) ts = instances_at ts d.arguments

-- the declaration of a number of the list; 0, the type of individuals, isn't there
abbrev pub declared : List Symbol → ℕ → Option Symbol
declared symbols zero = None
declared symbols (suc n) = nth symbols n

module _ (symbols : List Symbol) where
  -- the type that a term's head gives it
  abbrev pub head_is : Term → Ty → Bool
  head_is (Term.bound i) t = false
  head_is (Term.eps n s) t = same_type t s
  head_is (Term.meta n s) t = same_type t s
  head_is (Term.app f ts us) t = result_is (symbol_at symbols f) ts t

  abbrev pub heads_are : Terms → Tys → Bool
  heads_are Terms.none Tys.none = true
  heads_are (Terms.more u us) (Tys.more s ss) = head_is u s && heads_are us ss
  heads_are _ _ = false

  -- a term is well typed: each part is, and the heads of a function's arguments give them the types that it takes
  abbrev mutual
    pub is_typed : Term → Bool
    is_typed (Term.bound i) = false
    is_typed (Term.eps n s) = is_type symbols s
    is_typed (Term.meta n s) = is_type symbols s
    is_typed (Term.app f ts us) =
        (takes (symbol_at symbols f) (how_many ts) && heads_are us (arguments_at (symbol_at symbols f) ts)) && (are_types symbols ts && are_typed us)

    pub are_typed : Terms → Bool
    are_typed Terms.none = true
    are_typed (Terms.more u us) = is_typed u && are_typed us

  abbrev pub is_applied : ℕ → Tys → Terms → Bool
  is_applied f ts us = is_typed (Term.app f ts us)
