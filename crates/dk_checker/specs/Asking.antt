-- What a place asks of the type that is found there.
use Rattle.std.specs.Prelude.{ℕ, suc, Bool, true, false, cond, ◌&&◌, ◌==◌, List, [], ◌∷◌, Option, Some, None}
use Rattle.std.specs.Option.{option_or}
use Rattle.std.specs.Str.{bytes_eq}
use Rattle.lp_terms.specs.Term.{Lp}
use Rattle.lp_terms.specs.Signature.{Entry}
use Rattle.lp_terms.specs.Typing.{Context, Class}
use Rattle.lp_terms.specs.Same.{same}
use Rattle.lp_reduce.specs.Normal.{Normal, normal}
use Rattle.dk_checker.specs.Found.{Refusal, Stop, Found, refuses, and_then, here}

abbrev pub same_class : Class → Class → Bool
same_class Class.kind Class.kind = true
same_class (Class.of t) (Class.of u) = same t u
same_class _ _ = false

abbrev pub is_sort : Class → Bool
is_sort Class.kind = true
is_sort (Class.of Lp.sort) = true
is_sort _ = false

-- the number of variables, which is the next one's number
abbrev pub depth : Context → ℕ
depth Context.empty = 0
depth (Context.bind n type g) = suc (depth g)

abbrev pub or_unbound : Option Lp → Found Class
or_unbound (Some t) = Found.gives (Class.of t)
or_unbound None = Found.stops Stop.unbound

abbrev pub declared_type : Entry → List ℕ → Option Lp
declared_type (Entry.declare c definable type) name = cond (bytes_eq c name) (Some type) None
declared_type (Entry.rule context left right) name = None
declared_type (Entry.define c type body) name = cond (bytes_eq c name) (Some type) None

-- the constant's type
abbrev pub type_of_constant : List Entry → List ℕ → Option Lp
type_of_constant [] name = None
type_of_constant (e ∷ entries) name = option_or (declared_type e name) (type_of_constant entries name)

-- the variable's type
abbrev pub type_of_variable : Context → ℕ → Option Lp
type_of_variable Context.empty n = None
type_of_variable (Context.bind m type g) n = cond (m == n) (Some type) (type_of_variable g n)

abbrev pub of_variable : Context → Lp → Found Class
of_variable g (Lp.free n) = or_unbound (type_of_variable g n)
of_variable g _ = Found.stops Stop.unbound

abbrev pub is_definable : Entry → List ℕ → Bool
is_definable (Entry.declare c definable type) name = definable && bytes_eq c name
is_definable (Entry.rule context left right) name = false
is_definable (Entry.define c type body) name = bytes_eq c name

-- the constant was declared by def
abbrev pub is_by_def : List Entry → List ℕ → Bool
is_by_def [] name = false
is_by_def (e ∷ entries) name = cond (is_definable e name) true (is_by_def entries name)

abbrev pub or_spent : Lp → Option Normal → Found Lp
or_spent t (Some m) = Found.gives m.form
or_spent t None = Found.stops (Stop.spent t)

-- The body of an abstraction asks a type other than Kind.
abbrev pub asks_body : Class → Found Lp
asks_body Class.kind = refuses Refusal.body_kind
asks_body (Class.of t) = Found.gives t

abbrev pub on_product : {A : Type 0} → Lp → (Lp → Lp → A) → A → A
on_product (Lp.prod a b) f other = f a b
on_product _ f other = other

module _ (sigma : List Entry) (limit : ℕ) where
  -- the normal form of a type; the variables of its binders are numbered from n on
  abbrev pub normal_form : ℕ → Lp → Found Lp
  normal_form n t = or_spent t (normal sigma n limit t)

  -- Kind is its own normal form
  abbrev pub normal_class : ℕ → Class → Found Class
  normal_class n Class.kind = Found.gives Class.kind
  normal_class n (Class.of t) = and_then (normal_form n t) (λ u. Found.gives (Class.of u))

  -- A place behind n variables asks a type: the two are compared as terms, then by their normal forms.
  abbrev pub asks : ℕ → Class → Class → Found (Unit {0})
  asks n wanted found = cond (same_class found wanted) (Found.gives tt)
      (and_then (normal_class n found) (λ f. and_then (normal_class n wanted) (λ w.
      cond (same_class f w) (Found.gives tt) (refuses (Refusal.mismatch found wanted f w)))))

  -- A place behind n variables asks a sort.
  abbrev pub asks_sort : ℕ → Class → Found Class
  asks_sort n found = cond (is_sort found) (Found.gives found)
      (and_then (normal_class n found) (λ f. cond (is_sort f) (Found.gives f) (refuses (Refusal.not_sort found f))))

  -- An applied part asks a product: its type, or the type's normal form, of which more may be asked.
  abbrev pub asks_product : (Context → Lp → Lp → Found (Unit {0})) → Context → Class → Found (Lp × Lp)
  asks_product more g Class.kind = refuses (Refusal.not_product Class.kind Class.kind)
  asks_product more g (Class.of t) = on_product t (λ a b. Found.gives (a, b))
      (and_then (normal_form (depth g) t) (λ u. on_product u
      (λ a b. and_then (here (more g t u)) (λ _. Found.gives (a, b)))
      (refuses (Refusal.not_product (Class.of t) (Class.of u)))))

  -- the head of a rule's left side asks a constant declared by def
  abbrev pub asks_head : Lp → Found (Unit {0})
  asks_head (Lp.const name) = cond (is_by_def sigma name) (Found.gives tt) (refuses Refusal.rule_head)
  asks_head _ = refuses Refusal.rule_head
