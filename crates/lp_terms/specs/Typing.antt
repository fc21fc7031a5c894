-- Typing in the lambda-Pi calculus modulo rewriting.
use Rattle.std.specs.Prelude.{ℕ, ◌≤◌, ◌≢◌, List}
use Rattle.lp_terms.specs.Term.{Lp, opened, substitute, IsFresh}
use Rattle.lp_terms.specs.Signature.{Entry, Declares}
use Rattle.lp_terms.specs.Reduction.{Converts}

-- free variables with their types, the last one first
pub data Context : Type 0 where
  empty : Context
  bind : (number : ℕ) (type : Lp) (outer : Context) → Context

-- the variable has this type in the context
pub data Binds : Context → ℕ → Lp → Type 0 where
  here : {n : ℕ} {type : Lp} {outer : Context} → Binds (Context.bind n type outer) n type
  outside : {n k : ℕ} {type other : Lp} {outer : Context} → Binds outer n type → Binds (Context.bind k other outer) n type

-- one context has all that the other has
abbrev pub IsWithin : Context → Context → Type 0
IsWithin g h = (n : ℕ) (type : Lp) → Binds g n type → Binds h n type

-- the number is no variable of the context
abbrev pub IsUnbound : ℕ → Context → Type 0
IsUnbound x Context.empty = Unit {0}
IsUnbound x (Context.bind n type g) = (n ≢ x) × IsUnbound x g

-- the number occurs nowhere in the context
abbrev pub IsNew : ℕ → Context → Type 0
IsNew x Context.empty = Unit {0}
IsNew x (Context.bind n type g) = (n ≢ x) × IsFresh x type × IsNew x g

-- what a term can have: a type, or the mark Kind
pub data Class : Type 0 where
  kind : Class
  of : Lp → Class

-- the sorts are Type and Kind
pub data IsSort : Class → Type 0 where
  is_type : IsSort (Class.of Lp.sort)
  is_kind : IsSort Class.kind

abbrev pub substitute_class : (ℕ → Lp) → Class → Class
substitute_class s Class.kind = Class.kind
substitute_class s (Class.of t) = Class.of (substitute s t)

-- The seven rules. Under a binder, the binder's variable is free, with every number from some bound on.
pub data Has (sigma : List Entry) : Context → Lp → Class → Type 0 where
  sort : {g : Context} → Has sigma g Lp.sort Class.kind
  constant : {g : Context} {name : List ℕ} {type : Lp} → Declares sigma name type → Has sigma g (Lp.const name) (Class.of type)
  variable : {g : Context} {n : ℕ} {type : Lp} → Binds g n type → Has sigma g (Lp.free n) (Class.of type)
  product : {g : Context} {domain codomain : Lp} {s : Class} (bound : ℕ) → Has sigma g domain (Class.of Lp.sort) →
      ((n : ℕ) → bound ≤ n → Has sigma (Context.bind n domain g) (opened codomain (Lp.free n)) s) → IsSort s →
      Has sigma g (Lp.prod domain codomain) s
  abstraction : {g : Context} {domain body codomain : Lp} {s : Class} (bound : ℕ) →
      ((n : ℕ) → bound ≤ n → Has sigma (Context.bind n domain g) (opened body (Lp.free n)) (Class.of (opened codomain (Lp.free n)))) →
      Has sigma g (Lp.prod domain codomain) s → IsSort s →
      Has sigma g (Lp.abs domain body) (Class.of (Lp.prod domain codomain))
  application : {g : Context} {f a domain codomain : Lp} → Has sigma g f (Class.of (Lp.prod domain codomain)) →
      Has sigma g a (Class.of domain) → Has sigma g (Lp.app f a) (Class.of (opened codomain a))
  conversion : {g : Context} {t type other : Lp} {s : Class} → Has sigma g t (Class.of type) → Converts sigma type other →
      Has sigma g other s → IsSort s → Has sigma g t (Class.of other)

-- each variable's type has Type in the context before it
abbrev pub IsContext : List Entry → Context → Type 0
IsContext sigma Context.empty = Unit {0}
IsContext sigma (Context.bind n type g) = Has sigma g type (Class.of Lp.sort) × IsContext sigma g

-- Kind, or a type that has a sort
abbrev pub IsSorted : List Entry → Context → Class → Type 0
IsSorted sigma g Class.kind = Unit {0}
IsSorted sigma g (Class.of type) = (s : Class) × IsSort s × Has sigma g type s
