-- Well-formed signatures.
use Rattle.std.specs.Prelude.{ℕ, suc, ◌≡◌, List, [], ◌∷◌, ◌++◌, Bool, true}
use Rattle.lp_terms.specs.Term.{Lp, HasNoFree}
use Rattle.lp_terms.specs.Signature.{Entry, Holds, HaveNoFree}
use Rattle.lp_terms.specs.Reduction.{instance_at}
use Rattle.lp_terms.specs.Typing.{Context, Class, IsSort, Has}

-- A rule's context variables are read as the free variables 0, 1, ..; us are those read so far, the last one first, and k
-- is their number.
abbrev pub rule_variables : List Lp → ℕ → List Lp → List Lp
rule_variables [] k us = us
rule_variables (type ∷ types) k us = rule_variables types (suc k) (Lp.free k ∷ us)

-- the context of these variables
abbrev pub rule_context : List Lp → ℕ → List Lp → Context → Context
rule_context [] k us g = g
rule_context (type ∷ types) k us g = rule_context types (suc k) (Lp.free k ∷ us) (Context.bind k (instance_at 0 us type) g)

-- each of the types has Type in the context of those before it
abbrev pub HaveType : List Entry → List Lp → ℕ → List Lp → Context → Type 0
HaveType sigma [] k us g = Unit {0}
HaveType sigma (type ∷ types) k us g =
    Has sigma g (instance_at 0 us type) (Class.of Lp.sort) × HaveType sigma types (suc k) (Lp.free k ∷ us) (Context.bind k (instance_at 0 us type) g)

-- what a term is an application of
abbrev pub head : Lp → Lp
head Lp.sort = Lp.sort
head (Lp.const name) = Lp.const name
head (Lp.free n) = Lp.free n
head (Lp.index i) = Lp.index i
head (Lp.app f a) = head f
head (Lp.abs a b) = Lp.abs a b
head (Lp.prod a b) = Lp.prod a b

-- the constant was declared by def, without a body or with one
pub data IsByDef (sigma : List Entry) : List ℕ → Type 0 where
  declared : {name : List ℕ} {type : Lp} → Holds sigma (Entry.declare name true type) → IsByDef sigma name
  defined : {name : List ℕ} {type body : Lp} → Holds sigma (Entry.define name type body) → IsByDef sigma name

-- an entry after the signature: a declared type has a sort; a rule's context types have Type, its head was declared by def
-- and its sides have one common type in its context; a definition's type has a sort, and its body has that type
pub data IsWellFormedEntry (sigma : List Entry) : Entry → Type 0 where
  declare : {name : List ℕ} {definable : Bool} {type : Lp} {s : Class} → Has sigma Context.empty type s → IsSort s →
      IsWellFormedEntry sigma (Entry.declare name definable type)
  rule : {context : List Lp} {left right : Lp} (name : List ℕ) (common : Lp) →
      HaveNoFree context → HasNoFree left → HasNoFree right →
      HaveType sigma context 0 [] Context.empty →
      head left ≡ Lp.const name → IsByDef sigma name →
      Has sigma (rule_context context 0 [] Context.empty) (instance_at 0 (rule_variables context 0 []) left) (Class.of common) →
      Has sigma (rule_context context 0 [] Context.empty) (instance_at 0 (rule_variables context 0 []) right) (Class.of common) →
      IsWellFormedEntry sigma (Entry.rule context left right)
  define : {name : List ℕ} {type body : Lp} {s : Class} → Has sigma Context.empty type s → IsSort s → Has sigma Context.empty body (Class.of type) →
      IsWellFormedEntry sigma (Entry.define name type body)

-- each of the entries is well formed after the signature and the entries before it
abbrev pub IsWellFormedAfter : List Entry → List Entry → Type 0
IsWellFormedAfter sigma [] = Unit {0}
IsWellFormedAfter sigma (e ∷ entries) = IsWellFormedEntry sigma e × IsWellFormedAfter (sigma ++ (e ∷ [])) entries

abbrev pub IsWellFormed : List Entry → Type 0
IsWellFormed entries = IsWellFormedAfter [] entries
