-- Signatures: declarations, rewrite rules and definitions, in order.
use Rattle.std.specs.Prelude.{ℕ, List, [], ◌∷◌, Bool}
use Rattle.lp_terms.specs.Term.{Lp, HasNoFree}

pub data Entry : Type 0 where
  declare : (name : List ℕ) (definable : Bool) (type : Lp) → Entry
  -- a context variable is an index, the last one 0; each type of the context counts those before it
  rule : (context : List Lp) (left right : Lp) → Entry
  define : (name : List ℕ) (type body : Lp) → Entry

-- the entry is one of the signature's
pub data Holds : List Entry → Entry → Type 0 where
  first : {e : Entry} {rest : List Entry} → Holds (e ∷ rest) e
  later : {e d : Entry} {rest : List Entry} → Holds rest e → Holds (d ∷ rest) e

-- one signature holds all that the other holds
abbrev pub Extends : List Entry → List Entry → Type 0
Extends sigma tau = (e : Entry) → Holds sigma e → Holds tau e

-- the constant has this type, by a declaration or by a definition
pub data Declares (sigma : List Entry) : List ℕ → Lp → Type 0 where
  declared : {name : List ℕ} {definable : Bool} {type : Lp} → Holds sigma (Entry.declare name definable type) → Declares sigma name type
  defined : {name : List ℕ} {type body : Lp} → Holds sigma (Entry.define name type body) → Declares sigma name type

-- no free variable occurs in the terms
abbrev pub HaveNoFree : List Lp → Type 0
HaveNoFree [] = Unit {0}
HaveNoFree (t ∷ ts) = HasNoFree t × HaveNoFree ts

-- no free variable occurs in the entry
abbrev pub EntryHasNoFree : Entry → Type 0
EntryHasNoFree (Entry.declare name definable type) = HasNoFree type
EntryHasNoFree (Entry.rule context left right) = HaveNoFree context × HasNoFree left × HasNoFree right
EntryHasNoFree (Entry.define name type body) = HasNoFree type × HasNoFree body

-- no free variable occurs in the signature
abbrev pub SignatureHasNoFree : List Entry → Type 0
SignatureHasNoFree sigma = (e : Entry) → Holds sigma e → EntryHasNoFree e
