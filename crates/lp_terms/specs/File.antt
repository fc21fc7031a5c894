-- What the entries of a file keep.
use Rattle.std.specs.Prelude.{◌≡◌, ℕ, suc, ◌<◌, Bool, true, false, ◌||◌, ◌==◌, List, [], ◌∷◌, length}
use Rattle.lp_terms.specs.Term.{Lp}
use Rattle.lp_terms.specs.Signature.{Entry}
use Rattle.lp_terms.specs.Measure.{entries_depth, limit}
use Rattle.lp_terms.specs.Names.{IsIdentifier, is_variable, is_among}

-- the names declared after the entry
abbrev pub declared_after : List (List ℕ) → Entry → List (List ℕ)
declared_after declared (Entry.declare name definable type) = name ∷ declared
declared_after declared (Entry.define name type body) = name ∷ declared
declared_after declared (Entry.rule context left right) = declared

-- an identifier that is no x with digits and isn't declared before
pub record IsNewName (declared : List (List ℕ)) (name : List ℕ) : Type 0 where
  pub identifier : IsIdentifier name
  pub no_variable : is_variable name ≡ false
  pub first : is_among name declared ≡ false

-- each constant is declared before, no variable is free, and each index is below k and the number of binders round it
pub data IsTermOf (declared : List (List ℕ)) : ℕ → Lp → Type 0 where
  sort : {k : ℕ} → IsTermOf declared k Lp.sort
  const : {k : ℕ} {name : List ℕ} → is_among name declared ≡ true → IsTermOf declared k (Lp.const name)
  index : {k i : ℕ} → i < k → IsTermOf declared k (Lp.index i)
  app : {k : ℕ} {f a : Lp} → IsTermOf declared k f → IsTermOf declared k a → IsTermOf declared k (Lp.app f a)
  abs : {k : ℕ} {a b : Lp} → IsTermOf declared k a → IsTermOf declared (suc k) b → IsTermOf declared k (Lp.abs a b)
  prod : {k : ℕ} {a b : Lp} → IsTermOf declared k a → IsTermOf declared (suc k) b → IsTermOf declared k (Lp.prod a b)

-- a context after k variables
pub data IsContextOf (declared : List (List ℕ)) : ℕ → List Lp → Type 0 where
  empty : {k : ℕ} → IsContextOf declared k []
  bind : {k : ℕ} {type : Lp} {types : List Lp} → IsTermOf declared k type → IsContextOf declared (suc k) types →
      IsContextOf declared k (type ∷ types)

-- the index k, which is one more under each binder, occurs
abbrev pub occurs : ℕ → Lp → Bool
occurs k Lp.sort = false
occurs k (Lp.const name) = false
occurs k (Lp.free n) = false
occurs k (Lp.index i) = i == k
occurs k (Lp.app f a) = occurs k f || occurs k a
occurs k (Lp.abs a b) = occurs k a || occurs (suc k) b
occurs k (Lp.prod a b) = occurs k a || occurs (suc k) b

-- a pattern is a context variable or a constant applied to patterns
mutual
  pub data IsPattern : Lp → Type 0 where
    variable : {i : ℕ} → IsPattern (Lp.index i)
    instance : {t : Lp} → IsConstantApplied t → IsPattern t

  pub data IsConstantApplied : Lp → Type 0 where
    constant : {name : List ℕ} → IsConstantApplied (Lp.const name)
    applied : {f a : Lp} → IsConstantApplied f → IsPattern a → IsConstantApplied (Lp.app f a)

-- an entry after these names: a new name, terms of the names before, and a rule whose left side is a constant applied to
-- patterns where every context variable occurs
pub data IsEntryOf (declared : List (List ℕ)) : Entry → Type 0 where
  declare : {name : List ℕ} {definable : Bool} {type : Lp} → IsNewName declared name → IsTermOf declared 0 type →
      IsEntryOf declared (Entry.declare name definable type)
  define : {name : List ℕ} {type body : Lp} → IsNewName declared name → IsTermOf declared 0 type → IsTermOf declared 0 body →
      IsEntryOf declared (Entry.define name type body)
  rule : {context : List Lp} {left right : Lp} → IsContextOf declared 0 context → IsTermOf declared (length context) left →
      IsTermOf declared (length context) right → IsConstantApplied left →
      ((i : ℕ) → i < length context → occurs i left ≡ true) → IsEntryOf declared (Entry.rule context left right)

-- each of the entries is in order after these names and the entries before it
pub data AreEntriesOf : List (List ℕ) → List Entry → Type 0 where
  done : {declared : List (List ℕ)} → AreEntriesOf declared []
  next : {declared : List (List ℕ)} {e : Entry} {es : List Entry} → IsEntryOf declared e → AreEntriesOf (declared_after declared e) es →
      AreEntriesOf declared (e ∷ es)

-- what a file keeps: its entries are in order, and fewer binders and context variables than the limit stand round each place
pub record IsFile (es : List Entry) : Type 0 where
  pub in_order : AreEntriesOf [] es
  pub bounded : entries_depth es < limit
