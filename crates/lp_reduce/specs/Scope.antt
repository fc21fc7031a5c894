-- Terms whose free variables and loose indices are below two numbers.
use Rattle.std.specs.Prelude.{ℕ, suc, ◌<◌, List, [], ◌∷◌, length}
use Rattle.lp_terms.specs.Term.{Lp}
use Rattle.lp_terms.specs.Signature.{Entry, Holds}

-- each free variable is below n, and each index is below k and the number of binders round it
pub data IsScoped (n : ℕ) : ℕ → Lp → Type 0 where
  sort : {k : ℕ} → IsScoped n k Lp.sort
  const : {k : ℕ} {name : List ℕ} → IsScoped n k (Lp.const name)
  free : {k m : ℕ} → m < n → IsScoped n k (Lp.free m)
  index : {k i : ℕ} → i < k → IsScoped n k (Lp.index i)
  app : {k : ℕ} {f a : Lp} → IsScoped n k f → IsScoped n k a → IsScoped n k (Lp.app f a)
  abs : {k : ℕ} {a b : Lp} → IsScoped n k a → IsScoped n (suc k) b → IsScoped n k (Lp.abs a b)
  prod : {k : ℕ} {a b : Lp} → IsScoped n k a → IsScoped n (suc k) b → IsScoped n k (Lp.prod a b)

-- no variable of the types is free, and each type counts the variables before it, of which k stand before them all
abbrev pub AreScopedTypes : ℕ → List Lp → Type 0
AreScopedTypes k [] = Unit {0}
AreScopedTypes k (type ∷ types) = IsScoped 0 k type × AreScopedTypes (suc k) types

-- no variable of the entry is free, and each index is below the number of binders and context variables round it
abbrev pub IsScopedEntry : Entry → Type 0
IsScopedEntry (Entry.declare name definable type) = IsScoped 0 0 type
IsScopedEntry (Entry.rule context left right) =
    AreScopedTypes 0 context × IsScoped 0 (length context) left × IsScoped 0 (length context) right
IsScopedEntry (Entry.define name type body) = IsScoped 0 0 type × IsScoped 0 0 body

abbrev pub IsScopedSignature : List Entry → Type 0
IsScopedSignature sigma = (e : Entry) → Holds sigma e → IsScopedEntry e
