-- Terms of lambda-Pi, with opening, closing and substitution. A bound variable is an index that counts the binders round
-- its place, the innermost being 0; any other variable is free and has a number.
use Rattle.std.specs.Prelude.{ℕ, suc, ◌<◌, ◌≢◌, List, cond, ◌==◌}

pub data Lp : Type 0 where
  -- the sort Type
  sort : Lp
  const : (name : List ℕ) → Lp
  free : (number : ℕ) → Lp
  index : (number : ℕ) → Lp
  app : (function argument : Lp) → Lp
  -- a domain, and a body that is under the binder
  abs : (domain body : Lp) → Lp
  prod : (domain codomain : Lp) → Lp

-- the term with u for the index k, which is one more under each binder
abbrev pub open_at : ℕ → Lp → Lp → Lp
open_at k u sort = sort
open_at k u (const name) = const name
open_at k u (free n) = free n
open_at k u (index i) = cond (i == k) u (index i)
open_at k u (app f a) = app (open_at k u f) (open_at k u a)
open_at k u (abs a b) = abs (open_at k u a) (open_at (suc k) u b)
open_at k u (prod a b) = prod (open_at k u a) (open_at (suc k) u b)

-- the body t with u for its binder's variable
abbrev pub opened : Lp → Lp → Lp
opened t u = open_at 0 u t

-- the term with the index k, which is one more under each binder, for the free variable x
abbrev pub close_at : ℕ → ℕ → Lp → Lp
close_at k x sort = sort
close_at k x (const name) = const name
close_at k x (free n) = cond (n == x) (index k) (free n)
close_at k x (index i) = index i
close_at k x (app f a) = app (close_at k x f) (close_at k x a)
close_at k x (abs a b) = abs (close_at k x a) (close_at (suc k) x b)
close_at k x (prod a b) = prod (close_at k x a) (close_at (suc k) x b)

-- the body that has its binder's variable where t has the free variable x
abbrev pub closed : ℕ → Lp → Lp
closed x t = close_at 0 x t

-- the term with s n for each free variable n
abbrev pub substitute : (ℕ → Lp) → Lp → Lp
substitute s sort = sort
substitute s (const name) = const name
substitute s (free n) = s n
substitute s (index i) = index i
substitute s (app f a) = app (substitute s f) (substitute s a)
substitute s (abs a b) = abs (substitute s a) (substitute s b)
substitute s (prod a b) = prod (substitute s a) (substitute s b)

-- u for the free variable x, and every other one as it is
abbrev pub only : ℕ → Lp → ℕ → Lp
only x u n = cond (n == x) u (free n)

-- each index is below k and the number of binders round it
pub data IsClosedAt : ℕ → Lp → Type 0 where
  sort : {k : ℕ} → IsClosedAt k Lp.sort
  const : {k : ℕ} {name : List ℕ} → IsClosedAt k (Lp.const name)
  free : {k n : ℕ} → IsClosedAt k (Lp.free n)
  index : {k i : ℕ} → i < k → IsClosedAt k (Lp.index i)
  app : {k : ℕ} {f a : Lp} → IsClosedAt k f → IsClosedAt k a → IsClosedAt k (Lp.app f a)
  abs : {k : ℕ} {a b : Lp} → IsClosedAt k a → IsClosedAt (suc k) b → IsClosedAt k (Lp.abs a b)
  prod : {k : ℕ} {a b : Lp} → IsClosedAt k a → IsClosedAt (suc k) b → IsClosedAt k (Lp.prod a b)

-- no index is loose
abbrev pub IsClosed : Lp → Type 0
IsClosed t = IsClosedAt 0 t

-- the free variable x does not occur
pub data IsFresh : ℕ → Lp → Type 0 where
  sort : {x : ℕ} → IsFresh x Lp.sort
  const : {x : ℕ} {name : List ℕ} → IsFresh x (Lp.const name)
  free : {x n : ℕ} → n ≢ x → IsFresh x (Lp.free n)
  index : {x i : ℕ} → IsFresh x (Lp.index i)
  app : {x : ℕ} {f a : Lp} → IsFresh x f → IsFresh x a → IsFresh x (Lp.app f a)
  abs : {x : ℕ} {a b : Lp} → IsFresh x a → IsFresh x b → IsFresh x (Lp.abs a b)
  prod : {x : ℕ} {a b : Lp} → IsFresh x a → IsFresh x b → IsFresh x (Lp.prod a b)

-- no free variable occurs
abbrev pub HasNoFree : Lp → Type 0
HasNoFree t = (x : ℕ) → IsFresh x t
