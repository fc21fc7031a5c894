-- How far binders nest, how high free variables are numbered, and the bound on both.
use Rattle.std.specs.Prelude.{ℕ, suc, ◌+◌, ◌<◌, ◌≤◌, max, List, [], ◌∷◌, length}
use Rattle.lp_terms.specs.Term.{Lp}
use Rattle.lp_terms.specs.Signature.{Entry}

-- how many binders stand round one place at most
abbrev pub binder_depth : Lp → ℕ
binder_depth Lp.sort = 0
binder_depth (Lp.const name) = 0
binder_depth (Lp.free n) = 0
binder_depth (Lp.index i) = 0
binder_depth (Lp.app f a) = max (binder_depth f) (binder_depth a)
binder_depth (Lp.abs a b) = max (binder_depth a) (suc (binder_depth b))
binder_depth (Lp.prod a b) = max (binder_depth a) (suc (binder_depth b))

-- one more than the greatest number of a free variable, and 0 where there is none
abbrev pub free_bound : Lp → ℕ
free_bound Lp.sort = 0
free_bound (Lp.const name) = 0
free_bound (Lp.free n) = suc n
free_bound (Lp.index i) = 0
free_bound (Lp.app f a) = max (free_bound f) (free_bound a)
free_bound (Lp.abs a b) = max (free_bound a) (free_bound b)
free_bound (Lp.prod a b) = max (free_bound a) (free_bound b)

-- numbers of binders and of free variables are below this one
abbrev pub limit : ℕ
limit = 4294967295

-- under so many binders, fewer binders than the limit stand round each place of the term, and each free variable's
-- number is below the limit
abbrev pub IsBounded : ℕ → Lp → Type 0
IsBounded binders t = (binders + binder_depth t < limit) × (free_bound t ≤ limit)

-- how many binders and context variables stand round one place of a context at most, after so many of them
abbrev pub context_depth : ℕ → List Lp → ℕ
context_depth k [] = k
context_depth k (type ∷ types) = max (k + binder_depth type) (context_depth (suc k) types)

-- the same of an entry, and of a list of entries
abbrev pub entry_depth : Entry → ℕ
entry_depth (Entry.declare name definable type) = binder_depth type
entry_depth (Entry.define name type body) = max (binder_depth type) (binder_depth body)
entry_depth (Entry.rule context left right) =
    max (context_depth 0 context) (length context + max (binder_depth left) (binder_depth right))

abbrev pub entries_depth : List Entry → ℕ
entries_depth [] = 0
entries_depth (e ∷ es) = max (entry_depth e) (entries_depth es)
