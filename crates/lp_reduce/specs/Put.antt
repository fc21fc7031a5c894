-- Terms put for indices all at once, and what fits a left side.
use Rattle.std.specs.Prelude.{ℕ, suc, ◌-◌, Bool, true, false, cond, ◌&&◌, nat_lt, List, slice_get, unwrap_or}
use Rattle.std.specs.Str.{bytes_eq}
use Rattle.lp_terms.specs.Term.{Lp}

-- the term with the terms for its indices from k on, the first one for the index k, which is one more under each binder
abbrev pub put : ℕ → List Lp → Lp → Lp
put k us Lp.sort = Lp.sort
put k us (Lp.const name) = Lp.const name
put k us (Lp.free n) = Lp.free n
put k us (Lp.index i) = cond (nat_lt i k) (Lp.index i) (unwrap_or (slice_get us (i - k)) (Lp.index i))
put k us (Lp.app f a) = Lp.app (put k us f) (put k us a)
put k us (Lp.abs a b) = Lp.abs (put k us a) (put (suc k) us b)
put k us (Lp.prod a b) = Lp.prod (put k us a) (put (suc k) us b)

-- the constants and applications of a left side are those of the term
abbrev pub may_fit : Lp → Lp → Bool
may_fit (Lp.const x) (Lp.const y) = bytes_eq x y
may_fit (Lp.app f a) (Lp.app g b) = may_fit f g && may_fit a b
may_fit (Lp.const x) _ = false
may_fit (Lp.app f a) _ = false
may_fit _ _ = true
