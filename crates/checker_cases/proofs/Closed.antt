-- Where each index is below the number of binders round it, no index is loose.
use Rattle.std.proofs.Common.{ℕ, suc, ◌≡◌, ◌+◌, subst, arith}
use Rattle.lp_terms.specs.Term.{Lp, IsClosedAt}
use Rattle.lp_terms.specs.Term as lp
use Rattle.checker_cases.specs.Within.{IsWithin}

closed_under : (k : ℕ) (t : Lp) → IsClosedAt (k + 1) t → IsClosedAt (suc k) t
closed_under k t c = subst (λ m. IsClosedAt m t) (let e : k + 1 ≡ suc k = omega arith in e) c

pub closed_within : (k : ℕ) (t : Lp) → IsWithin k t → IsClosedAt k t
closed_within k Lp.sort w = lp.IsClosedAt.sort
closed_within k (Lp.const name) w = lp.IsClosedAt.const
closed_within k (Lp.free n) w = lp.IsClosedAt.free
closed_within k (Lp.index i) w = lp.IsClosedAt.index w
closed_within k (Lp.app f a) w = lp.IsClosedAt.app (closed_within k f w.0) (closed_within k a w.1)
closed_within k (Lp.abs a b) w = lp.IsClosedAt.abs (closed_within k a w.0) (closed_under k b (closed_within (k + 1) b w.1))
closed_within k (Lp.prod a b) w = lp.IsClosedAt.prod (closed_within k a w.0) (closed_under k b (closed_within (k + 1) b w.1))
