-- The parts of a term with no loose index have none.
use Rattle.std.proofs.Common.{ℕ, suc, ◌<◌}
use Rattle.lp_terms.specs.Term.{Lp, IsClosedAt}

pub in_function : (k : ℕ) (f a : Lp) → IsClosedAt k (Lp.app f a) → IsClosedAt k f
in_function k f a (IsClosedAt.app p q) = p

pub in_argument : (k : ℕ) (f a : Lp) → IsClosedAt k (Lp.app f a) → IsClosedAt k a
in_argument k f a (IsClosedAt.app p q) = q

pub in_domain : (k : ℕ) (a b : Lp) → IsClosedAt k (Lp.abs a b) → IsClosedAt k a
in_domain k a b (IsClosedAt.abs p q) = p

pub in_body : (k : ℕ) (a b : Lp) → IsClosedAt k (Lp.abs a b) → IsClosedAt (suc k) b
in_body k a b (IsClosedAt.abs p q) = q

pub in_product_domain : (k : ℕ) (a b : Lp) → IsClosedAt k (Lp.prod a b) → IsClosedAt k a
in_product_domain k a b (IsClosedAt.prod p q) = p

pub in_codomain : (k : ℕ) (a b : Lp) → IsClosedAt k (Lp.prod a b) → IsClosedAt (suc k) b
in_codomain k a b (IsClosedAt.prod p q) = q

pub within : (k i : ℕ) → IsClosedAt k (Lp.index i) → i < k
within k i (IsClosedAt.index h) = h

pub ruleset parts = (in_function, in_argument, in_domain, in_body, in_product_domain, in_codomain, within)
