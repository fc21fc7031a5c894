-- Reduction and conversion modulo the rules of a signature.
use Rattle.std.specs.Prelude.{ℕ, suc, ◌≡◌, ◌≤◌, List, [], ◌∷◌, length}
use Rattle.lp_terms.specs.Term.{Lp, opened, open_at, IsClosed}
use Rattle.lp_terms.specs.Signature.{Entry, Holds}

-- the term with the terms for the indices from k on, the last one for the index k
abbrev pub instance_at : ℕ → List Lp → Lp → Lp
instance_at k [] t = t
instance_at k (u ∷ us) t = open_at k u (instance_at (suc k) us t)

-- no index of the terms is loose
abbrev pub AreClosed : List Lp → Type 0
AreClosed [] = Unit {0}
AreClosed (u ∷ us) = IsClosed u × AreClosed us

-- One reduction: a beta step or an instance of a rule, at any place. A definition is a rule without variables. What is put
-- for a variable has no loose index. At a place under a binder, the binder's variable is free, with every number from some
-- bound on.
pub data Reduces (sigma : List Entry) : Lp → Lp → Type 0 where
  beta : {domain body argument : Lp} → IsClosed argument → Reduces sigma (Lp.app (Lp.abs domain body) argument) (opened body argument)
  by_rule : {context : List Lp} {left right : Lp} (us : List Lp) → Holds sigma (Entry.rule context left right) →
      length us ≡ length context → AreClosed us → Reduces sigma (instance_at 0 us left) (instance_at 0 us right)
  by_definition : {name : List ℕ} {type body : Lp} → Holds sigma (Entry.define name type body) → Reduces sigma (Lp.const name) body
  in_function : {f g a : Lp} → Reduces sigma f g → Reduces sigma (Lp.app f a) (Lp.app g a)
  in_argument : {f a b : Lp} → Reduces sigma a b → Reduces sigma (Lp.app f a) (Lp.app f b)
  in_abs_domain : {a b t : Lp} → Reduces sigma a b → Reduces sigma (Lp.abs a t) (Lp.abs b t)
  in_abs_body : {a t u : Lp} (bound : ℕ) → ((n : ℕ) → bound ≤ n → Reduces sigma (opened t (Lp.free n)) (opened u (Lp.free n))) →
      Reduces sigma (Lp.abs a t) (Lp.abs a u)
  in_prod_domain : {a b t : Lp} → Reduces sigma a b → Reduces sigma (Lp.prod a t) (Lp.prod b t)
  in_prod_codomain : {a t u : Lp} (bound : ℕ) → ((n : ℕ) → bound ≤ n → Reduces sigma (opened t (Lp.free n)) (opened u (Lp.free n))) →
      Reduces sigma (Lp.prod a t) (Lp.prod a u)

-- Conversion: a finite list of reductions, each one way or the other. Nothing is asked of the terms between.
pub data Converts (sigma : List Entry) : Lp → Lp → Type 0 where
  same : {t : Lp} → Converts sigma t t
  forth : {t u v : Lp} → Reduces sigma t u → Converts sigma u v → Converts sigma t v
  back : {t u v : Lp} → Reduces sigma u t → Converts sigma u v → Converts sigma t v
