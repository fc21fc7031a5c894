-- Constants of a term: reduction brings in none but those of the signature.
use Rattle.std.proofs.Common.{ℕ, zero, suc, ◌≡◌, ◌-◌, List, [], ◌∷◌, Option, Some, None, IfSome, Bool, true, false, cond, ◌==◌, nat_lt}
use Rattle.std.specs.Prelude.{slice_get, unwrap_or}
use Rattle.std.specs.Option.{option_map}
use Rattle.lp_terms.specs.Term.{Lp, open_at, closed, close_at}
use Rattle.lp_terms.specs.Signature.{Entry, Holds}
use Rattle.lp_terms.specs.Signature as sig
use Rattle.lp_terms.specs.Reduction.{instance_at}
use Rattle.lp_terms.specs.Same.{same}
use Rattle.lp_terms.specs.Names.{is_among}
use Rattle.lp_reduce.specs.Put.{put}
use Rattle.lp_reduce.specs.Step.{part_at, with_first, parts, rule_at, entry_step, first_entry_step, beta_step, root_step, next_step}
use Rattle.lp_reduce.specs.Normal.{Normal, one_step_more, after_step, normal}
use Rattle.lp_reduce.proofs.Steps.{on_first, on_mapped, on_each, on_test}

module _ (names : List (List ℕ)) where
  -- each constant is one of the names
  abbrev pub IsNamed : Lp → Type 0
  IsNamed Lp.sort = Unit {0}
  IsNamed (Lp.const name) = is_among name names ≡ true
  IsNamed (Lp.free n) = Unit {0}
  IsNamed (Lp.index i) = Unit {0}
  IsNamed (Lp.app f a) = IsNamed f × IsNamed a
  IsNamed (Lp.abs a b) = IsNamed a × IsNamed b
  IsNamed (Lp.prod a b) = IsNamed a × IsNamed b

  abbrev pub AreNamed : List Lp → Type 0
  AreNamed [] = Unit {0}
  AreNamed (u ∷ us) = IsNamed u × AreNamed us

  abbrev pub IsNamedEntry : Entry → Type 0
  IsNamedEntry (Entry.declare name definable type) = IsNamed type
  IsNamedEntry (Entry.rule context left right) = IsNamed left × IsNamed right
  IsNamedEntry (Entry.define name type body) = IsNamed type × IsNamed body

  abbrev pub IsNamedSignature : List Entry → Type 0
  IsNamedSignature sigma = (e : Entry) → Holds sigma e → IsNamedEntry e

  named_cond : (b : Bool) (t u : Lp) → IsNamed t → IsNamed u → IsNamed (cond b t u)
  named_cond true t u p q = p
  named_cond false t u p q = q

  pub named_open : (k : ℕ) (u t : Lp) → IsNamed u → IsNamed t → IsNamed (open_at k u t)
  named_open k u Lp.sort p q = tt
  named_open k u (Lp.const name) p q = q
  named_open k u (Lp.free n) p q = tt
  named_open k u (Lp.index i) p q = named_cond (i == k) u (Lp.index i) p tt
  named_open k u (Lp.app f a) p q = (named_open k u f p q.0, named_open k u a p q.1)
  named_open k u (Lp.abs a b) p q = (named_open k u a p q.0, named_open (suc k) u b p q.1)
  named_open k u (Lp.prod a b) p q = (named_open k u a p q.0, named_open (suc k) u b p q.1)

  pub named_close : (k x : ℕ) (t : Lp) → IsNamed t → IsNamed (close_at k x t)
  named_close k x Lp.sort q = tt
  named_close k x (Lp.const name) q = q
  named_close k x (Lp.free n) q = named_cond (n == x) (Lp.index k) (Lp.free n) tt tt
  named_close k x (Lp.index i) q = tt
  named_close k x (Lp.app f a) q = (named_close k x f q.0, named_close k x a q.1)
  named_close k x (Lp.abs a b) q = (named_close k x a q.0, named_close (suc k) x b q.1)
  named_close k x (Lp.prod a b) q = (named_close k x a q.0, named_close (suc k) x b q.1)

  pub named_instance : (k : ℕ) (us : List Lp) (t : Lp) → AreNamed us → IsNamed t → IsNamed (instance_at k us t)
  named_instance k [] t p q = q
  named_instance k (u ∷ us) t p q = named_open k u (instance_at (suc k) us t) p.0 (named_instance (suc k) us t p.1 q)

  named_get : (us : List Lp) (j i : ℕ) → AreNamed us → IsNamed (unwrap_or (slice_get us j) (Lp.index i))
  named_get [] j i p = tt
  named_get (u ∷ us) zero i p = p.0
  named_get (u ∷ us) (suc j) i p = named_get us j i p.1

  pub named_put : (k : ℕ) (us : List Lp) (t : Lp) → AreNamed us → IsNamed t → IsNamed (put k us t)
  named_put k us Lp.sort p q = tt
  named_put k us (Lp.const name) p q = q
  named_put k us (Lp.free n) p q = tt
  named_put k us (Lp.index i) p q = named_cond (nat_lt i k) (Lp.index i) (unwrap_or (slice_get us (i - k)) (Lp.index i)) tt (named_get us (i - k) i p)
  named_put k us (Lp.app f a) p q = (named_put k us f p q.0, named_put k us a p q.1)
  named_put k us (Lp.abs a b) p q = (named_put k us a p q.0, named_put (suc k) us b p q.1)
  named_put k us (Lp.prod a b) p q = (named_put k us a p q.0, named_put (suc k) us b p q.1)

  named_part : (i : ℕ) (p t : Lp) → IsNamed t → IfSome (part_at i p t) IsNamed
  named_part i (Lp.index j) t q = on_test IsNamed (j == i) t (λ e. q)
  named_part i (Lp.app p r) (Lp.app f a) q = on_first IsNamed (part_at i p f) (part_at i r a) (named_part i p f q.0) (named_part i r a q.1)
  named_part _ _ _ _ = tt

  named_first : (a : Option Lp) (b : Option (List Lp)) → IfSome a IsNamed → IfSome b AreNamed → IfSome (with_first a b) AreNamed
  named_first (Some u) (Some us) p q = (p, q)
  named_first (Some u) None p q = tt
  named_first None (Some us) p q = tt
  named_first None None p q = tt

  named_parts : (context : List Lp) (i : ℕ) (p t : Lp) → IsNamed t → IfSome (parts context i p t) AreNamed
  named_parts [] i p t q = tt
  named_parts (type ∷ context) i p t q = named_first (part_at i p t) (parts context (suc i) p t) (named_part i p t q) (named_parts context (suc i) p t q)

  named_rule : (left right t : Lp) (o : Option (List Lp)) → IsNamed right → IfSome o AreNamed → IfSome (rule_at left right t o) IsNamed
  named_rule left right t None q p = tt
  named_rule left right t (Some us) q p = on_test IsNamed (same (put 0 us left) t) (put 0 us right) (λ e. named_put 0 us right p q)

  module _ (sigma : List Entry) (w : IsNamedSignature sigma) where
    named_entry : (e : Entry) (t : Lp) → IsNamedEntry e → IsNamed t → IfSome (entry_step e t) IsNamed
    named_entry (Entry.declare name definable type) t h q = tt
    named_entry (Entry.rule context left right) t h q = named_rule left right t (parts context 0 left t) h.1 (named_parts context 0 left t q)
    named_entry (Entry.define name type body) t h q = on_test IsNamed (same (Lp.const name) t) body (λ e. h.1)

    named_entries : (entries : List Entry) (t : Lp) → ((e : Entry) → Holds entries e → Holds sigma e) → IsNamed t → IfSome (first_entry_step entries t) IsNamed
    named_entries [] t h q = tt
    named_entries (e ∷ entries) t h q = on_first IsNamed (entry_step e t) (first_entry_step entries t)
        (named_entry e t (w e (h e sig.Holds.first)) q) (named_entries entries t (λ d i. h d (sig.Holds.later i)) q)

    named_beta : (t : Lp) → IsNamed t → IfSome (beta_step t) IsNamed
    named_beta (Lp.app (Lp.abs a t) u) q = named_open 0 u t q.1 q.0.1
    named_beta _ q = tt

    named_root : (t : Lp) → IsNamed t → IfSome (root_step sigma t) IsNamed
    named_root t q = on_first IsNamed (beta_step t) (first_entry_step sigma t) (named_beta t q) (named_entries sigma t (λ e h. h) q)

    pub next_named : (n : ℕ) (us : List Lp) (t : Lp) → AreNamed us → IsNamed t → IfSome (next_step sigma n us t) IsNamed
    next_named n us Lp.sort p q = tt
    next_named n us (Lp.const name) p q = named_root (Lp.const name) q
    next_named n us (Lp.free m) p q = tt
    next_named n us (Lp.index i) p q = tt
    next_named n us (Lp.app f a) p q =
        let F : IsNamed (instance_at 0 us f) = named_instance 0 us f p q.0 in
        let A : IsNamed (instance_at 0 us a) = named_instance 0 us a p q.1 in
        on_first IsNamed (option_map (λ g. Lp.app g (instance_at 0 us a)) (next_step sigma n us f)) _
        (on_mapped IsNamed (λ g. Lp.app g (instance_at 0 us a)) (next_step sigma n us f)
        (on_each IsNamed (λ g. IsNamed (Lp.app g (instance_at 0 us a))) (next_step sigma n us f) (λ g h. (h, A)) (next_named n us f p q.0)))
        (on_first IsNamed (option_map (λ b. Lp.app (instance_at 0 us f) b) (next_step sigma n us a)) (root_step sigma (Lp.app (instance_at 0 us f) (instance_at 0 us a)))
        (on_mapped IsNamed (λ b. Lp.app (instance_at 0 us f) b) (next_step sigma n us a)
        (on_each IsNamed (λ b. IsNamed (Lp.app (instance_at 0 us f) b)) (next_step sigma n us a) (λ b h. (F, h)) (next_named n us a p q.1)))
        (named_root (Lp.app (instance_at 0 us f) (instance_at 0 us a)) (F, A)))
    next_named n us (Lp.abs a t) p q =
        on_first IsNamed (option_map (λ b. Lp.abs b (instance_at 1 us t)) (next_step sigma n us a)) _
        (on_mapped IsNamed (λ b. Lp.abs b (instance_at 1 us t)) (next_step sigma n us a)
        (on_each IsNamed (λ b. IsNamed (Lp.abs b (instance_at 1 us t))) (next_step sigma n us a) (λ b h. (h, named_instance 1 us t p q.1)) (next_named n us a p q.0)))
        (on_mapped IsNamed (λ u. Lp.abs (instance_at 0 us a) (closed n u)) (next_step sigma (suc n) (Lp.free n ∷ us) t)
        (on_each IsNamed (λ u. IsNamed (Lp.abs (instance_at 0 us a) (closed n u))) (next_step sigma (suc n) (Lp.free n ∷ us) t)
        (λ u h. (named_instance 0 us a p q.0, named_close 0 n u h)) (next_named (suc n) (Lp.free n ∷ us) t (tt, p) q.1)))
    next_named n us (Lp.prod a t) p q =
        on_first IsNamed (option_map (λ b. Lp.prod b (instance_at 1 us t)) (next_step sigma n us a)) _
        (on_mapped IsNamed (λ b. Lp.prod b (instance_at 1 us t)) (next_step sigma n us a)
        (on_each IsNamed (λ b. IsNamed (Lp.prod b (instance_at 1 us t))) (next_step sigma n us a) (λ b h. (h, named_instance 1 us t p q.1)) (next_named n us a p q.0)))
        (on_mapped IsNamed (λ u. Lp.prod (instance_at 0 us a) (closed n u)) (next_step sigma (suc n) (Lp.free n ∷ us) t)
        (on_each IsNamed (λ u. IsNamed (Lp.prod (instance_at 0 us a) (closed n u))) (next_step sigma (suc n) (Lp.free n ∷ us) t)
        (λ u h. (named_instance 0 us a p q.0, named_close 0 n u h)) (next_named (suc n) (Lp.free n ∷ us) t (tt, p) q.1)))

    -- the normal form
    named_counted : (m : Option Normal) → IfSome m (λ r. IsNamed r.form) → IfSome (option_map one_step_more m) (λ r. IsNamed r.form)
    named_counted (Some m) p = p
    named_counted None p = tt

    named_after : (t : Lp) (o : Option Lp) (more : Lp → Option Normal) → IsNamed t → IfSome o IsNamed →
        ((u : Lp) → IsNamed u → IfSome (more u) (λ r. IsNamed r.form)) → IfSome (after_step t o more) (λ r. IsNamed r.form)
    named_after t None more q p f = q
    named_after t (Some u) more q p f = named_counted (more u) (f u p)

    pub normal_named : (n limit : ℕ) (t : Lp) → IsNamed t → IfSome (normal sigma n limit t) (λ r. IsNamed r.form)
    normal_named n zero t q = named_after t (next_step sigma n [] t) (λ u. None) q (next_named n [] t tt q) (λ u h. tt)
    normal_named n (suc limit) t q = named_after t (next_step sigma n [] t) (λ u. normal sigma n limit u) q (next_named n [] t tt q) (λ u h. normal_named n limit u h)
