-- Terms put for indices at once are an instance; what the code's walks over a left side find.
use Rattle.std.proofs.Common.{ℕ, zero, suc, ◌≡◌, ◌≢◌, ◌≤◌, ◌<◌, ◌-◌, ◌⊎◌, inl, inr, ◌↔◌, List, [], ◌∷◌, ◌++◌, map, Option, Some, None, Bool, true, false, cond, ◌&&◌, ◌==◌, nat_lt, refl, sym, ap, ap₂, ◌∙◌, subst, append_assoc, append-nil, arith}
use Rattle.std.specs.Prelude.{slice_get, unwrap_or}
use Rattle.std.specs.Option.{option_map}
use Rattle.std.proofs.lemmas.Option.{slice_get-map}
use Rattle.std.proofs.lemmas.Bool.{lt-ltb}
use Rattle.lp_terms.specs.declared.term.Lp as code
use Rattle.lp_terms.specs.View.{term_of, terms_of}
use Rattle.lp_terms.specs.Term.{Lp, open_at}
use Rattle.lp_terms.specs.Reduction.{instance_at, AreClosed}
use Rattle.lp_terms.specs.Same.{same}
use Rattle.lp_terms.proofs.Terms.{at_same, at_other, open_closed}
use Rattle.lp_terms.proofs.Sames.{equal-same, same-true}
use Rattle.lp_reduce.specs.Put.{put, may_fit}
use Rattle.lp_reduce.specs.Step.{part_at, with_first, parts, rule_at}
use Rattle.lp_reduce.proofs.Scoped.{instance_app, instance_abs, instance_prod, instance_const, instance_sort, instance_free}

not_below : (i k : ℕ) → k ≤ i → nat_lt i k ≡ false
not_below i k h = grind arith

below : (i k : ℕ) → i < k → nat_lt i k ≡ true
below i k h = lt-ltb i k h

cond_same : {A : Type 0} (b : Bool) (x : A) → x ≡ cond b x x
cond_same true x = refl
cond_same false x = refl

three_ways : (i k : ℕ) → (i < k) ⊎ ((i ≡ k) ⊎ (k < i))
three_ways i k = grind arith

-- opening leaves the terms and other indices
open_part : (k : ℕ) (u : Lp) (us : List Lp) (j i : ℕ) → AreClosed us → i ≢ k →
    open_at k u (unwrap_or (slice_get us j) (Lp.index i)) ≡ unwrap_or (slice_get us j) (Lp.index i)
open_part k u [] j i c h = at_other i k u (Lp.index i) h
open_part k u (v ∷ us) zero i c h = open_closed k u c.0 (omega arith)
open_part k u (v ∷ us) (suc j) i c h = open_part k u us j i c.1 h

-- what an index becomes
abbrev index_put : ℕ → List Lp → ℕ → Lp
index_put k us i = cond (nat_lt i k) (Lp.index i) (unwrap_or (slice_get us (i - k)) (Lp.index i))

pub put_below : (k : ℕ) (us : List Lp) (i : ℕ) → i < k → index_put k us i ≡ Lp.index i
put_below k us i h = ap (λ b. cond b (Lp.index i) (unwrap_or (slice_get us (i - k)) (Lp.index i))) (below i k h)

pub put_from : (k : ℕ) (us : List Lp) (i j : ℕ) → k ≤ i → i - k ≡ j → index_put k us i ≡ unwrap_or (slice_get us j) (Lp.index i)
put_from k us i j h e =
    ap (λ b. cond b (Lp.index i) (unwrap_or (slice_get us (i - k)) (Lp.index i))) (not_below i k h)
    ∙ ap (λ d. unwrap_or (slice_get us d) (Lp.index i)) e

index_instance : (us : List Lp) → AreClosed us → (k i : ℕ) → index_put k us i ≡ instance_at k us (Lp.index i)
index_instance [] c k i = sym (cond_same (nat_lt i k) (Lp.index i))
index_instance (u ∷ us) c k i =
    elim (three_ways i k) [
      | inl h ↦ put_below k (u ∷ us) i h
          ∙ sym (at_other i k u (Lp.index i) (omega arith))
          ∙ ap (open_at k u) (sym (put_below (suc k) us i (omega arith)) ∙ index_instance us c.1 (suc k) i)
      | inr (inl e) ↦ put_from k (u ∷ us) i 0 (omega arith) (omega arith)
          ∙ sym (ap (λ m. cond (m == k) u (Lp.index m)) e ∙ at_same k u (Lp.index k))
          ∙ ap (open_at k u) (sym (put_below (suc k) us i (omega arith)) ∙ index_instance us c.1 (suc k) i)
      | inr (inr h) ↦ put_from k (u ∷ us) i (suc (i - suc k)) (omega arith) (omega arith)
          ∙ sym (open_part k u us (i - suc k) i c.1 (omega arith))
          ∙ ap (open_at k u) (sym (put_from (suc k) us i (i - suc k) (omega arith) refl) ∙ index_instance us c.1 (suc k) i)
    ]

pub put_instance : (us : List Lp) → AreClosed us → (k : ℕ) (t : Lp) → put k us t ≡ instance_at k us t
put_instance us c k Lp.sort = sym (instance_sort k us)
put_instance us c k (Lp.const name) = sym (instance_const k us name)
put_instance us c k (Lp.free n) = sym (instance_free k us n)
put_instance us c k (Lp.index i) = index_instance us c k i
put_instance us c k (Lp.app f a) = ap₂ Lp.app (put_instance us c k f) (put_instance us c k a) ∙ sym (instance_app k us f a)
put_instance us c k (Lp.abs a b) = ap₂ Lp.abs (put_instance us c k a) (put_instance us c (suc k) b) ∙ sym (instance_abs k us a b)
put_instance us c k (Lp.prod a b) = ap₂ Lp.prod (put_instance us c k a) (put_instance us c (suc k) b) ∙ sym (instance_prod k us a b)

-- the part for an index, in the code's list
pub part_found : (ps : List code.Lp) (j i : ℕ) (u : code.Lp) → slice_get ps j ≡ Some u →
    unwrap_or (slice_get (terms_of ps) j) (Lp.index i) ≡ term_of u
part_found ps j i u h = ap (λ o. unwrap_or o (Lp.index i)) (slice_get-map term_of ps j ∙ ap (option_map term_of) h)

pub part_missing : (ps : List code.Lp) (j i : ℕ) → slice_get ps j ≡ None → unwrap_or (slice_get (terms_of ps) j) (Lp.index i) ≡ Lp.index i
part_missing ps j i h = ap (λ o. unwrap_or o (Lp.index i)) (slice_get-map term_of ps j ∙ ap (option_map term_of) h)

-- a left side that doesn't fit
either_false : (a b c d : Bool) → (a && b) ≡ false → (a ≡ false → c ≡ false) → (b ≡ false → d ≡ false) → (c && d) ≡ false
either_false true b true d h p q = q h
either_false true b false d h p q = refl
either_false false b true d h p q = absurd (grind (arith, p refl))
either_false false b false d h p q = refl

true_is_not : {A : Type 0} → true ≡ false → A
true_is_not h = absurd (grind (arith, h))

unfit : (k : ℕ) (us : List Lp) (left t : Lp) → may_fit left t ≡ false → same (put k us left) t ≡ false
unfit k us (Lp.const x) Lp.sort h = refl
unfit k us (Lp.const x) (Lp.const y) h = h
unfit k us (Lp.const x) (Lp.free n) h = refl
unfit k us (Lp.const x) (Lp.index i) h = refl
unfit k us (Lp.const x) (Lp.app g b) h = refl
unfit k us (Lp.const x) (Lp.abs c d) h = refl
unfit k us (Lp.const x) (Lp.prod c d) h = refl
unfit k us (Lp.app f a) Lp.sort h = refl
unfit k us (Lp.app f a) (Lp.const y) h = refl
unfit k us (Lp.app f a) (Lp.free n) h = refl
unfit k us (Lp.app f a) (Lp.index i) h = refl
unfit k us (Lp.app f a) (Lp.app g b) h =
    either_false (may_fit f g) (may_fit a b) (same (put k us f) g) (same (put k us a) b) h (unfit k us f g) (unfit k us a b)
unfit k us (Lp.app f a) (Lp.abs c d) h = refl
unfit k us (Lp.app f a) (Lp.prod c d) h = refl
unfit k us Lp.sort t h = true_is_not h
unfit k us (Lp.free n) t h = true_is_not h
unfit k us (Lp.index i) t h = true_is_not h
unfit k us (Lp.abs a b) t h = true_is_not h
unfit k us (Lp.prod a b) t h = true_is_not h

pub unfit_rule : (left right t : Lp) (o : Option (List Lp)) → may_fit left t ≡ false → rule_at left right t o ≡ None
unfit_rule left right t None h = refl
unfit_rule left right t (Some us) h = ap (λ b. cond b (Some (put 0 us right)) None) (unfit 0 us left t h)

-- the test of equal terms, where it answers whether they are equal
agree : (a b : Bool) → (a ≡ true → b ≡ true) → (b ≡ true → a ≡ true) → a ≡ b
agree true b p q = sym (p refl)
agree false true p q = q refl
agree false false p q = refl

pub same_test : (b : Bool) (t u : Lp) → (b ≡ true) ↔ (t ≡ u) → b ≡ same t u
same_test b t u h = agree b (same t u) (λ e. equal-same t u (h.0 e)) (λ e. h.1 (same-true t u e))

-- parts found one after the other

push_each : (found : List Lp) (u : Lp) (o : Option (List Lp)) →
    option_map (λ us. (found ++ u ∷ []) ++ us) o ≡ option_map (λ us. found ++ us) (with_first (Some u) o)
push_each found u (Some us) = ap Some (append_assoc found (u ∷ []) us)
push_each found u None = refl

pub part_added : (found : List Lp) (u type : Lp) (context : List Lp) (at : ℕ) (left t : Lp) → part_at at left t ≡ Some u →
    option_map (λ us. (found ++ u ∷ []) ++ us) (parts context (suc at) left t) ≡ option_map (λ us. found ++ us) (parts (type ∷ context) at left t)
part_added found u type context at left t e =
    push_each found u (parts context (suc at) left t)
    ∙ ap (λ o. option_map (λ us. found ++ us) (with_first o (parts context (suc at) left t))) (sym e)

pub part_lacks : (found : List Lp) (type : Lp) (context : List Lp) (at : ℕ) (left t : Lp) → part_at at left t ≡ None →
    option_map (λ us. found ++ us) (parts (type ∷ context) at left t) ≡ None
part_lacks found type context at left t e = ap (λ o. option_map (λ us. found ++ us) (with_first o (parts context (suc at) left t))) e

pub parts_done : (found : List Lp) (at : ℕ) (left t : Lp) → option_map (λ us. found ++ us) (parts [] at left t) ≡ Some found
parts_done found at left t = ap Some (append-nil found)
