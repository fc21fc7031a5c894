-- The place of the first end of a comment, and what follows it.
use Rattle.std.proofs.Common.{◌≡◌, ℕ, zero, suc, ◌+◌, ◌<◌, Bool, true, false, cond, List, [], ◌∷◌, length, drop, Some, None, refl, sym, ◌∙◌, ap, arith, eq-eqb}
use Rattle.std.specs.Prelude.{◌==◌, ◌&&◌, slice_index}
use Rattle.std.proofs.lemmas.Bool.{eqb-true}
use Rattle.memchr.specs.Find.{Nowhere, OccursAt}
use Rattle.dk_text.specs.Tokens.{after_comment, starts_with}

false_of : (t : Bool) → (t ≡ true → ⊥) → t ≡ false
false_of true h = absurd (h refl)
false_of false h = refl

-- the end of a comment
abbrev pub comment_end : List ℕ
comment_end = 59 ∷ 41 ∷ []

occurs_later : (b : ℕ) (bytes : List ℕ) (j : ℕ) → OccursAt bytes comment_end j → OccursAt (b ∷ bytes) comment_end (suc j)
occurs_later b bytes j o = record {
  fits = let fits = o.fits in omega arith;
  reads = λ i lt. (let e : suc j + i ≡ suc (j + i) = omega arith in ap (slice_index (b ∷ bytes)) e ∙ o.reads i lt);
}

occurs_sooner : (b : ℕ) (bytes : List ℕ) (j : ℕ) → OccursAt (b ∷ bytes) comment_end (suc j) → OccursAt bytes comment_end j
occurs_sooner b bytes j o = record {
  fits = let fits = o.fits in omega arith;
  reads = λ i lt. (let e : suc (j + i) ≡ suc j + i = omega arith in ap (slice_index (b ∷ bytes)) e ∙ o.reads i lt);
}

both_true : (s t : Bool) → (s && t) ≡ true → (s ≡ true) × (t ≡ true)
both_true true t h = (refl, h)
both_true false t h = cc

false_true : ◌≡◌ {A = Bool} false true → ⊥
false_true h = cc

-- the two bytes, read as places
two_places : (b d : ℕ) (bytes : List ℕ) → b ≡ 59 → d ≡ 41 → (j : ℕ) → j < 2 → slice_index (b ∷ d ∷ bytes) (0 + j) ≡ slice_index comment_end j
two_places b d bytes p q zero lt = p
two_places b d bytes p q (suc zero) lt = q
two_places b d bytes p q (suc (suc j)) lt = absurd (omega arith)

occurs_here : (b : ℕ) (bytes : List ℕ) → (b == 59 && starts_with 41 bytes) ≡ true → OccursAt (b ∷ bytes) comment_end 0
occurs_here b [] h = absurd (false_true (both_true (b == 59) false h).1)
occurs_here b (d ∷ bytes) h =
    let parts = both_true (b == 59) (d == 41) h in
    record { fits = omega arith; reads = two_places b d bytes (eqb-true b 59 parts.0) (eqb-true d 41 parts.1) }

occurs_test : (b : ℕ) (bytes : List ℕ) → OccursAt (b ∷ bytes) comment_end 0 → ((b == 59 && starts_with 41 bytes) ≡ true)
occurs_test b [] o = let fits = o.fits in absurd (omega arith)
occurs_test b (d ∷ bytes) o =
    ap (λ t. t && (d == 41)) (eq-eqb b 59 (o.reads 0 (omega arith))) ∙ eq-eqb d 41 (o.reads 1 (omega arith))

pub comment_found : (bytes : List ℕ) (k : ℕ) → Nowhere (OccursAt bytes comment_end) 0 k → OccursAt bytes comment_end k → Some (drop (suc (suc k)) bytes) ≡ after_comment bytes
comment_found [] k none here = let fits = here.fits in absurd (omega arith)
comment_found (b ∷ bytes) zero none here = sym (ap (λ t. cond t (Some (drop 1 bytes)) (after_comment bytes)) (occurs_test b bytes here))
comment_found (b ∷ bytes) (suc k) none here =
    comment_found bytes k (λ j low high o. none (suc j) (omega arith) (omega arith) (occurs_later b bytes j o)) (occurs_sooner b bytes k here)
    ∙ sym (ap (λ t. cond t (Some (drop 1 bytes)) (after_comment bytes)) (false_of (b == 59 && starts_with 41 bytes) (λ h. none 0 (omega arith) (omega arith) (occurs_here b bytes h))))

pub comment_none : (bytes : List ℕ) → Nowhere (OccursAt bytes comment_end) 0 (length bytes + 1) → None ≡ after_comment bytes
comment_none [] none = refl
comment_none (b ∷ bytes) none =
    comment_none bytes (λ j low high o. none (suc j) (omega arith) (omega arith) (occurs_later b bytes j o))
    ∙ sym (ap (λ t. cond t (Some (drop 1 bytes)) (after_comment bytes)) (false_of (b == 59 && starts_with 41 bytes) (λ h. none 0 (omega arith) (omega arith) (occurs_here b bytes h))))
