-- The place of the first newline, or of the first end of a comment, and what follows it.
use Rattle.std.proofs.Common.{◌≡◌, ℕ, zero, suc, ◌+◌, ◌<◌, true, false, cond, List, [], ◌∷◌, length, drop, Some, None, refl, sym, ◌∙◌, ap, arith, eq-eqb}
use Rattle.std.specs.Prelude.{◌==◌, ◌&&◌, slice_index}
use Rattle.std.proofs.lemmas.Bool.{eqb-true, false_from_ne_true, and_parts, false≢true}
use Rattle.memchr.specs.Find.{Nowhere, Passes, is_byte, OccursAt}
use Rattle.tptp_lex.specs.Blank.{after_line, after_block, starts_with}

pub line_found : (bytes : List ℕ) (k : ℕ) → k < length bytes → Nowhere (Passes (is_byte 10) bytes) 0 k → Passes (is_byte 10) bytes k → drop (suc k) bytes ≡ after_line bytes
line_found [] k lt none hit = absurd (omega arith)
line_found (b ∷ bytes) zero lt none hit = sym (ap (λ t. cond t bytes (after_line bytes)) hit)
line_found (b ∷ bytes) (suc k) lt none hit =
    line_found bytes k (omega arith) (λ j low high here. none (suc j) (omega arith) (omega arith) here) hit
    ∙ sym (ap (λ t. cond t bytes (after_line bytes)) (false_from_ne_true (b == 10) (none 0 (omega arith) (omega arith))))

pub line_none : (bytes : List ℕ) → Nowhere (Passes (is_byte 10) bytes) 0 (length bytes) → [] ≡ after_line bytes
line_none [] none = refl
line_none (b ∷ bytes) none =
    line_none bytes (λ j low high here. none (suc j) (omega arith) (omega arith) here)
    ∙ sym (ap (λ t. cond t bytes (after_line bytes)) (false_from_ne_true (b == 10) (none 0 (omega arith) (omega arith))))

-- the end of a comment
abbrev pub star_slash : List ℕ
star_slash = 42 ∷ 47 ∷ []

occurs_later : (b : ℕ) (bytes : List ℕ) (j : ℕ) → OccursAt bytes star_slash j → OccursAt (b ∷ bytes) star_slash (suc j)
occurs_later b bytes j o = record {
  fits = let fits = o.fits in omega arith;
  reads = λ i lt. (let e : suc j + i ≡ suc (j + i) = omega arith in ap (slice_index (b ∷ bytes)) e ∙ o.reads i lt);
}

occurs_sooner : (b : ℕ) (bytes : List ℕ) (j : ℕ) → OccursAt (b ∷ bytes) star_slash (suc j) → OccursAt bytes star_slash j
occurs_sooner b bytes j o = record {
  fits = let fits = o.fits in omega arith;
  reads = λ i lt. (let e : suc (j + i) ≡ suc j + i = omega arith in ap (slice_index (b ∷ bytes)) e ∙ o.reads i lt);
}

-- the two bytes, read as places
two_places : (b d : ℕ) (bytes : List ℕ) → b ≡ 42 → d ≡ 47 → (j : ℕ) → j < 2 → slice_index (b ∷ d ∷ bytes) (0 + j) ≡ slice_index star_slash j
two_places b d bytes p q zero lt = p
two_places b d bytes p q (suc zero) lt = q
two_places b d bytes p q (suc (suc j)) lt = absurd (omega arith)

occurs_here : (b : ℕ) (bytes : List ℕ) → (b == 42 && starts_with 47 bytes) ≡ true → OccursAt (b ∷ bytes) star_slash 0
occurs_here b [] h = absurd (false≢true (and_parts (b == 42) false h).1)
occurs_here b (d ∷ bytes) h =
    let parts = and_parts (b == 42) (d == 47) h in
    record { fits = omega arith; reads = two_places b d bytes (eqb-true b 42 parts.0) (eqb-true d 47 parts.1) }

occurs_test : (b : ℕ) (bytes : List ℕ) → OccursAt (b ∷ bytes) star_slash 0 → ((b == 42 && starts_with 47 bytes) ≡ true)
occurs_test b [] o = let fits = o.fits in absurd (omega arith)
occurs_test b (d ∷ bytes) o =
    ap (λ t. t && (d == 47)) (eq-eqb b 42 (o.reads 0 (omega arith))) ∙ eq-eqb d 47 (o.reads 1 (omega arith))

pub block_found : (bytes : List ℕ) (k : ℕ) → Nowhere (OccursAt bytes star_slash) 0 k → OccursAt bytes star_slash k → Some (drop (suc (suc k)) bytes) ≡ after_block bytes
block_found [] k none here = let fits = here.fits in absurd (omega arith)
block_found (b ∷ bytes) zero none here = sym (ap (λ t. cond t (Some (drop 1 bytes)) (after_block bytes)) (occurs_test b bytes here))
block_found (b ∷ bytes) (suc k) none here =
    block_found bytes k (λ j low high o. none (suc j) (omega arith) (omega arith) (occurs_later b bytes j o)) (occurs_sooner b bytes k here)
    ∙ sym (ap (λ t. cond t (Some (drop 1 bytes)) (after_block bytes)) (false_from_ne_true (b == 42 && starts_with 47 bytes) (λ h. none 0 (omega arith) (omega arith) (occurs_here b bytes h))))

pub block_none : (bytes : List ℕ) → Nowhere (OccursAt bytes star_slash) 0 (length bytes + 1) → None ≡ after_block bytes
block_none [] none = refl
block_none (b ∷ bytes) none =
    block_none bytes (λ j low high o. none (suc j) (omega arith) (omega arith) (occurs_later b bytes j o))
    ∙ sym (ap (λ t. cond t (Some (drop 1 bytes)) (after_block bytes)) (false_from_ne_true (b == 42 && starts_with 47 bytes) (λ h. none 0 (omega arith) (omega arith) (occurs_here b bytes h))))
