-- Numbered scopes: each named binder is named by the number of binders round it.
use Rattle.std.proofs.Common.{◌≡◌, ℕ, zero, suc, ◌+◌, ◌^◌, ◌<◌, false, cond, List, [], ◌∷◌, length, Option, Some, None, refl, sym, ◌∙◌, ap, arith}
use Rattle.std.specs.Option.{option_map}
use Rattle.std.specs.Str.{bytes_eq}
use Rattle.std.proofs.lemmas.Bool.{both_ways}
use Rattle.std.proofs.lemmas.Fmt.{decimal_injective}
use Rattle.lp_terms.specs.Names.{is_variable}
use Rattle.dk_text.specs.Names.{Scope, index_of}
use Rattle.dk_text.specs.Text.{variable}
use Rattle.dk_text.proofs.Bytes.{bytes_same, bytes_differ, variable_is}

pub data IsNumbered : Scope → Type 0 where
  start : IsNumbered []
  unnamed : {s : Scope} → IsNumbered s → IsNumbered (None ∷ s)
  named : {s : Scope} → IsNumbered s → IsNumbered (Some (variable (length s)) ∷ s)

abbrev pub binder_at : ℕ → Scope → Option (List ℕ)
binder_at i [] = None
binder_at zero (x ∷ s) = x
binder_at (suc i) (x ∷ s) = binder_at i s

tail_of : List ℕ → List ℕ
tail_of [] = []
tail_of (b ∷ bytes) = bytes

pub variables_differ : (m n : ℕ) → m < 2 ^ 64 → n < 2 ^ 64 → (m ≡ n → ⊥) → bytes_eq (variable m) (variable n) ≡ false
unfolding tail_of
variables_differ m n p q d = bytes_differ (variable m) (variable n) (λ e. d (decimal_injective m n p q (ap tail_of e)))

-- the index of a named binder
pub index_of_variable : (s : Scope) → IsNumbered s → (i k : ℕ) → k + suc i ≡ length s → length s < 2 ^ 64 → binder_at i s ≡ Some (variable k) →
    index_of (variable k) s ≡ Some i
index_of_variable [] start i k e small b = absurd (omega arith)
index_of_variable (None ∷ s) (unnamed n) zero k e small b = cc
index_of_variable (None ∷ s) (unnamed n) (suc i) k e small b =
    ap (λ o. option_map (λ j. suc j) o) (index_of_variable s n i k (omega arith) (omega arith) b)
index_of_variable (Some x ∷ s) (named n) zero k e small b =
    let same : length s ≡ k = omega arith in
    ap (λ t. cond t (Some 0) (option_map (λ j. suc j) (index_of (variable k) s))) (bytes_same (variable (length s)) (variable k) (ap variable same))
index_of_variable (Some x ∷ s) (named n) (suc i) k e small b =
    ap (λ t. cond t (Some 0) (option_map (λ j. suc j) (index_of (variable k) s))) (variables_differ (length s) k (omega arith) (omega arith) (λ same. omega arith))
    ∙ ap (λ o. option_map (λ j. suc j) o) (index_of_variable s n i k (omega arith) (omega arith) b)

-- what is no variable's name is bound nowhere
pub index_of_constant : (s : Scope) → IsNumbered s → (name : List ℕ) → is_variable name ≡ false → length s < 2 ^ 64 → index_of name s ≡ None
index_of_constant [] start name v small = refl
index_of_constant (None ∷ s) (unnamed n) name v small = ap (λ o. option_map (λ j. suc j) o) (index_of_constant s n name v (omega arith))
index_of_constant (Some x ∷ s) (named n) name v small =
    ap (λ t. cond t (Some 0) (option_map (λ j. suc j) (index_of name s)))
    (bytes_differ (variable (length s)) name (λ e. both_ways (is_variable name) v (ap is_variable (sym e) ∙ variable_is (length s) (omega arith))))
    ∙ ap (λ o. option_map (λ j. suc j) o) (index_of_constant s n name v (omega arith))
