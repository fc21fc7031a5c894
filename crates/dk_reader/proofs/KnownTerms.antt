-- Terms whose names are known keep what a file's terms keep, and rules that are accepted what its rules keep.
use Rattle.std.proofs.Common.{◌≡◌, ℕ, zero, suc, inl, inr, ◌<◌, ◌≤◌, max, Bool, true, false, cond, List, [], ◌∷◌, length, Option, Some, None, refl, sym, ap, subst, arith}
use Rattle.std.specs.Option.{option_map}
use Rattle.std.proofs.lemmas.Bool.{both_ways, and_parts, cases_eq}
use Rattle.lp_terms.specs.Term.{Lp}
use Rattle.lp_terms.specs.Names.{is_among}
use Rattle.lp_terms.specs.Measure.{binder_depth}
use Rattle.lp_terms.specs.File as file
use Rattle.lp_terms.specs.File.{IsTermOf, IsPattern, IsConstantApplied, occurs}
use Rattle.dk_text.specs.Grammar.{Raw, word, universe, bracket, apply, product, abstraction}
use Rattle.dk_text.specs.Names.{Scope, is_bound_by, index_of, Resolved, known, unknown, and_then, constant_or_unknown, resolved_word, resolved}
use Rattle.dk_text.specs.Refusals.{nesting, is_applied_constant, is_pattern, all_occur}

-- Steps that may meet an unknown name

pub known_same : {A : Type 0} (x y : A) → ◌≡◌ {A = Resolved A} (known x) (known y) → x ≡ y
known_same x y e = cc

pub unknown_known : {A : Type 0} (left : ℕ) (x : A) → ◌≡◌ {A = Resolved A} (unknown left) (known x) → ⊥
unknown_known left x e = cc

-- both of two steps are known
pub record Known {A B : Type 0} (r : Resolved A) (f : A → Resolved B) (y : B) : Type 0 where
  pub value : A
  pub first : r ≡ known value
  pub second : f value ≡ known y

pub known_of : {A B : Type 0} (r : Resolved A) (f : A → Resolved B) (y : B) → and_then r f ≡ known y → Known r f y
known_of (known x) f y e = record { value = x; first = refl; second = e }
known_of (unknown left) f y e = absurd (unknown_known left y e)

-- Terms

suc_of : (o : Option ℕ) (i : ℕ) → option_map (λ j. suc j) o ≡ Some i → (j : ℕ) × (o ≡ Some j) × (i ≡ suc j)
suc_of None i e = absurd (none_some i e)
  where
    none_some : (i : ℕ) → ◌≡◌ {A = Option ℕ} None (Some i) → ⊥
    none_some i e = cc
suc_of (Some j) i e = (j, refl, cc)

below_in : (name : List ℕ) (binder : Option (List ℕ)) (scope : Scope) (i : ℕ) (b : Bool) → ((j : ℕ) → index_of name scope ≡ Some j → j < length scope) →
    cond b (Some 0) (option_map (λ j. suc j) (index_of name scope)) ≡ Some i → i < length (binder ∷ scope)
below_in name binder scope i true inner h = let same : 0 ≡ i = cc in omega arith
below_in name binder scope i false inner h = let s = suc_of (index_of name scope) i h in let lt = inner s.0 s.1 in let e : i ≡ suc s.0 = s.2 in omega arith

index_below : (name : List ℕ) (scope : Scope) (i : ℕ) → index_of name scope ≡ Some i → i < length scope
index_below name [] i e = absurd (none_some i e)
  where
    none_some : (i : ℕ) → ◌≡◌ {A = Option ℕ} None (Some i) → ⊥
    none_some i e = cc
index_below name (binder ∷ scope) i e = below_in name binder scope i (is_bound_by name binder) (λ j h. index_below name scope j h) e

constant_in_order : (declared : List (List ℕ)) (k : ℕ) (name : List ℕ) (left : ℕ) (t : Lp) (b : Bool) → is_among name declared ≡ b → constant_or_unknown b name left ≡ known t → IsTermOf declared k t
constant_in_order declared k name left t true h e = subst (λ (u : Lp). IsTermOf declared k u) (known_same (Lp.const name) t e) (file.IsTermOf.const h)
constant_in_order declared k name left t false h e = absurd (unknown_known left t e)

word_in_order : (declared : List (List ℕ)) (scope : Scope) (name : List ℕ) (left : ℕ) (t : Lp) (o : Option ℕ) → index_of name scope ≡ o → resolved_word declared o name left ≡ known t → IsTermOf declared (length scope) t
word_in_order declared scope name left t None h e = constant_in_order declared (length scope) name left t (is_among name declared) refl e
word_in_order declared scope name left t (Some i) h e = subst (λ (u : Lp). IsTermOf declared (length scope) u) (known_same (Lp.index i) t e) (file.IsTermOf.index (index_below name scope i h))

pub term_in_order : (declared : List (List ℕ)) (scope : Scope) (raw : Raw) (t : Lp) → resolved declared scope raw ≡ known t → IsTermOf declared (length scope) t
term_in_order declared scope (word name left) t e = word_in_order declared scope name left t (index_of name scope) refl e
term_in_order declared scope universe t e = subst (λ (u : Lp). IsTermOf declared (length scope) u) (known_same Lp.sort t e) file.IsTermOf.sort
term_in_order declared scope (bracket raw) t e = term_in_order declared scope raw t e
term_in_order declared scope (apply f a) t e =
    let g = known_of (resolved declared scope f) (λ g. and_then (resolved declared scope a) (λ b. known (Lp.app g b))) t e in
    let b = known_of (resolved declared scope a) (λ b. known (Lp.app g.value b)) t g.second in
    subst (λ (u : Lp). IsTermOf declared (length scope) u) (known_same (Lp.app g.value b.value) t b.second)
    (file.IsTermOf.app (term_in_order declared scope f g.value g.first) (term_in_order declared scope a b.value b.first))
term_in_order declared scope (product x a b) t e =
    let c = known_of (resolved declared scope a) (λ c. and_then (resolved declared (x ∷ scope) b) (λ d. known (Lp.prod c d))) t e in
    let d = known_of (resolved declared (x ∷ scope) b) (λ d. known (Lp.prod c.value d)) t c.second in
    subst (λ (u : Lp). IsTermOf declared (length scope) u) (known_same (Lp.prod c.value d.value) t d.second)
    (file.IsTermOf.prod (term_in_order declared scope a c.value c.first) (term_in_order declared (x ∷ scope) b d.value d.first))
term_in_order declared scope (abstraction x a b) t e =
    let c = known_of (resolved declared scope a) (λ c. and_then (resolved declared (Some x ∷ scope) b) (λ d. known (Lp.abs c d))) t e in
    let d = known_of (resolved declared (Some x ∷ scope) b) (λ d. known (Lp.abs c.value d)) t c.second in
    subst (λ (u : Lp). IsTermOf declared (length scope) u) (known_same (Lp.abs c.value d.value) t d.second)
    (file.IsTermOf.abs (term_in_order declared scope a c.value c.first) (term_in_order declared (Some x ∷ scope) b d.value d.first))

constant_flat : (name : List ℕ) (left : ℕ) (t : Lp) (b : Bool) → constant_or_unknown b name left ≡ known t → binder_depth t ≡ 0
constant_flat name left t true e = sym (ap binder_depth (known_same (Lp.const name) t e))
constant_flat name left t false e = absurd (unknown_known left t e)

word_flat : (declared : List (List ℕ)) (name : List ℕ) (left : ℕ) (t : Lp) (o : Option ℕ) → resolved_word declared o name left ≡ known t → binder_depth t ≡ 0
word_flat declared name left t None e = constant_flat name left t (is_among name declared) e
word_flat declared name left t (Some i) e = sym (ap binder_depth (known_same (Lp.index i) t e))

-- binders nest no deeper than the term is written
pub binders_nest : (declared : List (List ℕ)) (scope : Scope) (raw : Raw) (t : Lp) → resolved declared scope raw ≡ known t → binder_depth t ≤ nesting raw
binders_nest declared scope (word name left) t e = let flat = word_flat declared name left t (index_of name scope) e in omega arith
binders_nest declared scope universe t e = let flat : binder_depth Lp.sort ≡ binder_depth t = ap binder_depth (known_same Lp.sort t e) in omega arith
binders_nest declared scope (bracket raw) t e = let le = binders_nest declared scope raw t e in omega arith
binders_nest declared scope (apply f a) t e =
    let g = known_of (resolved declared scope f) (λ g. and_then (resolved declared scope a) (λ b. known (Lp.app g b))) t e in
    let b = known_of (resolved declared scope a) (λ b. known (Lp.app g.value b)) t g.second in
    let same : max (binder_depth g.value) (binder_depth b.value) ≡ binder_depth t = ap binder_depth (known_same (Lp.app g.value b.value) t b.second) in
    let first = binders_nest declared scope f g.value g.first in
    let second = binders_nest declared scope a b.value b.first in
    omega arith
binders_nest declared scope (product x a b) t e =
    let c = known_of (resolved declared scope a) (λ c. and_then (resolved declared (x ∷ scope) b) (λ d. known (Lp.prod c d))) t e in
    let d = known_of (resolved declared (x ∷ scope) b) (λ d. known (Lp.prod c.value d)) t c.second in
    let same : max (binder_depth c.value) (suc (binder_depth d.value)) ≡ binder_depth t = ap binder_depth (known_same (Lp.prod c.value d.value) t d.second) in
    let first = binders_nest declared scope a c.value c.first in
    let second = binders_nest declared (x ∷ scope) b d.value d.first in
    omega arith
binders_nest declared scope (abstraction x a b) t e =
    let c = known_of (resolved declared scope a) (λ c. and_then (resolved declared (Some x ∷ scope) b) (λ d. known (Lp.abs c d))) t e in
    let d = known_of (resolved declared (Some x ∷ scope) b) (λ d. known (Lp.abs c.value d)) t c.second in
    let same : max (binder_depth c.value) (suc (binder_depth d.value)) ≡ binder_depth t = ap binder_depth (known_same (Lp.abs c.value d.value) t d.second) in
    let first = binders_nest declared scope a c.value c.first in
    let second = binders_nest declared (Some x ∷ scope) b d.value d.first in
    omega arith

-- Rules

mutual
  pub constant_applied : (t : Lp) → is_applied_constant t ≡ true → IsConstantApplied t
  constant_applied (Lp.const name) h = file.IsConstantApplied.constant
  constant_applied (Lp.app f a) h = let parts = and_parts (is_applied_constant f) (is_pattern a) h in file.IsConstantApplied.applied (constant_applied f parts.0) (pattern_of a parts.1)
  constant_applied Lp.sort h = absurd (both_ways false refl h)
  constant_applied (Lp.free n) h = absurd (both_ways false refl h)
  constant_applied (Lp.index i) h = absurd (both_ways false refl h)
  constant_applied (Lp.abs a b) h = absurd (both_ways false refl h)
  constant_applied (Lp.prod a b) h = absurd (both_ways false refl h)

  pattern_of : (t : Lp) → is_pattern t ≡ true → IsPattern t
  pattern_of (Lp.index i) h = file.IsPattern.variable
  pattern_of (Lp.const name) h = file.IsPattern.instance file.IsConstantApplied.constant
  pattern_of (Lp.app f a) h = let parts = and_parts (is_applied_constant f) (is_pattern a) h in file.IsPattern.instance (file.IsConstantApplied.applied (constant_applied f parts.0) (pattern_of a parts.1))
  pattern_of Lp.sort h = absurd (both_ways false refl h)
  pattern_of (Lp.free n) h = absurd (both_ways false refl h)
  pattern_of (Lp.abs a b) h = absurd (both_ways false refl h)
  pattern_of (Lp.prod a b) h = absurd (both_ways false refl h)

pub each_occurs : (n : ℕ) (t : Lp) → all_occur n t ≡ true → (i : ℕ) → i < n → occurs i t ≡ true
each_occurs zero t h i lt = absurd (omega arith)
each_occurs (suc n) t h i lt =
    let parts = and_parts (occurs n t) (all_occur n t) h in
    elim (cases_eq i n) [ inl e ↦ subst (λ (j : ℕ). occurs j t ≡ true) (sym e) parts.0 | inr ne ↦ each_occurs n t parts.1 i (omega arith) ]
