-- Each index below n occurs in a pattern exactly where each of n marks is set.
use Rattle.std.proofs.Common.{◌≡◌, ℕ, zero, suc, ◌<◌, Bool, true, false, List, [], ◌∷◌, length, get_or, get_or-set_same, get_or-set_other, refl, sym, ◌∙◌, ap, subst, arith, inl, inr}
use Rattle.std.specs.Prelude.{◌||◌, ◌==◌}
use Rattle.std.specs.List.{list_all}
use Rattle.std.proofs.Math.ListN.{set, replicate}
use Rattle.std.proofs.lemmas.List.{length-set, length-replicate}
use Rattle.std.proofs.lemmas.Bool.{both_ways, and_parts, and_from, cases_eq, eq-eqb, ne_eqb}
use Rattle.std.proofs.Math.Bool.{or_assoc}
use Rattle.lp_terms.specs.Term.{Lp}
use Rattle.lp_terms.specs.File.{occurs}
use Rattle.dk_text.specs.Refusals.{is_applied_constant, is_pattern, all_occur}
use Rattle.dk_reader.specs.Occurring.{marked}
use Rattle.dk_reader.proofs.KnownTerms.{each_occurs}

or_false : (b : Bool) → b ≡ (b || false)
or_false true = refl
or_false false = refl

or_true : (b : Bool) → true ≡ (b || true)
or_true true = refl
or_true false = refl

applied_pattern : (t : Lp) → is_applied_constant t ≡ true → is_pattern t ≡ true
applied_pattern (Lp.const name) h = refl
applied_pattern (Lp.app f a) h = h
applied_pattern Lp.sort h = absurd (both_ways false refl h)
applied_pattern (Lp.free n) h = absurd (both_ways false refl h)
applied_pattern (Lp.index i) h = absurd (both_ways false refl h)
applied_pattern (Lp.abs a b) h = absurd (both_ways false refl h)
applied_pattern (Lp.prod a b) h = absurd (both_ways false refl h)

length_marked : (t : Lp) (marks : List Bool) → length (marked t marks) ≡ length marks
length_marked (Lp.index i) marks = length-set marks i true
length_marked (Lp.app f a) marks = length_marked a (marked f marks) ∙ length_marked f marks
length_marked Lp.sort marks = refl
length_marked (Lp.const name) marks = refl
length_marked (Lp.free n) marks = refl
length_marked (Lp.abs a b) marks = refl
length_marked (Lp.prod a b) marks = refl

mark_at : (j i : ℕ) (marks : List Bool) → j < length marks → get_or (set marks i true) j false ≡ (get_or marks j false || i == j)
mark_at j i marks lt = elim (cases_eq j i) [
  | inl e ↦ ap (λ k. get_or (set marks i true) k false) e ∙ get_or-set_same marks i true false (subst (λ (k : ℕ). k < length marks) e lt)
      ∙ or_true (get_or marks j false) ∙ ap (λ b. get_or marks j false || b) (sym (eq-eqb i j (sym e)))
  | inr ne ↦ get_or-set_other marks i j true false ne ∙ or_false (get_or marks j false) ∙ ap (λ b. get_or marks j false || b) (sym (ne_eqb i j (λ e. ne (sym e))))
]

-- an index is marked that was or that occurs
marked_at : (t : Lp) (marks : List Bool) (j : ℕ) → is_pattern t ≡ true → j < length marks → get_or (marked t marks) j false ≡ (get_or marks j false || occurs j t)
marked_at (Lp.index i) marks j p lt = mark_at j i marks lt
marked_at (Lp.const name) marks j p lt = or_false (get_or marks j false)
marked_at (Lp.app f a) marks j p lt =
    let parts = and_parts (is_applied_constant f) (is_pattern a) p in
    marked_at a (marked f marks) j parts.1 (let e = length_marked f marks in omega arith)
    ∙ ap (λ b. b || occurs j a) (marked_at f marks j (applied_pattern f parts.0) lt)
    ∙ or_assoc (get_or marks j false) (occurs j f) (occurs j a)
marked_at Lp.sort marks j p lt = absurd (both_ways false refl p)
marked_at (Lp.free n) marks j p lt = absurd (both_ways false refl p)
marked_at (Lp.abs a b) marks j p lt = absurd (both_ways false refl p)
marked_at (Lp.prod a b) marks j p lt = absurd (both_ways false refl p)

none_marked : (n j : ℕ) → get_or (replicate n false) j false ≡ false
none_marked zero j = refl
none_marked (suc n) zero = refl
none_marked (suc n) (suc j) = none_marked n j

-- a list whose elements are all true
all_true : (marks : List Bool) → ((j : ℕ) → j < length marks → get_or marks j false ≡ true) → list_all (λ m. m) marks ≡ true
all_true [] h = refl
all_true (m ∷ marks) h = and_from m (list_all (λ m. m) marks) (h 0 (omega arith)) (all_true marks (λ j lt. h (suc j) (omega arith)))

each_true : (marks : List Bool) (j : ℕ) → list_all (λ m. m) marks ≡ true → j < length marks → get_or marks j false ≡ true
each_true [] j h lt = absurd (omega arith)
each_true (m ∷ marks) zero h lt = (and_parts m (list_all (λ m. m) marks) h).0
each_true (m ∷ marks) (suc j) h lt = each_true marks j (and_parts m (list_all (λ m. m) marks) h).1 (omega arith)

occur_below : (n : ℕ) (t : Lp) → ((j : ℕ) → j < n → occurs j t ≡ true) → all_occur n t ≡ true
occur_below zero t h = refl
occur_below (suc n) t h = and_from (occurs n t) (all_occur n t) (h n (omega arith)) (occur_below n t (λ j lt. h j (omega arith)))

same_test : (a b : Bool) → (a ≡ true → b ≡ true) → (b ≡ true → a ≡ true) → a ≡ b
same_test true b f g = sym (f refl)
same_test false true f g = g refl
same_test false false f g = refl

pub all_marked : (n : ℕ) (t : Lp) → is_applied_constant t ≡ true → list_all (λ m. m) (marked t (replicate n false)) ≡ all_occur n t
all_marked n t p =
    let marks : List Bool = replicate n false in
    let size : length marks ≡ n = length-replicate n false in
    let same : length (marked t marks) ≡ length marks = length_marked t marks in
    let at : (j : ℕ) → j < n → get_or (marked t marks) j false ≡ occurs j t =
    (λ j lt. marked_at t marks j (applied_pattern t p) (omega arith) ∙ ap (λ b. b || occurs j t) (none_marked n j)) in
    same_test (list_all (λ m. m) (marked t marks)) (all_occur n t)
    (λ h. occur_below n t (λ j lt. sym (at j lt) ∙ each_true (marked t marks) j h (omega arith)))
    (λ h. all_true (marked t marks) (λ j lt. at j (omega arith) ∙ each_occurs n t h j (omega arith)))
