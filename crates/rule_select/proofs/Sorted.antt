-- Sorted premises: determined, numbered by place, each a rule or kept.
use Rattle.std.proofs.Common.{ℕ, zero, suc, ◌+◌, ◌≡◌, inl, inr, refl, ap, sym, ◌∙◌, subst, arith, Option, Some, None, List, [], ◌∷◌, map, length}
use Rattle.std.specs.Prelude.{slice_get}
use Rattle.zm_logic.specs.Tree.{Rule, Role, Premise}
use Rattle.rule_select.specs.Lawful.{FirstLawful, IsRule, IsKept}
use Rattle.rule_select.specs.Selection.{Sorts, kept_from, kept_of, kept_premises}
use Rattle.rule_select.specs.Laws as laws

-- a list has one first lawful rule
first_is_one : {role : Role} {rs : List Rule} {r s : Rule} → FirstLawful role rs r → FirstLawful role rs s → r ≡ s
first_is_one (FirstLawful.first h) (FirstLawful.first k) = refl
first_is_one (FirstLawful.first h) (FirstLawful.later n k) = absurd (n h)
first_is_one (FirstLawful.later n h) (FirstLawful.first k) = absurd (n k)
first_is_one (FirstLawful.later n h) (FirstLawful.later m k) = first_is_one h k

sorts_alike : {n : ℕ} {ps : List Premise} {rs ss : List Rule} {ks ls : List (Option ℕ)} → Sorts n ps rs ks → Sorts n ps ss ls
    → (rs ≡ ss) × (ks ≡ ls)
sorts_alike Sorts.done Sorts.done = (refl, refl)
sorts_alike (Sorts.rule {n = n} h x) (Sorts.rule k y) = let e = first_is_one h k in let ih = sorts_alike x y in (cc (e, ih.0), ap (◌∷◌ (Some n)) ih.1)
sorts_alike (Sorts.rule {r = r} h x) (Sorts.keep k y) = absurd (k r h)
sorts_alike (Sorts.keep h x) (Sorts.rule {r = r} k y) = absurd (h r k)
sorts_alike (Sorts.keep h x) (Sorts.keep k y) = let ih = sorts_alike x y in (ih.0, ap (◌∷◌ None) ih.1)

pub selection_is_determined : laws.SelectionIsDetermined
selection_is_determined p s t h k =
    let e = sorts_alike h k in
    ap (λ x. record { rules = x; rule_of = s.rule_of }) e.0 ∙ ap (λ x. record { rules = t.rules; rule_of = x }) e.1

sorting_exists : (n : ℕ) (ps : List Premise) → ((rules : List Rule) (numbers : List (Option ℕ)) → Sorts n ps rules numbers → ⊥) → ⊥
sorting_exists n [] lack = lack [] [] Sorts.done
sorting_exists n (p ∷ ps) lack =
    sorting_exists n ps
    (λ rules numbers x. lack rules (None ∷ numbers)
    (Sorts.keep (λ r h. sorting_exists (suc n) ps (λ rs ms y. lack (r ∷ rs) (Some n ∷ ms) (Sorts.rule h y))) x))

pub no_problem_lacks_a_selection : laws.NoProblemLacksASelection
no_problem_lacks_a_selection p lack =
    sorting_exists 0 p.premises (λ rules numbers x. lack (record { rules = rules; rule_of = numbers }) x)

-- a number from n on is that of the rule which its premise is
numbered : {n : ℕ} {ps : List Premise} {rules : List Rule} {numbers : List (Option ℕ)} → Sorts n ps rules numbers → (i k : ℕ) (p : Premise)
    → slice_get ps i ≡ Some p → slice_get numbers i ≡ Some (Some k) → (j : ℕ) × (r : Rule) × (k ≡ n + j) × (slice_get rules j ≡ Some r) × IsRule p r
numbered Sorts.done i k p e f = absurd (cc (e))
numbered (Sorts.rule {n = n} {p = q} {r = r} h x) zero k p e f =
    let a : q ≡ p = cc (e) in let b : n ≡ k = cc (f) in (0, r, omega (arith, b), refl, subst (λ q. IsRule q r) a h)
numbered (Sorts.rule h x) (suc i) k p e f = let ih = numbered x i k p e f in (suc ih.0, ih.1, omega (arith, ih.2), ih.3, ih.4)
numbered (Sorts.keep h x) zero k p e f = absurd (cc (f))
numbered (Sorts.keep h x) (suc i) k p e f = numbered x i k p e f

pub numbers_name_rules : laws.NumbersNameRules
numbers_name_rules p s i k premise h e f =
    let x = numbered h i k premise e f in let j : x.0 ≡ k = omega (arith, x.2) in (x.1, subst (λ j. slice_get s.rules j ≡ Some x.1) j x.3, x.4)

unnumbered : {n : ℕ} {ps : List Premise} {rules : List Rule} {numbers : List (Option ℕ)} → Sorts n ps rules numbers → (i : ℕ) (p : Premise)
    → slice_get ps i ≡ Some p → slice_get numbers i ≡ Some None → IsKept p
unnumbered Sorts.done i p e f = absurd (cc (e))
unnumbered (Sorts.rule h x) zero p e f = absurd (cc (f))
unnumbered (Sorts.rule h x) (suc i) p e f = unnumbered x i p e f
unnumbered (Sorts.keep {p = q} h x) zero p e f = let a : q ≡ p = cc (e) in subst IsKept a h
unnumbered (Sorts.keep h x) (suc i) p e f = unnumbered x i p e f

pub kept_premises_are_no_rules : laws.KeptPremisesAreNoRules
kept_premises_are_no_rules p s i premise h e f = unnumbered h i premise e f

-- each premise is counted once
counted : {n : ℕ} {ps : List Premise} {rules : List Rule} {numbers : List (Option ℕ)} → Sorts n ps rules numbers
    → (length numbers ≡ length ps) × (length rules + length (kept_of ps numbers) ≡ length ps)
counted Sorts.done = (refl, refl)
counted (Sorts.rule h x) = let ih = counted x in (omega (arith, ih.0), omega (arith, ih.1))
counted (Sorts.keep h x) = let ih = counted x in (omega (arith, ih.0), omega (arith, ih.1))

abbrev none_each : List Premise → List (Option ℕ)
none_each ps = map (λ premise. None) ps

all_of : (ps : List Premise) → kept_of ps (none_each ps) ≡ ps
all_of [] = refl
all_of (p ∷ ps) = ap (◌∷◌ p) (all_of ps)

none_length : (ps : List Premise) → length (none_each ps) ≡ length ps
none_length [] = refl
none_length (p ∷ ps) = ap suc (none_length ps)

pub keeping_all_keeps_the_premises : laws.KeepingAllKeepsThePremises
keeping_all_keeps_the_premises p s e = subst (λ s. kept_premises p s ≡ p.premises) (sym e) (all_of p.premises)

pub each_premise_is_rule_or_kept : laws.EachPremiseIsRuleOrKept
each_premise_is_rule_or_kept p s (inl h) = counted h
each_premise_is_rule_or_kept p s (inr e) =
    subst (λ s. (length s.rule_of ≡ length p.premises) × (length s.rules + length (kept_premises p s) ≡ length p.premises)) (sym e)
    (none_length p.premises, omega (arith, ap length (all_of p.premises)))

next : (g : ℕ → Option Premise) (n : ℕ) (p : Premise) (ps : List Premise) → ((j : ℕ) → g (n + j) ≡ slice_get (p ∷ ps) j)
    → (j : ℕ) → g (suc n + j) ≡ slice_get ps j
next g n p ps w j = let e : n + suc j ≡ suc n + j = omega arith in subst (λ m. g m ≡ slice_get ps j) e (w (suc j))

-- the premise of a kept number, where g gives the premise of each number from n on
named : (g : ℕ → Option Premise) (n : ℕ) (ps : List Premise) (numbers : List (Option ℕ)) → length numbers ≡ length ps
    → ((j : ℕ) → g (n + j) ≡ slice_get ps j) → map g (kept_from n numbers) ≡ map (λ p. Some p) (kept_of ps numbers)
named g n [] [] e w = refl
named g n [] (o ∷ numbers) e w = absurd (omega (arith, e))
named g n (p ∷ ps) [] e w = absurd (omega (arith, e))
named g n (p ∷ ps) (None ∷ numbers) e w =
    let a : n + 0 ≡ n = omega arith in
    let first : g n ≡ Some p = subst (λ m. g m ≡ Some p) a (w 0) in
    let rest = named g (suc n) ps numbers (omega (arith, e)) (λ j. next g n p ps w j) in
    cc (first, rest)
named g n (p ∷ ps) (Some k ∷ numbers) e w = named g (suc n) ps numbers (omega (arith, e)) (λ j. next g n p ps w j)

pub kept_numbers_name_kept_premises : laws.KeptNumbersNameKeptPremises
kept_numbers_name_kept_premises p s h =
    named (λ i. slice_get p.premises i) 0 p.premises s.rule_of (each_premise_is_rule_or_kept p s h).0
    (λ j. let e : 0 + j ≡ j = omega arith in ap (slice_get p.premises) e)
