-- The kept numbers of a list, one element further.
use Rattle.std.proofs.Common.{ℕ, suc, ◌≡◌, ◌+◌, ◌<◌, ◌≤◌, refl, ap, sym, ◌∙◌, arith, Option, Some, None, List, [], ◌∷◌, ◌++◌, map, length, get_or, take}
use Rattle.std.proofs.lemmas.List.{take_more, take_all, length-take-le, map-append}
use Rattle.zm_logic.specs.declared.problem.Premise.{Premise}
use Rattle.zm_logic.specs.declared.problem.Problem.{Problem}
use Rattle.zm_logic.specs.declared.rule.Rule.{Rule}
use Rattle.zm_logic.specs.View.{premise_tree, problem_tree}
use Rattle.rule_select.specs.Selection.{KeepsAll, kept_from}
use Rattle.rule_select.specs.View.{selection_tree}

kept_push : (n : ℕ) (xs : List (Option ℕ)) → kept_from n (xs ++ None ∷ []) ≡ kept_from n xs ++ (n + length xs) ∷ []
kept_push n [] = let e : n ≡ n + 0 = omega arith in ap (λ m. m ∷ []) e
kept_push n (None ∷ xs) =
    let e : suc n + length xs ≡ n + suc (length xs) = omega arith in
    ap (λ ms. n ∷ ms) (kept_push (suc n) xs ∙ ap (λ m. kept_from (suc n) xs ++ m ∷ []) e)
kept_push n (Some k ∷ xs) =
    let e : suc n + length xs ≡ n + suc (length xs) = omega arith in
    kept_push (suc n) xs ∙ ap (λ m. kept_from (suc n) xs ++ m ∷ []) e

numbered_push : (n k : ℕ) (xs : List (Option ℕ)) → kept_from n (xs ++ Some k ∷ []) ≡ kept_from n xs
numbered_push n k [] = refl
numbered_push n k (None ∷ xs) = ap (λ ms. n ∷ ms) (numbered_push (suc n) k xs)
numbered_push n k (Some j ∷ xs) = numbered_push (suc n) k xs

-- a premise that is kept
pub kept_more : (xs : List (Option ℕ)) (i : ℕ) (d : Option ℕ) → i < length xs → get_or xs i d ≡ None
    → kept_from 0 (take (i + 1) xs) ≡ kept_from 0 (take i xs) ++ i ∷ []
kept_more xs i d l e =
    let m : length (take i xs) ≡ i = length-take-le i xs (omega arith) in
    let n : 0 + length (take i xs) ≡ i = omega (arith, m) in
    ap (kept_from 0) (take_more xs i d l ∙ ap (λ x. take i xs ++ x ∷ []) e) ∙ kept_push 0 (take i xs) ∙ ap (λ k. kept_from 0 (take i xs) ++ k ∷ []) n

-- and one that is the rule k
pub numbered_more : (xs : List (Option ℕ)) (i k : ℕ) (d : Option ℕ) → i < length xs → get_or xs i d ≡ Some k
    → kept_from 0 (take (i + 1) xs) ≡ kept_from 0 (take i xs)
numbered_more xs i k d l e =
    ap (kept_from 0) (take_more xs i d l ∙ ap (λ x. take i xs ++ x ∷ []) e) ∙ numbered_push 0 k (take i xs)

-- no number for each premise
pub none_for_each : (ps : List Premise) → map (λ p. None) (map premise_tree ps) ≡ map {B = Option ℕ} (λ p. None) ps
none_for_each [] = refl
none_for_each (p ∷ ps) = ap (λ ns. None ∷ ns) (none_for_each ps)

pub none_more : (ps : List Premise) (i : ℕ) (d : Premise) → i < length ps
    → map {B = Option ℕ} (λ p. None) (take (i + 1) ps) ≡ map (λ p. None) (take i ps) ++ None ∷ []
none_more ps i d l = ap (map (λ p. None)) (take_more ps i d l) ∙ map-append (λ p. None) (take i ps) (get_or ps i d ∷ [])

-- the list that has no number for each premise of the problem, built up
pub all_are_kept : (p q : Problem) (rules : List Rule) (numbers : List (Option ℕ)) (i : ℕ) (ps : List Premise) → q ≡ p → ps ≡ q.premises
    → rules ≡ [] → numbers ≡ map (λ p. None) (take i ps) → length ps ≤ i
    → KeepsAll (problem_tree p) (selection_tree (record { rules = rules; rule_of = numbers }))
all_are_kept p q rules numbers i ps e f g h l =
    let a : ps ≡ p.premises = f ∙ ap (λ x. x.premises) e in
    let b : numbers ≡ map (λ p. None) (map premise_tree p.premises) =
    h ∙ ap (map (λ p. None)) (take_all i ps l) ∙ ap (map (λ p. None)) a ∙ sym (none_for_each p.premises) in
    rw (g, b) refl
