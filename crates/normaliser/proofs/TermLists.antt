-- The next step of a list of terms, from one place on.
use Rattle.std.proofs.Common.{ℕ, zero, suc, arith, ◌≡◌, ◌+◌, ◌<◌, ◌≤◌, List, [], ◌∷◌, ◌++◌, length, get_or, take, drop, refl, ap, sym, ◌∙◌, Option, Some, None}
use Rattle.std.proofs.lemmas.List.{drop_more, drop_all, take_more}
use Rattle.std.specs.Prelude.{slice_set}
use Rattle.zm_logic.specs.Tree as tree
use Rattle.zm_logic.specs.View.{term_tree, terms_tree}
use Rattle.zm_logic.specs.declared.tree.Term.{Term}
use Rattle.rule_index.specs.Matching.{or_else}
use Rattle.normaliser.specs.NextStep.{under, next_term, next_terms}

-- terms before others
abbrev pub before : List Term → tree.Terms → tree.Terms
before [] us = us
before (t ∷ ts) us = tree.Terms.more (term_tree t) (before ts us)

before_push : (ts : List Term) (t : Term) (us : tree.Terms) → before (ts ++ t ∷ []) us ≡ before ts (tree.Terms.more (term_tree t) us)
before_push [] t us = refl
before_push (x ∷ xs) t us = ap (tree.Terms.more (term_tree x)) (before_push xs t us)

module _ (rules : List tree.Rule) where
  -- the step of the list is that of the rest, the terms before being normal
  abbrev pub GoesOn : List Term → ℕ → Type 0
  GoesOn ts i = under (before (take i ts)) (next_terms rules (terms_tree (drop i ts))) ≡ next_terms rules (terms_tree ts)

  pub next_start : (ts : List Term) → GoesOn ts 0
  next_start ts = go (next_terms rules (terms_tree ts))
    where
      go : (m : Option tree.Terms) → under (λ us. us) m ≡ m
      go None = refl
      go (Some us) = refl

  next_split : (ts : List Term) (i : ℕ) (e : Term) → i < length ts
      → next_terms rules (terms_tree (drop i ts))
      ≡ or_else (under (λ v. tree.Terms.more v (terms_tree (drop (i + 1) ts))) (next_term rules (term_tree (get_or ts i e))))
      (under (tree.Terms.more (term_tree (get_or ts i e))) (next_terms rules (terms_tree (drop (i + 1) ts))))
  next_split ts i e l = ap (λ z. next_terms rules (terms_tree z)) (drop_more ts i e l)

  pub next_later : (ts : List Term) (i : ℕ) (e : Term) → i < length ts → next_term rules (term_tree (get_or ts i e)) ≡ None → GoesOn ts i → GoesOn ts (i + 1)
  next_later ts i e l n h =
      ap (λ z. under (before z) (next_terms rules (terms_tree (drop (i + 1) ts)))) (take_more ts i e l)
      ∙ go (next_terms rules (terms_tree (drop (i + 1) ts)))
      ∙ sym (ap (under (before (take i ts))) (next_split ts i e l
      ∙ ap (λ m. or_else (under (λ v. tree.Terms.more v (terms_tree (drop (i + 1) ts))) m)
      (under (tree.Terms.more (term_tree (get_or ts i e))) (next_terms rules (terms_tree (drop (i + 1) ts))))) n))
      ∙ h
    where
      go : (m : Option tree.Terms) → under (before (take i ts ++ get_or ts i e ∷ [])) m
          ≡ under (before (take i ts)) (under (tree.Terms.more (term_tree (get_or ts i e))) m)
      go None = refl
      go (Some us) = ap Some (before_push (take i ts) (get_or ts i e) us)

  set_is : (ts : List Term) (i : ℕ) (v : Term) → i < length ts → terms_tree (slice_set ts i v) ≡ before (take i ts) (tree.Terms.more (term_tree v) (terms_tree (drop (i + 1) ts)))
  set_is [] i v l = absurd (omega arith)
  set_is (t ∷ ts) zero v l = refl
  set_is (t ∷ ts) (suc i) v l =
      let e : suc (i + 1) ≡ suc i + 1 = omega arith in
      ap (tree.Terms.more (term_tree t)) (set_is ts i v (omega arith))
      ∙ ap (λ k. tree.Terms.more (term_tree t) (before (take i ts) (tree.Terms.more (term_tree v) (terms_tree (drop k (t ∷ ts)))))) e

  pub next_here : (ts : List Term) (i : ℕ) (e v : Term) → i < length ts → next_term rules (term_tree (get_or ts i e)) ≡ Some (term_tree v) → GoesOn ts i
      → Some (terms_tree (slice_set ts i v)) ≡ next_terms rules (terms_tree ts)
  next_here ts i e v l n h =
      ap Some (set_is ts i v l)
      ∙ sym (ap (under (before (take i ts))) (next_split ts i e l
      ∙ ap (λ m. or_else (under (λ v. tree.Terms.more v (terms_tree (drop (i + 1) ts))) m)
      (under (tree.Terms.more (term_tree (get_or ts i e))) (next_terms rules (terms_tree (drop (i + 1) ts))))) n))
      ∙ h

  pub next_end : (ts : List Term) (i : ℕ) → length ts ≤ i → GoesOn ts i → None ≡ next_terms rules (terms_tree ts)
  next_end ts i l h = sym (ap (λ z. under (before (take i ts)) (next_terms rules (terms_tree z))) (drop_all i ts l)) ∙ h
