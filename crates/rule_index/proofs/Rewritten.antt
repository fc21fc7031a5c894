-- Loops over the rules, one rule further.
use Rattle.std.proofs.Common.{ℕ, ◌≡◌, ◌+◌, ◌<◌, ◌≤◌, List, length, map, get_or, drop, refl, ap, sym, subst, ◌∙◌, arith, Option, Some, None}
use Rattle.std.proofs.lemmas.List.{drop_more, drop_all}
use Rattle.zm_logic.specs.Tree as tree
use Rattle.zm_logic.specs.View.{rule_tree}
use Rattle.zm_logic.specs.declared.rule.Rule.{Rule}
use Rattle.rule_index.specs.Matching.{Fitting, match_side, rewrite, or_else, first_rewrite, as_first, as_later, first_match}
use Rattle.term_store.specs.declared.fault.EnterFault.{EnterFault}
use Rattle.term_store.specs.declared.fault.EnterFault.TheVariants as entered
use Rattle.term_store.specs.Fault.{IfTooDeep}
use Rattle.rule_index.specs.Shallow.{IsShallowSide, AreShallow}

abbrev pub rules_tree : List Rule → List tree.Rule
rules_tree rs = map rule_tree rs

-- what the rules from a place on make of x
rewritten_step : (rs : List Rule) (x : tree.Side) (i : ℕ) (e : Rule) → i < length rs
    → first_rewrite (rules_tree (drop i rs)) x ≡ or_else (rewrite (rule_tree (get_or rs i e)) x) (first_rewrite (rules_tree (drop (i + 1) rs)) x)
rewritten_step rs x i e l = ap (λ z. first_rewrite (rules_tree z) x) (drop_more rs i e l)

pub rewritten_here : (rs : List Rule) (x y : tree.Side) (i : ℕ) (e : Rule) → i < length rs → rewrite (rule_tree (get_or rs i e)) x ≡ Some y
    → first_rewrite (rules_tree (drop i rs)) x ≡ Some y
rewritten_here rs x y i e l h = rewritten_step rs x i e l ∙ ap (λ m. or_else m (first_rewrite (rules_tree (drop (i + 1) rs)) x)) h

pub rewritten_later : (rs : List Rule) (x : tree.Side) (i : ℕ) (e : Rule) → i < length rs → rewrite (rule_tree (get_or rs i e)) x ≡ None
    → first_rewrite (rules_tree (drop i rs)) x ≡ first_rewrite (rules_tree (drop (i + 1) rs)) x
rewritten_later rs x i e l h = rewritten_step rs x i e l ∙ ap (λ m. or_else m (first_rewrite (rules_tree (drop (i + 1) rs)) x)) h

pub rewritten_end : (rs : List Rule) (x : tree.Side) (i : ℕ) → length rs ≤ i → first_rewrite (rules_tree (drop i rs)) x ≡ None
rewritten_end rs x i l = ap (λ z. first_rewrite (rules_tree z) x) (drop_all i rs l)

-- a rule is counted from a later place
abbrev pub counted_from : ℕ → Option Fitting → Option Fitting
counted_from i None = None
counted_from i (Some m) = Some (record { rule = m.rule + i; parts = m.parts })

counted_none : (m : Option Fitting) → counted_from 0 m ≡ m
counted_none None = refl
counted_none (Some m) = let n : m.rule + 0 ≡ m.rule = omega arith in ap (λ k. Some (record { rule = k; parts = m.parts })) n

counted_later : (i : ℕ) (m : Option Fitting) → counted_from i (as_later m) ≡ counted_from (i + 1) m
counted_later i None = refl
counted_later i (Some m) = let n : m.rule + 1 + i ≡ m.rule + (i + 1) = omega arith in ap (λ k. Some (record { rule = k; parts = m.parts })) n

pub fit_start : (rs : List Rule) (x : tree.Side) → counted_from 0 (first_match (rules_tree (drop 0 rs)) x) ≡ first_match (rules_tree rs) x
fit_start rs x = counted_none (first_match (rules_tree rs) x)

fit_step : (rs : List Rule) (x : tree.Side) (i : ℕ) (e : Rule) → i < length rs
    → first_match (rules_tree (drop i rs)) x
    ≡ or_else (as_first (match_side (rule_tree (get_or rs i e)).binders (rule_tree (get_or rs i e)).left x)) (as_later (first_match (rules_tree (drop (i + 1) rs)) x))
fit_step rs x i e l = ap (λ z. first_match (rules_tree z) x) (drop_more rs i e l)

pub fit_here : (rs : List Rule) (x : tree.Side) (i : ℕ) (e : Rule) (os : List tree.Opening) → i < length rs
    → match_side (rule_tree (get_or rs i e)).binders (rule_tree (get_or rs i e)).left x ≡ Some os
    → counted_from i (first_match (rules_tree (drop i rs)) x) ≡ Some (record { rule = i; parts = os })
fit_here rs x i e os l h =
    let n : 0 + i ≡ i = omega arith in
    ap (counted_from i) (fit_step rs x i e l ∙ ap (λ m. or_else (as_first m) (as_later (first_match (rules_tree (drop (i + 1) rs)) x))) h)
    ∙ ap (λ k. Some (record { rule = k; parts = os })) n

pub fit_later : (rs : List Rule) (x : tree.Side) (i : ℕ) (e : Rule) → i < length rs
    → match_side (rule_tree (get_or rs i e)).binders (rule_tree (get_or rs i e)).left x ≡ None
    → counted_from i (first_match (rules_tree (drop i rs)) x) ≡ counted_from (i + 1) (first_match (rules_tree (drop (i + 1) rs)) x)
fit_later rs x i e l h =
    ap (counted_from i) (fit_step rs x i e l ∙ ap (λ m. or_else (as_first m) (as_later (first_match (rules_tree (drop (i + 1) rs)) x))) h)
    ∙ counted_later i (first_match (rules_tree (drop (i + 1) rs)) x)

pub fit_end : (rs : List Rule) (x : tree.Side) (i : ℕ) → length rs ≤ i → counted_from i (first_match (rules_tree (drop i rs)) x) ≡ None
fit_end rs x i l = ap (λ z. counted_from i (first_match (rules_tree z) x)) (drop_all i rs l)

-- all rules are shallow exactly where those from a place on are
pub record SoFar (rs : List Rule) (i : ℕ) : Type 0 where
  pub into : AreShallow (rules_tree (drop i rs)) → AreShallow (rules_tree rs)
  pub back : AreShallow (rules_tree rs) → AreShallow (rules_tree (drop i rs))

pub shallow_start : (rs : List Rule) → SoFar rs 0
shallow_start rs = record { into = λ h. h; back = λ h. h }

module _ (rs : List Rule) (i : ℕ) (e : Rule) (l : i < length rs) (v : SoFar rs i) where
  pub shallow_more : IsShallowSide (rule_tree (get_or rs i e)).left → IsShallowSide (rule_tree (get_or rs i e)).right → SoFar rs (i + 1)
  shallow_more x y = record {
    into = λ h. v.into (subst (λ z. AreShallow (rules_tree z)) (sym (drop_more rs i e l)) (x, y, h));
    back = λ h. (subst (λ z. AreShallow (rules_tree z)) (drop_more rs i e l) (v.back h)).2;
  }

  pub deep_left : (f : EnterFault) → IfTooDeep (IsShallowSide (rule_tree (get_or rs i e)).left → ⊥) f → IfTooDeep (AreShallow (rules_tree rs) → ⊥) f
  deep_left entered.Memory h = tt
  deep_left entered.Deep h = λ a. h (subst (λ z. AreShallow (rules_tree z)) (drop_more rs i e l) (v.back a)).0

  pub deep_right : (f : EnterFault) → IfTooDeep (IsShallowSide (rule_tree (get_or rs i e)).right → ⊥) f → IfTooDeep (AreShallow (rules_tree rs) → ⊥) f
  deep_right entered.Memory h = tt
  deep_right entered.Deep h = λ a. h (subst (λ z. AreShallow (rules_tree z)) (drop_more rs i e l) (v.back a)).1

pub shallow_end : (rs : List Rule) (i : ℕ) → length rs ≤ i → SoFar rs i → AreShallow (rules_tree rs)
shallow_end rs i l v = v.into (subst (λ z. AreShallow (rules_tree z)) (sym (drop_all i rs l)) tt)
