-- The number that is answered is the least of a rule that fits, and none is answered exactly where none fits.
use Rattle.std.proofs.Common.{ℕ, ◌≡◌, ◌+◌, refl, sym, ◌∙◌, subst, List, [], ◌∷◌, Option, Some, None}
use Rattle.zm_logic.specs.Tree.{Opening, Side, Rule}
use Rattle.rule_index.specs.Matching.{match_side, or_else, Fitting, as_first, as_later, first_match}
use Rattle.rule_index.specs.Usable.{IsUsable, AreUsable}
use Rattle.rule_index.specs.Fits.{FitsNot, FirstFits, NoneFits}
use Rattle.rule_index.specs.declared.index.Match.{Match}
use Rattle.rule_index.specs.View.{parts_tree, some_fitting, IsFirstFit}
use Rattle.rule_index.proofs.Matched.{match_is_sound, match_is_complete}

fits_not : (r : Rule) → IsUsable r → (x : Side) → match_side r.binders r.left x ≡ None → FitsNot r x
fits_not r ok x e os m = let f : ◌≡◌ {A = Option (List Opening)} (Some os) None = sym (match_is_complete r.binders r.left x os ok.left m) ∙ e in cc

abbrev Fits : List Rule → Side → Fitting → Type 0
Fits rules x m = FirstFits rules x m.rule m.parts

pub first_match_is_first : (rules : List Rule) → AreUsable rules → (x : Side) (m : Fitting) → first_match rules x ≡ Some m → FirstFits rules x m.rule m.parts
first_match_is_first [] ok x m e = cc
first_match_is_first (r ∷ rules) ok x m e = go (λ k. first_match_is_first rules ok.1 x k) (match_side r.binders r.left x) refl (first_match rules x) refl e
  where
    go : ((k : Fitting) → first_match rules x ≡ Some k → FirstFits rules x k.rule k.parts) → (p : Option (List Opening)) → match_side r.binders r.left x ≡ p
        → (y : Option Fitting) → first_match rules x ≡ y → or_else (as_first p) (as_later y) ≡ Some m → Fits (r ∷ rules) x m
    go ih (Some os) d y f e =
        let is : ◌≡◌ {A = Fitting} (record { rule = 0; parts = os }) m = cc in
        subst (Fits (r ∷ rules) x) is (FirstFits.first (match_is_sound r.binders r.left x os d))
    go ih None d None f e = cc
    go ih None d (Some k) f e =
        let is : ◌≡◌ {A = Fitting} (record { rule = k.rule + 1; parts = k.parts }) m = cc in
        subst (Fits (r ∷ rules) x) is (FirstFits.later (fits_not r ok.0 x d) (ih k f))

pub first_is_first_match : {rules : List Rule} {x : Side} {n : ℕ} {os : List Opening} → AreUsable rules → FirstFits rules x n os
    → first_match rules x ≡ Some (record { rule = n; parts = os })
first_is_first_match ok (FirstFits.first {r = r} {x = x} {os = os} m) = rw (match_is_complete r.binders r.left x os ok.0.left m)
first_is_first_match ok (FirstFits.later {r = r} {rules = rules} {x = x} {n = n} {os = os} h f) =
    go (first_is_first_match ok.1 f) (match_side r.binders r.left x) refl
  where
    go : first_match rules x ≡ Some (record { rule = n; parts = os }) → (p : Option (List Opening)) → match_side r.binders r.left x ≡ p
        → or_else (as_first p) (as_later (first_match rules x)) ≡ Some (record { rule = n + 1; parts = os })
    go e None d = rw e
    go e (Some ps) d = absurd (h ps (match_is_sound r.binders r.left x ps d))

pub no_match_is_none : (rules : List Rule) → AreUsable rules → (x : Side) → first_match rules x ≡ None → NoneFits rules x
no_match_is_none [] ok x e = tt
no_match_is_none (r ∷ rules) ok x e = go (no_match_is_none rules ok.1 x) (match_side r.binders r.left x) refl (first_match rules x) refl e
  where
    go : (first_match rules x ≡ None → NoneFits rules x) → (p : Option (List Opening)) → match_side r.binders r.left x ≡ p
        → (y : Option Fitting) → first_match rules x ≡ y → or_else (as_first p) (as_later y) ≡ None → NoneFits (r ∷ rules) x
    go ih (Some os) d y f e = cc
    go ih None d (Some k) f e = cc
    go ih None d None f e = (fits_not r ok.0 x d, ih f)

pub none_is_no_match : (rules : List Rule) → (x : Side) → NoneFits rules x → first_match rules x ≡ None
none_is_no_match [] x h = refl
none_is_no_match (r ∷ rules) x h = go (none_is_no_match rules x h.1) (match_side r.binders r.left x) refl
  where
    go : first_match rules x ≡ None → (p : Option (List Opening)) → match_side r.binders r.left x ≡ p
        → or_else (as_first p) (as_later (first_match rules x)) ≡ None
    go e None d = rw e
    go e (Some ps) d = absurd (h.0 ps (match_is_sound r.binders r.left x ps d))

pub is_first_fit : (rules : List Rule) (x : Side) (m : Option Match) → some_fitting m ≡ first_match rules x → AreUsable rules → IsFirstFit rules x m
is_first_fit rules x None e ok = no_match_is_none rules ok x (sym e)
is_first_fit rules x (Some m) e ok = first_match_is_first rules ok x (record { rule = m.rule; parts = parts_tree m.parts }) (sym e)
