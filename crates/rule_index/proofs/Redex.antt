-- A rule fits a place without loose indices exactly where the place is a redex, and makes of it what rewriting makes.
use Rattle.std.proofs.Common.{◌≡◌, refl, ap, sym, ◌∙◌, List, [], ◌∷◌, Option, Some, None}
use Rattle.zm_logic.specs.Tree.{Opening, Side, Rule}
use Rattle.zm_logic.specs.Opening.{side_instance}
use Rattle.zm_logic.specs.Rewriting.{Fit, IsRedex, Rewrites}
use Rattle.zm_logic.specs.Innermost.{FirstRewrites}
use Rattle.rule_select.specs.Sound.{IsClosedSide}
use Rattle.rule_index.specs.Instance.{put}
use Rattle.rule_index.specs.Matching.{match_side, put_some, rewrite, or_else, first_rewrite}
use Rattle.rule_index.specs.Usable.{IsUsable, AreUsable}
use Rattle.rule_index.proofs.Matched.{match_is_sound, match_is_complete}
use Rattle.rule_index.proofs.ClosedParts.{put_is_instance, parts_are_closed, closed_parts_fit, fit_is_of}

-- a rule at its place
pub fit_is_match : (r : Rule) → IsUsable r → (x : Side) (os : List Opening) → Fit os r.binders → side_instance os r.left ≡ x → match_side r.binders r.left x ≡ Some os
fit_is_match r ok x os fits left =
    let c = fit_is_of fits in
    match_is_complete r.binders r.left x os ok.left (record { kinds = c.0; instance = put_is_instance os c.1 r.left ∙ left })

pub rewrites_is : (r : Rule) → IsUsable r → (x y : Side) → Rewrites r x y → rewrite r x ≡ Some y
rewrites_is r ok x y (os, fits, left, right) =
    rw (fit_is_match r ok x os fits left) (ap Some (put_is_instance os (fit_is_of fits).1 r.right ∙ right))

pub is_rewrites : (r : Rule) → IsUsable r → (x y : Side) → IsClosedSide 0 x → rewrite r x ≡ Some y → Rewrites r x y
is_rewrites r ok x y c e = go (match_side r.binders r.left x) refl e
  where
    go : (m : Option (List Opening)) → match_side r.binders r.left x ≡ m → put_some r.right m ≡ Some y → Rewrites r x y
    go None d e = cc
    go (Some os) d e =
        let s = match_is_sound r.binders r.left x os d in
        let k = parts_are_closed r.binders r.left x os ok.left s c in
        let is : put os r.right ≡ y = cc in
        (os, closed_parts_fit os r.binders s.kinds k, sym (put_is_instance os k r.left) ∙ s.instance, sym (put_is_instance os k r.right) ∙ is)

pub no_redex : (r : Rule) → IsUsable r → (x : Side) → rewrite r x ≡ None → IsRedex r x → ⊥
no_redex r ok x e (os, fits, left) = let m : put_some r.right (Some os) ≡ None = sym (ap (put_some r.right) (fit_is_match r ok x os fits left)) ∙ e in cc

pub first_is : (rules : List Rule) → AreUsable rules → (x y : Side) → IsClosedSide 0 x → first_rewrite rules x ≡ Some y → FirstRewrites rules x y
first_is [] ok x y c e = cc
first_is (r ∷ rules) ok x y c e = go (λ e. first_is rules ok.1 x y c e) (rewrite r x) refl e
  where
    go : (first_rewrite rules x ≡ Some y → FirstRewrites rules x y) → (m : Option Side) → rewrite r x ≡ m → or_else m (first_rewrite rules x) ≡ Some y
        → FirstRewrites (r ∷ rules) x y
    go ih None d e = FirstRewrites.later (no_redex r ok.0 x d) (ih e)
    go ih (Some z) d e = FirstRewrites.first (is_rewrites r ok.0 x y c (d ∙ e))

pub is_first : {rules : List Rule} → AreUsable rules → {x y : Side} → IsClosedSide 0 x → FirstRewrites rules x y → first_rewrite rules x ≡ Some y
is_first ok c (FirstRewrites.first {r = r} {rules = rules} {x = x} {y = y} h) = rw (rewrites_is r ok.0 x y h)
is_first ok c (FirstRewrites.later {r = r} {rules = rules} {x = x} {y = y} n h) = go (is_first ok.1 c h) (rewrite r x) refl
  where
    go : first_rewrite rules x ≡ Some y → (m : Option Side) → rewrite r x ≡ m → or_else m (first_rewrite rules x) ≡ Some y
    go rest None d = rest
    go rest (Some z) d = let w = is_rewrites r ok.0 x z c d in absurd (n (w.0, w.1, w.2))
