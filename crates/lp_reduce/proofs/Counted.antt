-- The normal form is reached by exactly its number of steps; none is given exactly where more steps than the limit lead on.
use Rattle.std.proofs.Common.{ℕ, zero, suc, ◌≡◌, ◌≤◌, ◌<◌, ◌↔◌, List, [], Option, Some, None, IfSome, refl, sym, ap, ◌∙◌, subst, arith}
use Rattle.lp_terms.specs.Term.{Lp}
use Rattle.lp_terms.specs.Signature.{Entry}
use Rattle.std.specs.Option.{option_map}
use Rattle.lp_reduce.specs.Step.{next_step}
use Rattle.lp_reduce.specs.Normal.{Normal, one_step_more, after_step, normal, Leads, CanMake}
use Rattle.lp_reduce.specs.Normal as nf

module _ (sigma : List Entry) (n : ℕ) where
  -- what a normal form says
  abbrev pub IsNormalFormOf : ℕ → Lp → Normal → Type 0
  IsNormalFormOf limit t r = Leads sigma n r.steps t r.form × (next_step sigma n [] r.form ≡ None) × (r.steps ≤ limit)

  abbrev pub Outcome : ℕ → Lp → Option Normal → Type 0
  Outcome limit t (Some r) = IsNormalFormOf limit t r
  Outcome limit t None = CanMake sigma n (suc limit) t

  counted_outcome : (limit : ℕ) (t u : Lp) (m : Option Normal) → next_step sigma n [] t ≡ Some u → Outcome limit u m → Outcome (suc limit) t (option_map one_step_more m)
  counted_outcome limit t u (Some r) e o = (nf.Leads.more e o.0, o.1, omega arith)
  counted_outcome limit t u None e o = (o.0, nf.Leads.more e o.1)

  first_outcome : (t : Lp) (o : Option Lp) → next_step sigma n [] t ≡ o → Outcome zero t (after_step t o (λ u. None))
  first_outcome t None e = (nf.Leads.none, e, omega arith)
  first_outcome t (Some u) e = (u, nf.Leads.more e nf.Leads.none)

  next_outcome : (limit : ℕ) (t : Lp) (o : Option Lp) → next_step sigma n [] t ≡ o → ((u : Lp) → Outcome limit u (normal sigma n limit u)) → Outcome (suc limit) t (after_step t o (λ u. normal sigma n limit u))
  next_outcome limit t None e f = (nf.Leads.none, e, omega arith)
  next_outcome limit t (Some u) e f = counted_outcome limit t u (normal sigma n limit u) e (f u)

  -- each outcome says what it says
  pub normal_outcome : (limit : ℕ) (t : Lp) → Outcome limit t (normal sigma n limit t)
  normal_outcome zero t = first_outcome t (next_step sigma n [] t) refl
  normal_outcome (suc limit) t = next_outcome limit t (next_step sigma n [] t) refl (normal_outcome limit)

  -- and the two exclude each other, so each comes exactly there: steps are determined
  some_none : {A : Type 0} (x : A) (o : Option A) → o ≡ Some x → o ≡ None → ⊥
  some_none x o e f = grind (arith, e, f)

  some_same : {A : Type 0} (x y : A) (o : Option A) → o ≡ Some x → o ≡ Some y → x ≡ y
  some_same x y o e f = grind (arith, e, f)

  -- from a normal form reached in k steps no more than k can be made
  pub no_more : {k j : ℕ} {t u v : Lp} → Leads sigma n k t u → next_step sigma n [] u ≡ None → Leads sigma n j t v → j ≤ k
  no_more p e nf.Leads.none = omega arith
  no_more {t = t} nf.Leads.none e (nf.Leads.more {u = w} f q) = absurd (some_none w (next_step sigma n [] t) f e)
  no_more {t = t} (nf.Leads.more {count = k} {u = x} g p) e (nf.Leads.more {count = j} {u = w} {v = v} f q) =
      let h : j ≤ k = no_more p e (subst (λ y. Leads sigma n j y v) (some_same w x (next_step sigma n [] t) f g) q) in omega arith

  spent_of : (limit : ℕ) (t : Lp) (o : Option Normal) → Outcome limit t o → CanMake sigma n (suc limit) t → o ≡ None
  spent_of limit t (Some r) o m = let h : suc limit ≤ r.steps = no_more o.0 o.1 m.1 in absurd (below_itself r.steps limit h o.2)
    where
      below_itself : (a b : ℕ) → suc b ≤ a → a ≤ b → ⊥
      below_itself a b h i = omega arith
  spent_of limit t None o m = refl

  pub spent_exactly : (limit : ℕ) (t : Lp) → (normal sigma n limit t ≡ None) ↔ CanMake sigma n (suc limit) t
  spent_exactly limit t = ((λ e. subst (λ o. Outcome limit t o) e (normal_outcome limit t)), (λ m. spent_of limit t (normal sigma n limit t) (normal_outcome limit t) m))
