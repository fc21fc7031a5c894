-- For a loop that makes one step after another.
use Rattle.std.proofs.Common.{ℕ, zero, suc, ◌≡◌, ◌≤◌, ◌<◌, ◌+◌, List, [], Option, Some, None, sym, ap, ap₂, ◌∙◌, subst, arith}
use Rattle.lp_terms.specs.Term.{Lp}
use Rattle.lp_terms.specs.Signature.{Entry}
use Rattle.std.specs.Option.{option_map}
use Rattle.lp_reduce.specs.Step.{next_step}
use Rattle.lp_reduce.specs.Normal.{Normal, normal_of, one_step_more, after_step, normal, Leads, CanMake}
use Rattle.lp_reduce.specs.Normal as nf
use Rattle.lp_reduce.proofs.Composed.{leads_join}

pub leads_next : {sigma : List Entry} {n k : ℕ} {t u v : Lp} → Leads sigma n k t u → next_step sigma n [] u ≡ Some v → (j : ℕ) → j ≡ k + 1 → Leads sigma n j t v
leads_next {sigma} p e j f = leads_join sigma p (nf.Leads.more e nf.Leads.none) j f

pub normal_reached : {sigma : List Entry} {n k : ℕ} {t u : Lp} (limit : ℕ) → Leads sigma n k t u → next_step sigma n [] u ≡ None → k ≤ limit → normal sigma n limit t ≡ Some (normal_of u k)
normal_reached {sigma} {n} {t = t} zero nf.Leads.none e h = ap (λ o. after_step t o (λ u. None)) e
normal_reached {sigma} {n} {t = t} (suc limit) nf.Leads.none e h = ap (λ o. after_step t o (λ u. normal sigma n limit u)) e
normal_reached zero (nf.Leads.more s p) e h = absurd (omega arith)
normal_reached {sigma} {n} {t = t} (suc limit) (nf.Leads.more {count = c} {u = w} s p) e h =
    ap (λ o. after_step t o (λ u. normal sigma n limit u)) s ∙ ap (option_map one_step_more) (normal_reached limit p e (omega arith))

pub spent_reached : {sigma : List Entry} {n : ℕ} {t u v : Lp} (limit : ℕ) → Leads sigma n limit t u → next_step sigma n [] u ≡ Some v → CanMake sigma n (suc limit) t
spent_reached {v = v} limit p e = (v, leads_next p e (suc limit) (omega arith))
