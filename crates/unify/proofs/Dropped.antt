-- Sides that are equal under the bindings add none: it makes no difference whether they are dropped or split further.
use Rattle.std.proofs.Common.{ℕ, zero, suc, ◌≡◌, ◌+◌, ◌<◌, List, ◌∷◌, refl, ap, sym, subst, ◌∙◌, arith}
use Rattle.zm_logic.specs.Tree.{Ty, Tys, Term, Terms}
use Rattle.unify.specs.Task.{weight}
use Rattle.unify.specs.Weight.{type_weight, types_weight, term_weight, terms_weight}
use Rattle.unify.specs.Lawful.{AreLawful}
use Rattle.unify.specs.Equation.{Equation, TypeParts, TermParts}
use Rattle.unify.specs.Binding.{Binding, solved_type, solved_term, head_type, head_term, unifier}
use Rattle.unify.specs.Unification.{LacksTypeMeta, LacksTermMeta, Binds, Splits, Unifies}
use Rattle.unify.specs.Solution.{IsSolved}
use Rattle.unify.proofs.Solved.{solved_types, solved_terms, solved_con, solved_more, solved_app, solved_more_term, unbound_type, unbound_term, head_solved_type, head_solved_term, head_unbound_type, head_unbound_term}
use Rattle.unify.proofs.Total.{Outcome, outcome}
use Rattle.unify.proofs.Unifier.{unifier_agrees, solves_solved}

module _ (bs : List Binding) (l : AreLawful bs) where
  -- a metavariable at the head of a side is that side under the bindings
  meta_type : (s : Ty) (m : ℕ) → head_type bs s ≡ Ty.meta m → solved_type bs s ≡ Ty.meta m
  meta_type s m x = sym (head_solved_type bs l s) ∙ ap (solved_type bs) x ∙ unbound_type bs m (head_unbound_type bs l s m x)

  meta_term : (s : Term) (m : ℕ) (k : Ty) → head_term bs s ≡ Term.meta m k → solved_term bs s ≡ Term.meta m k
  meta_term s m k x = sym (head_solved_term bs l s) ∙ ap (solved_term bs) x ∙ unbound_term bs m k (head_unbound_term bs l s m k x)

  -- no binding is made of sides that are equal
  not_bound : {e : Equation} {b : Binding} → IsSolved bs e → Binds bs e b → ⊥
  not_bound h (Binds.left_type {s = s} {m = m} x o) = subst (LacksTypeMeta m) (sym h ∙ meta_type s m x) o refl
  not_bound h (Binds.right_type {t = t} {m = m} n x o) = subst (LacksTypeMeta m) (h ∙ meta_type t m x) o refl
  not_bound h (Binds.left_term {s = s} {m = m} {k = k} x o) = subst (LacksTermMeta m k) (sym h ∙ meta_term s m k x) o refl
  not_bound h (Binds.right_term {t = t} {m = m} {k = k} n x o) = subst (LacksTermMeta m k) (h ∙ meta_term t m k x) o refl

  module _ (cs : List Binding) (n : ℕ) (next : (e : Equation) (es : List Equation) → weight bs e < n → IsSolved bs e → Unifies bs es cs → Unifies bs (e ∷ es) cs) where
    -- equations between the parts of equal lists
    types_dropped : {ss ts : Tys} {rest all : List Equation} → TypeParts ss ts rest all
        → types_weight (solved_types bs ss) + types_weight (solved_types bs ts) < n → solved_types bs ss ≡ solved_types bs ts
        → Unifies bs rest cs → Unifies bs all cs
    types_dropped (TypeParts.none) w h u = u
    types_dropped (TypeParts.more {s = s} {t = t} {ss = ss} {ts = ts} {all = all} p) w h u =
        let f = solved_more bs s ss in let g = solved_more bs t ts in
        let v = ap types_weight f in let z = ap types_weight g in
        let q : solved_type bs s ≡ solved_type bs t = cc in
        let r : solved_types bs ss ≡ solved_types bs ts = cc in
        next (Equation.of_types s t) all (omega (arith, w, v, z)) q (types_dropped p (omega (arith, w, v, z)) r u)

    terms_dropped : {ss ts : Terms} {rest all : List Equation} → TermParts ss ts rest all
        → terms_weight (solved_terms bs ss) + terms_weight (solved_terms bs ts) < n → solved_terms bs ss ≡ solved_terms bs ts
        → Unifies bs rest cs → Unifies bs all cs
    terms_dropped (TermParts.none) w h u = u
    terms_dropped (TermParts.more {s = s} {t = t} {ss = ss} {ts = ts} {all = all} p) w h u =
        let f = solved_more_term bs s ss in let g = solved_more_term bs t ts in
        let v = ap terms_weight f in let z = ap terms_weight g in
        let q : solved_term bs s ≡ solved_term bs t = cc in
        let r : solved_terms bs ss ≡ solved_terms bs ts = cc in
        next (Equation.of_terms s t) all (omega (arith, w, v, z)) q (terms_dropped p (omega (arith, w, v, z)) r u)

    split_dropped : {e : Equation} {rest all : List Equation} → Splits bs e rest all → weight bs e < n + 2 → IsSolved bs e → Unifies bs rest cs → Unifies bs all cs
    split_dropped (Splits.types {s = s} {t = t} {c = c} {ss = ss} {ts = ts} x y p) w h u =
        let f = sym (head_solved_type bs l s) ∙ ap (solved_type bs) x ∙ solved_con bs c ss in
        let g = sym (head_solved_type bs l t) ∙ ap (solved_type bs) y ∙ solved_con bs c ts in
        let v = ap type_weight f in let z = ap type_weight g in
        let q : solved_types bs ss ≡ solved_types bs ts = cc in
        types_dropped p (omega (arith, w, v, z)) q u
    split_dropped (Splits.terms {s = s} {t = t} {f = i} {ss = ss} {ts = ts} {us = us} {vs = vs} x y r p) w h u =
        let f = sym (head_solved_term bs l s) ∙ ap (solved_term bs) x ∙ solved_app bs i ss us in
        let g = sym (head_solved_term bs l t) ∙ ap (solved_term bs) y ∙ solved_app bs i ts vs in
        let v = ap term_weight f in let z = ap term_weight g in
        let q : solved_types bs ss ≡ solved_types bs ts = cc in
        let k : solved_terms bs us ≡ solved_terms bs vs = cc in
        types_dropped p (omega (arith, w, v, z)) q (terms_dropped r (omega (arith, w, v, z)) k u)

  within : (n : ℕ) (cs : List Binding) (e : Equation) (es : List Equation) → weight bs e < n → IsSolved bs e → Unifies bs es cs → Unifies bs (e ∷ es) cs
  within zero cs e es w h u = absurd (omega arith)
  within (suc n) cs e es w h u = by (outcome bs l es e) (λ all s. split_dropped cs n (λ f fs. within n cs f fs) s (omega arith) h u)
    where
      by : Outcome bs e es → ((all : List Equation) → Splits bs e es all → Unifies bs all cs) → Unifies bs (e ∷ es) cs
      by (Outcome.same x) parts = Unifies.same x u
      by (Outcome.binds b d x) parts = absurd (not_bound h x)
      by (Outcome.splits all d x) parts = Unifies.splits d x (parts all x)
      by (Outcome.fails x) parts = absurd (x (unifier bs) (unifier_agrees bs l) (solves_solved bs e h))

  -- an equation that holds under the bindings may be dropped
  pub dropped : (cs : List Binding) (e : Equation) (es : List Equation) → IsSolved bs e → Unifies bs es cs → Unifies bs (e ∷ es) cs
  dropped cs e es h u = within (weight bs e + 1) cs e es (omega arith) h u

  -- the other way round: where it was split further, its parts added none
  module _ (cs : List Binding) (n : ℕ) (next : (e : Equation) (es : List Equation) → weight bs e < n → IsSolved bs e → Unifies bs (e ∷ es) cs → Unifies bs es cs) where
    types_added : {ss ts : Tys} {rest all : List Equation} → TypeParts ss ts rest all
        → types_weight (solved_types bs ss) + types_weight (solved_types bs ts) < n → solved_types bs ss ≡ solved_types bs ts
        → Unifies bs all cs → Unifies bs rest cs
    types_added (TypeParts.none) w h u = u
    types_added (TypeParts.more {s = s} {t = t} {ss = ss} {ts = ts} {all = all} p) w h u =
        let f = solved_more bs s ss in let g = solved_more bs t ts in
        let v = ap types_weight f in let z = ap types_weight g in
        let q : solved_type bs s ≡ solved_type bs t = cc in
        let r : solved_types bs ss ≡ solved_types bs ts = cc in
        types_added p (omega (arith, w, v, z)) r (next (Equation.of_types s t) all (omega (arith, w, v, z)) q u)

    terms_added : {ss ts : Terms} {rest all : List Equation} → TermParts ss ts rest all
        → terms_weight (solved_terms bs ss) + terms_weight (solved_terms bs ts) < n → solved_terms bs ss ≡ solved_terms bs ts
        → Unifies bs all cs → Unifies bs rest cs
    terms_added (TermParts.none) w h u = u
    terms_added (TermParts.more {s = s} {t = t} {ss = ss} {ts = ts} {all = all} p) w h u =
        let f = solved_more_term bs s ss in let g = solved_more_term bs t ts in
        let v = ap terms_weight f in let z = ap terms_weight g in
        let q : solved_term bs s ≡ solved_term bs t = cc in
        let r : solved_terms bs ss ≡ solved_terms bs ts = cc in
        terms_added p (omega (arith, w, v, z)) r (next (Equation.of_terms s t) all (omega (arith, w, v, z)) q u)

    split_added : {e : Equation} {rest all : List Equation} → Splits bs e rest all → weight bs e < n + 2 → IsSolved bs e → Unifies bs all cs → Unifies bs rest cs
    split_added (Splits.types {s = s} {t = t} {c = c} {ss = ss} {ts = ts} x y p) w h u =
        let f = sym (head_solved_type bs l s) ∙ ap (solved_type bs) x ∙ solved_con bs c ss in
        let g = sym (head_solved_type bs l t) ∙ ap (solved_type bs) y ∙ solved_con bs c ts in
        let v = ap type_weight f in let z = ap type_weight g in
        let q : solved_types bs ss ≡ solved_types bs ts = cc in
        types_added p (omega (arith, w, v, z)) q u
    split_added (Splits.terms {s = s} {t = t} {f = i} {ss = ss} {ts = ts} {us = us} {vs = vs} x y r p) w h u =
        let f = sym (head_solved_term bs l s) ∙ ap (solved_term bs) x ∙ solved_app bs i ss us in
        let g = sym (head_solved_term bs l t) ∙ ap (solved_term bs) y ∙ solved_app bs i ts vs in
        let v = ap term_weight f in let z = ap term_weight g in
        let q : solved_types bs ss ≡ solved_types bs ts = cc in
        let k : solved_terms bs us ≡ solved_terms bs vs = cc in
        terms_added r (omega (arith, w, v, z)) k (types_added p (omega (arith, w, v, z)) q u)

  added_within : (n : ℕ) (cs : List Binding) (e : Equation) (es : List Equation) → weight bs e < n → IsSolved bs e → Unifies bs (e ∷ es) cs → Unifies bs es cs
  added_within zero cs e es w h u = absurd (omega arith)
  added_within (suc n) cs e es w h (Unifies.same x u) = u
  added_within (suc n) cs e es w h (Unifies.binds m x u) = absurd (not_bound h x)
  added_within (suc n) cs e es w h (Unifies.splits m x u) = split_added cs n (λ f fs. added_within n cs f fs) x (omega arith) h u

  -- an equation that holds under the bindings adds none
  pub added : (cs : List Binding) (e : Equation) (es : List Equation) → IsSolved bs e → Unifies bs (e ∷ es) cs → Unifies bs es cs
  added cs e es h u = added_within (weight bs e + 1) cs e es (omega arith) h u
