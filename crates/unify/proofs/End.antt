-- Unification ends: each list of equations has bindings or no solution.
use Rattle.std.proofs.Common.{ℕ, zero, suc, ◌≡◌, ◌≢◌, ◌+◌, ◌<◌, ◌≤◌, ◌⊎◌, inl, inr, List, [], ◌∷◌, length, ap, sym, subst, ◌∙◌, arith}
use Rattle.zm_logic.specs.Tree.{Ty, Tys, Term, Terms}
use Rattle.unify.specs.Metas.{Variable}
use Rattle.unify.specs.Task.{weight, weights}
use Rattle.unify.specs.Weight.{type_weight, types_weight, term_weight, terms_weight}
use Rattle.unify.specs.Lawful.{AreLawful}
use Rattle.unify.specs.Substitution.{Substitution, put_type, put_types, put_term, put_terms}
use Rattle.unify.specs.Equation.{Equation, Solves, SolvesAll, TypeParts, TermParts}
use Rattle.unify.specs.Binding.{Binding, solved_type, solved_term, head_type, head_term}
use Rattle.unify.specs.Unification.{Binds, Splits, AreSame, Unifies}
use Rattle.unify.specs.Solution.{Agrees}
use Rattle.unify.proofs.Solved.{solved_types, solved_terms, solved_con, solved_more, solved_app, solved_more_term, unbound_type, unbound_term, head_solved_type, head_solved_term, head_unbound_type, head_unbound_term}
use Rattle.unify.proofs.General.{lawful_more, agrees_more, put_head_type, put_head_term, type_parts_put, term_parts_put}
use Rattle.unify.proofs.Measure.{Among, without, TypeIn, TypesIn, TermIn, TermsIn, type_lacking_in, type_put_in, term_put_type_in, type_still_in, term_lacking_in, term_put_in}
use Rattle.unify.proofs.Total.{Outcome, outcome}

-- the metavariables of the sides under the bindings are in the list
abbrev pub IsIn : List Variable → List Binding → Equation → Type 0
IsIn vs bs (Equation.of_types s t) = TypeIn vs (solved_type bs s) × TypeIn vs (solved_type bs t)
IsIn vs bs (Equation.of_terms s t) = TermIn vs (solved_term bs s) × TermIn vs (solved_term bs t)

abbrev pub AreIn : List Variable → List Binding → List Equation → Type 0
AreIn vs bs [] = Unit {0}
AreIn vs bs (e ∷ es) = IsIn vs bs e × AreIn vs bs es

-- a type weighs something
pub type_heavy : (t : Ty) → 0 < type_weight t
type_heavy (Ty.bound i) = omega arith
type_heavy (Ty.param i) = omega arith
type_heavy (Ty.meta i) = omega arith
type_heavy (Ty.con c ts) = omega arith

pub term_heavy : (t : Term) → 0 < term_weight t
term_heavy (Term.bound i) = omega arith
term_heavy (Term.eps i t) = omega arith
term_heavy (Term.meta i t) = omega arith
term_heavy (Term.app f ts us) = omega arith

pub heavy : (bs : List Binding) (e : Equation) → 0 < weight bs e
heavy bs (Equation.of_types s t) = omega (arith, type_heavy (solved_type bs s))
heavy bs (Equation.of_terms s t) = omega (arith, term_heavy (solved_term bs s))

module _ (bs : List Binding) where
  type_parts_weight : {ss ts : Tys} {rest all : List Equation} → TypeParts ss ts rest all → weights bs all ≤ (types_weight (solved_types bs ss) + types_weight (solved_types bs ts)) + weights bs rest
  type_parts_weight (TypeParts.none) = omega arith
  type_parts_weight (TypeParts.more {s = s} {t = t} {ss = ss} {ts = ts} p) =
      omega (arith, type_parts_weight p, ap types_weight (solved_more bs s ss), ap types_weight (solved_more bs t ts))

  term_parts_weight : {ss ts : Terms} {rest all : List Equation} → TermParts ss ts rest all → weights bs all ≤ (terms_weight (solved_terms bs ss) + terms_weight (solved_terms bs ts)) + weights bs rest
  term_parts_weight (TermParts.none) = omega arith
  term_parts_weight (TermParts.more {s = s} {t = t} {ss = ss} {ts = ts} p) =
      omega (arith, term_parts_weight p, ap terms_weight (solved_more_term bs s ss), ap terms_weight (solved_more_term bs t ts))

  type_parts_in : (vs : List Variable) {ss ts : Tys} {rest all : List Equation} → TypeParts ss ts rest all → TypesIn vs (solved_types bs ss) → TypesIn vs (solved_types bs ts) → AreIn vs bs rest → AreIn vs bs all
  type_parts_in vs (TypeParts.none) g h r = r
  type_parts_in vs (TypeParts.more {s = s} {t = t} {ss = ss} {ts = ts} p) g h r =
      let x = subst (TypesIn vs) (solved_more bs s ss) g in let y = subst (TypesIn vs) (solved_more bs t ts) h in
      ((x.0, y.0), type_parts_in vs p x.1 y.1 r)

  term_parts_in : (vs : List Variable) {ss ts : Terms} {rest all : List Equation} → TermParts ss ts rest all → TermsIn vs (solved_terms bs ss) → TermsIn vs (solved_terms bs ts) → AreIn vs bs rest → AreIn vs bs all
  term_parts_in vs (TermParts.none) g h r = r
  term_parts_in vs (TermParts.more {s = s} {t = t} {ss = ss} {ts = ts} p) g h r =
      let x = subst (TermsIn vs) (solved_more_term bs s ss) g in let y = subst (TermsIn vs) (solved_more_term bs t ts) h in
      ((x.0, y.0), term_parts_in vs p x.1 y.1 r)

  module _ (l : AreLawful bs) where
    -- parts weigh less, and hold no other metavariables
    pub splits_less : {e : Equation} {es all : List Equation} → Splits bs e es all → weights bs all + 1 < weight bs e + weights bs es
    splits_less (Splits.types {s = s} {t = t} {c = c} {ss = ss} {ts = ts} x y p) =
        let hs = ap type_weight (sym (head_solved_type bs l s) ∙ ap (solved_type bs) x ∙ solved_con bs c ss) in
        let ht = ap type_weight (sym (head_solved_type bs l t) ∙ ap (solved_type bs) y ∙ solved_con bs c ts) in
        omega (arith, hs, ht, type_parts_weight p)
    splits_less (Splits.terms {s = s} {t = t} {f = f} {ss = ss} {ts = ts} {us = us} {vs = vs} x y q p) =
        let hs = ap term_weight (sym (head_solved_term bs l s) ∙ ap (solved_term bs) x ∙ solved_app bs f ss us) in
        let ht = ap term_weight (sym (head_solved_term bs l t) ∙ ap (solved_term bs) y ∙ solved_app bs f ts vs) in
        omega (arith, hs, ht, type_parts_weight p, term_parts_weight q)

    pub splits_in : (vs : List Variable) {e : Equation} {es all : List Equation} → Splits bs e es all → IsIn vs bs e → AreIn vs bs es → AreIn vs bs all
    splits_in vs (Splits.types {s = s} {t = t} {c = c} {ss = ss} {ts = ts} x y p) i r =
        let hs = subst (TypeIn vs) (sym (head_solved_type bs l s) ∙ ap (solved_type bs) x ∙ solved_con bs c ss) i.0 in
        let ht = subst (TypeIn vs) (sym (head_solved_type bs l t) ∙ ap (solved_type bs) y ∙ solved_con bs c ts) i.1 in
        type_parts_in vs p hs ht r
    splits_in vs (Splits.terms {s = s} {t = t} {f = f} {ss = ss} {ts = ts} {us = us} {vs = ws} x y q p) i r =
        let hs = subst (TermIn vs) (sym (head_solved_term bs l s) ∙ ap (solved_term bs) x ∙ solved_app bs f ss us) i.0 in
        let ht = subst (TermIn vs) (sym (head_solved_term bs l t) ∙ ap (solved_term bs) y ∙ solved_app bs f ts ws) i.1 in
        type_parts_in vs p hs.0 ht.0 (term_parts_in vs q hs.1 ht.1 r)

    -- a binding takes its metavariable out of the list
    after_type : (vs ws : List Variable) (m : ℕ) (u : Ty) → ((v : Variable) → Among v vs → v ≢ Variable.type m → Among v ws) → TypeIn ws (solved_type bs u)
        → (es : List Equation) → AreIn vs bs es → AreIn ws (Binding.of_type m u ∷ bs) es
    after_type vs ws m u keep g [] h = tt
    after_type vs ws m u keep g (Equation.of_types s t ∷ es) h =
        ((type_put_in vs ws m keep (solved_type bs u) g (solved_type bs s) h.0.0, type_put_in vs ws m keep (solved_type bs u) g (solved_type bs t) h.0.1), after_type vs ws m u keep g es h.1)
    after_type vs ws m u keep g (Equation.of_terms s t ∷ es) h =
        ((term_put_type_in vs ws m keep (solved_type bs u) g (solved_term bs s) h.0.0, term_put_type_in vs ws m keep (solved_type bs u) g (solved_term bs t) h.0.1), after_type vs ws m u keep g es h.1)

    after_term : (vs ws : List Variable) (m : ℕ) (k : Ty) (u : Term) → ((v : Variable) → Among v vs → v ≢ Variable.term m k → Among v ws) → TermIn ws (solved_term bs u)
        → (es : List Equation) → AreIn vs bs es → AreIn ws (Binding.of_term m k u ∷ bs) es
    after_term vs ws m k u keep g [] h = tt
    after_term vs ws m k u keep g (Equation.of_types s t ∷ es) h =
        ((type_still_in vs ws m k keep (solved_type bs s) h.0.0, type_still_in vs ws m k keep (solved_type bs t) h.0.1), after_term vs ws m k u keep g es h.1)
    after_term vs ws m k u keep g (Equation.of_terms s t ∷ es) h =
        ((term_put_in vs ws m k keep (solved_term bs u) g (solved_term bs s) h.0.0, term_put_in vs ws m k keep (solved_term bs u) g (solved_term bs t) h.0.1), after_term vs ws m k u keep g es h.1)

    pub binds_in : (vs : List Variable) (es : List Equation) {e : Equation} {b : Binding} → Binds bs e b → IsIn vs bs e → AreIn vs bs es
        → (ws : List Variable) × (length ws < length vs) × AreIn ws (b ∷ bs) es
    binds_in vs es (Binds.left_type {s = s} {t = t} {m = m} x o) i r =
        let here : TypeIn vs (Ty.meta m) = subst (TypeIn vs) (sym (head_solved_type bs l s) ∙ ap (solved_type bs) x ∙ unbound_type bs m (head_unbound_type bs l s m x)) i.0 in
        let w = without (Variable.type m) vs here in
        let g = subst (TypeIn w.0) (sym (head_solved_type bs l t)) (type_lacking_in vs w.0 m w.2 (solved_type bs t) i.1 o) in
        (w.0, w.1, after_type vs w.0 m (head_type bs t) w.2 g es r)
    binds_in vs es (Binds.right_type {s = s} {t = t} {m = m} n x o) i r =
        let here : TypeIn vs (Ty.meta m) = subst (TypeIn vs) (sym (head_solved_type bs l t) ∙ ap (solved_type bs) x ∙ unbound_type bs m (head_unbound_type bs l t m x)) i.1 in
        let w = without (Variable.type m) vs here in
        let g = subst (TypeIn w.0) (sym (head_solved_type bs l s)) (type_lacking_in vs w.0 m w.2 (solved_type bs s) i.0 o) in
        (w.0, w.1, after_type vs w.0 m (head_type bs s) w.2 g es r)
    binds_in vs es (Binds.left_term {s = s} {t = t} {m = m} {k = k} x o) i r =
        let here : TermIn vs (Term.meta m k) = subst (TermIn vs) (sym (head_solved_term bs l s) ∙ ap (solved_term bs) x ∙ unbound_term bs m k (head_unbound_term bs l s m k x)) i.0 in
        let w = without (Variable.term m k) vs here in
        let g = subst (TermIn w.0) (sym (head_solved_term bs l t)) (term_lacking_in vs w.0 m k w.2 (solved_term bs t) i.1 o) in
        (w.0, w.1, after_term vs w.0 m k (head_term bs t) w.2 g es r)
    binds_in vs es (Binds.right_term {s = s} {t = t} {m = m} {k = k} n x o) i r =
        let here : TermIn vs (Term.meta m k) = subst (TermIn vs) (sym (head_solved_term bs l t) ∙ ap (solved_term bs) x ∙ unbound_term bs m k (head_unbound_term bs l t m k x)) i.1 in
        let w = without (Variable.term m k) vs here in
        let g = subst (TermIn w.0) (sym (head_solved_term bs l s)) (term_lacking_in vs w.0 m k w.2 (solved_term bs s) i.0 o) in
        (w.0, w.1, after_term vs w.0 m k (head_term bs s) w.2 g es r)

-- a substitution that solves the equation solves its parts
splits_put : (bs : List Binding) → AreLawful bs → {e : Equation} {es all : List Equation} → Splits bs e es all → (a : Substitution) → Agrees a bs → Solves a e → SolvesAll a es → SolvesAll a all
splits_put bs l (Splits.types {s = s} {t = t} {c = c} {ss = ss} {ts = ts} x y p) a h z r =
    let e : Ty.con c (put_types a ss) ≡ Ty.con c (put_types a ts) = sym (ap (put_type a) x) ∙ put_head_type a bs l h s ∙ z ∙ sym (put_head_type a bs l h t) ∙ ap (put_type a) y in
    let d : put_types a ss ≡ put_types a ts = cc in type_parts_put a p d r
splits_put bs l (Splits.terms {s = s} {t = t} {f = f} {ss = ss} {ts = ts} {us = us} {vs = vs} x y q p) a h z r =
    let e : Term.app f (put_types a ss) (put_terms a us) ≡ Term.app f (put_types a ts) (put_terms a vs) = sym (ap (put_term a) x) ∙ put_head_term a bs l h s ∙ z ∙ sym (put_head_term a bs l h t) ∙ ap (put_term a) y in
    let d : put_types a ss ≡ put_types a ts = cc in
    let v : put_terms a us ≡ put_terms a vs = cc in
    type_parts_put a p d (term_parts_put a q v r)

-- bindings, or no solution beside those made so far
abbrev pub Result : List Binding → List Equation → Type 0
Result bs es = ((cs : List Binding) × Unifies bs es cs) ⊎ ((a : Substitution) → Agrees a bs → SolvesAll a es → ⊥)

module _ (n : ℕ) (next : (vs : List Variable) (bs : List Binding) (es : List Equation) → length vs < n → AreLawful bs → AreIn vs bs es → Result bs es) where
  -- by the weight of the equations, as long as no metavariable is bound
  within : (w : ℕ) (vs : List Variable) (bs : List Binding) (es : List Equation) → weights bs es < w → length vs ≤ n → AreLawful bs → AreIn vs bs es → Result bs es
  within zero vs bs es lt len l i = absurd (omega arith)
  within (suc w) vs bs [] lt len l i = inl (bs, Unifies.done)
  within (suc w) vs bs (e ∷ es) lt len l i =
      by (outcome bs l es e) (λ h. within w vs bs es (omega (arith, heavy bs e)) len l i.1) (λ all h. within w vs bs all (omega (arith, splits_less bs l h)) len l (splits_in bs l vs h i.0 i.1))
    where
      by : Outcome bs e es → (AreSame bs e → Result bs es) → ((all : List Equation) → Splits bs e es all → Result bs all) → Result bs (e ∷ es)
      by (Outcome.same h) rest parts = elim (rest h) [ inl r ↦ inl (r.0, Unifies.same h r.1) | inr r ↦ inr (λ a g z. r a g z.1) ]
      by (Outcome.splits all d h) rest parts = elim (parts all h) [ inl r ↦ inl (r.0, Unifies.splits d h r.1) | inr r ↦ inr (λ a g z. r a g (splits_put bs l h a g z.0 z.1)) ]
      by (Outcome.binds b d h) rest parts =
          (let w = binds_in bs l vs es h i.0 i.1 in
          elim (next w.0 (b ∷ bs) es (omega (arith, w.1)) (lawful_more bs l h) w.2) [
            | inl r ↦ inl (r.0, Unifies.binds d h r.1)
            | inr r ↦ inr (λ a g z. r a (agrees_more a bs l g z.0 h) z.1)
          ])
      by (Outcome.fails h) rest parts = inr (λ a g z. h a g z.0)

-- by the number of metavariables that may still be bound
pub unifies_or_not : (n : ℕ) (vs : List Variable) (bs : List Binding) (es : List Equation) → length vs < n → AreLawful bs → AreIn vs bs es → Result bs es
unifies_or_not zero vs bs es lt l i = absurd (omega arith)
unifies_or_not (suc n) vs bs es lt l i = within n (unifies_or_not n) (weights bs es + 1) vs bs es (omega arith) (omega arith) l i
