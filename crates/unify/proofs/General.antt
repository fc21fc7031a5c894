-- The bindings that the equations give solve them, and are the most general that do.
use Rattle.std.proofs.Common.{◌≡◌, List, ◌∷◌, refl, ap, sym, subst, ◌∙◌}
use Rattle.zm_logic.specs.Tree.{Ty, Tys, Term, Terms}
use Rattle.unify.specs.Lawful.{AreLawful}
use Rattle.unify.specs.Substitution.{Substitution, put_type, put_types, put_term, put_terms}
use Rattle.unify.specs.Equation.{Equation, Solves, SolvesAll, TypeParts, TermParts}
use Rattle.unify.specs.Binding.{Binding, only_type, only_term, solved_type, solved_term, head_type, head_term}
use Rattle.unify.specs.Unification.{LacksTypeMeta, LacksTermMeta, Binds, Splits, Unifies}
use Rattle.unify.specs.Solution.{IsSolved, AreSolved, Agrees}
use Rattle.unify.proofs.Solved.{solved_types, solved_terms, agrees_type, agrees_term, solved_con, solved_more, solved_app, solved_more_term, joined_type, joined_term, head_solved_type, head_solved_term, head_unbound_type, head_unbound_term}

-- one more binding keeps what is solved
pub one_more : (b : Binding) (bs : List Binding) (e : Equation) → IsSolved bs e → IsSolved (b ∷ bs) e
one_more (Binding.of_type m u) bs (Equation.of_types s t) h = ap (put_type (only_type m (solved_type bs u))) h
one_more (Binding.of_type m u) bs (Equation.of_terms s t) h = ap (put_term (only_type m (solved_type bs u))) h
one_more (Binding.of_term m k u) bs (Equation.of_types s t) h = h
one_more (Binding.of_term m k u) bs (Equation.of_terms s t) h = ap (put_term (only_term m k (solved_term bs u))) h

pub kept_solved : {bs cs : List Binding} {es : List Equation} → Unifies bs es cs → (e : Equation) → IsSolved bs e → IsSolved cs e
kept_solved (Unifies.done) e h = h
kept_solved (Unifies.same x u) e h = kept_solved u e h
kept_solved (Unifies.binds {bs = bs} {b = b} n x u) e h = kept_solved u e (one_more b bs e h)
kept_solved (Unifies.splits n x u) e h = kept_solved u e h

-- a binding that is made is lawful
pub lawful_more : (bs : List Binding) {e : Equation} {b : Binding} → AreLawful bs → Binds bs e b → AreLawful (b ∷ bs)
lawful_more bs l (Binds.left_type {s = s} {t = t} {m = m} x o) =
    (head_unbound_type bs l s m x, subst (LacksTypeMeta m) (sym (head_solved_type bs l t)) o, head_unbound_type bs l t, l)
lawful_more bs l (Binds.right_type {s = s} {t = t} {m = m} n x o) =
    (head_unbound_type bs l t m x, subst (LacksTypeMeta m) (sym (head_solved_type bs l s)) o, head_unbound_type bs l s, l)
lawful_more bs l (Binds.left_term {s = s} {t = t} {m = m} {k = k} x o) =
    (head_unbound_term bs l s m k x, subst (LacksTermMeta m k) (sym (head_solved_term bs l t)) o, head_unbound_term bs l t, l)
lawful_more bs l (Binds.right_term {s = s} {t = t} {m = m} {k = k} n x o) =
    (head_unbound_term bs l t m k x, subst (LacksTermMeta m k) (sym (head_solved_term bs l s)) o, head_unbound_term bs l s, l)

pub lawful_all : {bs cs : List Binding} {es : List Equation} → Unifies bs es cs → AreLawful bs → AreLawful cs
lawful_all (Unifies.done) l = l
lawful_all (Unifies.same x u) l = lawful_all u l
lawful_all (Unifies.binds {bs = bs} n x u) l = lawful_all u (lawful_more bs l x)
lawful_all (Unifies.splits n x u) l = lawful_all u l

-- the head of a side is equal to it under later bindings too
heads_type : (b : Binding) (bs : List Binding) → AreLawful bs → (t : Ty) → solved_type (b ∷ bs) (head_type bs t) ≡ solved_type (b ∷ bs) t
heads_type b bs l t = one_more b bs (Equation.of_types (head_type bs t) t) (head_solved_type bs l t)

heads_term : (b : Binding) (bs : List Binding) → AreLawful bs → (t : Term) → solved_term (b ∷ bs) (head_term bs t) ≡ solved_term (b ∷ bs) t
heads_term b bs l t = one_more b bs (Equation.of_terms (head_term bs t) t) (head_solved_term bs l t)

-- a binding solves its equation
pub bound_solved : (bs : List Binding) {e : Equation} {b : Binding} → AreLawful bs → Binds bs e b → IsSolved (b ∷ bs) e
bound_solved bs l (Binds.left_type {s = s} {t = t} {m = m} x o) =
    let w = lawful_more bs l (Binds.left_type x o) in let b = Binding.of_type m (head_type bs t) in
    sym (heads_type b bs l s) ∙ ap (solved_type (b ∷ bs)) x ∙ joined_type bs m (head_type bs t) w.0 w.1 ∙ heads_type b bs l t
bound_solved bs l (Binds.right_type {s = s} {t = t} {m = m} n x o) =
    let w = lawful_more bs l (Binds.right_type n x o) in let b = Binding.of_type m (head_type bs s) in
    sym (heads_type b bs l s) ∙ sym (joined_type bs m (head_type bs s) w.0 w.1) ∙ sym (ap (solved_type (b ∷ bs)) x) ∙ heads_type b bs l t
bound_solved bs l (Binds.left_term {s = s} {t = t} {m = m} {k = k} x o) =
    let w = lawful_more bs l (Binds.left_term x o) in let b = Binding.of_term m k (head_term bs t) in
    sym (heads_term b bs l s) ∙ ap (solved_term (b ∷ bs)) x ∙ joined_term bs m k (head_term bs t) w.0 w.1 ∙ heads_term b bs l t
bound_solved bs l (Binds.right_term {s = s} {t = t} {m = m} {k = k} n x o) =
    let w = lawful_more bs l (Binds.right_term n x o) in let b = Binding.of_term m k (head_term bs s) in
    sym (heads_term b bs l s) ∙ sym (joined_term bs m k (head_term bs s) w.0 w.1) ∙ sym (ap (solved_term (b ∷ bs)) x) ∙ heads_term b bs l t

-- where the part equations are solved, the lists are equal and the rest is solved
pub type_parts_solved : (cs : List Binding) {ss ts : Tys} {rest all : List Equation} → TypeParts ss ts rest all → AreSolved cs all
    → (solved_types cs ss ≡ solved_types cs ts) × AreSolved cs rest
type_parts_solved cs (TypeParts.none) h = (refl, h)
type_parts_solved cs (TypeParts.more {s = s} {t = t} {ss = ss} {ts = ts} p) h =
    let r = type_parts_solved cs p h.1 in
    let x = h.0 in let y = r.0 in let f = solved_more cs s ss in let g = solved_more cs t ts in (f ∙ ap (λ z. Tys.more z (solved_types cs ss)) x ∙ ap (Tys.more (solved_type cs t)) y ∙ sym g, r.1)

pub term_parts_solved : (cs : List Binding) {ss ts : Terms} {rest all : List Equation} → TermParts ss ts rest all → AreSolved cs all
    → (solved_terms cs ss ≡ solved_terms cs ts) × AreSolved cs rest
term_parts_solved cs (TermParts.none) h = (refl, h)
term_parts_solved cs (TermParts.more {s = s} {t = t} {ss = ss} {ts = ts} p) h =
    let r = term_parts_solved cs p h.1 in
    let x = h.0 in let y = r.0 in let f = solved_more_term cs s ss in let g = solved_more_term cs t ts in (f ∙ ap (λ z. Terms.more z (solved_terms cs ss)) x ∙ ap (Terms.more (solved_term cs t)) y ∙ sym g, r.1)

-- THE BINDINGS SOLVE THE EQUATIONS
pub solved_all : {bs cs : List Binding} {es : List Equation} → Unifies bs es cs → AreLawful bs → AreSolved cs es
solved_all (Unifies.done) l = tt
solved_all (Unifies.same {bs = bs} {e = Equation.of_types s t} x u) l =
    (kept_solved u (Equation.of_types s t) (sym (head_solved_type bs l s) ∙ ap (solved_type bs) x ∙ head_solved_type bs l t), solved_all u l)
solved_all (Unifies.same {bs = bs} {e = Equation.of_terms s t} x u) l =
    (kept_solved u (Equation.of_terms s t) (sym (head_solved_term bs l s) ∙ ap (solved_term bs) x ∙ head_solved_term bs l t), solved_all u l)
solved_all (Unifies.binds {bs = bs} {e = e} n x u) l = (kept_solved u e (bound_solved bs l x), solved_all u (lawful_more bs l x))
solved_all (Unifies.splits {bs = bs} {cs = cs} n (Splits.types {s = s} {t = t} {c = c} {ss = ss} {ts = ts} x y p) u) l =
    let r = type_parts_solved cs p (solved_all u l) in
    let hs = kept_solved u (Equation.of_types (head_type bs s) s) (head_solved_type bs l s) in
    let ht = kept_solved u (Equation.of_types (head_type bs t) t) (head_solved_type bs l t) in
    (sym hs ∙ ap (solved_type cs) x ∙ solved_con cs c ss ∙ ap (Ty.con c) r.0 ∙ sym (solved_con cs c ts) ∙ sym (ap (solved_type cs) y) ∙ ht, r.1)
solved_all (Unifies.splits {bs = bs} {cs = cs} n (Splits.terms {s = s} {t = t} {f = f} {ss = ss} {ts = ts} {us = us} {vs = vs} x y q p) u) l =
    let r = type_parts_solved cs p (solved_all u l) in
    let w = term_parts_solved cs q r.1 in
    let hs = kept_solved u (Equation.of_terms (head_term bs s) s) (head_solved_term bs l s) in
    let ht = kept_solved u (Equation.of_terms (head_term bs t) t) (head_solved_term bs l t) in
    (sym hs ∙ ap (solved_term cs) x ∙ solved_app cs f ss us ∙ ap (λ z. Term.app f z (solved_terms cs us)) r.0 ∙ ap (Term.app f (solved_types cs ts)) w.0 ∙ sym (solved_app cs f ts vs) ∙ sym (ap (solved_term cs) y) ∙ ht, w.1)

-- a substitution that solves the bindings gives a side and its head one tree
module _ (a : Substitution) (bs : List Binding) (l : AreLawful bs) (h : Agrees a bs) where
  pub put_head_type : (t : Ty) → put_type a (head_type bs t) ≡ put_type a t
  put_head_type t = sym (agrees_type a bs h (head_type bs t)) ∙ ap (put_type a) (head_solved_type bs l t) ∙ agrees_type a bs h t

  pub put_head_term : (t : Term) → put_term a (head_term bs t) ≡ put_term a t
  put_head_term t = sym (agrees_term a bs h (head_term bs t)) ∙ ap (put_term a) (head_solved_term bs l t) ∙ agrees_term a bs h t

  pub agrees_more : {e : Equation} {b : Binding} → Solves a e → Binds bs e b → Agrees a (b ∷ bs)
  agrees_more z (Binds.left_type {s = s} {t = t} {m = m} x o) = (sym (ap (put_type a) x) ∙ put_head_type s ∙ z ∙ sym (put_head_type t), h)
  agrees_more z (Binds.right_type {s = s} {t = t} {m = m} n x o) = (sym (ap (put_type a) x) ∙ put_head_type t ∙ sym z ∙ sym (put_head_type s), h)
  agrees_more z (Binds.left_term {s = s} {t = t} x o) = (sym (ap (put_term a) x) ∙ put_head_term s ∙ z ∙ sym (put_head_term t), h)
  agrees_more z (Binds.right_term {s = s} {t = t} n x o) = (sym (ap (put_term a) x) ∙ put_head_term t ∙ sym z ∙ sym (put_head_term s), h)

pub type_parts_put : (a : Substitution) {ss ts : Tys} {rest all : List Equation} → TypeParts ss ts rest all → put_types a ss ≡ put_types a ts → SolvesAll a rest → SolvesAll a all
type_parts_put a (TypeParts.none) e h = h
type_parts_put a (TypeParts.more {s = s} {t = t} {ss = ss} {ts = ts} p) e h = let x : put_types a ss ≡ put_types a ts = cc in (cc, type_parts_put a p x h)

pub term_parts_put : (a : Substitution) {ss ts : Terms} {rest all : List Equation} → TermParts ss ts rest all → put_terms a ss ≡ put_terms a ts → SolvesAll a rest → SolvesAll a all
term_parts_put a (TermParts.none) e h = h
term_parts_put a (TermParts.more {s = s} {t = t} {ss = ss} {ts = ts} p) e h = let x : put_terms a ss ≡ put_terms a ts = cc in (cc, term_parts_put a p x h)

-- THEY ARE THE MOST GENERAL THAT DO: a substitution that solves the equations solves the bindings
pub most_general : {bs cs : List Binding} {es : List Equation} → Unifies bs es cs → AreLawful bs → (a : Substitution) → Agrees a bs → SolvesAll a es → Agrees a cs
most_general (Unifies.done) l a h z = h
most_general (Unifies.same x u) l a h z = most_general u l a h z.1
most_general (Unifies.binds {bs = bs} n x u) l a h z = most_general u (lawful_more bs l x) a (agrees_more a bs l h z.0 x) z.1
most_general (Unifies.splits {bs = bs} n (Splits.types {s = s} {t = t} {c = c} {ss = ss} {ts = ts} x y p) u) l a h z =
    let e : Ty.con c (put_types a ss) ≡ Ty.con c (put_types a ts) = sym (ap (put_type a) x) ∙ put_head_type a bs l h s ∙ z.0 ∙ sym (put_head_type a bs l h t) ∙ ap (put_type a) y in
    let d : put_types a ss ≡ put_types a ts = cc in
    most_general u l a h (type_parts_put a p d z.1)
most_general (Unifies.splits {bs = bs} n (Splits.terms {s = s} {t = t} {f = f} {ss = ss} {ts = ts} {us = us} {vs = vs} x y q p) u) l a h z =
    let e : Term.app f (put_types a ss) (put_terms a us) ≡ Term.app f (put_types a ts) (put_terms a vs) = sym (ap (put_term a) x) ∙ put_head_term a bs l h s ∙ z.0 ∙ sym (put_head_term a bs l h t) ∙ ap (put_term a) y in
    let d : put_types a ss ≡ put_types a ts = cc in
    let v : put_terms a us ≡ put_terms a vs = cc in
    most_general u l a h (type_parts_put a p d (term_parts_put a q v z.1))
