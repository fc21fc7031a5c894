-- Two atoms, or two equalities, have a most general unifier or none.
use Rattle.std.proofs.Common.{◌≡◌, ◌≢◌, ◌⊎◌, inl, inr, List, [], subst}
use Rattle.std.proofs.lemmas.Bool.Decides.{eqb_tells}
use Rattle.zm_logic.specs.Tree.{Form}
use Rattle.unify.specs.Substitution.{Substitution, put_types, put_terms, put_form}
use Rattle.unify.specs.Equation.{Equation, SolvesAll, FormParts}
use Rattle.unify.specs.Binding.{Binding}
use Rattle.unify.specs.Solution.{AreSolved, solved_form}
use Rattle.unify.specs.Unification.{UnifiesForms, AreAtomsOrEqualities}
use Rattle.unify.proofs.General.{type_parts_solved, term_parts_solved, type_parts_put, term_parts_put}
use Rattle.unify.proofs.Total.{type_parts, term_parts}
use Rattle.unify.proofs.Theorem.{mgu_or_none}
use Rattle.unify.proofs.Unifier.{put_unifier_type, put_unifier_types, put_unifier_term, put_unifier_terms}

-- a substitution that makes the formulas one solves the equations between their parts
pub parts_put : (a : Substitution) {f g : Form} {es : List Equation} → FormParts f g es → put_form a f ≡ put_form a g → SolvesAll a es
parts_put a (FormParts.atoms {ss = ss} {ts = ts} {us = us} {vs = vs} p q) e =
    let x : put_types a ss ≡ put_types a ts = cc in
    let y : put_terms a us ≡ put_terms a vs = cc in
    type_parts_put a q x (term_parts_put a p y tt)
parts_put a (FormParts.equalities) e = (cc, (cc, (cc, tt)))

-- where these equations are solved, the formulas are one
pub parts_solved : (made : List Binding) {f g : Form} {es : List Equation} → FormParts f g es → AreSolved made es → solved_form made f ≡ solved_form made g
parts_solved made (FormParts.atoms {ss = ss} {ts = ts} {us = us} {vs = vs} p q) h =
    let x = type_parts_solved made q h in
    let y = term_parts_solved made p x.1 in
    let i = put_unifier_types made ss in let j = put_unifier_types made ts in
    let k = put_unifier_terms made us in let l = put_unifier_terms made vs in
    let v = x.0 in let w = y.0 in cc
parts_solved made (FormParts.equalities {s = s} {t = t} {a = a} {b = b} {c = c} {d = d}) h =
    let i = put_unifier_type made s in let j = put_unifier_type made t in
    let k = put_unifier_term made a in let l = put_unifier_term made c in
    let m = put_unifier_term made b in let n = put_unifier_term made d in
    let x = h.0 in let y = h.1.0 in let z = h.1.1.0 in cc

-- the formulas have parts, or no substitution makes them one
form_parts : (f g : Form) → AreAtomsOrEqualities f g → ((es : List Equation) × FormParts f g es) ⊎ ((a : Substitution) → put_form a f ≢ put_form a g)
form_parts (Form.atom p ss us) (Form.atom q ts vs) h = elim (eqb_tells p q) [
  | inl x ↦ elim (term_parts us vs []) [
    | inl w ↦ elim (type_parts ss ts w.0) [
      | inl y ↦ inl (y.0, subst (λ r. FormParts (Form.atom p ss us) (Form.atom r ts vs) y.0) x.1 (FormParts.atoms w.1 y.1))
      | inr y ↦ inr (λ a e. y a (cc))
    ]
    | inr w ↦ inr (λ a e. w a (cc))
  ]
  | inr x ↦ inr (λ a e. x.1 (cc))
]
form_parts (Form.equal s a b) (Form.equal t c d) h = inl (_, FormParts.equalities)
form_parts f g h = absurd h

pub forms_or_none : (f g : Form) → AreAtomsOrEqualities f g → ((made : List Binding) × UnifiesForms f g made) ⊎ ((a : Substitution) → put_form a f ≢ put_form a g)
forms_or_none f g h = elim (form_parts f g h) [
  | inr x ↦ inr x
  | inl p ↦ elim (mgu_or_none p.0) [ inl r ↦ inl (r.0, (p.0, p.1, r.1)) | inr r ↦ inr (λ a e. r a (parts_put a p.1 e)) ]
]
