-- The tasks for the parts of two formulas.
use Rattle.std.proofs.Common.{ℕ, ◌≡◌, ◌≤◌, Bool, true, false, List, [], ◌∷◌, ◌++◌, length, refl, ap, sym, subst, ◌∙◌, arith}
use Rattle.zm_logic.specs.Tree.{Form}
use Rattle.zm_logic.specs.Measure.{depth}
use Rattle.term_store.specs.Node.{types_at, terms_at, TypesBelow, TermsBelow}
use Rattle.term_store.specs.Trees.{Tables, all_trees, HasType, HasTerm, type_of, term_of}
use Rattle.term_store.specs.declared.ids.TyId.{TyId}
use Rattle.term_store.specs.declared.ids.TermId.{TermId}
use Rattle.unify.specs.Equation.{Equation, FormParts, TypeParts}
use Rattle.unify.specs.Pending.{Each}
use Rattle.unify.specs.Occurs.{IfFound}
use Rattle.unify.specs.Task.{type_tasks, term_tasks, marks, pending, equations, HasTask, PushesParts}
use Rattle.unify.specs.declared.task.Task.{Task}
use Rattle.unify.specs.declared.task.Task.TheVariants.{Types, Terms}
use Rattle.unify.proofs.TaskLists.{pending_more, marks_more}
use Rattle.unify.proofs.Waiting.{each_both}
use Rattle.unify.proofs.TypeSteps.{type_parts_of, type_tasks_marks, type_parts_lengths, type_tasks_have, sides_of}
use Rattle.unify.proofs.TermSteps.{term_parts_of, term_tasks_marks, term_parts_lengths, term_tasks_have}

-- what is pushed for two formulas
abbrev pub Pushed : Tables → Form → Form → List Task → Type 0
Pushed s f g new = FormParts f g (equations s new) × Each (HasTask s) new × (marks new ≡ 0)

module _ (s : Tables) (is js : List TyId) (us vs : List TermId) where
  -- two atoms with parts in common have as many arguments
  same_lengths : {f g : Form} {es : List Equation} → FormParts f g es → (p q : ℕ) → f ≡ Form.atom p (types_at (all_trees s).types is) (terms_at (all_trees s).terms us)
      → g ≡ Form.atom q (types_at (all_trees s).types js) (terms_at (all_trees s).terms vs) → (length is ≡ length js) × (length us ≡ length vs)
  same_lengths (FormParts.atoms x y) p q e f = (type_parts_lengths s y is js (cc) (cc), term_parts_lengths s x us vs (cc) (cc))
  same_lengths (FormParts.equalities) p q e f = absurd (cc)

  module _ (f g : Form) (p : ℕ) (e : f ≡ Form.atom p (types_at (all_trees s).types is) (terms_at (all_trees s).terms us))
      (h : g ≡ Form.atom p (types_at (all_trees s).types js) (terms_at (all_trees s).terms vs)) (old new : List Task) (empty : old ≡ []) (left : depth f ≤ 2000) (right : depth g ≤ 2000)
      (fit : TypesBelow (length s.types) is × TermsBelow (length s.terms) us) (fit_right : TypesBelow (length s.types) js × TermsBelow (length s.terms) vs) where
    atoms_common : PushesParts is js us vs old new → Pushed s f g new
    atoms_common z =
        let middle = pending s [] (term_tasks us vs) in
        let grown : new ≡ term_tasks us vs ++ type_tasks is js = z.grown ∙ ap (λ ts. ts ++ (term_tasks us vs ++ type_tasks is js)) empty in
        let parts = subst (TypeParts (types_at (all_trees s).types is) (types_at (all_trees s).types js) middle) (sym (pending_more s [] (term_tasks us vs) (type_tasks is js))) (type_parts_of s middle is js z.types) in
        let both = FormParts.atoms {p = p} (term_parts_of s [] us vs z.terms) parts in
        let left_depth = ap depth e in let right_depth = ap depth h in
        let have = each_both (HasTask s) (term_tasks us vs) (type_tasks is js) (term_tasks_have s us vs fit.1 fit_right.1)
        (type_tasks_have s is js (sides_of s is fit.0 (omega (arith, left, left_depth))) (sides_of s js fit_right.0 (omega (arith, right, right_depth)))) in
        let none : marks (term_tasks us vs ++ type_tasks is js) ≡ 0 =
        (let x = marks_more (term_tasks us vs) (type_tasks is js) in let y = term_tasks_marks us vs in let w = type_tasks_marks is js in omega (arith, x, y, w)) in
        subst (Pushed s f g) (sym grown) (
          subst (λ z. FormParts f z (equations s (term_tasks us vs ++ type_tasks is js))) (sym h)
              (subst (λ z. FormParts z (Form.atom p (types_at (all_trees s).types js) (terms_at (all_trees s).terms vs)) (equations s (term_tasks us vs ++ type_tasks is js))) (sym e) both),
          have,
          none,
        )

    pub atoms_pushed : (answer : Bool) → IfFound (PushesParts is js us vs old new) (length is ≡ length js → length us ≡ length vs → ⊥) answer
        → IfFound (Pushed s f g new) ((es : List Equation) → FormParts f g es → ⊥) answer
    atoms_pushed true z = atoms_common z
    atoms_pushed false z = λ es w. (let l = same_lengths w p p e h in z l.0 l.1)

pub equalities_pushed : (s : Tables) (f g : Form) (k m : TyId) (a b x y : TermId) (old one two new : List Task)
    → f ≡ Form.equal (type_of s k) (term_of s a) (term_of s b) → g ≡ Form.equal (type_of s m) (term_of s x) (term_of s y)
    → depth f ≤ 2000 → depth g ≤ 2000 → HasType s k × HasTerm s a × HasTerm s b → HasType s m × HasTerm s x × HasTerm s y
    → old ≡ [] → one ≡ old ++ Terms b y ∷ [] → two ≡ one ++ Terms a x ∷ [] → new ≡ two ++ Types k m ∷ [] → Pushed s f g new
equalities_pushed s f g k m a b x y old one two new e h left right fit fit_right empty first second third =
    let all : List Task = Terms b y ∷ Terms a x ∷ Types k m ∷ [] in
    let grown : new ≡ all = third ∙ ap (λ ts. ts ++ Types k m ∷ []) (second ∙ ap (λ ts. ts ++ Terms a x ∷ []) (first ∙ ap (λ ts. ts ++ Terms b y ∷ []) empty)) in
    let left_depth = ap depth e in let right_depth = ap depth h in
    let parts = subst (λ z. FormParts f z (equations s all)) (sym h)
    (subst (λ z. FormParts z (Form.equal (type_of s m) (term_of s x) (term_of s y)) (equations s all)) (sym e) FormParts.equalities) in
    let have : Each (HasTask s) all = ((fit.2, fit_right.2), ((fit.1, fit_right.1), (((fit.0, omega (arith, left, left_depth)), (fit_right.0, omega (arith, right, right_depth))), tt))) in
    subst (Pushed s f g) (sym grown) (parts, have, refl)

-- what the answer tells
pub if_found : (P Q : Type 0) (answer : Bool) → answer ≡ true → IfFound P Q answer → P
if_found P Q answer e h = subst (IfFound P Q) e h

pub if_missed : (P Q : Type 0) (answer : Bool) → answer ≡ false → IfFound P Q answer → Q
if_missed P Q answer e h = subst (IfFound P Q) e h
