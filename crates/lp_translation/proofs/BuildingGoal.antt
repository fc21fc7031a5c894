-- The hypotheses of a goal's sequent.
use Rattle.std.proofs.Common.{ℕ, suc, ◌≡◌, ◌+◌, List, [], ◌∷◌, ◌++◌, ◌<◌, length, map, take, get_or, refl, ap, sym, ◌∙◌, arith, take_all}
use Rattle.std.proofs.lemmas.List.{take_more, map-append, length-map, length-take-le}
use Rattle.zm_logic.specs.View.{form_tree}
use Rattle.zm_logic.specs.declared.tree.Form as code
use Rattle.lp_terms.specs.Term.{Lp}
use Rattle.zm_logic.specs.Tree.{Form, Premise, Problem}
use Rattle.rule_select.specs.Selection.{Selection, kept_premises}
use Rattle.lp_signature.specs.Names.{premise_name}
use Rattle.lp_translation.specs.ProofOf.{Hypotheses}
use Rattle.lp_translation.specs.Goal.{by_premises, goal_sequent}
use Rattle.lp_translation.specs.ViewGoal.{by_forms, by_sequent_from, by_sequent}

-- one premise more
pub forms_push : (k : ℕ) (fs : List Form) (f : Form) (hs : Hypotheses)
    → by_forms k (fs ++ f ∷ []) hs ≡ Hypotheses.more (f ∷ []) (Lp.const (premise_name (length fs + k))) (by_forms k fs hs)
forms_push k [] f hs = ap (λ (n : ℕ). Hypotheses.more (f ∷ []) (Lp.const (premise_name n)) hs) (omega arith)
forms_push k (g ∷ fs) f hs =
    forms_push (suc k) fs f (Hypotheses.more (g ∷ []) (Lp.const (premise_name k)) hs)
    ∙ ap (λ (n : ℕ). Hypotheses.more (f ∷ []) (Lp.const (premise_name n)) (by_forms k (g ∷ fs) hs)) (omega arith)

-- the last formula
pub sequent_push : (k : ℕ) (fs : List Form) (f : Form) (hs : Hypotheses)
    → by_sequent_from k (fs ++ f ∷ []) hs ≡ Hypotheses.more (f ∷ []) (Lp.free 0) (by_forms k fs hs)
sequent_push k [] f hs = refl
sequent_push k (g ∷ []) f hs = refl
sequent_push k (g ∷ h ∷ fs) f hs = sequent_push (suc k) (h ∷ fs) f (Hypotheses.more (g ∷ []) (Lp.const (premise_name k)) hs)

forms_of_premises : (k : ℕ) (ps : List Premise) (hs : Hypotheses) → by_forms k (map (λ p. p.form) ps) hs ≡ by_premises k ps hs
forms_of_premises k [] hs = refl
forms_of_premises k (p ∷ ps) hs = forms_of_premises (suc k) ps (Hypotheses.more (p.form ∷ []) (Lp.const (premise_name k)) hs)

pub goal_hypotheses : (p : Problem) (s : Selection)
    → by_sequent (goal_sequent p s) Hypotheses.none
    ≡ Hypotheses.more (Form.negation p.conjecture ∷ []) (Lp.free 0) (by_premises 0 (kept_premises p s) Hypotheses.none)
goal_hypotheses p s =
    sequent_push 0 (map (λ x. x.form) (kept_premises p s)) (Form.negation p.conjecture) Hypotheses.none
    ∙ ap (λ hs. Hypotheses.more (Form.negation p.conjecture ∷ []) (Lp.free 0) hs) (forms_of_premises 0 (kept_premises p s) Hypotheses.none)

-- one premise more, and the last formula, as they are read
pub forms_more : (fs : List code.Form) (i : ℕ) (x : code.Form) (hs : Hypotheses) → i < length fs → x ≡ get_or fs i x
    → Hypotheses.more (form_tree x ∷ []) (Lp.const (premise_name i)) (by_forms 0 (map form_tree (take i fs)) hs)
    ≡ by_forms 0 (map form_tree (take (i + 1) fs)) hs
forms_more fs i x hs h e =
    let m : length (map form_tree (take i fs)) ≡ i = length-map (take i fs) form_tree ∙ length-take-le i fs (omega arith) in
    let n : length (map form_tree (take i fs)) + 0 ≡ i = omega (arith, m) in
    ap (λ (k : ℕ). Hypotheses.more (form_tree x ∷ []) (Lp.const (premise_name k)) (by_forms 0 (map form_tree (take i fs)) hs)) (sym n)
    ∙ sym (forms_push 0 (map form_tree (take i fs)) (form_tree x) hs)
    ∙ ap (λ (ys : List Form). by_forms 0 ys hs) (sym (map-append form_tree (take i fs) (x ∷ [])))
    ∙ ap (λ (ys : List code.Form). by_forms 0 (map form_tree ys) hs)
    (ap (λ (y : code.Form). take i fs ++ y ∷ []) e ∙ sym (take_more fs i x h))

pub sequent_more : (fs : List code.Form) (i : ℕ) (x : code.Form) (hs : Hypotheses) → i + 1 ≡ length fs → x ≡ get_or fs i x
    → Hypotheses.more (form_tree x ∷ []) (Lp.free 0) (by_forms 0 (map form_tree (take i fs)) hs) ≡ by_sequent (map form_tree fs) hs
sequent_more fs i x hs h e =
    sym (sequent_push 0 (map form_tree (take i fs)) (form_tree x) hs)
    ∙ ap (λ (ys : List Form). by_sequent ys hs) (sym (map-append form_tree (take i fs) (x ∷ [])))
    ∙ ap (λ (ys : List code.Form). by_sequent (map form_tree ys) hs)
    (ap (λ (y : code.Form). take i fs ++ y ∷ []) e ∙ sym (take_more fs i x (omega (arith, h))) ∙ take_all (i + 1) fs (omega (arith, h)))
