use Rattle.std.proofs.Common.{ℕ, ◌≡◌, List, length, ap, sym, subst, ◌∙◌}
use Rattle.std.proofs.lemmas.Result.{IfOk-weaker}
use Rattle.zm_logic.specs.Tree.{Form}
use Rattle.term_store.specs.Node.{types_at, terms_at}
use Rattle.term_store.specs.Trees.{all_trees, form_of, form_node, HasFormParts}
use Rattle.term_store.specs.declared.node.FormNode.TheVariants.{Atom}
use Rattle.unify.specs.Equation.{Equation, FormParts}
use Rattle.unify.specs.Occurs.{IfFound}
use Rattle.unify.specs.Task.{PushesParts}
use Rattle.unify.proofs.FormSteps.{Pushed, atoms_pushed, equalities_pushed}
use Rattle.unify.proofs.most_general.push_form_parts.Goals as goal

pub returns-else-p-q : goal.returns-else-p-q
returns-else-p-q c =
    let s = c.args.store.now in let T = (all_trees s).types in let U = (all_trees s).terms in
    let f = form_of s c.args.left in let g = form_of s c.args.right in
    let is = c.as_slice.result.now in let js = c.as_slice-in-Atom-Atom.result.now in
    let us = c.as_slice-in-Atom-Atom-2.result.now in let vs = c.as_slice-in-Atom-Atom-3.result.now in
    let p = c.in-Atom-Atom.p in let q = c.in-Atom-Atom.q in
    let x = c.in-Atom-Atom.is-0 ∙ ap (λ z. Atom p z c.in-Atom-Atom.us) (sym c.as_slice.ensures) ∙ ap (Atom p is) (sym c.as_slice-in-Atom-Atom-2.ensures) in
    let y = c.in-Atom-Atom.is-1 ∙ ap (λ z. Atom q z c.in-Atom-Atom.vs) (sym c.as_slice-in-Atom-Atom.ensures) ∙ ap (Atom q js) (sym c.as_slice-in-Atom-Atom-3.ensures) in
    let e : f ≡ Form.atom p.0 (types_at T is) (terms_at U us) = sym c.form_node.ensures.tree ∙ ap (form_node s) x in
    let h : g ≡ Form.atom q.0 (types_at T js) (terms_at U vs) = sym c.form_node-2.ensures.tree ∙ ap (form_node s) y in
    let fit = subst (HasFormParts s) x c.form_node.ensures.parts in
    let fit_right = subst (HasFormParts s) y c.form_node-2.ensures.parts in
    let same = ap (λ (n : ℕ). Form.atom n (types_at T js) (terms_at U vs)) (sym c.if-p-q.false) in
    let old = c.args.tasks.now.items in let new = c.push_parts.new.tasks.items in
    record {
      parts = IfOk-weaker c.push_parts.result (IfFound (PushesParts is js us vs old new) (length is ≡ length js → length us ≡ length vs → ⊥)) (IfFound (Pushed s f g new) ((es : List Equation) → FormParts f g es → ⊥))
          (atoms_pushed s is js us vs f g p.0 e (h ∙ same) old new c.requires.empty c.form_node.ensures.bounded c.form_node-2.ensures.bounded fit fit_right) c.push_parts.ensures;
    }

pub returns-in_ok-push-in-Equal-Equal-3 : goal.returns-in_ok-push-in-Equal-Equal-3
returns-in_ok-push-in-Equal-Equal-3 c =
    let s = c.args.store.now in let v = c.in-Equal-Equal in
    let e = sym c.form_node.ensures.tree ∙ ap (form_node s) v.is-0 in
    let h = sym c.form_node-2.ensures.tree ∙ ap (form_node s) v.is-1 in
    let fit = subst (HasFormParts s) v.is-0 c.form_node.ensures.parts in
    let fit_right = subst (HasFormParts s) v.is-1 c.form_node-2.ensures.parts in
    record {
      parts = equalities_pushed s (form_of s c.args.left) (form_of s c.args.right) v.s v.t v.a v.b v.c v.d c.args.tasks.now.items c.push.new.self.items c.push-in-Equal-Equal.new.self.items
          c.push-in-Equal-Equal-2.new.self.items e h c.form_node.ensures.bounded c.form_node-2.ensures.bounded fit fit_right c.requires.empty
          c.in_ok-push-in-Equal-Equal.ensures.items c.in_ok-push-in-Equal-Equal-2.ensures.items c.in_ok-push-in-Equal-Equal-3.ensures.items;
    }
