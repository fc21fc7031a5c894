use Rattle.std.proofs.Common.{◌≡◌, length, sym, ap, subst, ◌∙◌}
use Rattle.zm_logic.specs.Tree.{Term}
use Rattle.term_store.specs.Node.{types_at, terms_at}
use Rattle.term_store.specs.Trees.{all_trees, term_of, term_node}
use Rattle.term_store.specs.declared.node.TermNode.TheVariants.{App}
use Rattle.unify.specs.Occurs.{IfFound}
use Rattle.unify.specs.Task.{PushesParts}
use Rattle.unify.proofs.TypeSteps.{type_parts_lengths}
use Rattle.unify.proofs.TermSteps.{term_parts_lengths}
use Rattle.unify.proofs.terms.split.Goals as goal

pub returns-else-branch : goal.returns-else-branch
returns-else-branch c = λ k ss ts us vs rest middle all e f p q.
    let s = c.args.store.now in let T = (all_trees s).types in let U = (all_trees s).terms in
    let is = c.as_slice-ss.result.now in let js = c.as_slice-ts.result.now in
    let ms = c.as_slice-us.result.now in let ns = c.as_slice-vs.result.now in
    let x : term_of s c.args.left ≡ Term.app c.in-App.f.0 (types_at T is) (terms_at U ms) =
    sym c.term_node.ensures.tree
    ∙ ap (term_node s) (c.in-App.is ∙ ap (λ z. App c.in-App.f z c.in-App.us) (sym c.as_slice-ss.ensures) ∙ ap (App c.in-App.f is) (sym c.as_slice-us.ensures)) in
    let y : term_of s c.args.right ≡ Term.app c.in-App-term_node.g.0 (types_at T js) (terms_at U ns) =
    sym c.term_node-in-App.ensures.tree
    ∙ ap (term_node s) (c.in-App-term_node.is ∙ ap (λ z. App c.in-App-term_node.g z c.in-App-term_node.vs) (sym c.as_slice-ts.ensures) ∙ ap (App c.in-App-term_node.g js) (sym c.as_slice-vs.ensures)) in
    let g : ss ≡ types_at T is = cc in let h : ts ≡ types_at T js = cc in
    let m : us ≡ terms_at U ms = cc in let n : vs ≡ terms_at U ns = cc in
    let differ = subst (IfFound (PushesParts is js ms ns c.push.new.self.items c.push_parts.new.tasks.items) (length is ≡ length js → length ms ≡ length ns → ⊥)) c.if-branch.false c.in_ok-push_parts-in-App-term_node.ensures in
    differ (type_parts_lengths s q is js g h) (term_parts_lengths s p ms ns m n)
