use Rattle.std.proofs.Common.{◌≡◌, true, nat_eq, inl, inr, sym, ap, subst, ◌∙◌}
use Rattle.indexmap.specs.IndexSet.{contains}
use Rattle.zm_logic.specs.Tree.{Term}
use Rattle.term_store.specs.Node.{types_at, terms_at}
use Rattle.term_store.specs.Trees.{all_trees, type_of, term_of, term_node, HasTermParts}
use Rattle.term_store.specs.declared.node.TermNode.TheVariants.{App}
use Rattle.unify.specs.Occurs.{IfFound, TermLacks, EntersTerm, entered_terms}
use Rattle.unify.specs.declared.term_occurs.TermVisit.TheVariants.{Leave}
use Rattle.unify.specs.View.{latest}
use Rattle.unify.proofs.TermWalk.{lacking, lacking_head, meta_enters, bound_lacks, eps_lacks, app_enters, grown_by}
use Rattle.unify.proofs.term_occurs.enter.Goals as goal

pub returns-then-contains : goal.returns-then-contains
returns-then-contains c =
    let s = c.args.store.now in let bs = latest s c.args.made.now in let head = c.term_head-head.result in
    let h : contains (λ x y. nat_eq x.0 y.0) c.args.lacking.now head ≡ true = sym c.contains.ensures ∙ c.if-contains.true in
    lacking s bs c.args.meta.0 (type_of s c.args.meta.1) c.args.id c.args.path.now.items
    (lacking_head s bs c.args.meta.0 (type_of s c.args.meta.1) c.requires.lawful c.args.id head c.term_head-head.ensures.tree (c.requires.known head h).1)

pub returns-in-Meta : goal.returns-in-Meta
returns-in-Meta c =
    let s = c.args.store.now in let bs = latest s c.args.made.now in let head = c.term_head-head.result in
    let f : term_of s head ≡ Term.meta c.in-Meta.number (type_of s c.in-Meta.ty) = sym c.term_node.ensures.tree ∙ ap (term_node s) c.in-Meta.is in
    subst (IfFound (TermLacks s bs c.args.meta.0 (type_of s c.args.meta.1) c.args.id → ⊥) (EntersTerm s bs c.args.meta.0 (type_of s c.args.meta.1) c.args.id c.args.path.now.items c.args.path.now.items)) (sym c.is_meta.ensures)
    (meta_enters s bs c.args.meta.0 (type_of s c.args.meta.1) c.requires.lawful c.args.id head c.term_head-head.ensures.tree c.in-Meta.number (type_of s c.in-Meta.ty) c.args.path.now.items f)

pub returns-in_ok-enter_all-in-App : goal.returns-in_ok-enter_all-in-App
returns-in_ok-enter_all-in-App c =
    let s = c.args.store.now in let bs = latest s c.args.made.now in let head = c.term_head-head.result in
    let ids = c.as_slice.result.now in
    let is = c.in-App.is ∙ ap (App c.in-App.field-0 c.in-App.field-1) (sym c.as_slice.ensures) in
    let types = types_at (all_trees s).types c.in-App.field-1 in
    let f : term_of s head ≡ Term.app c.in-App.field-0.0 types (terms_at (all_trees s).terms ids) = sym c.term_node.ensures.tree ∙ ap (term_node s) is in
    let below = subst (HasTermParts s) is c.term_node.ensures.parts in
    app_enters s bs c.args.meta.0 (type_of s c.args.meta.1) c.requires.lawful c.args.id head c.term_head-head.ensures.tree c.in-App.field-0.0 types ids c.args.path.now.items c.enter_all.new.path.items
    c.term_head-head.ensures.has below.1 f
    (grown_by c.args.path.now.items c.push.new.self.items c.enter_all.new.path.items (entered_terms ids) (Leave head)
    c.in_ok-push-in-App.ensures.items c.in_ok-enter_all-in-App.ensures)

pub returns-in-Bound : goal.returns-in-Bound
returns-in-Bound c =
    let s = c.args.store.now in let bs = latest s c.args.made.now in let head = c.term_head-head.result in
    lacking s bs c.args.meta.0 (type_of s c.args.meta.1) c.args.id c.args.path.now.items
    (elim c.in-Bound.is [
      | inl x ↦ bound_lacks s bs c.args.meta.0 (type_of s c.args.meta.1) c.requires.lawful c.args.id head c.term_head-head.ensures.tree x.0 (sym c.term_node.ensures.tree ∙ ap (term_node s) x.1)
      | inr x ↦ eps_lacks s bs c.args.meta.0 (type_of s c.args.meta.1) c.requires.lawful c.args.id head c.term_head-head.ensures.tree x.0 (type_of s x.1) (sym c.term_node.ensures.tree ∙ ap (term_node s) x.2)
    ])

pub returns-in-Bound-2 : goal.returns-in-Bound-2
returns-in-Bound-2 c =
    let s = c.args.store.now in let bs = latest s c.args.made.now in let head = c.term_head-head.result in
    lacking s bs c.args.meta.0 (type_of s c.args.meta.1) c.args.id c.args.path.now.items
    (elim c.in-Bound.is [
      | inl x ↦ bound_lacks s bs c.args.meta.0 (type_of s c.args.meta.1) c.requires.lawful c.args.id head c.term_head-head.ensures.tree x.0 (sym c.term_node.ensures.tree ∙ ap (term_node s) x.1)
      | inr x ↦ eps_lacks s bs c.args.meta.0 (type_of s c.args.meta.1) c.requires.lawful c.args.id head c.term_head-head.ensures.tree x.0 (type_of s x.1) (sym c.term_node.ensures.tree ∙ ap (term_node s) x.2)
    ])
