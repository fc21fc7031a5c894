use Rattle.std.proofs.Common.{◌≡◌, true, nat_eq, length, inl, inr, sym, ap, subst, ◌∙◌}
use Rattle.indexmap.specs.IndexSet.{contains}
use Rattle.zm_logic.specs.Tree.{Ty}
use Rattle.term_store.specs.Node.{types_at, TypesBelow}
use Rattle.term_store.specs.Trees.{all_trees, type_of, type_node, HasTypeParts}
use Rattle.term_store.specs.declared.node.TyNode.TheVariants.{Con}
use Rattle.unify.specs.Occurs.{entered_types}
use Rattle.unify.specs.declared.ty_occurs.TyVisit.TheVariants.{Leave}
use Rattle.unify.specs.View.{latest}
use Rattle.unify.proofs.TypeWalk.{lacking, lacking_head, meta_enters, bound_lacks, param_lacks, con_enters, grown_by}
use Rattle.unify.proofs.ty_occurs.enter.Goals as goal

pub returns-then-contains : goal.returns-then-contains
returns-then-contains c =
    let s = c.args.store.now in let bs = latest s c.args.made.now in let head = c.ty_head-head.result in
    let h : contains (λ x y. nat_eq x.0 y.0) c.args.lacking.now head ≡ true = sym c.contains.ensures ∙ c.if-contains.true in
    lacking s bs c.args.meta c.args.id c.args.path.now.items
    (lacking_head s bs c.args.meta c.requires.lawful c.args.id head c.ty_head-head.ensures.tree (c.requires.known head h).1)

pub returns-in-Meta : goal.returns-in-Meta
returns-in-Meta c =
    let s = c.args.store.now in let bs = latest s c.args.made.now in let head = c.ty_head-head.result in
    let f : type_of s head ≡ Ty.meta c.in-Meta.number = sym c.ty_node.ensures.tree ∙ ap (type_node s) c.in-Meta.is in
    meta_enters s bs c.args.meta c.requires.lawful c.args.id head c.ty_head-head.ensures.tree c.in-Meta.number c.args.path.now.items f

pub returns-in_ok-enter_all-in-Con : goal.returns-in_ok-enter_all-in-Con
returns-in_ok-enter_all-in-Con c =
    let s = c.args.store.now in let bs = latest s c.args.made.now in let head = c.ty_head-head.result in
    let ids = c.as_slice.result.now in
    let is = c.in-Con.is ∙ ap (Con c.in-Con.field-0) (sym c.as_slice.ensures) in
    let f : type_of s head ≡ Ty.con c.in-Con.field-0.0 (types_at (all_trees s).types ids) = sym c.ty_node.ensures.tree ∙ ap (type_node s) is in
    let below : TypesBelow (length s.types) ids = subst (HasTypeParts s) is c.ty_node.ensures.parts in
    con_enters s bs c.args.meta c.requires.lawful c.args.id head c.ty_head-head.ensures.tree c.in-Con.field-0.0 ids c.args.path.now.items c.enter_all.new.path.items
    c.ty_head-head.ensures.has below f
    (grown_by c.args.path.now.items c.push.new.self.items c.enter_all.new.path.items (entered_types ids) (Leave head)
    c.in_ok-push-in-Con.ensures.items c.in_ok-enter_all-in-Con.ensures)

pub returns-in-Bound : goal.returns-in-Bound
returns-in-Bound c =
    let s = c.args.store.now in let bs = latest s c.args.made.now in let head = c.ty_head-head.result in
    lacking s bs c.args.meta c.args.id c.args.path.now.items
    (elim c.in-Bound.is [
      | inl x ↦ bound_lacks s bs c.args.meta c.requires.lawful c.args.id head c.ty_head-head.ensures.tree x.0 (sym c.ty_node.ensures.tree ∙ ap (type_node s) x.1)
      | inr x ↦ param_lacks s bs c.args.meta c.requires.lawful c.args.id head c.ty_head-head.ensures.tree x.0 (sym c.ty_node.ensures.tree ∙ ap (type_node s) x.1)
    ])

pub returns-in-Bound-2 : goal.returns-in-Bound-2
returns-in-Bound-2 c =
    let s = c.args.store.now in let bs = latest s c.args.made.now in let head = c.ty_head-head.result in
    lacking s bs c.args.meta c.args.id c.args.path.now.items
    (elim c.in-Bound.is [
      | inl x ↦ bound_lacks s bs c.args.meta c.requires.lawful c.args.id head c.ty_head-head.ensures.tree x.0 (sym c.ty_node.ensures.tree ∙ ap (type_node s) x.1)
      | inr x ↦ param_lacks s bs c.args.meta c.requires.lawful c.args.id head c.ty_head-head.ensures.tree x.0 (sym c.ty_node.ensures.tree ∙ ap (type_node s) x.1)
    ])
