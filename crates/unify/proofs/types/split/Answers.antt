use Rattle.std.proofs.Common.{◌≡◌, sym, ap, ◌∙◌, arith}
use Rattle.zm_logic.specs.Tree.{Ty}
use Rattle.term_store.specs.Node.{types_at}
use Rattle.term_store.specs.Trees.{all_trees, type_of, type_node}
use Rattle.term_store.specs.declared.node.TyNode.TheVariants.{Con}
use Rattle.unify.proofs.TypeSteps.{type_parts_lengths}
use Rattle.unify.proofs.types.split.Goals as goal

pub returns-then-ss-ts : goal.returns-then-ss-ts
returns-then-ss-ts c = λ k ss ts rest all e f p.
    let s = c.args.store.now in
    let is = c.as_slice-ss.result.now in let js = c.as_slice-ts.result.now in
    let x : type_of s c.args.left ≡ Ty.con c.in-Con.c.0 (types_at (all_trees s).types is) =
    sym c.ty_node.ensures.tree ∙ ap (type_node s) (c.in-Con.is ∙ ap (Con c.in-Con.c) (sym c.as_slice-ss.ensures)) in
    let y : type_of s c.args.right ≡ Ty.con c.in-Con-ty_node.d.0 (types_at (all_trees s).types js) =
    sym c.ty_node-in-Con.ensures.tree ∙ ap (type_node s) (c.in-Con-ty_node.is ∙ ap (Con c.in-Con-ty_node.d) (sym c.as_slice-ts.ensures)) in
    let g : ss ≡ types_at (all_trees s).types is = cc in
    let h : ts ≡ types_at (all_trees s).types js = cc in
    let n = type_parts_lengths s p is js g h in
    omega (arith, n)
