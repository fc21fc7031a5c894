-- The derivation of a tree, layer by layer.
use Rattle.std.proofs.Common.{◌≡◌, ℕ, suc, ◌+◌, map, List, ◌++◌, Some, sym, ◌∙◌, ap, append-nil, add-one}
use Rattle.std.specs.Option.{option_map}
use Rattle.zm_logic.specs.View.{form_tree}
use Rattle.sequent_proof.specs.Laws as laws
use Rattle.sequent_proof.specs.Tree as plain
use Rattle.sequent_proof.specs.Tree.{depth}
use Rattle.sequent_proof.specs.Text.{label, line, line_at, level_above, lines, lines_of_all}
use Rattle.sequent_proof.specs.declared.tree.DTree.{DTree}
use Rattle.sequent_proof.specs.declared.tree.DTree.TheOpen as layer
use Rattle.sequent_proof.specs.declared.tree.DTree.TheViews.{out-DTree, roll-DTree, roll-out-DTree}
use Rattle.sequent_proof.specs.declared.tree.DTree.TheFolds.{fold-roll-DTree}
use Rattle.sequent_proof.specs.View.{step_of_tree, tree_of, name_of, part_of, trees_of}

-- the derivation of a tree that is made of these fields
abbrev pub made_of : layer.DTree-F DTree → plain.DTree
made_of r =
    plain.DTree.node (map form_tree r.added) (name_of r.name) (form_tree r.first) (option_map form_tree r.second)
    (option_map part_of r.with) (trees_of r.children)

pub tree_made : (r : layer.DTree-F DTree) → tree_of (roll-DTree r) ≡ made_of r
tree_made r = fold-roll-DTree plain.DTree step_of_tree r

pub tree_opens : (t : DTree) → tree_of t ≡ made_of (out-DTree t)
tree_opens t = ap tree_of (sym (roll-out-DTree t)) ∙ tree_made (out-DTree t)

-- a node that has a line
pub named_lines : (t : DTree) (cs : List DTree) (level : ℕ) (name : List ℕ) → Some name ≡ label (name_of (out-DTree t).name) → cs ≡ (out-DTree t).children
    → lines level (tree_of t) ≡ line level name ++ lines_of_all (level + 1) (trees_of cs)
named_lines t cs level name is same =
    ap (lines level) (tree_opens t)
    ∙ ap (λ l. line_at level l ++ lines_of_all (level_above level l) (trees_of (out-DTree t).children)) (sym is)
    ∙ ap (λ ts. line level name ++ lines_of_all (suc level) (trees_of ts)) (sym same)
    ∙ ap (λ n. line level name ++ lines_of_all n (trees_of cs)) (sym (add-one level))

pub conversions_are_not_printed : laws.ConversionsAreNotPrinted
conversions_are_not_printed level g f second part t = append-nil (lines level t)
