use Rattle.std.proofs.Common.{◌≡◌, [], Some, map, ap, sym, subst, ◌∙◌, rules}
use Rattle.param_store.specs.View.{HasForms, forms_of, lists_of}
use Rattle.branch.specs.Branch.{extend}
use Rattle.branch.specs.Ids.{Node, node_ids}
use Rattle.branch.specs.Path.{LeadsBelow, put, along, brought, extend_all}
use Rattle.branch.specs.Stepping.{IsLeaf}
use Rattle.branch.specs.Tableau.{enter}
use Rattle.branch.proofs.Ending.{end_closed, behind_kept, leads_below}
use Rattle.branch.proofs.Standing.{brought_has}
use Rattle.branch.proofs.stepping.Tableau+Open.go_on.Goals as goal

pub leaf_along-requires-clause-leads : goal.leaf_along-requires-clause-leads
leaf_along-requires-clause-leads c =
    subst (λ rs. LeadsBelow c.self.inside.store (map (λ r. r.normal) rs) c.args.path (node_ids c.self.inside.tree)) (sym c.as_slice.ensures)
    (leads_below _ c.args.self.now c.self.view_is c.self.invariant c.args.path c.requires.behind)

pub number_all-requires-clause-forms : goal.number_all-requires-clause-forms
number_all-requires-clause-forms c =
    subst (HasForms c.self.inside.store) (sym c.brought-forms.ensures)
    (brought_has c.self.inside.store c.as_slice-2.result.now (node_ids c.self.inside.tree) c.self.invariant.tree.has_node)

pub invariant_of-self-2 : goal.invariant_of-self-2
invariant_of-self-2 c =
    let here = c.unwrap-current.result.now in
    let p : c.self.inside.current ≡ Some here = search rules in
    let s = c.self.inside.store in
    let n = node_ids c.self.inside.tree in
    let same : node_ids c.put_in_place.new.tree ≡ put here.path (Node.closed c.args.pair) n =
    c.put_in_place.ensures ∙ ap (λ q. put q (node_ids c.closed_leaf-leaf.result) n) c.as_slice-3.ensures ∙ ap (λ (x : Node). put here.path x n) c.closed_leaf-leaf.ensures in
    let forms : c.brought-forms.result.now ≡ brought c.args.path n =
    c.brought-forms.ensures ∙ ap (λ q. brought q n) (c.as_slice-2.ensures ∙ c.in_ok-behind.ensures.path) in
    behind_kept _ c.args.self.now c.self.view_is c.self.invariant here p c.args.pair c.requires.closes c.args.path c.requires.behind c.put_in_place.new.tree same
    c.number_all.new.params c.in_ok-number_all.ensures.has
    (c.in_ok-number_all.ensures.entered ∙ ap (λ fs. enter (forms_of s c.self.inside.params) (forms_of s fs)) forms)
    c.in_ok-behind.behind
    (subst (λ rs. IsLeaf s c.args.path (extend_all (extend [] (forms_of s (map (λ r. r.normal) rs))) (lists_of s (along c.args.path n))) c.in_ok-behind.behind) c.as_slice.ensures
    c.in_ok-behind.ensures)

pub returns-clause-closed : goal.returns-clause-closed
returns-clause-closed c =
    let here = c.unwrap-current.result.now in
    let p : c.self.inside.current ≡ Some here = search rules in
    let n = node_ids c.self.inside.tree in
    let same : node_ids c.put_in_place.new.tree ≡ put here.path (Node.closed c.args.pair) n =
    c.put_in_place.ensures ∙ ap (λ q. put q (node_ids c.closed_leaf-leaf.result) n) c.as_slice-3.ensures ∙ ap (λ (x : Node). put here.path x n) c.closed_leaf-leaf.ensures in
    end_closed _ c.args.self.now c.self.view_is c.self.invariant here p c.args.pair c.requires.closes c.put_in_place.new.tree same
    c.number_all.new.params c.self.inside.picks (Some c.in_ok-behind.behind)
