use Rattle.std.proofs.Common.{◌≡◌, ◌≤◌, [], ◌∷◌, ◌++◌, ap, length, map, sym, subst, take, ◌∙◌}
use Rattle.param_store.specs.View.{HasForms, forms_of, lists_of}
use Rattle.branch.specs.Branch.{closing, extend}
use Rattle.branch.specs.Ids.{node_ids}
use Rattle.branch.specs.Path.{above, along, brought, extend_all}
use Rattle.branch.specs.Stepping.{IsLeaf}
use Rattle.branch.proofs.Behind.{extended_last}
use Rattle.branch.proofs.Noted.{added_front, added_longer}
use Rattle.branch.proofs.Standing.{brought_has}
use Rattle.branch.proofs.stepping.leaf_along.Goals as goal

pub extended-requires-clause-has : goal.extended-requires-clause-has
extended-requires-clause-has c = subst (HasForms c.args.store.now) (sym c.as_slice-3.ensures) c.in_ok-branch.ensures.has

pub extended-requires-clause-has_more : goal.extended-requires-clause-has_more
extended-requires-clause-has_more c =
    let s = c.args.store.now in
    subst (HasForms s) (sym c.brought-new.ensures) (brought_has s c.as_slice-2.result.now (node_ids c.args.tree.now) c.requires.has_node)

pub leaf_of-requires-clause-within : goal.leaf_of-requires-clause-within
leaf_of-requires-clause-within c =
    let s = c.args.store.now in
    let all = c.in_ok-forms.forms in
    let l = added_longer s c.as_slice-3.result.now all (forms_of s c.brought-new.result.now) c.in_ok-forms.ensures.forms in
    subst (λ n. n ≤ length all) (ap length c.as_slice-3.ensures ∙ sym c.len.ensures) l

pub leaf_of-requires-clause-unclosed : goal.leaf_of-requires-clause-unclosed
leaf_of-requires-clause-unclosed c =
    let s = c.args.store.now in
    let all = c.in_ok-forms.forms in
    let n = node_ids c.args.tree.now in
    let b = extend [] (forms_of s (map (λ r. r.normal) c.args.roots.now)) in
    ap (λ k. closing (forms_of s (take k all))) (c.len.ensures ∙ ap length (sym c.as_slice-3.ensures))
    ∙ ap closing (added_front s c.as_slice-3.result.now all (forms_of s c.brought-new.result.now) c.in_ok-forms.ensures.forms)
    ∙ ap (λ ids. closing (forms_of s ids)) c.as_slice-3.ensures ∙ ap closing c.in_ok-branch.ensures.forms
    ∙ ap (λ p. closing (extend_all b (lists_of s (along (above p) n)))) c.as_slice.ensures ∙ c.requires.leads.unclosed

pub returns : goal.returns
returns c =
    let s = c.args.store.now in
    let all = c.in_ok-forms.forms in
    let n = node_ids c.args.tree.now in
    let b = extend [] (forms_of s (map (λ r. r.normal) c.args.roots.now)) in
    let new : c.brought-new.result.now ≡ brought c.args.path n = c.brought-new.ensures ∙ ap (λ p. brought p n) c.as_slice-2.ensures in
    let base : forms_of s c.as_slice-3.result.now ≡ extend_all b (lists_of s (along (above c.args.path) n)) =
    ap (forms_of s) c.as_slice-3.ensures ∙ (c.in_ok-branch.ensures.forms ∙ ap (λ p. extend_all b (lists_of s (along (above p) n))) c.as_slice.ensures) in
    let of : forms_of s all ≡ extend_all b (lists_of s (along c.args.path n)) =
    c.in_ok-forms.ensures.forms ∙ ap (λ fs. extend fs (forms_of s c.brought-new.result.now)) base
    ∙ ap (λ ids. extend (extend_all b (lists_of s (along (above c.args.path) n))) (forms_of s ids)) new
    ∙ sym (extended_last s b (along (above c.args.path) n) (brought c.args.path n)) ∙ ap (λ ls. extend_all b (lists_of s ls)) (sym c.requires.leads.last) in
    subst (λ fs. IsLeaf s c.args.path fs c.leaf_of.result) of c.leaf_of.ensures
