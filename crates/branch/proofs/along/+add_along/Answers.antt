use Rattle.std.proofs.Common.{◌≡◌, ◌-◌, length, take, drop, ap, sym, subst, ◌∙◌, Some, None, slice_index_or, rules}
use Rattle.std.proofs.lemmas.Result.{on_ok_weaker}
use Rattle.param_store.specs.View.{HasForms, forms_of, lists_of}
use Rattle.branch.specs.Ids.{Child, node_ids, child_ids, HasNode}
use Rattle.branch.specs.Path.{along, extend_all, child_at}
use Rattle.branch.proofs.Places.{child_opens, child_has, first_place, added_along, along_none}
use Rattle.branch.proofs.along.+add_along.Goals as goal

pub add_all-requires-clause-more : goal.add_all-requires-clause-more
add_all-requires-clause-more t c =
    let d = c.in-Some.child.now in
    let e : Some (child_ids d) ≡ child_at (slice_index_or c.args.path.now 0 0) (node_ids c.args.node.now) = c.in-Some.ensures in
    let h = child_has c.args.store.now _ _ _ (sym e) c.requires.has_node in
    let f : c.as_slice.result.now ≡ d.normal = c.as_slice.ensures in
    subst (HasForms c.args.store.now) (ap (λ (x : Child). x.normal) (child_opens d) ∙ sym f) h.0

pub add_along-requires : goal.add_along-requires
add_along-requires t c =
    let d = c.in-Some.child.now in
    let e : Some (child_ids d) ≡ child_at (slice_index_or c.args.path.now 0 0) (node_ids c.args.node.now) = c.in-Some.ensures in
    let h = child_has c.args.store.now _ _ _ (sym e) c.requires.has_node in
    (search rules, (c.add_all.ensures.has, subst (λ (x : Child). HasNode c.args.store.now x.node) (child_opens d) h.1))

pub returns-in_ok-add_all-in-Some-clause-forms : goal.returns-in_ok-add_all-in-Some-clause-forms
returns-in_ok-add_all-in-Some-clause-forms t c =
    let d = c.in-Some.child.now in
    let p = c.args.path.now in
    let i = slice_index_or p 0 0 in
    let is = take (length p - 1) (drop 1 p) in
    let s = c.args.store.now in
    let n = node_ids c.args.node.now in
    let x : Child = record { raw = d.raw; normal = d.normal; node = node_ids d.node } in
    let e : Some (child_ids d) ≡ child_at i n = c.in-Some.ensures in
    let f : child_at i n ≡ Some x = sym e ∙ ap Some (child_opens d) in
    let g : c.as_slice.result.now ≡ d.normal = c.as_slice.ensures in
    let h = added_along s p i is n x c.args.forms.now c.add_all.new.forms (first_place p c.in-len1-up.len_at_least) f (rw g at c.in_ok-add_all-in-Some.ensures.forms) in
    on_ok_weaker c.add_along.result (λ k. k ∙ h) c.add_along.ensures.forms

pub returns-in-None-clause-forms : goal.returns-in-None-clause-forms
returns-in-None-clause-forms t c =
    let p = c.args.path.now in
    let i = slice_index_or p 0 0 in
    let is = take (length p - 1) (drop 1 p) in
    let s = c.args.store.now in
    let n = node_ids c.args.node.now in
    let e : None ≡ child_at i n = c.in-None.ensures in
    let h = ap (λ q. along q n) (first_place p c.in-len1-up.len_at_least) ∙ along_none i is n (sym e) in
    sym (ap (λ fs. extend_all (forms_of s c.args.forms.now) (lists_of s fs)) h)
