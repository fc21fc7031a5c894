-- What the entry at the id's place tells.
use Rattle.std.proofs.Common.{◌≡◌, ◌≤◌, option_map, sym, ap, subst, ◌∙◌, length, ◌<◌}
use Rattle.std.specs.Map.Iter.{deref_pair}
use Rattle.zm_logic.specs.Measure.{depth}
use Rattle.term_store.specs.Trees.{Tables, HasFormParts, form_of, form_node}
use Rattle.term_store.proofs.Read.{form_read, form_bounded}
use Rattle.term_store.proofs.store.Store.form_node.Goals as goal

pub returns-clause-tree : goal.returns-clause-tree
returns-clause-tree c =
    let within = subst (λ (s : Tables). c.args.id.0 < length s.forms) (sym c.self.view_is) c.requires in
    let P : Tables → Type 0 = λ s. form_node s c.unwrap.result.0.now ≡ form_of s c.args.id in
    subst P c.self.view_is (form_read _ _ _ _ c.self.inside.forms.entries c.self.invariant c.args.id.0 c.unwrap.result.0.now c.unwrap.result.1.now (sym c.get_index.ensures.entry ∙ ap (option_map deref_pair) c.unwrap.ensures) within).0

pub returns-clause-parts : goal.returns-clause-parts
returns-clause-parts c =
    let within = subst (λ (s : Tables). c.args.id.0 < length s.forms) (sym c.self.view_is) c.requires in
    let P : Tables → Type 0 = λ s. HasFormParts s c.unwrap.result.0.now in
    subst P c.self.view_is (form_read _ _ _ _ c.self.inside.forms.entries c.self.invariant c.args.id.0 c.unwrap.result.0.now c.unwrap.result.1.now (sym c.get_index.ensures.entry ∙ ap (option_map deref_pair) c.unwrap.ensures) within).1

pub returns-clause-bounded : goal.returns-clause-bounded
returns-clause-bounded c =
    let within = subst (λ (s : Tables). c.args.id.0 < length s.forms) (sym c.self.view_is) c.requires in
    let P : Tables → Type 0 = λ s. depth (form_of s c.args.id) ≤ 2000 in
    subst P c.self.view_is (form_bounded _ _ _ _ _ _ c.self.invariant c.args.id.0 within)
