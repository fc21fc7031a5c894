-- What the entry at the id's place tells.
use Rattle.std.proofs.Common.{◌≡◌, ◌≤◌, option_map, sym, ap, subst, ◌∙◌, length, ◌<◌}
use Rattle.std.specs.Map.Iter.{deref_pair}
use Rattle.zm_logic.specs.Measure.{term_depth}
use Rattle.term_store.specs.Trees.{Tables, HasTermParts, term_of, term_node}
use Rattle.term_store.proofs.Read.{term_read, term_bounded}
use Rattle.term_store.proofs.store.Store.term_node.Goals as goal

pub returns-clause-tree : goal.returns-clause-tree
returns-clause-tree c =
    let within = subst (λ (s : Tables). c.args.id.0 < length s.terms) (sym c.self.view_is) c.requires in
    let P : Tables → Type 0 = λ s. term_node s c.unwrap.result.0.now ≡ term_of s c.args.id in
    subst P c.self.view_is (term_read _ _ c.self.inside.terms.entries _ _ c.self.invariant c.args.id.0 c.unwrap.result.0.now c.unwrap.result.1.now (sym c.get_index.ensures.entry ∙ ap (option_map deref_pair) c.unwrap.ensures) within).0

pub returns-clause-parts : goal.returns-clause-parts
returns-clause-parts c =
    let within = subst (λ (s : Tables). c.args.id.0 < length s.terms) (sym c.self.view_is) c.requires in
    let P : Tables → Type 0 = λ s. HasTermParts s c.unwrap.result.0.now in
    subst P c.self.view_is (term_read _ _ c.self.inside.terms.entries _ _ c.self.invariant c.args.id.0 c.unwrap.result.0.now c.unwrap.result.1.now (sym c.get_index.ensures.entry ∙ ap (option_map deref_pair) c.unwrap.ensures) within).1

pub returns-clause-bounded : goal.returns-clause-bounded
returns-clause-bounded c =
    let within = subst (λ (s : Tables). c.args.id.0 < length s.terms) (sym c.self.view_is) c.requires in
    let P : Tables → Type 0 = λ s. term_depth (term_of s c.args.id) ≤ 2000 in
    subst P c.self.view_is (term_bounded _ _ _ _ _ _ c.self.invariant c.args.id.0 within)
