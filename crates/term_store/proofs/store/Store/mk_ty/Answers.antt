-- What one more node changes, at the fields of the store.
use Rattle.std.proofs.Common.{◌≡◌, ◌≤◌, ◌<◌, refl, sym, ◌∙◌, subst, length}
use Rattle.zm_logic.specs.Measure.{type_depth}
use Rattle.term_store.specs.Trees.{Tables, type_of, type_node, Extends}
use Rattle.term_store.specs.Node.{TypeFits}
use Rattle.term_store.proofs.Found.{found_type}
use Rattle.term_store.proofs.Step.{nodes_of, depths_of, type_added, type_depth_is}
use Rattle.term_store.proofs.store.Store.mk_ty.Goals as goal

pub returns-in-Some-clause-tree : goal.returns-in-Some-clause-tree
returns-in-Some-clause-tree c =
    let P : Tables → Type 0 = λ s. type_of s (record { 0 = c.in-Some.place }) ≡ type_node s c.args.node in
    subst P c.self.view_is (found_type (nodes_of c.self.inside.types.entries) (depths_of c.self.inside.types.entries) (nodes_of c.self.inside.terms.entries) (depths_of c.self.inside.terms.entries) (nodes_of c.self.inside.forms.entries) (depths_of c.self.inside.forms.entries) c.self.invariant c.args.node c.in-Some.place (sym c.in-Some.ensures.index)).1

pub returns-in-Some-clause-bounded : goal.returns-in-Some-clause-bounded
returns-in-Some-clause-bounded c =
    let P : Tables → Type 0 = λ s. type_depth (type_node s c.args.node) ≤ 2000 in
    subst P c.self.view_is (found_type (nodes_of c.self.inside.types.entries) (depths_of c.self.inside.types.entries) (nodes_of c.self.inside.terms.entries) (depths_of c.self.inside.terms.entries) (nodes_of c.self.inside.forms.entries) (depths_of c.self.inside.forms.entries) c.self.invariant c.args.node c.in-Some.place (sym c.in-Some.ensures.index)).2

pub returns-then-depth-gt-MAX_DEPTH-clause-deep : goal.returns-then-depth-gt-MAX_DEPTH-clause-deep
returns-then-depth-gt-MAX_DEPTH-clause-deep c =
    let fits = subst (λ (s : Tables). TypeFits (length s.types) c.args.node) (sym c.self.view_is) c.requires in
    let e = type_depth_is c.self.inside.types.entries (nodes_of c.self.inside.terms.entries) (depths_of c.self.inside.terms.entries) (nodes_of c.self.inside.forms.entries) (depths_of c.self.inside.forms.entries) c.self.invariant c.args.node fits in
    let P : Tables → Type 0 = λ s. 2000 < type_depth (type_node s c.args.node) in
    (refl, subst P c.self.view_is (subst (λ d. 2000 < d) (c.type_depth_of-depth.ensures.value ∙ e) c.if-depth-gt-MAX_DEPTH.true))

pub invariant_of-self-2 : goal.invariant_of-self-2
invariant_of-self-2 c =
    let fits = subst (λ (s : Tables). TypeFits (length s.types) c.args.node) (sym c.self.view_is) c.requires in
    let x = type_added c.self.inside.types.entries (nodes_of c.self.inside.terms.entries) (depths_of c.self.inside.terms.entries) (nodes_of c.self.inside.forms.entries) (depths_of c.self.inside.forms.entries) c.self.invariant c.add.new.map.entries c.args.node c.type_depth_of-depth.result c.in_ok-add.ensures.ok
    (sym c.get_index_of.ensures.index ∙ c.in_default.is) fits c.type_depth_of-depth.ensures.value c.if-depth-gt-MAX_DEPTH.false in
    x.sound

pub returns-clause-tree : goal.returns-clause-tree
returns-clause-tree c =
    let fits = subst (λ (s : Tables). TypeFits (length s.types) c.args.node) (sym c.self.view_is) c.requires in
    let x = type_added c.self.inside.types.entries (nodes_of c.self.inside.terms.entries) (depths_of c.self.inside.terms.entries) (nodes_of c.self.inside.forms.entries) (depths_of c.self.inside.forms.entries) c.self.invariant c.add.new.map.entries c.args.node c.type_depth_of-depth.result c.in_ok-add.ensures.ok
    (sym c.get_index_of.ensures.index ∙ c.in_default.is) fits c.type_depth_of-depth.ensures.value c.if-depth-gt-MAX_DEPTH.false in
    let now : Tables = record { types = nodes_of c.add.new.map.entries; terms = nodes_of c.self.inside.terms.entries; forms = nodes_of c.self.inside.forms.entries } in
    let old : Tables = record { types = nodes_of c.self.inside.types.entries; terms = nodes_of c.self.inside.terms.entries; forms = nodes_of c.self.inside.forms.entries } in
    let P : Tables → Type 0 = λ s. type_of now (record { 0 = c.len-place.result }) ≡ type_node s c.args.node in
    subst P c.self.view_is (subst (λ k. type_of now (record { 0 = k }) ≡ type_node old c.args.node) (sym c.len-place.ensures.len) x.tree_is)

pub returns-clause-kept : goal.returns-clause-kept
returns-clause-kept c =
    let fits = subst (λ (s : Tables). TypeFits (length s.types) c.args.node) (sym c.self.view_is) c.requires in
    let x = type_added c.self.inside.types.entries (nodes_of c.self.inside.terms.entries) (depths_of c.self.inside.terms.entries) (nodes_of c.self.inside.forms.entries) (depths_of c.self.inside.forms.entries) c.self.invariant c.add.new.map.entries c.args.node c.type_depth_of-depth.result c.in_ok-add.ensures.ok
    (sym c.get_index_of.ensures.index ∙ c.in_default.is) fits c.type_depth_of-depth.ensures.value c.if-depth-gt-MAX_DEPTH.false in
    let now : Tables = record { types = nodes_of c.add.new.map.entries; terms = nodes_of c.self.inside.terms.entries; forms = nodes_of c.self.inside.forms.entries } in
    let P : Tables → Type 0 = λ s. Extends s now in
    subst P c.self.view_is x.extends

pub returns-clause-bounded : goal.returns-clause-bounded
returns-clause-bounded c =
    let fits = subst (λ (s : Tables). TypeFits (length s.types) c.args.node) (sym c.self.view_is) c.requires in
    let e = type_depth_is c.self.inside.types.entries (nodes_of c.self.inside.terms.entries) (depths_of c.self.inside.terms.entries) (nodes_of c.self.inside.forms.entries) (depths_of c.self.inside.forms.entries) c.self.invariant c.args.node fits in
    let P : Tables → Type 0 = λ s. type_depth (type_node s c.args.node) ≤ 2000 in
    subst P c.self.view_is (subst (λ d. d ≤ 2000) (c.type_depth_of-depth.ensures.value ∙ e) c.if-depth-gt-MAX_DEPTH.false)
