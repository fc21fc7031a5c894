use Rattle.std.proofs.Common.{◌≤◌, map, OnOk, IfOk, IfErr, sym, subst, ◌∙◌}
use Rattle.zm_logic.specs.View.{symbol_tree}
use Rattle.param_store.specs.Depth.{deepest}
use Rattle.param_store.specs.Fault.{IfDeepAt}
use Rattle.equality_rules.specs.Offered.{IsOffer, NamesInstance}
use Rattle.equality_rules.proofs.Offers.{has_at}
use Rattle.equality_rules.proofs.Bound.{of_type_gives, of_term_gives}
use Rattle.equality_rules.proofs.instances.instance.Goals as goal

pub instance_of-requires-clause-form : goal.instance_of-requires-clause-form
instance_of-requires-clause-form c =
    has_at c.args.store.now c.args.params.now c.in-OfType.meta c.form_of.result c.requires.numbered c.form_of.ensures.form

pub instance_of-requires-in-OfTerm-clause-form : goal.instance_of-requires-in-OfTerm-clause-form
instance_of-requires-in-OfTerm-clause-form c =
    has_at c.args.store.now c.args.params.now c.in-OfTerm.meta c.form_of-in-OfTerm.result c.requires.numbered c.form_of-in-OfTerm.ensures.form

pub returns-in-OfType-clause-offer : goal.returns-in-OfType-clause-offer
returns-in-OfType-clause-offer c =
    let gives = of_type_gives (map symbol_tree c.args.symbols.now) c.args.store.now c.args.params.now c.args.binding
    c.in-OfType.meta c.in-OfType.to c.form_of.result c.in-OfType.is c.form_of.ensures.form in
    subst (λ os. IfOk c.instance_of.result (IsOffer c.instance_of.new.store os)) gives c.instance_of.ensures.offer

pub returns-in-OfType-clause-bounded : goal.returns-in-OfType-clause-bounded
returns-in-OfType-clause-bounded c =
    let gives = of_type_gives (map symbol_tree c.args.symbols.now) c.args.store.now c.args.params.now c.args.binding
    c.in-OfType.meta c.in-OfType.to c.form_of.result c.in-OfType.is c.form_of.ensures.form in
    subst (λ os. OnOk c.instance_of.result (deepest os ≤ 2000)) gives c.instance_of.ensures.bounded

pub returns-in-OfType-clause-deep : goal.returns-in-OfType-clause-deep
returns-in-OfType-clause-deep c =
    let gives = of_type_gives (map symbol_tree c.args.symbols.now) c.args.store.now c.args.params.now c.args.binding
    c.in-OfType.meta c.in-OfType.to c.form_of.result c.in-OfType.is c.form_of.ensures.form in
    subst (λ os. IfErr c.instance_of.result (IfDeepAt (NamesInstance c.instance_of.new.store os))) gives c.instance_of.ensures.deep

pub returns-else-not-branch-clause-offer : goal.returns-else-not-branch-clause-offer
returns-else-not-branch-clause-offer c =
    let typed = sym c.if-not-branch.false ∙ c.in_ok-has_type-in-OfTerm.ensures.value in
    let gives = of_term_gives (map symbol_tree c.args.symbols.now) c.args.store.now c.args.params.now c.args.binding
    c.in-OfTerm.meta c.in-OfTerm.ty c.in-OfTerm.to c.form_of-in-OfTerm.result c.in-OfTerm.is c.form_of-in-OfTerm.ensures.form typed in
    subst (λ os. IfOk c.instance_of-in-OfTerm.result (IsOffer c.instance_of-in-OfTerm.new.store os)) gives c.instance_of-in-OfTerm.ensures.offer

pub returns-else-not-branch-clause-bounded : goal.returns-else-not-branch-clause-bounded
returns-else-not-branch-clause-bounded c =
    let typed = sym c.if-not-branch.false ∙ c.in_ok-has_type-in-OfTerm.ensures.value in
    let gives = of_term_gives (map symbol_tree c.args.symbols.now) c.args.store.now c.args.params.now c.args.binding
    c.in-OfTerm.meta c.in-OfTerm.ty c.in-OfTerm.to c.form_of-in-OfTerm.result c.in-OfTerm.is c.form_of-in-OfTerm.ensures.form typed in
    subst (λ os. OnOk c.instance_of-in-OfTerm.result (deepest os ≤ 2000)) gives c.instance_of-in-OfTerm.ensures.bounded

pub returns-else-not-branch-clause-deep : goal.returns-else-not-branch-clause-deep
returns-else-not-branch-clause-deep c =
    let typed = sym c.if-not-branch.false ∙ c.in_ok-has_type-in-OfTerm.ensures.value in
    let gives = of_term_gives (map symbol_tree c.args.symbols.now) c.args.store.now c.args.params.now c.args.binding
    c.in-OfTerm.meta c.in-OfTerm.ty c.in-OfTerm.to c.form_of-in-OfTerm.result c.in-OfTerm.is c.form_of-in-OfTerm.ensures.form typed in
    subst (λ os. IfErr c.instance_of-in-OfTerm.result (IfDeepAt (NamesInstance c.instance_of-in-OfTerm.new.store os))) gives c.instance_of-in-OfTerm.ensures.deep
