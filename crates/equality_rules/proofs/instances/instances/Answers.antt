use Rattle.std.proofs.Common.{map, rules}
use Rattle.unify.proofs.Listed.{ids_kept}
use Rattle.zm_logic.specs.View.{symbol_tree}
use Rattle.term_store.proofs.Kept.{extends_more}
use Rattle.param_store.specs.Fault.{IfDeepAt}
use Rattle.param_store.proofs.Stay.{forms_still}
use Rattle.unify.specs.declared.binding.Binding.{Binding}
use Rattle.unify.specs.declared.binding.Binding.TheVariants.{OfTerm}
use Rattle.equality_rules.specs.Offered.{NamesInstance}
use Rattle.equality_rules.proofs.Listing.{has_here, all_listed, names_fault, listed_more, bounded_more}
use Rattle.equality_rules.proofs.instances.instances.Goals as goal

abbrev none : Binding
none = OfTerm 0 (record { 0 = 0 }) (record { 0 = 0 })

pub instance-requires-clause-has : goal.instance-requires-clause-has
instance-requires-clause-has c =
    let s = c.args.store.now in
    let ss = map symbol_tree c.args.symbols.now in
    let bs = c.args.bindings.now in
    let i = c.loop-binding.binding-index in
    ids_kept s c.loop-binding.store c.loop-binding.invariant.kept _
    (has_here ss s c.args.params.now bs c.loop-binding.store c.loop-binding.invariant.kept c.requires.numbered c.requires.has i none c.loop-binding-test.true)

pub instance-requires-clause-numbered : goal.instance-requires-clause-numbered
instance-requires-clause-numbered c =
    forms_still c.args.store.now c.loop-binding.store c.loop-binding.invariant.kept c.args.params.now c.requires.numbered

pub returns-in_err-offer-clause-deep : goal.returns-in_err-offer-clause-deep
returns-in_err-offer-clause-deep c =
    let s = c.args.store.now in
    let ss = map symbol_tree c.args.symbols.now in
    let bs = c.args.bindings.now in
    let i = c.loop-binding.binding-index in
    let names : IfDeepAt (NamesInstance c.instance.new.store (all_listed ss s c.args.params.now bs)) c.in_err-offer.field-0.0 =
    names_fault ss s c.args.params.now bs c.loop-binding.store c.loop-binding.invariant.kept c.requires.numbered c.requires.has i none
    c.loop-binding-test.true c.instance.new.store c.in_err-offer.field-0.0 c.loop-binding.invariant.bounded c.in_err-offer.ensures.deep in
    search rules

pub loop-binding-preserved : goal.loop-binding-preserved
loop-binding-preserved c =
    let s = c.args.store.now in
    let t = c.loop-binding.store in
    let u = c.instance.new.store in
    let ss = map symbol_tree c.args.symbols.now in
    let ids = c.args.params.now in
    let bs = c.args.bindings.now in
    let i = c.loop-binding.binding-index in
    let kept = c.in_ok-offer.ensures.kept in
    record {
      listed = listed_more ss s ids bs t c.loop-binding.invariant.kept c.requires.numbered c.requires.has i none c.loop-binding-test.true u kept
          c.loop-binding.offers c.put.new.offers c.in_ok-offer.offer c.loop-binding.invariant.listed c.in_ok-offer.ensures.offer c.in_ok-put.ensures;
      bounded = bounded_more ss s ids bs t c.loop-binding.invariant.kept c.requires.numbered c.requires.has i none c.loop-binding-test.true
          c.loop-binding.invariant.bounded c.in_ok-offer.ensures.bounded;
      kept = extends_more s t u c.loop-binding.invariant.kept kept;
    }
