use Rattle.std.proofs.Common.{List, map, sym, subst}
use Rattle.zm_logic.specs.View.{symbol_tree}
use Rattle.term_store.specs.Trees.{form_of}
use Rattle.param_store.specs.Fault.{IfDeepAt}
use Rattle.param_store.specs.View.{forms_of}
use Rattle.param_store.proofs.Stay.{forms_still}
use Rattle.unify.specs.Answer.{IsAnswer}
use Rattle.unify.specs.Binding.{Binding}
use Rattle.unify.specs.Unification.{UnifiesForms}
use Rattle.equality_rules.specs.Pairs.{FormsDiffer}
use Rattle.equality_rules.specs.Refused.{AreRefused}
use Rattle.equality_rules.specs.Offered.{IsRefused}
use Rattle.equality_rules.proofs.Unifying.{alike_forms, one_of_forms, no_unifier, none_answer, offers_answer, bounded_answer, deep_answer, deep_unifier, some_of, none_of}
use Rattle.equality_rules.proofs.pairs.form_instances.Goals as goal

pub mgu-requires-clause-alike : goal.mgu-requires-clause-alike
mgu-requires-clause-alike c =
    alike_forms (form_of c.args.store.now c.args.left) (form_of c.args.store.now c.args.right) c.requires.alike

pub instances-requires-clause-numbered : goal.instances-requires-clause-numbered
instances-requires-clause-numbered c =
    forms_still c.args.store.now c.mgu.new.store c.in-Ok-Some.ensures.kept c.args.params.now c.requires.numbered

pub returns-in-Ok-Some-clause-offers : goal.returns-in-Ok-Some-clause-offers
returns-in-Ok-Some-clause-offers c =
    let s = c.args.store.now in
    let f = form_of s c.args.left in
    let g = form_of s c.args.right in
    let found = some_of (λ all. (made : List Binding) × UnifiesForms f g made × IsAnswer c.mgu.new.store made all)
    c.in-Ok-Some.field-0 c.in-Ok-Some.bindings c.in-Ok-Some.field-0-is c.in-Ok-Some.ensures.some in
    offers_answer (map symbol_tree c.args.symbols.now) (UnifiesForms f g) (FormsDiffer f g) (one_of_forms f g) s c.mgu.new.store c.instances.new.store
    c.in-Ok-Some.ensures.kept c.args.params.now c.requires.numbered c.in-Ok-Some.bindings c.as_slice.result.now c.as_slice.ensures
    found.0 found.1 found.2 c.instances.result c.instances.ensures.offers c.instances.ensures.bounded

pub returns-in-Ok-Some-clause-bounded : goal.returns-in-Ok-Some-clause-bounded
returns-in-Ok-Some-clause-bounded c =
    let s = c.args.store.now in
    let f = form_of s c.args.left in
    let g = form_of s c.args.right in
    let found = some_of (λ all. (made : List Binding) × UnifiesForms f g made × IsAnswer c.mgu.new.store made all)
    c.in-Ok-Some.field-0 c.in-Ok-Some.bindings c.in-Ok-Some.field-0-is c.in-Ok-Some.ensures.some in
    bounded_answer (map symbol_tree c.args.symbols.now) (UnifiesForms f g) (FormsDiffer f g) (one_of_forms f g) s c.mgu.new.store c.instances.new.store
    c.in-Ok-Some.ensures.kept c.args.params.now c.requires.numbered c.in-Ok-Some.bindings c.as_slice.result.now c.as_slice.ensures
    found.0 found.1 found.2 c.instances.result

pub returns-in-Ok-Some-clause-deep : goal.returns-in-Ok-Some-clause-deep
returns-in-Ok-Some-clause-deep c =
    let s = c.args.store.now in
    let f = form_of s c.args.left in
    let g = form_of s c.args.right in
    let found = some_of (λ all. (made : List Binding) × UnifiesForms f g made × IsAnswer c.mgu.new.store made all)
    c.in-Ok-Some.field-0 c.in-Ok-Some.bindings c.in-Ok-Some.field-0-is c.in-Ok-Some.ensures.some in
    deep_answer (map symbol_tree c.args.symbols.now) (UnifiesForms f g) (FormsDiffer f g) (one_of_forms f g) s c.mgu.new.store c.instances.new.store
    c.in-Ok-Some.ensures.kept c.args.params.now c.requires.numbered c.in-Ok-Some.bindings c.as_slice.result.now c.as_slice.ensures
    found.0 found.1 found.2 c.instances.result c.instances.ensures.deep

pub returns-in-Ok-None-clause-offers : goal.returns-in-Ok-None-clause-offers
returns-in-Ok-None-clause-offers c =
    let s = c.args.store.now in
    let f = form_of s c.args.left in
    let g = form_of s c.args.right in
    let apart = none_of (FormsDiffer f g) c.in-Ok-None.field-0 c.in-Ok-None.field-0-is c.in-Ok-None.ensures.none in
    none_answer (map symbol_tree c.args.symbols.now) (forms_of s c.args.params.now) (UnifiesForms f g) (FormsDiffer f g) c.mgu.new.store c.new.result
    apart c.new.ensures

pub returns-in-Ok-None-clause-bounded : goal.returns-in-Ok-None-clause-bounded
returns-in-Ok-None-clause-bounded c =
    let s = c.args.store.now in
    let f = form_of s c.args.left in
    let g = form_of s c.args.right in
    let apart = none_of (FormsDiffer f g) c.in-Ok-None.field-0 c.in-Ok-None.field-0-is c.in-Ok-None.ensures.none in
    λ made u. absurd (no_unifier f g apart made u)

pub returns-in-Err-clause-deep : goal.returns-in-Err-clause-deep
returns-in-Err-clause-deep c =
    let s = c.args.store.now in
    let f = form_of s c.args.left in
    let g = form_of s c.args.right in
    let U = UnifiesForms f g in
    let D = FormsDiffer f g in
    let t = c.mgu.new.store in
    subst (IfDeepAt (IsRefused t (AreRefused (map symbol_tree c.args.symbols.now) (forms_of s c.args.params.now) U D))) (sym c.fault_of.ensures)
    (deep_unifier (map symbol_tree c.args.symbols.now) (forms_of s c.args.params.now) U D t c.in-Err.fault c.in-Err.ensures.deep)
