use Rattle.std.proofs.Common.{List, map, sym, subst}
use Rattle.zm_logic.specs.View.{symbol_tree}
use Rattle.term_store.specs.Trees.{term_of}
use Rattle.param_store.specs.Fault.{IfDeepAt}
use Rattle.param_store.specs.View.{forms_of}
use Rattle.param_store.proofs.Stay.{forms_still}
use Rattle.unify.specs.Answer.{IsAnswer}
use Rattle.unify.specs.Binding.{Binding}
use Rattle.unify.specs.Unification.{UnifiesTerms}
use Rattle.equality_rules.specs.Pairs.{TermsDiffer}
use Rattle.equality_rules.specs.Refused.{AreRefused}
use Rattle.equality_rules.specs.Offered.{IsRefused}
use Rattle.equality_rules.proofs.Unifying.{one_of_terms, no_term_unifier, none_answer, offers_answer, bounded_answer, deep_answer, deep_unifier, some_of, none_of}
use Rattle.equality_rules.proofs.pairs.term_instances.Goals as goal

pub instances-requires-clause-numbered : goal.instances-requires-clause-numbered
instances-requires-clause-numbered c =
    forms_still c.args.store.now c.mgu_terms.new.store c.in-Ok-Some.ensures.kept c.args.params.now c.requires.numbered

pub returns-in-Ok-Some-clause-offers : goal.returns-in-Ok-Some-clause-offers
returns-in-Ok-Some-clause-offers c =
    let s = c.args.store.now in
    let f = term_of s c.args.left in
    let g = term_of s c.args.right in
    let found = some_of (λ all. (made : List Binding) × UnifiesTerms f g made × IsAnswer c.mgu_terms.new.store made all)
    c.in-Ok-Some.field-0 c.in-Ok-Some.bindings c.in-Ok-Some.field-0-is c.in-Ok-Some.ensures.some in
    offers_answer (map symbol_tree c.args.symbols.now) (UnifiesTerms f g) (TermsDiffer f g) (one_of_terms f g) s c.mgu_terms.new.store c.instances.new.store
    c.in-Ok-Some.ensures.kept c.args.params.now c.requires.numbered c.in-Ok-Some.bindings c.as_slice.result.now c.as_slice.ensures
    found.0 found.1 found.2 c.instances.result c.instances.ensures.offers c.instances.ensures.bounded

pub returns-in-Ok-Some-clause-bounded : goal.returns-in-Ok-Some-clause-bounded
returns-in-Ok-Some-clause-bounded c =
    let s = c.args.store.now in
    let f = term_of s c.args.left in
    let g = term_of s c.args.right in
    let found = some_of (λ all. (made : List Binding) × UnifiesTerms f g made × IsAnswer c.mgu_terms.new.store made all)
    c.in-Ok-Some.field-0 c.in-Ok-Some.bindings c.in-Ok-Some.field-0-is c.in-Ok-Some.ensures.some in
    bounded_answer (map symbol_tree c.args.symbols.now) (UnifiesTerms f g) (TermsDiffer f g) (one_of_terms f g) s c.mgu_terms.new.store c.instances.new.store
    c.in-Ok-Some.ensures.kept c.args.params.now c.requires.numbered c.in-Ok-Some.bindings c.as_slice.result.now c.as_slice.ensures
    found.0 found.1 found.2 c.instances.result

pub returns-in-Ok-Some-clause-deep : goal.returns-in-Ok-Some-clause-deep
returns-in-Ok-Some-clause-deep c =
    let s = c.args.store.now in
    let f = term_of s c.args.left in
    let g = term_of s c.args.right in
    let found = some_of (λ all. (made : List Binding) × UnifiesTerms f g made × IsAnswer c.mgu_terms.new.store made all)
    c.in-Ok-Some.field-0 c.in-Ok-Some.bindings c.in-Ok-Some.field-0-is c.in-Ok-Some.ensures.some in
    deep_answer (map symbol_tree c.args.symbols.now) (UnifiesTerms f g) (TermsDiffer f g) (one_of_terms f g) s c.mgu_terms.new.store c.instances.new.store
    c.in-Ok-Some.ensures.kept c.args.params.now c.requires.numbered c.in-Ok-Some.bindings c.as_slice.result.now c.as_slice.ensures
    found.0 found.1 found.2 c.instances.result c.instances.ensures.deep

pub returns-in-Ok-None-clause-offers : goal.returns-in-Ok-None-clause-offers
returns-in-Ok-None-clause-offers c =
    let s = c.args.store.now in
    let f = term_of s c.args.left in
    let g = term_of s c.args.right in
    let apart = none_of (TermsDiffer f g) c.in-Ok-None.field-0 c.in-Ok-None.field-0-is c.in-Ok-None.ensures.none in
    none_answer (map symbol_tree c.args.symbols.now) (forms_of s c.args.params.now) (UnifiesTerms f g) (TermsDiffer f g) c.mgu_terms.new.store c.new.result
    apart c.new.ensures

pub returns-in-Ok-None-clause-bounded : goal.returns-in-Ok-None-clause-bounded
returns-in-Ok-None-clause-bounded c =
    let s = c.args.store.now in
    let f = term_of s c.args.left in
    let g = term_of s c.args.right in
    let apart = none_of (TermsDiffer f g) c.in-Ok-None.field-0 c.in-Ok-None.field-0-is c.in-Ok-None.ensures.none in
    λ made u. absurd (no_term_unifier f g apart made u)

pub returns-in-Err-clause-deep : goal.returns-in-Err-clause-deep
returns-in-Err-clause-deep c =
    let s = c.args.store.now in
    let f = term_of s c.args.left in
    let g = term_of s c.args.right in
    let U = UnifiesTerms f g in
    let D = TermsDiffer f g in
    let t = c.mgu_terms.new.store in
    subst (IfDeepAt (IsRefused t (AreRefused (map symbol_tree c.args.symbols.now) (forms_of s c.args.params.now) U D))) (sym c.fault_of.ensures)
    (deep_unifier (map symbol_tree c.args.symbols.now) (forms_of s c.args.params.now) U D t c.in-Err.fault c.in-Err.ensures.deep)
