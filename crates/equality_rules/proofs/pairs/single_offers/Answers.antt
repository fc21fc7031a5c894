use Rattle.std.proofs.Common.{◌≡◌, ◌≢◌, map}
use Rattle.zm_logic.specs.Tree as tree
use Rattle.zm_logic.specs.View.{symbol_tree}
use Rattle.term_store.specs.Trees.{form_of, term_of}
use Rattle.param_store.specs.View.{forms_of}
use Rattle.equality_rules.proofs.Unifying.{some_of, none_of}
use Rattle.equality_rules.proofs.Answering.{single_answer, single_deep, no_inequation}
use Rattle.equality_rules.proofs.pairs.single_offers.Goals as goal

pub returns-in-Some-clause-offers : goal.returns-in-Some-clause-offers
returns-in-Some-clause-offers c =
    let s = c.args.store.now in
    let f = form_of s c.args.form in
    let found = some_of (λ p. (t : tree.Ty) × (f ≡ tree.differ t (term_of s p.0) (term_of s p.1)))
    c.inequation.result (c.in-Some.left, c.in-Some.right) c.in-Some.is c.inequation.ensures.some in
    single_answer (map symbol_tree c.args.symbols.now) (forms_of s c.args.params.now) c.args.equality c.requires.no_equality
    c.term_instances.new.store c.term_instances.result f found.0 (term_of s c.in-Some.left) (term_of s c.in-Some.right) found.1
    c.term_instances.ensures.offers

pub returns-in-Some-clause-deep : goal.returns-in-Some-clause-deep
returns-in-Some-clause-deep c =
    let s = c.args.store.now in
    let f = form_of s c.args.form in
    let found = some_of (λ p. (t : tree.Ty) × (f ≡ tree.differ t (term_of s p.0) (term_of s p.1)))
    c.inequation.result (c.in-Some.left, c.in-Some.right) c.in-Some.is c.inequation.ensures.some in
    single_deep (map symbol_tree c.args.symbols.now) (forms_of s c.args.params.now) c.args.equality c.requires.no_equality
    c.term_instances.new.store c.term_instances.result f found.0 (term_of s c.in-Some.left) (term_of s c.in-Some.right) found.1
    c.term_instances.ensures.deep

pub returns-in-None-clause-offers : goal.returns-in-None-clause-offers
returns-in-None-clause-offers c =
    let s = c.args.store.now in
    let f = form_of s c.args.form in
    let other = none_of ((t : tree.Ty) (u v : tree.Term) → f ≢ tree.differ t u v) c.inequation.result c.in-None.is c.inequation.ensures.none in
    no_inequation (map symbol_tree c.args.symbols.now) (forms_of s c.args.params.now) c.args.equality s c.new.result c.new.ensures f other
