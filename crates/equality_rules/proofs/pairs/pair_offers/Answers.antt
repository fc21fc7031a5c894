use Rattle.std.proofs.Common.{map, option_map, ap, sym, ◌∙◌}
use Rattle.zm_logic.specs.View.{symbol_tree}
use Rattle.term_store.specs.Trees.{form_of}
use Rattle.param_store.specs.View.{forms_of}
use Rattle.equality_rules.specs.Offered.{sides_of}
use Rattle.equality_rules.proofs.Answering.{sides_alike, pair_answer, pair_deep, no_pair}
use Rattle.equality_rules.proofs.pairs.pair_offers.Goals as goal

pub form_instances-requires-clause-alike : goal.form_instances-requires-clause-alike
form_instances-requires-clause-alike c =
    let s = c.args.store.now in
    sides_alike (form_of s c.args.earlier) (form_of s c.args.later) (form_of s c.in-Some.left) (form_of s c.in-Some.right)
    (ap (option_map (sides_of s)) (sym c.in-Some.is) ∙ c.opposites.ensures.value)

pub returns-in-Some-clause-offers : goal.returns-in-Some-clause-offers
returns-in-Some-clause-offers c =
    let s = c.args.store.now in
    pair_answer (map symbol_tree c.args.symbols.now) (forms_of s c.args.params.now) c.args.equality c.requires.no_equality
    c.form_instances.new.store c.form_instances.result
    (form_of s c.args.earlier) (form_of s c.args.later) (form_of s c.in-Some.left) (form_of s c.in-Some.right)
    (ap (option_map (sides_of s)) (sym c.in-Some.is) ∙ c.opposites.ensures.value) c.form_instances.ensures.offers

pub returns-in-Some-clause-deep : goal.returns-in-Some-clause-deep
returns-in-Some-clause-deep c =
    let s = c.args.store.now in
    pair_deep (map symbol_tree c.args.symbols.now) (forms_of s c.args.params.now) c.args.equality c.requires.no_equality
    c.form_instances.new.store c.form_instances.result
    (form_of s c.args.earlier) (form_of s c.args.later) (form_of s c.in-Some.left) (form_of s c.in-Some.right)
    (ap (option_map (sides_of s)) (sym c.in-Some.is) ∙ c.opposites.ensures.value) c.form_instances.ensures.deep

pub returns-in-None-clause-offers : goal.returns-in-None-clause-offers
returns-in-None-clause-offers c =
    let s = c.args.store.now in
    no_pair (map symbol_tree c.args.symbols.now) (forms_of s c.args.params.now) c.args.equality s c.new.result c.new.ensures
    (form_of s c.args.earlier) (form_of s c.args.later) (ap (option_map (sides_of s)) (sym c.in-None.is) ∙ c.opposites.ensures.value)
