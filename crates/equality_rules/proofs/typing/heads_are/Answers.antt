use Rattle.std.proofs.Common.{◌≡◌, false, get_or, length, map, sym, ap, ◌∙◌, arith}
use Rattle.zm_logic.specs.View.{symbol_tree, types_tree}
use Rattle.term_store.specs.Trees.{all_trees}
use Rattle.term_store.specs.Node.{types_at, terms_at}
use Rattle.equality_rules.specs.Heads as heads
use Rattle.equality_rules.proofs.Pairwise.{pairs_unequal, pairs_end, pairs_no}
use Rattle.equality_rules.proofs.Lists.{head_test, heads_pairwise}
use Rattle.equality_rules.proofs.typing.heads_are.Goals as goal

pub returns-then-wanted-terms : goal.returns-then-wanted-terms
returns-then-wanted-terms c =
    let ss = map symbol_tree c.args.symbols.now in
    let U = (all_trees c.args.store.now).terms in
    let ts = types_at (all_trees c.args.store.now).types c.args.wanted_types.now in
    sym (heads_pairwise ss U ts c.args.wanted.now c.args.terms.now
    ∙ pairs_unequal (head_test ss U ts) c.args.wanted.now c.args.terms.now (λ e. c.if-wanted-terms.true (ap length c.as_slice-wanted.ensures ∙ e)))

pub returns-then-not-head_is : goal.returns-then-not-head_is
returns-then-not-head_is c =
    let ss = map symbol_tree c.args.symbols.now in
    let U = (all_trees c.args.store.now).terms in
    let ts = types_at (all_trees c.args.store.now).types c.args.wanted_types.now in
    let xs = c.as_slice-wanted.result.now in
    let is = c.args.terms.now in
    let i = c.loop-i.i in
    let x = c.index-wanted-i.result in
    let no : head_test ss U ts (get_or xs i x) (get_or is i (record { 0 = 0 })) ≡ false =
    ap (λ y. head_test ss U ts y (get_or is i (record { 0 = 0 }))) (sym c.index-wanted-i.is) ∙ sym c.head_is.ensures ∙ c.if-not-head_is.true in
    sym (ap (λ ys. heads.heads_are ss (terms_at U is) (heads.instances_at ts (types_tree ys))) (sym c.as_slice-wanted.ensures)
    ∙ heads_pairwise ss U ts xs is ∙ sym c.loop-i.invariant.rest
    ∙ pairs_no (head_test ss U ts) xs is i x (record { 0 = 0 }) (omega (arith, c.loop-i-test.true))
    (omega (arith, c.loop-i-test.true, c.loop-i.invariant.lengths)) no)

pub returns : goal.returns
returns c =
    let ss = map symbol_tree c.args.symbols.now in
    let U = (all_trees c.args.store.now).terms in
    let ts = types_at (all_trees c.args.store.now).types c.args.wanted_types.now in
    let xs = c.as_slice-wanted.result.now in
    let is = c.args.terms.now in
    sym (ap (λ ys. heads.heads_are ss (terms_at U is) (heads.instances_at ts (types_tree ys))) (sym c.as_slice-wanted.ensures)
    ∙ heads_pairwise ss U ts xs is ∙ sym c.loop-i.invariant.rest
    ∙ pairs_end (head_test ss U ts) xs is c.loop-i.i (omega (arith, c.loop-i-test.false)) (omega (arith, c.loop-i-test.false, c.loop-i.invariant.lengths)))
