-- The terms keep their ids while the types are entered.
use Rattle.std.proofs.Common.{◌+◌, ◌<◌, max, ap, subst, IfOk, arith}
use Rattle.zm_logic.specs.Tree as tree
use Rattle.zm_logic.specs.Measure.{types_depth, terms_depth}
use Rattle.zm_logic.specs.View.{types_tree}
use Rattle.term_store.specs.Node.{types_at, terms_at}
use Rattle.term_store.specs.Trees.{all_trees}
use Rattle.term_store.specs.Change.{IsTermId}
use Rattle.term_store.proofs.Kept.{still_terms, kept_terms}
use Rattle.term_store.proofs.Stays.{err_deeper}
use Rattle.term_store.proofs.store.Store.enter_over.Goals as goal

pub put_term-requires : goal.put_term-requires
put_term-requires c =
    (c.in_ok-types.ensures.made.0, still_terms c.args.self.now c.enter_tys.new.self c.in_ok-types.ensures.kept c.args.terms c.requires.below)

pub returns-clause-made : goal.returns-clause-made
returns-clause-made c =
    let m = c.enter_tys.new.self in
    let terms = kept_terms c.args.self.now m c.in_ok-types.ensures.kept c.args.terms c.requires.below in
    let P : tree.Tys → Type 0 = λ x. IfOk c.put_term.result (IsTermId c.put_term.new.self (tree.Term.app c.args.symbol.0 x (terms_at (all_trees m).terms c.args.terms))) in
    let Q : tree.Terms → Type 0 = λ y. IfOk c.put_term.result (IsTermId c.put_term.new.self (tree.Term.app c.args.symbol.0 (types_tree c.args.types.now) y)) in
    subst Q terms (subst P c.in_ok-types.ensures.made.1 c.put_term.ensures.made)

pub returns-clause-deep : goal.returns-clause-deep
returns-clause-deep c =
    let m = c.enter_tys.new.self in
    let terms = ap terms_depth (kept_terms c.args.self.now m c.in_ok-types.ensures.kept c.args.terms c.requires.below) in
    let types = ap types_depth c.in_ok-types.ensures.made.1 in
    err_deeper (2000 < 1 + max (types_depth (types_at (all_trees m).types c.in_ok-types.types)) (terms_depth (terms_at (all_trees m).terms c.args.terms))) (c.args.room < types_depth (types_tree c.args.types.now))
    (λ h. omega (arith, h, terms, types, c.requires.fits, c.requires.room, c.in_ok-types.ensures.fits)) c.put_term.result c.put_term.ensures.deep
