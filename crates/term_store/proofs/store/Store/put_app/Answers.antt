-- The changed terms keep their ids while the types are changed.
use Rattle.std.proofs.Common.{◌+◌, ◌<◌, max, subst, IfOk, IfErr}
use Rattle.zm_logic.specs.Tree as tree
use Rattle.zm_logic.specs.Measure.{types_depth, terms_depth}
use Rattle.term_store.specs.Node.{terms_at}
use Rattle.term_store.specs.Trees.{all_trees}
use Rattle.term_store.specs.Change.{types_after, IsTermId}
use Rattle.term_store.specs.Fault.{IfTooDeep}
use Rattle.term_store.proofs.Kept.{still_terms, kept_terms}
use Rattle.term_store.proofs.Stays.{on_ok}
use Rattle.term_store.proofs.Changes.{change_stays, knows_stays}
use Rattle.term_store.proofs.store.Store.put_app.Goals as goal

pub put_term-requires : goal.put_term-requires
put_term-requires c =
    (c.in_ok-types.ensures.made.0, still_terms c.args.self.now c.change_tys.new.self c.in_ok-types.ensures.kept c.args.terms c.requires.terms_below)

pub returns-clause-made : goal.returns-clause-made
returns-clause-made c =
    let s = c.args.self.now in
    let m = c.change_tys.new.self in
    let terms = kept_terms s m c.in_ok-types.ensures.kept c.args.terms c.requires.terms_below in
    let types = c.in_ok-types.ensures.made.1 in
    let P : tree.Tys → Type 0 = λ x. IfOk c.put_term.result (IsTermId c.put_term.new.self (tree.Term.app c.args.symbol.0 x (terms_at (all_trees m).terms c.args.terms))) in
    let Q : tree.Terms → Type 0 = λ y. IfOk c.put_term.result (IsTermId c.put_term.new.self (tree.Term.app c.args.symbol.0 (types_after s c.args.change.now c.args.at c.args.types.now) y)) in
    subst Q terms (subst P types c.put_term.ensures.made)

pub returns-clause-deep : goal.returns-clause-deep
returns-clause-deep c =
    let s = c.args.self.now in
    let m = c.change_tys.new.self in
    let terms = kept_terms s m c.in_ok-types.ensures.kept c.args.terms c.requires.terms_below in
    let types = c.in_ok-types.ensures.made.1 in
    let P : tree.Tys → Type 0 = λ x. IfErr c.put_term.result (IfTooDeep (2000 < 1 + max (types_depth x) (terms_depth (terms_at (all_trees m).terms c.args.terms)))) in
    let Q : tree.Terms → Type 0 = λ y. IfErr c.put_term.result (IfTooDeep (2000 < 1 + max (types_depth (types_after s c.args.change.now c.args.at c.args.types.now)) (terms_depth y))) in
    subst Q terms (subst P types c.put_term.ensures.deep)

pub returns-clause-knows : goal.returns-clause-knows
returns-clause-knows c =
    let changed = c.in_ok-types.ensures in
    let part = change_stays c.args.self.now c.change_tys.new.self changed.kept c.args.change.now c.requires.part in
    let knows = knows_stays c.change_tys.new.self c.put_term.new.self c.put_term.ensures.kept c.args.change.now part c.change_tys.new.memo changed.knows in
    on_ok knows c.put_term.result
