-- The ids so far stay while one more term is entered.
use Rattle.std.proofs.Common.{◌+◌, ◌<◌, ◌≤◌, List, [], ◌∷◌, ◌++◌, take, ap, sym, subst, ◌∙◌, arith, rules, IfOk}
use Rattle.zm_logic.specs.Tree as tree
use Rattle.zm_logic.specs.Measure.{term_depth, terms_depth}
use Rattle.zm_logic.specs.View.{term_tree, terms_tree, types_tree}
use Rattle.zm_logic.proofs.Lists.{with_term, terms_depth_more}
use Rattle.term_store.specs.declared.ids.TermId.{TermId}
use Rattle.term_store.specs.Change.{AreTermIds, IsTermId}
use Rattle.term_store.specs.Fault.{IfTooDeep}
use Rattle.term_store.proofs.Kept.{extends_more}
use Rattle.term_store.proofs.Stays.{term_ids_stay, term_ids_push, terms_tree_more, term_depth_within, if_deeper}
use Rattle.term_store.proofs.store.Store.+enter_within.Goals as goal

pub enter_terms-returns-in_err-id-clause-deep : goal.enter_terms-returns-in_err-id-clause-deep
enter_terms-returns-in_err-id-clause-deep t c =
    let ts = c.as_slice-term-items.result.now in
    let within = term_depth_within ts c.loop-term.term-index c.term-item.result c.loop-term-test.true in
    let same = ap (λ x. term_depth (term_tree x)) c.term-item.is in
    let all = ap (λ xs. terms_depth (terms_tree xs)) c.as_slice-term-items.ensures in
    let deep : IfTooDeep (c.args.room < terms_depth (terms_tree c.args.terms.now)) c.in_err-id.field-0.0 =
    if_deeper (c.args.room < term_depth (term_tree c.term-item.result)) _ (λ h. omega (arith, h, within, same, all)) c.in_err-id.field-0.0 c.in_err-id.ensures.deep in
    search rules

pub enter_terms-loop-term-preserved : goal.enter_terms-loop-term-preserved
enter_terms-loop-term-preserved t c =
    let ts = c.as_slice-term-items.result.now in
    let i = c.loop-term.term-index in
    let before = c.loop-term.invariant in
    let made = c.in_ok-id.ensures in
    let new = c.enter_within.new.self in
    let first = terms_tree (take i ts) in
    let kept = term_ids_stay c.loop-term.self new made.kept first c.loop-term.all before.made in
    let pushed = term_ids_push new first (term_tree c.term-item.result) c.loop-term.all c.in_ok-id.id kept made.made in
    let more = terms_tree_more ts i c.term-item.result c.loop-term-test.true in
    let whole = ap (λ x. with_term first (term_tree x)) c.term-item.is ∙ sym more in
    let depths = terms_depth_more ts i c.term-item.result c.loop-term-test.true in
    let same = ap (λ x. term_depth (term_tree x)) c.term-item.is in
    let As : tree.Terms → Type 0 = λ xs. AreTermIds new xs (c.loop-term.all ++ c.in_ok-id.id ∷ []) in
    let Ids : List TermId → Type 0 = λ is. AreTermIds new (terms_tree (take (i + 1) ts)) is in
    record {
      made = subst Ids (sym c.in_ok-push.ensures.ok) (subst As whole pushed);
      fits = omega (arith, depths, same, before.fits, made.fits);
      kept = extends_more c.args.self.now c.loop-term.self new before.kept made.kept;
    }

pub enter_app-enter_over-requires-clause-fits : goal.enter_app-enter_over-requires-clause-fits
enter_app-enter_over-requires-clause-fits t c =
    subst (λ x. terms_depth x ≤ c.args.room) (sym c.in_ok-terms.ensures.made.1) c.in_ok-terms.ensures.fits

pub enter_app-returns-clause-made : goal.enter_app-returns-clause-made
enter_app-returns-clause-made t c =
    let Q : tree.Terms → Type 0 = λ y. IfOk c.enter_over.result (IsTermId c.enter_over.new.self (tree.Term.app c.args.symbol.0 (types_tree c.args.types.now) y)) in
    subst Q c.in_ok-terms.ensures.made.1 c.enter_over.ensures.made
