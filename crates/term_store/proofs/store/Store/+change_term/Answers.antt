-- What was made stays while more is made.
use Rattle.std.proofs.Common.{◌+◌, ◌<◌, List, [], ◌∷◌, ◌++◌, get_or, length, take, ap, sym, subst, max, arith, rules, IfOk, IfErr}
use Rattle.zm_logic.specs.Tree as tree
use Rattle.zm_logic.specs.Measure.{types_depth, term_depth, terms_depth}
use Rattle.term_store.specs.declared.ids.TermId.{TermId}
use Rattle.term_store.specs.Node.{TermsBelow, terms_at}
use Rattle.term_store.specs.Trees.{term_of, all_trees}
use Rattle.term_store.specs.Change.{types_after, changed_term, changed_terms, change_of, IsTermId, AreTermIds}
use Rattle.term_store.specs.Fault.{IfTooDeep}
use Rattle.term_store.proofs.Loops.{term_below_at}
use Rattle.term_store.proofs.Kept.{extends_more, still_term, still_types, kept_term}
use Rattle.term_store.proofs.Stays.{term_ids_stay, term_ids_push, if_deeper, term_depth_at_within}
use Rattle.term_store.proofs.Changes.{change_stays, term_goal, types_goal, terms_noted, changed_terms_more, changed_term_within}
use Rattle.term_store.proofs.store.Store.+change_term.Goals as goal

pub change_term-returns-in-Some-clause-made : goal.change_term-returns-in-Some-clause-made
change_term-returns-in-Some-clause-made t c = (c.requires.knows.terms _ c.in-Some.made (sym c.in-Some.ensures)).1

pub change_term-returns-clause-knows : goal.change_term-returns-clause-knows
change_term-returns-clause-knows t c =
    let s = c.args.self.now in
    let now = c.changed_term.new.self in
    let made = c.in_ok-made.ensures in
    let same = term_goal s now made.kept c.args.change.now c.requires.part c.args.at c.args.id c.requires.has in
    let here = subst (λ x. IsTermId now x c.in_ok-made.made) (sym same) made.made in
    let has = still_term s now made.kept c.args.id c.requires.has in
    let map = c.changed_term.new.memo in
    record {
      types = made.knows.types;
      terms = terms_noted map.terms c.note.new.made _ c.in_ok-made.made.0 c.in_ok-note.ensures.noted now c.args.change.now made.knows.terms (has, here);
      forms = made.knows.forms;
    }

pub change_terms-change_term-requires : goal.change_terms-change_term-requires
change_terms-change_term-requires t c =
    let s = c.args.self.now in
    let m = c.loop-id.self in
    let ids = c.as_slice-id-items.result.now in
    let id = get_or ids c.loop-id.id-index (record { 0 = 0 }) in
    let kept = c.loop-id.invariant.kept in
    let below = subst (TermsBelow (length s.terms)) (sym c.as_slice-id-items.ensures) c.requires.below in
    let has = term_below_at (length s.terms) ids below c.loop-id.id-index (record { 0 = 0 }) c.loop-id-test.true in
    let same = ap term_depth (kept_term s m kept id has) in
    let less = term_depth_at_within (all_trees s).terms ids c.loop-id.id-index (record { 0 = 0 }) c.loop-id-test.true in
    let whole = ap (λ is. terms_depth (terms_at (all_trees s).terms is)) c.as_slice-id-items.ensures in
    (omega (arith, same, less, whole, c.decreases), (still_term s m kept id has, (change_stays s m kept c.args.change.now c.requires.part, c.loop-id.invariant.knows)))

pub change_terms-returns-in_err-changed-clause-deep : goal.change_terms-returns-in_err-changed-clause-deep
change_terms-returns-in_err-changed-clause-deep t c =
    let s = c.args.self.now in
    let m = c.loop-id.self in
    let ids = c.as_slice-id-items.result.now in
    let id = get_or ids c.loop-id.id-index (record { 0 = 0 }) in
    let below = subst (TermsBelow (length s.terms)) (sym c.as_slice-id-items.ensures) c.requires.below in
    let has = term_below_at (length s.terms) ids below c.loop-id.id-index (record { 0 = 0 }) c.loop-id-test.true in
    let same = ap term_depth (term_goal s m c.loop-id.invariant.kept c.args.change.now c.requires.part c.args.at id has) in
    let within = changed_term_within c.args.at (change_of s c.args.change.now) (all_trees s).terms ids c.loop-id.id-index (record { 0 = 0 }) c.loop-id-test.true in
    let all = ap (λ is. terms_depth (changed_terms c.args.at (change_of s c.args.change.now) (terms_at (all_trees s).terms is))) c.as_slice-id-items.ensures in
    let deep : IfTooDeep (2000 < terms_depth (changed_terms c.args.at (change_of s c.args.change.now) (terms_at (all_trees s).terms c.args.ids.now))) c.in_err-changed.field-0.0 =
    if_deeper (2000 < term_depth (changed_term c.args.at (change_of m c.args.change.now) (term_of m id))) _ (λ h. omega (arith, h, same, within, all)) c.in_err-changed.field-0.0 c.in_err-changed.ensures.deep in
    search rules

pub change_terms-returns-in_err-push-clause-kept : goal.change_terms-returns-in_err-push-clause-kept
change_terms-returns-in_err-push-clause-kept t c =
    extends_more c.args.self.now c.loop-id.self c.change_term.new.self c.loop-id.invariant.kept c.in_ok-changed.ensures.kept

pub change_terms-loop-id-preserved : goal.change_terms-loop-id-preserved
change_terms-loop-id-preserved t c =
    let s = c.args.self.now in
    let m = c.loop-id.self in
    let n = c.change_term.new.self in
    let before = c.loop-id.invariant in
    let made = c.in_ok-changed.ensures in
    let ids = c.as_slice-id-items.result.now in
    let i = c.loop-id.id-index in
    let id = get_or ids i (record { 0 = 0 }) in
    let below = subst (TermsBelow (length s.terms)) (sym c.as_slice-id-items.ensures) c.requires.below in
    let has = term_below_at (length s.terms) ids below i (record { 0 = 0 }) c.loop-id-test.true in
    let goal = changed_term c.args.at (change_of s c.args.change.now) (term_of s id) in
    let same = term_goal s m before.kept c.args.change.now c.requires.part c.args.at id has in
    let here = subst (λ x. IsTermId n x c.in_ok-changed.changed) same made.made in
    let first = changed_terms c.args.at (change_of s c.args.change.now) (terms_at (all_trees s).terms (take i ids)) in
    let still = term_ids_stay m n made.kept first c.loop-id.all before.made in
    let pushed = term_ids_push n first goal c.loop-id.all c.in_ok-changed.changed still here in
    let whole = changed_terms_more c.args.at (change_of s c.args.change.now) (all_trees s).terms ids i (record { 0 = 0 }) c.loop-id-test.true in
    let As : tree.Terms → Type 0 = λ xs. AreTermIds n xs (c.loop-id.all ++ c.in_ok-changed.changed ∷ []) in
    let Ids : List TermId → Type 0 = λ is. AreTermIds n (changed_terms c.args.at (change_of s c.args.change.now) (terms_at (all_trees s).terms (take (i + 1) ids))) is in
    record {
      made = subst Ids (sym c.in_ok-push.ensures.ok) (subst As whole pushed);
      kept = extends_more s m n before.kept made.kept;
      knows = made.knows;
    }

pub changed_app-put_app-requires-clause-below : goal.changed_app-put_app-requires-clause-below
changed_app-put_app-requires-clause-below t c =
    still_types c.args.self.now c.change_terms.new.self c.in_ok-terms.ensures.kept c.args.types.now c.requires.below

pub changed_app-put_app-requires-clause-part : goal.changed_app-put_app-requires-clause-part
changed_app-put_app-requires-clause-part t c =
    change_stays c.args.self.now c.change_terms.new.self c.in_ok-terms.ensures.kept c.args.change.now c.requires.part

pub changed_app-returns-clause-made : goal.changed_app-returns-clause-made
changed_app-returns-clause-made t c =
    let s = c.args.self.now in
    let m = c.change_terms.new.self in
    let types = types_goal s m c.in_ok-terms.ensures.kept c.args.change.now c.requires.part c.args.at c.args.types.now c.requires.below in
    let made = c.in_ok-terms.ensures.made.1 in
    let P : tree.Tys → Type 0 = λ x. IfOk c.put_app.result (IsTermId c.put_app.new.self (tree.Term.app c.args.symbol.0 x (terms_at (all_trees m).terms c.in_ok-terms.terms))) in
    let Q : tree.Terms → Type 0 = λ y. IfOk c.put_app.result (IsTermId c.put_app.new.self (tree.Term.app c.args.symbol.0 (types_after s c.args.change.now c.args.at c.args.types.now) y)) in
    subst Q made (subst P types c.put_app.ensures.made)

pub changed_app-returns-clause-deep : goal.changed_app-returns-clause-deep
changed_app-returns-clause-deep t c =
    let s = c.args.self.now in
    let m = c.change_terms.new.self in
    let types = types_goal s m c.in_ok-terms.ensures.kept c.args.change.now c.requires.part c.args.at c.args.types.now c.requires.below in
    let made = c.in_ok-terms.ensures.made.1 in
    let P : tree.Tys → Type 0 = λ x. IfErr c.put_app.result (IfTooDeep (2000 < 1 + max (types_depth x) (terms_depth (terms_at (all_trees m).terms c.in_ok-terms.terms)))) in
    let Q : tree.Terms → Type 0 = λ y. IfErr c.put_app.result (IfTooDeep (2000 < 1 + max (types_depth (types_after s c.args.change.now c.args.at c.args.types.now)) (terms_depth y))) in
    subst Q made (subst P types c.put_app.ensures.deep)
