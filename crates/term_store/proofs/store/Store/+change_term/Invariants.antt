use Rattle.std.proofs.Common.{◌+◌, ◌*◌, take}
use Rattle.zm_logic.specs.Measure.{term_depth, terms_depth}
use Rattle.term_store.specs.Node.{terms_at}
use Rattle.term_store.specs.Trees.{term_of, all_trees, Extends}
use Rattle.term_store.specs.Change.{change_of, changed_terms, AreTermIds, Knows}
use Rattle.term_store.proofs.store.Store.+change_term.Given as goal

abbrev pub decreases-change_term : goal.decreases-change_term
decreases-change_term l = 5 * term_depth (term_of l.self.now l.id) + 4

abbrev pub decreases-changed_term : goal.decreases-changed_term
decreases-changed_term l = 5 * term_depth (term_of l.self.now l.id) + 3

abbrev pub decreases-changed_app : goal.decreases-changed_app
decreases-changed_app l = 5 * terms_depth (terms_at (all_trees l.self.now).terms l.terms.now) + 7

abbrev pub decreases-change_terms : goal.decreases-change_terms
decreases-change_terms l = 5 * terms_depth (terms_at (all_trees l.self.now).terms l.ids.now) + 6

abbrev pub invariant-change_terms-loop-id : goal.invariant-change_terms-loop-id
invariant-change_terms-loop-id l = record {
  made : AreTermIds l.self (changed_terms l.at (change_of l.fn.self l.change) (terms_at (all_trees l.fn.self).terms (take l.id-index l.id-items))) l.all;
  kept : Extends l.fn.self l.self;
  knows : Knows l.self l.change l.memo;
}
