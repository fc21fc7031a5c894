use Rattle.std.proofs.Common.{◌+◌, ◌*◌, ◌≤◌, take}
use Rattle.zm_logic.specs.Measure.{terms_depth}
use Rattle.zm_logic.specs.View.{terms_tree}
use Rattle.term_store.specs.Trees.{Extends}
use Rattle.term_store.specs.Change.{AreTermIds}
use Rattle.term_store.proofs.store.Store.+enter_within.Given as goal

abbrev pub decreases-enter_within : goal.decreases-enter_within
decreases-enter_within l = 3 * l.room

abbrev pub decreases-enter_app : goal.decreases-enter_app
decreases-enter_app l = 3 * l.room + 2

abbrev pub decreases-enter_terms : goal.decreases-enter_terms
decreases-enter_terms l = 3 * l.room + 1

abbrev pub invariant-enter_terms-loop-term : goal.invariant-enter_terms-loop-term
invariant-enter_terms-loop-term l = record {
  made : AreTermIds l.self (terms_tree (take l.term-index l.term-items)) l.all;
  fits : terms_depth (terms_tree (take l.term-index l.term-items)) ≤ l.room;
  kept : Extends l.fn.self l.self;
}
