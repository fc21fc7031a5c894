use Rattle.std.proofs.Common.{◌≤◌, map}
use Rattle.zm_logic.specs.View.{symbol_tree}
use Rattle.term_store.specs.Trees.{Extends}
use Rattle.param_store.specs.Depth.{deepest}
use Rattle.param_store.specs.View.{AreRaws}
use Rattle.equality_rules.proofs.Listing.{listed_to}
use Rattle.equality_rules.proofs.instances.instances.Given as goal

-- the bindings up to the index have given their instances
abbrev pub invariant-loop-binding : goal.invariant-loop-binding
invariant-loop-binding l = record {
  listed : AreRaws l.store (listed_to (map symbol_tree l.symbols) l.fn.store l.params l.bindings l.binding-index) l.offers;
  bounded : deepest (listed_to (map symbol_tree l.symbols) l.fn.store l.params l.bindings l.binding-index) ≤ 2000;
  kept : Extends l.fn.store l.store;
}
