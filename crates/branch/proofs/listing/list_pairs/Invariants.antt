use Rattle.std.proofs.Common.{◌≤◌, map, take}
use Rattle.zm_logic.specs.View.{symbol_tree}
use Rattle.term_store.specs.Trees.{Extends}
use Rattle.branch.specs.Left.{PairsTo}
use Rattle.branch.specs.Listing.{AddsPart}
use Rattle.branch.specs.Sizes.{KnowsSizes}
use Rattle.branch.proofs.Skipped.{behind}
use Rattle.branch.proofs.listing.list_pairs.Given as goal

-- what the formula gives with those before the place is listed
abbrev pub invariant-loop-earlier : goal.invariant-loop-earlier
invariant-loop-earlier l = record {
  adds : AddsPart (PairsTo l.later (behind 0 (take l.earlier-index l.places))) l.fn.store l.store (map symbol_tree l.symbols) l.params l.forms l.fn.listing.offers
      l.listing.offers;
  low : behind 0 (take l.earlier-index l.places) ≤ l.later;
  knows : KnowsSizes l.store l.listing.sizes;
  kept : Extends l.fn.store l.store;
}
