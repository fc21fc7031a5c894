use Rattle.std.proofs.Common.{◌≡◌, [], map}
use Rattle.zm_logic.specs.View.{symbol_tree}
use Rattle.term_store.specs.Trees.{Extends}
use Rattle.branch.specs.Left.{PlacesTo}
use Rattle.branch.specs.Listing.{AddsPart}
use Rattle.branch.specs.Sizes.{KnowsSizes}
use Rattle.branch.proofs.listing.listed_offers.Given as goal

-- what the formulas before the place give is listed
abbrev pub invariant-loop-later : goal.invariant-loop-later
invariant-loop-later l = record {
  adds : AddsPart (PlacesTo l.later) l.fn.store l.store (map symbol_tree l.symbols) l.fn.params l.forms [] l.listing.offers;
  knows : KnowsSizes l.store l.listing.sizes;
  kept : Extends l.fn.store l.store;
  params : l.params ≡ l.fn.params;
}
