use Rattle.std.proofs.Common.{◌≡◌, List, ◌++◌, length, map}
use Rattle.param_store.specs.View.{forms_of, raw_of, HasRaws}
use Rattle.branch.specs.Ids.{kind_of}
use Rattle.branch.specs.Left.{offers_at}
use Rattle.branch.specs.Listed.{AreListed}
use Rattle.branch.specs.Offers.{Offer}
use Rattle.branch.specs.Sizes.{KnowsSizes}
use Rattle.branch.proofs.Useful.{RestListed}
use Rattle.branch.proofs.listed.put_all.Given as goal

-- what is left of the raw offers that were taken out is listed
abbrev pub invariant-loop-alloc : goal.invariant-loop-alloc
invariant-loop-alloc l = record {
  listed : (os : List Offer) → AreListed l.store os l.fn.listing.offers
      → RestListed l.store (forms_of l.store l.found) (kind_of l.place.kind) l.place.later l.place.earlier os (map (raw_of l.store) l.initial.raws)
      (map (raw_of l.store) l.raws) l.listing.offers;
  has : HasRaws l.store l.raws;
  knows : KnowsSizes l.store l.listing.sizes;
}

abbrev pub decreases-loop-alloc : goal.decreases-loop-alloc
decreases-loop-alloc l = length l.raws
