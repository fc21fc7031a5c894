-- Offers over ids, as they are listed one after the other.
use Rattle.std.specs.Prelude.{◌≡◌, List, [], ◌∷◌, Option, None, Some}
use Rattle.zm_logic.specs.Tree as tree
use Rattle.term_store.specs.Trees.{Tables, HasForm, form_of}
use Rattle.term_store.specs.Open.{HasRedex, redex_of}
use Rattle.term_store.specs.declared.ids.FormId.{FormId}
use Rattle.term_store.specs.declared.opening.Redex.{Redex}
use Rattle.term_store.specs.declared.opening.Redex.TheVariants as redexes
use Rattle.param_store.specs.RawOffers.{Raw}
use Rattle.param_store.specs.View.{AreRaws}
use Rattle.param_store.specs.declared.offer.RawOffer.{RawOffer}
use Rattle.param_store.specs.declared.fault.OfferFault.{OfferFault}
use Rattle.param_store.specs.declared.fault.OfferFault.TheVariants as offer_faults
use Rattle.unify.specs.declared.binding.MguFault.{MguFault}
use Rattle.unify.specs.declared.binding.MguFault.TheVariants as faults
use Rattle.equality_rules.specs.Pairs.{Opposites}
use Rattle.equality_rules.specs.Refused.{IsFirstDeepOffer}

-- at most one offer, as a list
abbrev pub listed : Option RawOffer → List RawOffer
listed None = []
listed (Some r) = r ∷ []

-- the offer over ids, or none, is this
abbrev pub IsOffer : Tables → List Raw → Option RawOffer → Type 0
IsOffer s os r = AreRaws s os (listed r)

-- a formula that may be there is one of the store
abbrev pub HasSome : Tables → Option FormId → Type 0
HasSome s None = Unit {0}
HasSome s (Some f) = HasForm s f

-- the quantified formula of the first instance that is too deep is named
pub record NamesInstance (s : Tables) (offers : List Raw) (at : Redex) : Type 0 where
  pub form : tree.Form
  pub has : HasRedex s at
  pub named : redex_of s at ≡ tree.Side.of_form form
  pub first : (given : tree.Form) → IsFirstDeepOffer offers given form

-- the place is one of the store, and is refused
abbrev pub IsRefused : Tables → (tree.Side → Type 0) → Redex → Type 0
IsRefused s P at = HasRedex s at × P (redex_of s at)

-- the two sides that a unifier makes one
abbrev pub sides : Opposites → tree.Form × tree.Form
sides o = (o.left, o.right)

abbrev pub sides_of : Tables → FormId × FormId → tree.Form × tree.Form
sides_of s p = (form_of s p.0, form_of s p.1)

abbrev pub HasSides : Tables → FormId × FormId → Type 0
HasSides s p = HasForm s p.0 × HasForm s p.1

-- the fault of offers, from that of a unifier
abbrev pub fault_of : MguFault → OfferFault
fault_of faults.Memory = offer_faults.Memory
fault_of (faults.Deep at) = offer_faults.Deep (redexes.OfTerm at)
