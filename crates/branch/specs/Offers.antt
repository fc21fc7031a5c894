-- The offers of a branch: its raw offers, normalised, less those of which the branch has a child already; or the first
-- cause why one can't be made.
use Rattle.std.specs.Prelude.{ℕ, ◌≤◌, ◌<◌, ◌≡◌, Bool, true, false, ◌&&◌, ◌||◌, not, List, [], ◌∷◌, Option, Some, filter, sum_by, slice_get}
use Rattle.zm_logic.specs.Tree.{Form, Side}
use Rattle.zm_logic.specs.Measure as measure
use Rattle.zm_logic.specs.Same.{has}
use Rattle.branch.specs.Setting.{Setting}
use Rattle.branch.specs.Normal.{Fault, Made, Normalizes, MakesAll}
use Rattle.param_store.specs.RawOffers.{Act}
use Rattle.branch.specs.BranchOffers.{Kind, Placed, Entry, AreRawOffers}

-- a child of an offer: its formulas before and after normalising
pub record Child : Type 0 where
  pub raw : List Form
  pub normal : List Form

-- what may be done to a branch: what is acted on, the children, the places of the formulas that offer it, and the size
pub record Offer : Type 0 where
  pub kind : Kind
  pub act : Act
  pub children : List Child
  pub later : ℕ
  pub earlier : Option ℕ
  pub size : ℕ

-- the sum of the sizes of all formulas of all children
abbrev pub total_size : List Child → ℕ
total_size cs = sum_by (λ c. sum_by measure.size c.normal) cs

abbrev pub offer_of : Placed → List Child → Offer
offer_of p cs =
    record { kind = p.kind; act = p.raw.act; children = cs; later = p.later; earlier = p.earlier; size = total_size cs }

module _ (s : Setting) where
  -- a child's formula is refused where it is too deep, and else normalised
  pub data MakesForm (blamed : Form) : Form → Made Form → Type 0 where
    too_deep : {f : Form} → 2000 < measure.depth f → MakesForm blamed f (Made.fault (Fault.deep (Side.of_form blamed)))
    normal : {f : Form} {x : Made Form} → measure.depth f ≤ 2000 → Normalizes s f x → MakesForm blamed f x

  -- the formulas of a child, in order
  pub data MakesChild (blamed : Form) : List Form → Made Child → Type 0 where
    made : {r fs : List Form} → MakesAll (MakesForm blamed) r (Made.made fs)
        → MakesChild blamed r (Made.made (record { raw = r; normal = fs }))
    fault : {r : List Form} {e : Fault} → MakesAll (MakesForm blamed) r (Made.fault e) → MakesChild blamed r (Made.fault e)

  -- the children of a raw offer, in order; for bindings that are too deep no offer can be made
  pub data MakesOffer : Entry → Made Offer → Type 0 where
    made : {p : Placed} {cs : List Child} → MakesAll (MakesChild p.blamed) p.raw.children (Made.made cs)
        → MakesOffer (Entry.offer p) (Made.made (offer_of p cs))
    fault : {p : Placed} {e : Fault} → MakesAll (MakesChild p.blamed) p.raw.children (Made.fault e)
        → MakesOffer (Entry.offer p) (Made.fault e)
    unbound : {at : Side} → MakesOffer (Entry.unbound at) (Made.fault (Fault.deep at))

-- whether all formulas stand on the branch
abbrev pub has_all : List Form → List Form → Bool
has_all branch [] = true
has_all branch (f ∷ fs) = has branch f && has_all branch fs

-- whether some child has all its formulas on the branch
abbrev pub has_some : List Form → List (List Form) → Bool
has_some branch [] = false
has_some branch (c ∷ cs) = has_all branch c || has_some branch cs

abbrev pub normals : List Child → List (List Form)
normals [] = []
normals (c ∷ cs) = c.normal ∷ normals cs

-- An offer is listed only where none of its children has all its formulas on the branch.
abbrev pub is_useful : List Form → Offer → Bool
is_useful branch o = not (has_some branch (normals o.children))

-- all raw offers can be made, and these are left of them
pub record AreOffers (s : Setting) (table branch : List Form) (listed : List Offer) : Type 0 where
  pub entries : List Entry
  pub raw : AreRawOffers s table branch entries
  pub all : List Offer
  pub made : MakesAll (MakesOffer s) entries (Made.made all)
  pub useful : filter (is_useful branch) all ≡ listed

-- the first raw offer that can't be made has this fault
pub record HasFault (s : Setting) (table branch : List Form) (fault : Fault) : Type 0 where
  pub entries : List Entry
  pub raw : AreRawOffers s table branch entries
  pub first : MakesAll (MakesOffer s) entries (Made.fault fault)

-- the offer at a place of the branch's offers has this kind, act and children
pub record IsOfferAt (s : Setting) (table branch : List Form) (place : ℕ) (kind : Kind) (act : Act) (children : List Child) : Type 0 where
  pub listed : List Offer
  pub offers : AreOffers s table branch listed
  pub offer : Offer
  pub at : slice_get listed place ≡ Some offer
  pub same_kind : offer.kind ≡ kind
  pub same_act : offer.act ≡ act
  pub same_children : offer.children ≡ children
