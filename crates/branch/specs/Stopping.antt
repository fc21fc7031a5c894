-- The root's branch, why a search stops, and the trees of its runs.
use Rattle.std.specs.Prelude.{ℕ, ◌<◌, ◌≡◌, ◌≢◌, List, [], ◌∷◌, ◌++◌, None, Some}
use Rattle.zm_logic.specs.Tree.{Form, Side}
use Rattle.branch.specs.Branch.{closing, extend}
use Rattle.branch.specs.Setting.{Setting}
use Rattle.branch.specs.Normal.{Fault, Made, Normalizes, MakesAll}
use Rattle.branch.specs.Offers.{Offer, AreOffers, HasFault}
use Rattle.branch.specs.Tableau.{Node, Leaf, IsTableau, current_leaf, count, picks}

-- The root's branch: the distinct normal forms of the given formulas, in order.
pub record IsRoot (s : Setting) (given root : List Form) : Type 0 where
  pub normal : List Form
  pub reached : MakesAll (Normalizes s) given (Made.made normal)
  pub distinct : extend [] normal ≡ root

pub data Cause : Type 0 where
  rewrites : (from : Form) → Cause
  deep : (at : Side) → Cause
  saturated : Cause
  steps : Cause
  branch_length : Cause

abbrev pub by_fault : Fault → Cause
by_fault (Fault.rewrites f) = Cause.rewrites f
by_fault (Fault.deep at) = Cause.deep at

-- the branch of a leaf has some offer
abbrev pub HasOffer : Setting → Leaf → Type 0
HasOffer s leaf = (os : List Offer) × AreOffers s leaf.table leaf.branch os × (os ≢ [])

-- Why no Step is put at an Open leaf, after so many Steps of a budget: an offer can't be made; the branch has no offer; all
-- Steps are spent; there are 512 Steps above.
abbrev pub StopsAt : Setting → ℕ → ℕ → Leaf → Cause → Type 0
StopsAt s budget used leaf (Cause.rewrites f) = HasFault s leaf.table leaf.branch (Fault.rewrites f)
StopsAt s budget used leaf (Cause.deep at) = HasFault s leaf.table leaf.branch (Fault.deep at)
StopsAt s budget used leaf Cause.saturated = AreOffers s leaf.table leaf.branch []
StopsAt s budget used leaf Cause.steps = HasOffer s leaf × (used ≡ budget)
StopsAt s budget used leaf Cause.branch_length = HasOffer s leaf × (used < budget) × (leaf.above ≡ 512)

-- the tree is stopped at its current branch, which isn't closed
pub record StopsInside (s : Setting) (given : List Form) (budget : ℕ) (tree : Node) (why : Cause) : Type 0 where
  pub root : List Form
  pub is_root : IsRoot s given root
  pub leaf : Leaf
  pub is_current : current_leaf root tree ≡ Some leaf
  pub unclosed : closing leaf.branch ≡ None
  pub stops : StopsAt s budget (count tree) leaf why

-- A given formula has no normal form: the tree is one Open leaf, whose branch has the distinct normal forms before it.
pub record StopsAtRoot (s : Setting) (given root : List Form) (fault : Fault) : Type 0 where
  pub before : List Form
  pub formula : Form
  pub after : List Form
  pub order : given ≡ before ++ formula ∷ after
  pub is_root : IsRoot s before root
  pub faulty : Normalizes s formula (Made.fault fault)

-- the tree of the given formulas is stopped, for this cause
pub data Stopped (s : Setting) (given : List Form) (budget : ℕ) : Node → Cause → Type 0 where
  inside : {tree : Node} {why : Cause} → StopsInside s given budget tree why → Stopped s given budget tree why
  at_root : {why : Cause} (root : List Form) (fault : Fault) → StopsAtRoot s given root fault → by_fault fault ≡ why
      → Stopped s given budget Node.opened why

-- The tree that a list of picks gives: its current branch, if there is one, isn't closed.
pub record IsRun (s : Setting) (root : List Form) (run : List ℕ) (tree : Node) : Type 0 where
  pub tableau : IsTableau s root tree
  pub picked : picks tree ≡ run
  pub unclosed : (leaf : Leaf) → current_leaf root tree ≡ Some leaf → closing leaf.branch ≡ None
