-- What the definitions promise of one another. Each statement is the contract of a function of the module laws.
use Rattle.std.specs.Prelude.{ℕ, ◌+◌, ◌≤◌, ◌≡◌, ◌↔◌, true, false, List, [], ◌++◌, Some, None, All, map}
use Rattle.std.specs.List.{Contains}
use Rattle.zm_logic.specs.Tree.{Form, Problem}
use Rattle.zm_logic.specs.Parameter.{IsFreshForAll}
use Rattle.zm_logic.specs.Typing.{IsSignature}
use Rattle.zm_logic.specs.Problem.{IsTypedProblem}
use Rattle.zm_logic.specs.Calculus.{Derives}
use Rattle.zm_logic.specs.Truth.{IsQuantifierFree, refuted}
use Rattle.param_store.specs.RawOffers.{Act, number_of}
use Rattle.branch.specs.Branch.{closing}
use Rattle.branch.specs.Setting.{Setting}
use Rattle.branch.specs.Normal.{Fault}
use Rattle.branch.specs.Sound.{IsSound, AreGiven}
use Rattle.branch.specs.BranchOffers.{Kind, Placed, Entry, AreRawOffers}
use Rattle.branch.specs.Offered.{Offered}
use Rattle.branch.specs.Offers.{Child, Offer, AreOffers, HasFault, IsOfferAt}
use Rattle.branch.specs.Tableau.{Node, Children, Leaf, IsLawful, IsTableau, enter, current, current_leaf, is_finished, is_skipped, count, picks, height}
use Rattle.branch.specs.Stopping.{IsRoot, Cause, Stopped, IsRun}
use Rattle.branch.specs.Introduced.{HasFacts, Above}
use Rattle.branch.specs.Facts.{EachBranch}
use Rattle.branch.specs.Replaced.{opening, replaced}
use Rattle.branch.specs.QuantifierFree.{AreQuantifierFree, AreShallow, splits, useful_splits}

-- each raw offer of a branch is one by the rules
abbrev pub RawOffersAreByRule : Type 0
RawOffersAreByRule =
    (s : Setting) (table branch : List Form) (entries : List Entry) → AreRawOffers s table branch entries
    → (p : Placed) → Contains entries (Entry.offer p) → Offered s table branch p.kind p.raw.act p.raw.children

-- without rules nothing has to be asked of a setting but its signature
abbrev pub SignaturesAloneAreSound : Type 0
SignaturesAloneAreSound = (s : Setting) → IsSignature s.symbols → s.rules ≡ [] → IsSound s

-- the root's branch is well typed and without parameters, as the given formulas are
abbrev pub RootsAreGiven : Type 0
RootsAreGiven = (s : Setting) (given root : List Form) → IsSound s → AreGiven s given → IsRoot s given root → AreGiven s root

-- on each branch of a tableau each formula is well typed, and each parameter has the Step above that introduced it
abbrev pub FactsHoldOnEachBranch : Type 0
FactsHoldOnEachBranch =
    (s : Setting) (root : List Form) (tree : Node) → IsSound s → AreGiven s root → IsTableau s root tree
    → EachBranch (HasFacts s) (enter [] root) [] root tree

-- so they hold on the branch of the current leaf
abbrev pub FactsHoldAtTheCurrentLeaf : Type 0
FactsHoldAtTheCurrentLeaf =
    (s : Setting) (root : List Form) (tree : Node) (leaf : Leaf) → IsSound s → AreGiven s root → IsTableau s root tree
    → current_leaf root tree ≡ Some leaf → (above : List Above) × HasFacts s leaf.table above leaf.branch

-- the number of a delta offer doesn't occur on its branch
abbrev pub DeltaNumbersAreFresh : Type 0
DeltaNumbersAreFresh =
    (s : Setting) (table : List Form) (above : List Above) (branch : List Form) (place : ℕ) (act : Act) (children : List Child)
    → IsSound s → HasFacts s table above branch → IsOfferAt s table branch place Kind.delta act children
    → IsFreshForAll (number_of table act.first) branch

-- a tableau without an Open leaf gives a derivation of the given formulas, as they were before normalising
abbrev pub ClosedTableauxGiveDerivations : Type 0
ClosedTableauxGiveDerivations =
    (s : Setting) (given root : List Form) (tree : Node) → IsSound s → AreGiven s given → IsRoot s given root
    → IsTableau s root tree → is_finished tree ≡ true → Derives s.symbols s.rules given

-- so it does for a typed problem, without rules
abbrev pub ClosedTableauxProveProblems : Type 0
ClosedTableauxProveProblems =
    (problem : Problem) (s : Setting) (root : List Form) (tree : Node) → IsTypedProblem problem
    → s.symbols ≡ problem.symbols → s.rules ≡ [] → IsRoot s (refuted problem) root
    → IsTableau s root tree → is_finished tree ≡ true → Derives problem.symbols [] (refuted problem)

-- a branch has one list of offers
abbrev pub OffersAreDetermined : Type 0
OffersAreDetermined =
    (s : Setting) (table : List Form) (above : List Above) (branch : List Form) (offers also : List Offer)
    → IsSound s → HasFacts s table above branch → AreOffers s table branch offers → AreOffers s table branch also → offers ≡ also

-- two tableaux with the same picks, whose current branches aren't closed, are one
abbrev pub PicksDetermineTheTree : Type 0
PicksDetermineTheTree =
    (s : Setting) (root : List Form) (run : List ℕ) (tree also : Node) → IsSound s → AreGiven s root
    → IsRun s root run tree → IsRun s root run also → tree ≡ also

-- a tree stops for one cause. It is a tableau below the root's branch, if the given formulas have normal forms.
abbrev pub CausesAreDetermined : Type 0
CausesAreDetermined =
    (s : Setting) (given : List Form) (budget : ℕ) (tree : Node) (why also : Cause)
    → IsSound s → AreGiven s given → ((root : List Form) → IsRoot s given root → IsTableau s root tree)
    → Stopped s given budget tree why → Stopped s given budget tree also → why ≡ also

-- some leaf is Open exactly where there is a current leaf
abbrev pub OpenTableauxHaveACurrentLeaf : Type 0
OpenTableauxHaveACurrentLeaf =
    (root : List Form) (tree : Node) → (is_finished tree ≡ false) ↔ ((leaf : Leaf) × (current_leaf root tree ≡ Some leaf))

-- a Step with Open children that takes an offer of an unclosed branch is lawful
abbrev pub StepsAreLawful : Type 0
StepsAreLawful =
    (s : Setting) (table branch : List Form) (place : ℕ) (kind : Kind) (act : Act) (children : List Child)
    → closing branch ≡ None → IsOfferAt s table branch place kind act children
    → IsLawful s table branch (Node.step place kind act (opening children))

-- the tableau that a lawful node makes in the place of the current leaf
pub record IsGrown (s : Setting) (root : List Form) (tree node grown : Node) : Type 0 where
  pub tableau : IsTableau s root grown
  pub picked : picks grown ≡ picks tree ++ picks node
  pub counted : count grown ≡ count tree + count node

-- a lawful node in the place of the current leaf leaves a tableau, with the node's picks behind the tree's
abbrev pub LeavesMayBeReplaced : Type 0
LeavesMayBeReplaced =
    (s : Setting) (root : List Form) (tree node : Node) (leaf : Leaf) → IsTableau s root tree → current_leaf root tree ≡ Some leaf
    → is_skipped node ≡ false → IsLawful s leaf.table leaf.branch node → leaf.above + height node ≤ 512
    → IsGrown s root tree node (replaced s.prunes root node tree)

-- and where the node has an Open leaf, its first one is the current leaf then
abbrev pub ReplacedLeavesAreCurrent : Type 0
ReplacedLeavesAreCurrent =
    (s : Setting) (root : List Form) (tree node : Node) (leaf : Leaf) → current_leaf root tree ≡ Some leaf → is_finished node ≡ false
    → current_leaf root (replaced s.prunes root node tree) ≡ current leaf.table leaf.branch leaf.above node

-- no node is Skipped
abbrev mutual
  pub HasNoSkipped : Node → Type 0
  HasNoSkipped (Node.step k t a ns) = HaveNoSkipped ns
  HasNoSkipped (Node.closed c) = Unit {0}
  HasNoSkipped Node.opened = Unit {0}
  HasNoSkipped Node.skipped = ⊥

  pub HaveNoSkipped : Children → Type 0
  HaveNoSkipped Children.none = Unit {0}
  HaveNoSkipped (Children.more r f n ns) = HasNoSkipped n × HaveNoSkipped ns

-- where tableaux aren't pruned, no node is Skipped
abbrev pub UnprunedTableauxHaveNoSkipped : Type 0
UnprunedTableauxHaveNoSkipped = (s : Setting) (root : List Form) (tree : Node) → s.prunes ≡ false → IsTableau s root tree → HasNoSkipped tree

-- a branch without quantifiers, equality and parameters has its alpha and beta formulas as raw offers, and no others
abbrev pub QuantifierFreeBranchesSplit : Type 0
QuantifierFreeBranchesSplit =
    (s : Setting) (table branch : List Form) (entries : List Entry) → AreQuantifierFree branch
    → AreRawOffers s table branch entries ↔ (entries ≡ map Entry.offer (splits branch))

-- so without rules the useful ones are its offers
abbrev pub QuantifierFreeOffersAreSplits : Type 0
QuantifierFreeOffersAreSplits =
    (s : Setting) (table branch : List Form) (offers : List Offer) → s.rules ≡ [] → AreQuantifierFree branch
    → AreOffers s table branch offers → offers ≡ useful_splits branch

-- they are its offers where no formula is deeper than 2,000
abbrev pub ShallowSplitsAreOffers : Type 0
ShallowSplitsAreOffers =
    (s : Setting) (table branch : List Form) → s.rules ≡ [] → AreQuantifierFree branch → AreShallow branch
    → AreOffers s table branch (useful_splits branch)

-- and each raw offer can be made then
abbrev pub ShallowSplitsHaveNoFault : Type 0
ShallowSplitsHaveNoFault =
    (s : Setting) (table branch : List Form) (fault : Fault) → s.rules ≡ [] → AreQuantifierFree branch → AreShallow branch
    → HasFault s table branch fault → ⊥

-- without rules each branch of a tableau is such a one, if the root's is
abbrev pub TableauxStayQuantifierFree : Type 0
TableauxStayQuantifierFree =
    (s : Setting) (root : List Form) (tree : Node) → s.rules ≡ [] → AreQuantifierFree root → AreShallow root → IsTableau s root tree
    → EachBranch (λ table above branch. AreQuantifierFree branch × AreShallow branch) (enter [] root) [] root tree

-- and the root's is one for a typed problem without quantifiers and equality
abbrev pub RootsAreQuantifierFree : Type 0
RootsAreQuantifierFree =
    (problem : Problem) (s : Setting) (root : List Form) → IsTypedProblem problem → All IsQuantifierFree (refuted problem)
    → s.rules ≡ [] → IsRoot s (refuted problem) root → AreQuantifierFree root × AreShallow root
