-- Tableaux of the whole calculus, with the table of numbers and with pruning.
use Rattle.std.specs.Prelude.{ℕ, ◌+◌, ◌≤◌, max, Bool, true, false, ◌&&◌, ◌||◌, not, ◌≡◌, cond, List, [], ◌∷◌, ◌++◌, filter, Option, None, Some, option_to_list}
use Rattle.std.specs.Option.{option_or}
use Rattle.zm_logic.specs.Tree.{Form}
use Rattle.zm_logic.specs.Same.{has}
use Rattle.branch.specs.Branch.{Closing, closing, extend}
use Rattle.branch.specs.Setting.{Setting}
use Rattle.param_store.specs.RawOffers.{Act, is_quantified}
use Rattle.branch.specs.BranchOffers.{Kind}
use Rattle.branch.specs.Offers.{Child, IsOfferAt}

-- A node: a Step with the number of the offer that it takes, or a leaf.
mutual
  pub data Node : Type 0 where
    step : (pick : ℕ) (kind : Kind) (act : Act) (children : Children) → Node
    closed : Closing → Node
    opened : Node
    skipped : Node

  -- the children of a Step, each with the formulas that it brings, before and after normalising
  pub data Children : Type 0 where
    none : Children
    more : (raw normal : List Form) (node : Node) → Children → Children

-- the children as their offer has them
abbrev pub given : Children → List Child
given Children.none = []
given (Children.more r f n ns) = record { raw = r; normal = f } ∷ given ns

-- the number of Steps
abbrev mutual
  pub count : Node → ℕ
  count (Node.step k t a ns) = 1 + count_all ns
  count (Node.closed c) = 0
  count Node.opened = 0
  count Node.skipped = 0

  pub count_all : Children → ℕ
  count_all Children.none = 0
  count_all (Children.more r f n ns) = count n + count_all ns

-- the picks of the Steps, in preorder
abbrev mutual
  pub picks : Node → List ℕ
  picks (Node.step k t a ns) = k ∷ picks_all ns
  picks (Node.closed c) = []
  picks Node.opened = []
  picks Node.skipped = []

  pub picks_all : Children → List ℕ
  picks_all Children.none = []
  picks_all (Children.more r f n ns) = picks n ++ picks_all ns

-- the greatest number of Steps on a branch
abbrev mutual
  pub height : Node → ℕ
  height (Node.step k t a ns) = 1 + height_all ns
  height (Node.closed c) = 0
  height Node.opened = 0
  height Node.skipped = 0

  pub height_all : Children → ℕ
  height_all Children.none = 0
  height_all (Children.more r f n ns) = max (height n) (height_all ns)

-- whether no leaf is Open
abbrev mutual
  pub is_finished : Node → Bool
  is_finished (Node.step k t a ns) = are_finished ns
  is_finished (Node.closed c) = true
  is_finished Node.opened = false
  is_finished Node.skipped = true

  pub are_finished : Children → Bool
  are_finished Children.none = true
  are_finished (Children.more r f n ns) = is_finished n && are_finished ns

abbrev pub is_open : Node → Bool
is_open (Node.step k t a ns) = false
is_open (Node.closed c) = false
is_open Node.opened = true
is_open Node.skipped = false

-- whether each of the children is an Open leaf
abbrev pub are_open : Children → Bool
are_open Children.none = true
are_open (Children.more r f n ns) = is_open n && are_open ns

abbrev pub is_skipped : Node → Bool
is_skipped (Node.step k t a ns) = false
is_skipped (Node.closed c) = false
is_skipped Node.opened = false
is_skipped Node.skipped = true

-- Uses.

-- the formulas of a list that aren't on the branch
abbrev pub fresh : List Form → List Form → List Form
fresh branch fs = filter (λ f. not (has branch f)) fs

abbrev pub without : List Form → List Form → List Form
without fs used = filter (λ f. not (has fs f)) used

-- whether the lists have no formula in common
abbrev pub is_apart : List Form → List Form → Bool
is_apart [] used = true
is_apart (f ∷ fs) used = not (has used f) && is_apart fs used

-- the formulas that a Step acts on
abbrev pub acted : Act → List Form
acted a = a.first ∷ option_to_list a.second

-- A finished child is idle where it uses none of its new formulas.
abbrev pub is_idle : List Form → List Form → Node → List Form → Bool
is_idle branch normal node used = is_finished node && (not (is_skipped node) && is_apart (fresh branch normal) used)

abbrev pub used_or : Option (List Form) → List Form → List Form
used_or None used = used
used_or (Some idle) used = idle

-- What a finished node uses. A Step with an idle child uses what that child uses. Any other Step uses the formulas
-- that it acts on, and what its children use beyond their new formulas.
abbrev mutual
  pub uses : List Form → Node → List Form
  uses b (Node.step k t a ns) = used_or (idle_uses b ns) (acted a ++ uses_all b ns)
  uses b (Node.closed c) = c.first ∷ option_to_list c.second
  uses b Node.opened = []
  uses b Node.skipped = []

  pub uses_all : List Form → Children → List Form
  uses_all b Children.none = []
  uses_all b (Children.more r f n ns) = without (fresh b f) (uses (extend b f) n) ++ uses_all b ns

  -- what the first idle child uses
  pub idle_uses : List Form → Children → Option (List Form)
  idle_uses b Children.none = None
  idle_uses b (Children.more r f n ns) = cond (is_idle b f n (uses (extend b f) n)) (Some (uses (extend b f) n)) (idle_uses b ns)

-- the children after a finished one are skipped where it is idle, if tableaux are pruned at all
abbrev pub skips : Bool → List Form → List Form → Node → Bool
skips prunes b f n = is_idle b f n (uses (extend b f) n) && prunes

-- The table of numbers.

-- the quantified formulas that are placed on a branch get the next numbers, unless they have one
abbrev pub enter : List Form → List Form → List Form
enter table fs = extend table (filter is_quantified fs)

-- a Skipped child's branch isn't entered
abbrev pub enter_child : List Form → List Form → Node → List Form
enter_child table fs node = cond (is_skipped node) table (enter table fs)

-- the table after a node, from the table that its branch was entered with
abbrev mutual
  pub after : List Form → Node → List Form
  after table (Node.step k t a ns) = after_all table ns
  after table (Node.closed c) = table
  after table Node.opened = table
  after table Node.skipped = table

  pub after_all : List Form → Children → List Form
  after_all table Children.none = table
  after_all table (Children.more r f n ns) = after_all (after (enter_child table f n) n) ns

-- A node below a branch is lawful, with the table on entering it. Of the children of a Step those after an idle one are
-- Skipped and no others (none where tableaux aren't pruned), and those after one with an Open leaf are Open leaves.
abbrev mutual
  pub IsLawful : Setting → List Form → List Form → Node → Type 0
  IsLawful s table b (Node.step k t a ns) =
      (closing b ≡ None) × IsOfferAt s table b k t a (given ns) × AreLawful s table b false ns
  IsLawful s table b (Node.closed c) = closing b ≡ Some c
  IsLawful s table b Node.opened = Unit {0}
  IsLawful s table b Node.skipped = Unit {0}

  pub AreLawful : Setting → List Form → List Form → Bool → Children → Type 0
  AreLawful s table b skip Children.none = Unit {0}
  AreLawful s table b skip (Children.more r f n ns) =
      (is_skipped n ≡ skip)
      × IsLawful s (enter_child table f n) (extend b f) n
      × AreLawful s (after (enter_child table f n) n) b (skip || skips s.prunes b f n) ns
      × (is_finished n ≡ false → are_open ns ≡ true)

-- A branch where a leaf stands, the number of Steps above it, and the table there.
pub record Leaf : Type 0 where
  pub branch : List Form
  pub above : ℕ
  pub table : List Form

-- The first Open leaf from left to right, below a branch with so many Steps above. At the root its branch is the tree's
-- current branch.
abbrev mutual
  pub current : List Form → List Form → ℕ → Node → Option Leaf
  current table b d (Node.step k t a ns) = current_of table b (d + 1) ns
  current table b d (Node.closed c) = None
  current table b d Node.opened = Some (record { branch = b; above = d; table = table })
  current table b d Node.skipped = None

  pub current_of : List Form → List Form → ℕ → Children → Option Leaf
  current_of table b d Children.none = None
  current_of table b d (Children.more r f n ns) =
      option_or (current (enter_child table f n) (extend b f) d n) (current_of (after (enter_child table f n) n) b d ns)

-- A tableau below the root's branch. No branch has more than 512 Steps.
pub record IsTableau (s : Setting) (root : List Form) (tree : Node) : Type 0 where
  pub lawful : IsLawful s (enter [] root) root tree
  pub entered : is_skipped tree ≡ false
  pub high : height tree ≤ 512

-- the tree's current leaf
abbrev pub current_leaf : List Form → Node → Option Leaf
current_leaf root tree = current (enter [] root) root 0 tree
