-- What the walk over a tableau's nodes answers.
use Rattle.std.specs.Prelude.{◌≡◌, Bool, true, false, cond, List, [], ◌∷◌, ◌++◌, Option, None, Some}
use Rattle.zm_logic.specs.Tree.{Form}
use Rattle.zm_logic.specs.Same.{same}
use Rattle.term_store.specs.Trees.{Tables}
use Rattle.term_store.specs.declared.ids.FormId.{FormId}
use Rattle.param_store.specs.RawOffers.{Act}
use Rattle.param_store.specs.View.{forms_of, HasForms}
use Rattle.branch.specs.Branch.{Closing, extend}
use Rattle.branch.specs.Ids as ids
use Rattle.branch.specs.Tableau.{fresh, without, is_idle, uses, uses_all, idle_uses}
use Rattle.sequent_proof.specs.Rules.{RuleName}
use Rattle.sequent_proof.specs.Tree.{DTree, DTrees}
use Rattle.sequent_proof.specs.View.{tree_of, trees_of}
use Rattle.sequent_proof.specs.declared.tree.DTree as code
use Rattle.pruning.specs.Steps.{step_rule, closing_rule}
use Rattle.pruning.specs.Trees.{converted, derivation_tree, idle_tree, derivation_trees}
use Rattle.pruning.specs.declared.walk.Walked.{Walked}
use Rattle.pruning.specs.declared.walk.Entered.{Entered}
use Rattle.pruning.specs.declared.walk.Used.{Used}
use Rattle.pruning.specs.declared.walk.Below.{Below}
use Rattle.pruning.specs.declared.walk.Below.TheVariants as below

-- the tree, but with these formulas as what it adds
abbrev pub with_added : List Form → DTree → DTree
with_added g (DTree.node h name a b part ts) = DTree.node g name a b part ts

-- a conversion that adds nothing yet below a tree, unless the formula is its own normal form
abbrev pub conversion : Form → Form → DTree → DTree
conversion x y t =
    cond (same x y) t (DTree.node [] RuleName.conversion x (Some y) None (DTrees.more (with_added (y ∷ []) t) DTrees.none))

-- and so for each formula of a list, the first one lowest
abbrev pub conversions : List Form → List Form → DTree → DTree
conversions (x ∷ raw) (y ∷ normal) t = conversion x y (conversions raw normal t)
conversions _ _ t = t

-- the rules of a Step and of a Closed leaf, which add nothing yet
abbrev pub step_node : Act → DTrees → DTree
step_node a ts = DTree.node [] (step_rule a) a.first a.second a.part ts

abbrev pub leaf_node : Closing → DTree
leaf_node c = DTree.node [] (closing_rule c) c.first c.second None DTrees.none

module _ (s : Tables) (b : List FormId) where
  -- a node on a branch: its tree, which adds nothing yet, and what it uses
  pub record IsWalked (n : ids.Node) (w : Walked) : Type 0 where
    pub tree : tree_of w.tree ≡ derivation_tree (forms_of s b) [] (ids.tree_of s n)
    pub uses : forms_of s w.uses ≡ uses (forms_of s b) (ids.tree_of s n)
    pub has : HasForms s w.uses

  abbrev pub child_branch : ids.Child → List Form
  child_branch c = extend (forms_of s b) (forms_of s c.normal)

  abbrev pub child_uses : ids.Child → List Form
  child_uses c = uses (child_branch c) (ids.tree_of s c.node)

  -- whether a child that isn't Skipped and has no Open leaf is idle
  abbrev pub child_is_idle : ids.Child → Bool
  child_is_idle c = is_idle (forms_of s b) (forms_of s c.normal) (ids.tree_of s c.node) (child_uses c)

  -- a child's node on the child's branch
  pub record IsChild (c : ids.Child) (w : Walked) : Type 0 where
    pub tree : tree_of w.tree ≡ derivation_tree (child_branch c) [] (ids.tree_of s c.node)
    pub uses : forms_of s w.uses ≡ child_uses c
    pub has : HasForms s w.uses

  -- and the child's new formulas
  pub record IsEntered (c : ids.Child) (e : Entered) : Type 0 where
    pub walked : IsChild c e.walked
    pub fresh : forms_of s e.fresh ≡ fresh (forms_of s b) (forms_of s c.normal)
    pub has : HasForms s e.fresh

  -- what a child adds to the trees and the uses of a Step
  pub record IsAdded (c : ids.Child) (old new : Used) : Type 0 where
    pub tree : code.DTree
    pub trees : new.trees ≡ old.trees ++ tree ∷ []
    pub is_tree : tree_of tree
        ≡ converted (forms_of s c.raw) (forms_of s c.raw) (forms_of s c.normal) (λ g. derivation_tree (child_branch c) g (ids.tree_of s c.node))
    pub more : List FormId
    pub uses : new.uses ≡ old.uses ++ more
    pub are_uses : forms_of s more ≡ without (fresh (forms_of s b) (forms_of s c.normal)) (child_uses c)
    pub has : HasForms s more

  -- an idle child is answered, and any other adds to the Step
  abbrev pub IsTaken : ids.Child → Used → Used → Option Walked → Type 0
  IsTaken c old new None = (child_is_idle c ≡ false) × IsAdded c old new
  IsTaken c old new (Some w) = (child_is_idle c ≡ true) × IsChild c w

  -- without an idle child, the trees of all children and what they use beyond their new formulas
  pub record AreUsed (cs : List ids.Child) (u : Used) : Type 0 where
    pub none : idle_uses (forms_of s b) (ids.trees_of s (ids.children_of cs)) ≡ None
    pub trees : trees_of u.trees ≡ derivation_trees (forms_of s b) (ids.trees_of s (ids.children_of cs))
    pub uses : forms_of s u.uses ≡ uses_all (forms_of s b) (ids.trees_of s (ids.children_of cs))
    pub has : HasForms s u.uses

  -- the first idle child
  pub record IsFirstIdle (cs : List ids.Child) (w : Walked) : Type 0 where
    pub tree : idle_tree (forms_of s b) [] (ids.trees_of s (ids.children_of cs)) ≡ Some (tree_of w.tree)
    pub uses : idle_uses (forms_of s b) (ids.trees_of s (ids.children_of cs)) ≡ Some (forms_of s w.uses)
    pub has : HasForms s w.uses

  abbrev pub AreWalked : List ids.Child → Below → Type 0
  AreWalked cs (below.Idle w) = IsFirstIdle cs w
  AreWalked cs (below.Used u) = AreUsed cs u
