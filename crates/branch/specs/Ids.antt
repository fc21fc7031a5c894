-- Tableaux over the ids of a store, and their trees.
use Rattle.std.specs.Prelude.{ℕ, List, [], ◌∷◌}
use Rattle.std.specs.Option.{option_map}
use Rattle.term_store.specs.Trees.{Tables, HasForm, form_of}
use Rattle.term_store.specs.declared.ids.FormId.{FormId}
use Rattle.param_store.specs.View.{act_of, forms_of, HasAct, HasForms, HasSecond}
use Rattle.param_store.specs.declared.offer.Act.{Act}
use Rattle.choosers.specs.declared.offer.Kind.{Kind}
use Rattle.choosers.specs.declared.offer.Kind.TheVariants as kinds
use Rattle.branch.specs.declared.node.ClosingPair.{ClosingPair}
use Rattle.branch.specs.declared.node.Node as code_node
use Rattle.branch.specs.declared.node.Node.{fold-Node}
use Rattle.branch.specs.declared.node.Node.TheOpen as layer
use Rattle.branch.specs.declared.node.Child as code_child
use Rattle.branch.specs.declared.node.Child.{fold-Child}
use Rattle.branch.specs.Branch.{Closing}
use Rattle.branch.specs.BranchOffers as offers
use Rattle.branch.specs.Tableau as tableau

-- a node whose formulas are ids
mutual
  pub data Node : Type 0 where
    step : (pick : ℕ) (kind : Kind) (act : Act) (children : Children) → Node
    closed : ClosingPair → Node
    opened : Node
    skipped : Node

  pub data Children : Type 0 where
    none : Children
    more : (raw normal : List FormId) (node : Node) → Children → Children

-- a child, apart from the list that it stands in
pub record Child : Type 0 where
  pub raw : List FormId
  pub normal : List FormId
  pub node : Node

abbrev pub children_of : List Child → Children
children_of [] = Children.none
children_of (c ∷ cs) = Children.more c.raw c.normal c.node (children_of cs)

abbrev pub node_layer : layer.Node-F Node Child → Node
node_layer (layer.Step pick kind act children) = Node.step pick kind act (children_of children.items)
node_layer (layer.Closed p) = Node.closed p
node_layer layer.Open = Node.opened
node_layer layer.Skipped = Node.skipped

abbrev pub child_layer : layer.Child-F Node Child → Child
child_layer c = record { raw = c.raw; normal = c.normal; node = c.node }

-- what the code's nodes are
abbrev pub node_ids : code_node.Node → Node
node_ids = fold-Node Node Child node_layer child_layer

abbrev pub child_ids : code_child.Child → Child
child_ids = fold-Child Node Child node_layer child_layer

-- The trees of ids.

abbrev pub kind_of : Kind → offers.Kind
kind_of kinds.Alpha = offers.Kind.alpha
kind_of kinds.Beta = offers.Kind.beta
kind_of kinds.Delta = offers.Kind.delta
kind_of kinds.Gamma = offers.Kind.gamma
kind_of kinds.Instance = offers.Kind.instance
kind_of kinds.Equality = offers.Kind.equality

abbrev pub closing_of : Tables → ClosingPair → Closing
closing_of s p = record { first = form_of s p.first; second = option_map (form_of s) p.second; swapped = p.swapped }

abbrev mutual
  pub tree_of : Tables → Node → tableau.Node
  tree_of s (Node.step pick kind act ns) = tableau.Node.step pick (kind_of kind) (act_of s act) (trees_of s ns)
  tree_of s (Node.closed p) = tableau.Node.closed (closing_of s p)
  tree_of s Node.opened = tableau.Node.opened
  tree_of s Node.skipped = tableau.Node.skipped

  pub trees_of : Tables → Children → tableau.Children
  trees_of s Children.none = tableau.Children.none
  trees_of s (Children.more r f n ns) = tableau.Children.more (forms_of s r) (forms_of s f) (tree_of s n) (trees_of s ns)

-- the ids are those of the store
pub record HasClosing (s : Tables) (p : ClosingPair) : Type 0 where
  pub first : HasForm s p.first
  pub second : HasSecond s p.second

abbrev mutual
  pub HasNode : Tables → Node → Type 0
  HasNode s (Node.step pick kind act ns) = HasAct s act × HasNodes s ns
  HasNode s (Node.closed p) = HasClosing s p
  HasNode s Node.opened = Unit {0}
  HasNode s Node.skipped = Unit {0}

  pub HasNodes : Tables → Children → Type 0
  HasNodes s Children.none = Unit {0}
  HasNodes s (Children.more r f n ns) = HasForms s r × HasForms s f × HasNode s n × HasNodes s ns
