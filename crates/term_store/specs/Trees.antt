-- What contracts see of a store: the trees of its ids.
use Rattle.std.specs.Prelude.{◌≡◌, ◌<◌, List, length}
use Rattle.zm_logic.specs.Tree as tree
use Rattle.term_store.specs.Table.{trees, AreDistinct, IsPrefix}
use Rattle.term_store.specs.declared.ids.TyId.{TyId}
use Rattle.term_store.specs.declared.ids.TermId.{TermId}
use Rattle.term_store.specs.declared.ids.FormId.{FormId}
use Rattle.term_store.specs.declared.node.TyNode.{TyNode}
use Rattle.term_store.specs.declared.node.TermNode.{TermNode}
use Rattle.term_store.specs.declared.node.FormNode.{FormNode}
use Rattle.term_store.specs.Node.{type_at, term_at, form_at, make_type, make_term, make_form, TypeFits, TermFits, FormFits}

-- the trees of three tables, by id
pub record Trees : Type 0 where
  pub types : List tree.Ty
  pub terms : List tree.Term
  pub forms : List tree.Form

-- the trees of three tables of nodes
abbrev pub trees_of : List TyNode → List TermNode → List FormNode → Trees
trees_of ts us fs =
    let types = trees make_type ts in
    let terms = trees (make_term types) us in
    record { types = types; terms = terms; forms = trees (make_form types terms) fs }

-- what contracts see of a store: its nodes, by id
pub record Tables : Type 0 where
  pub types : List TyNode
  pub terms : List TermNode
  pub forms : List FormNode

abbrev pub all_trees : Tables → Trees
all_trees s = trees_of s.types s.terms s.forms

-- the id is one of the store
abbrev pub HasType : Tables → TyId → Type 0
HasType s i = i.0 < length s.types

abbrev pub HasTerm : Tables → TermId → Type 0
HasTerm s i = i.0 < length s.terms

abbrev pub HasForm : Tables → FormId → Type 0
HasForm s i = i.0 < length s.forms

-- the tree of an id
abbrev pub type_of : Tables → TyId → tree.Ty
type_of s i = type_at (all_trees s).types i

abbrev pub term_of : Tables → TermId → tree.Term
term_of s i = term_at (all_trees s).terms i

abbrev pub form_of : Tables → FormId → tree.Form
form_of s i = form_at (all_trees s).forms i

-- the parts of a node are ids of the store
abbrev pub HasTypeParts : Tables → TyNode → Type 0
HasTypeParts s n = TypeFits (length s.types) n

abbrev pub HasTermParts : Tables → TermNode → Type 0
HasTermParts s n = TermFits (length s.types) (length s.terms) n

abbrev pub HasFormParts : Tables → FormNode → Type 0
HasFormParts s n = FormFits (length s.types) (length s.terms) (length s.forms) n

-- the tree of a node
abbrev pub type_node : Tables → TyNode → tree.Ty
type_node s n = make_type (all_trees s).types n

abbrev pub term_node : Tables → TermNode → tree.Term
term_node s n = make_term (all_trees s).types (all_trees s).terms n

abbrev pub form_node : Tables → FormNode → tree.Form
form_node s n = make_form (all_trees s).types (all_trees s).terms (all_trees s).forms n

-- every id of the earlier store is one of the later, and keeps its tree
pub record Extends (s t : Tables) : Type 0 where
  pub types : IsPrefix (all_trees s).types (all_trees t).types
  pub terms : IsPrefix (all_trees s).terms (all_trees t).terms
  pub forms : IsPrefix (all_trees s).forms (all_trees t).forms

-- ids of equal trees are equal
pub record AreShared (s : Tables) : Type 0 where
  pub types : (i j : TyId) → HasType s i → HasType s j → type_of s i ≡ type_of s j → i ≡ j
  pub terms : (i j : TermId) → HasTerm s i → HasTerm s j → term_of s i ≡ term_of s j → i ≡ j
  pub forms : (i j : FormId) → HasForm s i → HasForm s j → form_of s i ≡ form_of s j → i ≡ j

-- no two places of a table hold one tree
pub record AreAllDistinct (s : Trees) : Type 0 where
  pub types : AreDistinct s.types
  pub terms : AreDistinct s.terms
  pub forms : AreDistinct s.forms
