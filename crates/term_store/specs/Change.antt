-- Opening and closing as one: what a walk through a tree does at its leaves.
use Rattle.std.specs.Prelude.{ℕ, ◌≡◌, ◌<◌, ◌==◌, if◌then◌else◌, Bool, false, Some, length, List}
use Rattle.indexmap.specs.IndexMap.{IndexMap, get}
use Rattle.zm_logic.specs.Tree as tree
use Rattle.zm_logic.specs.Opening as opening
use Rattle.term_store.specs.declared.change.Change.{Change}
use Rattle.term_store.specs.declared.change.Change.TheVariants.{Opens, Closes}
use Rattle.term_store.specs.declared.opening.Opening.TheVariants as openings
use Rattle.term_store.specs.declared.memo.Place.{Place}
use Rattle.term_store.specs.declared.memo.Memo.{Memo}
use Rattle.term_store.specs.declared.ids.TyId.{TyId}
use Rattle.term_store.specs.declared.ids.TermId.{TermId}
use Rattle.term_store.specs.declared.ids.FormId.{FormId}
use Rattle.term_store.specs.declared.node.FormNode.{FormNode}
use Rattle.term_store.specs.Memo.{same_place}
use Rattle.term_store.specs.Node.{TypesBelow, TermsBelow, types_at, terms_at}
use Rattle.term_store.specs.Open.{HasPart, part_of}
use Rattle.term_store.specs.Trees.{Tables, all_trees, HasType, HasTerm, HasForm, HasFormParts, type_of, term_of, form_of, form_node}

-- an index is opened, or a number is closed
pub data TreeChange : Type 0 where
  opens : tree.Opening → TreeChange
  closes : (number : ℕ) → TreeChange

-- the tree with index k opened, or with index k for the number
abbrev pub changed_type : ℕ → TreeChange → tree.Ty → tree.Ty
changed_type k (TreeChange.opens o) t = opening.open_type k o t
changed_type k (TreeChange.closes n) t = opening.close_type k n t

abbrev pub changed_types : ℕ → TreeChange → tree.Tys → tree.Tys
changed_types k (TreeChange.opens o) ts = opening.open_types k o ts
changed_types k (TreeChange.closes n) ts = opening.close_types k n ts

abbrev pub changed_term : ℕ → TreeChange → tree.Term → tree.Term
changed_term k (TreeChange.opens o) u = opening.open_term k o u
changed_term k (TreeChange.closes n) u = opening.close_term k n u

abbrev pub changed_terms : ℕ → TreeChange → tree.Terms → tree.Terms
changed_terms k (TreeChange.opens o) us = opening.open_terms k o us
changed_terms k (TreeChange.closes n) us = opening.close_terms k n us

abbrev pub changed_form : ℕ → TreeChange → tree.Form → tree.Form
changed_form k (TreeChange.opens o) f = opening.open_at k o f
changed_form k (TreeChange.closes n) f = opening.close_at k n f

-- what is put for an index is an id of the store
abbrev pub HasChange : Tables → Change → Type 0
HasChange s (Opens w) = HasPart s w
HasChange s (Closes n) = Unit {0}

abbrev pub change_of : Tables → Change → TreeChange
change_of s (Opens w) = TreeChange.opens (part_of s w)
change_of s (Closes n) = TreeChange.closes n

-- the tree of an id, and the trees of a list of ids, with the change under k binders
abbrev pub type_after : Tables → Change → ℕ → TyId → tree.Ty
type_after s c k i = changed_type k (change_of s c) (type_of s i)

abbrev pub types_after : Tables → Change → ℕ → List TyId → tree.Tys
types_after s c k is = changed_types k (change_of s c) (types_at (all_trees s).types is)

abbrev pub term_after : Tables → Change → ℕ → TermId → tree.Term
term_after s c k i = changed_term k (change_of s c) (term_of s i)

abbrev pub terms_after : Tables → Change → ℕ → List TermId → tree.Terms
terms_after s c k is = changed_terms k (change_of s c) (terms_at (all_trees s).terms is)

abbrev pub form_after : Tables → Change → ℕ → FormId → tree.Form
form_after s c k i = changed_form k (change_of s c) (form_of s i)

abbrev pub tree_after : Tables → Change → ℕ → tree.Form → tree.Form
tree_after s c k f = changed_form k (change_of s c) f

-- the number is closed
abbrev pub is_closed : Change → ℕ → Bool
is_closed (Opens w) m = false
is_closed (Closes n) m = m == n

-- what stands for an index once index k is opened, the index's own id being given
abbrev pub type_put : TyId → ℕ → ℕ → Change → TyId
type_put id i k (Opens (openings.OfTerm u)) = id
type_put id i k (Opens (openings.OfType t)) = if i == k then t else id
type_put id i k (Closes n) = id

abbrev pub term_put : TermId → ℕ → ℕ → Change → TermId
term_put id i k (Opens (openings.OfTerm u)) = if i == k then u else id
term_put id i k (Opens (openings.OfType t)) = id
term_put id i k (Closes n) = id

-- the id of a tree
abbrev pub IsTypeId : Tables → tree.Ty → TyId → Type 0
IsTypeId s t i = HasType s i × (type_of s i ≡ t)

abbrev pub IsTermId : Tables → tree.Term → TermId → Type 0
IsTermId s u i = HasTerm s i × (term_of s i ≡ u)

abbrev pub IsFormId : Tables → tree.Form → FormId → Type 0
IsFormId s f i = HasForm s i × (form_of s i ≡ f)

-- the ids of trees
abbrev pub AreTypeIds : Tables → tree.Tys → List TyId → Type 0
AreTypeIds s ts is = TypesBelow (length s.types) is × (types_at (all_trees s).types is ≡ ts)

abbrev pub AreTermIds : Tables → tree.Terms → List TermId → Type 0
AreTermIds s us is = TermsBelow (length s.terms) is × (terms_at (all_trees s).terms is ≡ us)

-- the node of a tree
abbrev pub IsFormNode : Tables → tree.Form → FormNode → Type 0
IsFormNode s f n = HasFormParts s n × (form_node s n ≡ f)

-- each tree that was noted is changed: the place of the new tree stands beside its own
abbrev pub KnowTypes : {S : Type 0} → Tables → Change → IndexMap Place ℕ S → Type 0
KnowTypes s c made = (p : Place) (r : ℕ) → get same_place made p ≡ Some r
    → (p.tree < length s.types) × IsTypeId s (changed_type p.binders (change_of s c) (type_of s (record { 0 = p.tree }))) (record { 0 = r })

abbrev pub KnowTerms : {S : Type 0} → Tables → Change → IndexMap Place ℕ S → Type 0
KnowTerms s c made = (p : Place) (r : ℕ) → get same_place made p ≡ Some r
    → (p.tree < length s.terms) × IsTermId s (changed_term p.binders (change_of s c) (term_of s (record { 0 = p.tree }))) (record { 0 = r })

abbrev pub KnowForms : {S : Type 0} → Tables → Change → IndexMap Place ℕ S → Type 0
KnowForms s c made = (p : Place) (r : ℕ) → get same_place made p ≡ Some r
    → (p.tree < length s.forms) × IsFormId s (changed_form p.binders (change_of s c) (form_of s (record { 0 = p.tree }))) (record { 0 = r })

pub record Knows (s : Tables) (c : Change) (m : Memo) : Type 0 where
  pub types : KnowTypes s c m.types
  pub terms : KnowTerms s c m.terms
  pub forms : KnowForms s c m.forms
