-- The children of alpha and beta formulas, over ids.
use Rattle.std.specs.Prelude.{List, [], ◌∷◌, Option, None, Some}
use Rattle.zm_logic.specs.Tree as tree
use Rattle.term_store.specs.Trees.{Tables, HasForm, form_of}
use Rattle.param_store.specs.RawOffers.{one, two, signed}
use Rattle.tableau_rules.specs.declared.split.Signed.{Signed}
use Rattle.tableau_rules.specs.declared.split.Child.{Child}
use Rattle.tableau_rules.specs.declared.split.Child.TheVariants as childs
use Rattle.tableau_rules.specs.declared.split.Split.{Split}
use Rattle.tableau_rules.specs.declared.split.Split.TheVariants as splits

-- the formula, or its negation
abbrev pub signed_of : Tables → Signed → tree.Form
signed_of s x = signed x.holds (form_of s x.form)

abbrev pub child_of : Tables → Child → List tree.Form
child_of s (childs.One x) = one (signed_of s x)
child_of s (childs.Two x y) = two (signed_of s x) (signed_of s y)

abbrev pub children_of : Tables → Split → List (List tree.Form)
children_of s (splits.Alpha c) = child_of s c ∷ []
children_of s (splits.Beta c d) = child_of s c ∷ child_of s d ∷ []

abbrev pub split_lists : Tables → Option Split → List (List tree.Form)
split_lists s None = []
split_lists s (Some x) = children_of s x

-- the ids are those of the store
abbrev pub HasSigned : Tables → Signed → Type 0
HasSigned s x = HasForm s x.form

abbrev pub HasChild : Tables → Child → Type 0
HasChild s (childs.One x) = HasSigned s x
HasChild s (childs.Two x y) = HasSigned s x × HasSigned s y

abbrev pub HasSplit : Tables → Split → Type 0
HasSplit s (splits.Alpha c) = HasChild s c
HasSplit s (splits.Beta c d) = HasChild s c × HasChild s d
