-- What is put for an index, opened and closed formulas, and what a rule rewrites, as trees.
use Rattle.std.specs.Prelude.{ℕ}
use Rattle.zm_logic.specs.Tree as tree
use Rattle.zm_logic.specs.Opening as opening
use Rattle.term_store.specs.declared.ids.FormId.{FormId}
use Rattle.term_store.specs.declared.opening.Opening.{Opening}
use Rattle.term_store.specs.declared.opening.Opening.TheVariants as openings
use Rattle.term_store.specs.declared.opening.Redex.{Redex}
use Rattle.term_store.specs.declared.opening.Redex.TheVariants as redexes
use Rattle.term_store.specs.Trees.{Tables, HasType, HasTerm, HasForm, type_of, term_of, form_of}

-- what is put for an index is an id of the store
abbrev pub HasPart : Tables → Opening → Type 0
HasPart s (openings.OfTerm u) = HasTerm s u
HasPart s (openings.OfType t) = HasType s t

-- the tree that is put for an index
abbrev pub part_of : Tables → Opening → tree.Opening
part_of s (openings.OfTerm u) = tree.Opening.of_term (term_of s u)
part_of s (openings.OfType t) = tree.Opening.of_type (type_of s t)

-- the place is an id of the store
abbrev pub HasRedex : Tables → Redex → Type 0
HasRedex s (redexes.OfTerm u) = HasTerm s u
HasRedex s (redexes.OfForm f) = HasForm s f

-- the tree at the place
abbrev pub redex_of : Tables → Redex → tree.Side
redex_of s (redexes.OfTerm u) = tree.Side.of_term (term_of s u)
redex_of s (redexes.OfForm f) = tree.Side.of_form (form_of s f)

-- the formula with the part for index 0, and with index 0 for the number
abbrev pub opened : Tables → FormId → Opening → tree.Form
opened s f w = opening.open_at 0 (part_of s w) (form_of s f)

abbrev pub closed : Tables → FormId → ℕ → tree.Form
closed s f n = opening.close (form_of s f) n
