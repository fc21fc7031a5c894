-- The numbers of quantified formulas: each is the formula's place in the table.
use Rattle.std.specs.Prelude.{ℕ, Bool, List, [], ◌∷◌, ◌++◌, if◌then◌else◌, nat_eq}
use Rattle.std.specs.List.{list_any, position_or_len}
use Rattle.term_store.specs.declared.ids.FormId.{FormId}

-- whether two ids are the same
abbrev pub same_id : FormId → FormId → Bool
same_id f g = nat_eq f.0 g.0

-- a formula's number, and of one that has none the number that it gets next
abbrev pub number_in : List FormId → FormId → ℕ
number_in table f = position_or_len (same_id f) table

-- the table with the formula, which comes last where it isn't there
abbrev pub with_form : List FormId → FormId → List FormId
with_form table f = if list_any (same_id f) table then table else table ++ f ∷ []

-- the table after a formula gave its offers: it has the formula where that is quantified
abbrev pub numbers_with : Bool → List FormId → FormId → List FormId
numbers_with quantified table f = if quantified then with_form table f else table
