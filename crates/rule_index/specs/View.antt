-- The trees of the code's values.
use Rattle.std.specs.Prelude.{if◌then◌else◌, Option, Some, None, List, map}
use Rattle.zm_logic.specs.Tree as tree
use Rattle.zm_logic.specs.View.{type_tree, term_tree, side_tree, rule_tree}
use Rattle.zm_logic.specs.declared.rule.Side.{Side}
use Rattle.rule_index.specs.Matching.{find_all, are_of, Fitting}
use Rattle.rule_index.specs.Fits.{FirstFits, NoneFits}
use Rattle.rule_index.specs.declared.part.Part.{Part}
use Rattle.rule_index.specs.declared.part.Part.TheVariants as parts
use Rattle.rule_index.specs.declared.index.Match.{Match}
use Rattle.rule_index.specs.declared.index.Index.{Index}

-- what a binder stands for
abbrev pub part_tree : Part → tree.Opening
part_tree (parts.OfType t) = tree.Opening.of_type (type_tree t)
part_tree (parts.OfTerm u) = tree.Opening.of_term (term_tree u)

abbrev pub parts_tree : List Part → List tree.Opening
parts_tree ps = map part_tree ps

-- parts, or none where nothing matches
abbrev pub some_parts : Option (List Part) → Option (List tree.Opening)
some_parts None = None
some_parts (Some ps) = Some (parts_tree ps)

-- what is found for each binder, or none where one of it is of the wrong kind
abbrev pub kinded_parts : List tree.Binder → tree.Side → tree.Side → Option (List tree.Opening)
kinded_parts bs left x = if are_of (find_all bs left x) bs then Some (find_all bs left x) else None

-- the rule that fits, or none
abbrev pub some_fitting : Option Match → Option Fitting
some_fitting None = None
some_fitting (Some m) = Some (record { rule = m.rule; parts = parts_tree m.parts })

abbrev pub some_side : Option Side → Option tree.Side
some_side None = None
some_side (Some s) = Some (side_tree s)

-- the rules of an index, in order
abbrev pub rules_of : Index → List tree.Rule
rules_of i = map rule_tree i.rules

-- the answer is the least rule that fits x, with the parts, or none where no rule fits
abbrev pub IsFirstFit : List tree.Rule → tree.Side → Option Match → Type 0
IsFirstFit rules x None = NoneFits rules x
IsFirstFit rules x (Some m) = FirstFits rules x m.rule (parts_tree m.parts)
