-- The derivation of the code's tree.
use Rattle.std.specs.Prelude.{List, [], ◌∷◌, map}
use Rattle.std.specs.Option.{option_map}
use Rattle.zm_logic.specs.Tree as logic
use Rattle.zm_logic.specs.View.{type_tree, term_tree, form_tree}
use Rattle.sequent_proof.specs.declared.tree.RuleName.{RuleName}
use Rattle.sequent_proof.specs.declared.tree.RuleName.TheVariants as names
use Rattle.sequent_proof.specs.declared.tree.With.{With}
use Rattle.sequent_proof.specs.declared.tree.With.TheVariants as parts
use Rattle.sequent_proof.specs.declared.tree.DTree.{DTree, fold-DTree}
use Rattle.sequent_proof.specs.declared.tree.DTree.TheOpen as layer
use Rattle.sequent_proof.specs.Rules as rules
use Rattle.sequent_proof.specs.Tree as plain

-- the rule of a name of the code
abbrev pub name_of : RuleName → rules.RuleName
name_of names.False = rules.RuleName.falsity
name_of names.NotTrue = rules.RuleName.not_truth
name_of names.Axiom = rules.RuleName.closes
name_of names.Refl = rules.RuleName.reflexive
name_of names.Sym = rules.RuleName.symmetric
name_of names.NotNot = rules.RuleName.not_not
name_of names.And = rules.RuleName.conjunction
name_of names.NotOr = rules.RuleName.not_or
name_of names.NotImp = rules.RuleName.not_implies
name_of names.Or = rules.RuleName.disjunction
name_of names.NotAnd = rules.RuleName.not_and
name_of names.Imp = rules.RuleName.implication
name_of names.Iff = rules.RuleName.equivalence
name_of names.NotIff = rules.RuleName.not_iff
name_of names.Exists = rules.RuleName.existential
name_of names.NotForall = rules.RuleName.not_for_all
name_of names.Forall = rules.RuleName.universal
name_of names.NotExists = rules.RuleName.not_exists
name_of names.EqPred = rules.RuleName.equal_arguments
name_of names.EqFun = rules.RuleName.equal_values
name_of names.EqTransFirst = rules.RuleName.transitive_first
name_of names.EqTransSecond = rules.RuleName.transitive_second
name_of names.Conversion = rules.RuleName.conversion

-- what a quantifier's variable becomes
abbrev pub part_of : With → logic.Opening
part_of (parts.OfTerm u) = logic.Opening.of_term (term_tree u)
part_of (parts.OfType t) = logic.Opening.of_type (type_tree t)

-- a list of derivations, as derivations have it
abbrev pub children_of : List plain.DTree → plain.DTrees
children_of [] = plain.DTrees.none
children_of (t ∷ ts) = plain.DTrees.more t (children_of ts)

abbrev pub step_of_tree : layer.DTree-F plain.DTree → plain.DTree
step_of_tree t =
    plain.DTree.node (map form_tree t.added) (name_of t.name) (form_tree t.first) (option_map form_tree t.second)
    (option_map part_of t.with) (children_of t.children)

-- the derivation of a tree
abbrev pub tree_of : DTree → plain.DTree
tree_of = fold-DTree plain.DTree step_of_tree

-- the derivations of a list of trees
abbrev pub trees_of : List DTree → plain.DTrees
trees_of ts = children_of (map tree_of ts)
