-- The trees of the code's values, where there are any.
use Rattle.std.specs.Prelude.{Option, Some, None, List}
use Rattle.zm_logic.specs.Tree as tree
use Rattle.zm_logic.specs.View.{term_tree, terms_tree, form_tree}
use Rattle.zm_logic.specs.declared.tree.Term.{Term}
use Rattle.zm_logic.specs.declared.tree.Form.{Form}
use Rattle.normaliser.specs.declared.connective.Connective.{Connective}
use Rattle.normaliser.specs.declared.connective.Connective.TheVariants as connectives
use Rattle.normaliser.specs.declared.connective.Quantifier.{Quantifier}
use Rattle.normaliser.specs.declared.connective.Quantifier.TheVariants as quantifiers

-- the connectives and quantifiers, as trees have them
abbrev pub connective_of : Connective → tree.Connective
connective_of connectives.And = tree.Connective.conjunction
connective_of connectives.Or = tree.Connective.disjunction
connective_of connectives.Imp = tree.Connective.implication
connective_of connectives.Iff = tree.Connective.equivalence

abbrev pub quantifier_of : Quantifier → tree.Quantifier
quantifier_of quantifiers.All = tree.Quantifier.universal
quantifier_of quantifiers.Ex = tree.Quantifier.existential

abbrev pub some_term : Option Term → Option tree.Term
some_term None = None
some_term (Some u) = Some (term_tree u)

abbrev pub some_terms : Option (List Term) → Option tree.Terms
some_terms None = None
some_terms (Some us) = Some (terms_tree us)

abbrev pub some_form : Option Form → Option tree.Form
some_form None = None
some_form (Some f) = Some (form_tree f)
