-- The connectives and quantifiers, as trees have them.
use Rattle.zm_logic.specs.Tree as tree
use Rattle.term_store.specs.declared.connective.Connective.{Connective}
use Rattle.term_store.specs.declared.connective.Connective.TheVariants as connectives
use Rattle.term_store.specs.declared.connective.Quantifier.{Quantifier}
use Rattle.term_store.specs.declared.connective.Quantifier.TheVariants as quantifiers

abbrev pub connective_of : Connective → tree.Connective
connective_of connectives.And = tree.Connective.conjunction
connective_of connectives.Or = tree.Connective.disjunction
connective_of connectives.Imp = tree.Connective.implication
connective_of connectives.Iff = tree.Connective.equivalence

abbrev pub quantifier_of : Quantifier → tree.Quantifier
quantifier_of quantifiers.All = tree.Quantifier.universal
quantifier_of quantifiers.Ex = tree.Quantifier.existential
