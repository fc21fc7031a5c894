-- What is written in one place as it is read in another: terms as types, roles, connectives and quantifiers.
use Rattle.std.specs.Prelude.{ℕ, suc, Option, Some, None}
use Rattle.zm_logic.specs.Tree as tree
use Rattle.zm_logic.specs.Tree.{Role}
use Rattle.tptp_reader.specs.declared.tree.RawRole.{RawRole}
use Rattle.tptp_reader.specs.declared.tree.RawRole.TheVariants as roles
use Rattle.tptp_reader.specs.Raw as raw
use Rattle.tptp_reader.specs.Raw.{RawType, RawTypes, RawTerm, RawTerms}

-- what is written in a type's place, as a type
abbrev mutual
  pub as_type : RawTerm → RawType
  as_type RawTerm.individual = RawType.individual
  as_type RawTerm.truth = RawType.truth
  as_type (RawTerm.variable x) = RawType.variable x
  as_type (RawTerm.named f us) = RawType.named f (as_types us)

  pub as_types : RawTerms → RawTypes
  as_types RawTerms.none = RawTypes.none
  as_types (RawTerms.more u us) = RawTypes.more (as_type u) (as_types us)

-- how many types, and how many terms
abbrev pub number_of_types : RawTypes → ℕ
number_of_types RawTypes.none = 0
number_of_types (RawTypes.more t ts) = suc (number_of_types ts)

abbrev pub number_of_terms : RawTerms → ℕ
number_of_terms RawTerms.none = 0
number_of_terms (RawTerms.more u us) = suc (number_of_terms us)

-- the role of a premise; a conjecture is none
abbrev pub premise_role : RawRole → Option Role
premise_role roles.Axiom = Some Role.axiom_role
premise_role roles.Hypothesis = Some Role.hypothesis
premise_role roles.Definition = Some Role.definition
premise_role roles.Assumption = Some Role.assumption_role
premise_role roles.Lemma = Some Role.lemma
premise_role roles.Theorem = Some Role.theorem
premise_role roles.Corollary = Some Role.corollary
premise_role roles.NegatedConjecture = Some Role.negated_conjecture
premise_role roles.Conjecture = None

abbrev pub connective_of : raw.Connective → tree.Connective
connective_of raw.Connective.conjunction = tree.Connective.conjunction
connective_of raw.Connective.disjunction = tree.Connective.disjunction
connective_of raw.Connective.implication = tree.Connective.implication
connective_of raw.Connective.equivalence = tree.Connective.equivalence

abbrev pub quantifier_of : raw.Quantifier → tree.Quantifier
quantifier_of raw.Quantifier.universal = tree.Quantifier.universal
quantifier_of raw.Quantifier.existential = tree.Quantifier.existential
