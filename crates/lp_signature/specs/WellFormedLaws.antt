-- What holds of the signature of a problem. The statement is the contract of a function of the module typed_laws.
use Rattle.lp_terms.specs.WellFormed.{IsWellFormed}
use Rattle.zm_logic.specs.Tree.{Problem}
use Rattle.zm_logic.specs.Problem.{IsTypedProblem}
use Rattle.rule_select.specs.Selection.{Selection, IsSelection}
use Rattle.lp_signature.specs.Problem.{signature}

-- each entry of the signature of a typed problem and a selection of its rules is well formed after those before it
abbrev pub SignaturesAreWellFormed : Type 0
SignaturesAreWellFormed = (p : Problem) (s : Selection) → IsTypedProblem p → IsSelection p s → IsWellFormed (signature p s)
