-- Small files: what the check finds, by computation.
use Rattle.std.proofs.Common.{refl}
use Rattle.dk_checker.specs.Laws.{DefinitionIsAccepted, RuleHeadIsRefused, ElementIsNoProduct, ElementIsNoType, TypeIsNoElement, KindIsNoBody, LoopIsSpent, RepeatedVariableIsMatched}

pub definition_is_accepted : DefinitionIsAccepted
definition_is_accepted = refl

pub rule_head_is_refused : RuleHeadIsRefused
rule_head_is_refused = refl

pub element_is_no_product : ElementIsNoProduct
element_is_no_product = refl

pub element_is_no_type : ElementIsNoType
element_is_no_type = refl

pub type_is_no_element : TypeIsNoElement
type_is_no_element = refl

pub kind_is_no_body : KindIsNoBody
kind_is_no_body = refl

pub loop_is_spent : LoopIsSpent
loop_is_spent = refl

pub repeated_variable_is_matched : RepeatedVariableIsMatched
repeated_variable_is_matched = refl
