use Rattle.tff_typing.proofs.Agreement.{types_agree, expressions_agree, forms_agree, problems_agree, statements_agree}
use Rattle.tff_typing.proofs.laws.rules_agree.Goals as goal

pub returns-clause-types : goal.returns-clause-types
returns-clause-types c = types_agree

pub returns-clause-expressions : goal.returns-clause-expressions
returns-clause-expressions c = expressions_agree

pub returns-clause-forms : goal.returns-clause-forms
returns-clause-forms c = forms_agree

pub returns-clause-problems : goal.returns-clause-problems
returns-clause-problems c = problems_agree

pub returns-clause-states : goal.returns-clause-states
returns-clause-states c = statements_agree
