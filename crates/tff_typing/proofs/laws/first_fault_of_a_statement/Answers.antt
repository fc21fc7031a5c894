use Rattle.tff_typing.proofs.Decided.{statement_or_fault, statement_or_fault_apart, one_fault}
use Rattle.tff_typing.proofs.laws.first_fault_of_a_statement.Goals as goal

pub returns-clause-either : goal.returns-clause-either
returns-clause-either c = statement_or_fault

pub returns-clause-never_both : goal.returns-clause-never_both
returns-clause-never_both c = statement_or_fault_apart

pub returns-clause-one : goal.returns-clause-one
returns-clause-one c = one_fault
