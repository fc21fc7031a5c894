use Rattle.tff_typing.proofs.Decided.{problem_or_refusal, problem_or_refusal_apart, one_refusal, refusal_is_first}
use Rattle.tff_typing.proofs.laws.first_fault.Goals as goal

pub returns-clause-either : goal.returns-clause-either
returns-clause-either c = problem_or_refusal

pub returns-clause-never_both : goal.returns-clause-never_both
returns-clause-never_both c = problem_or_refusal_apart

pub returns-clause-one : goal.returns-clause-one
returns-clause-one c = one_refusal

pub returns-clause-first : goal.returns-clause-first
returns-clause-first c = refusal_is_first
