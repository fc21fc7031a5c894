use Rattle.std.proofs.Common.{ap}
use Rattle.zm_logic.specs.View.{problem_tree}
use Rattle.rule_select.specs.View.{selection_tree}
use Rattle.lp_signature.proofs.Declared.{file_of}
use Rattle.lp_signature.proofs.problem.signature_of.Goals as goal

pub returns-clause-file : goal.returns-clause-file
returns-clause-file c =
    file_of c.signature_entries.result (problem_tree c.args.problem.now) (problem_tree c.problem-typed.result.now) (selection_tree c.args.selection.now)
    (ap problem_tree c.problem-typed.ensures.problem) c.problem-typed.ensures.typed c.signature_entries.ensures.entries c.signature_entries.ensures.writable
