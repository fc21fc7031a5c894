use Rattle.zm_logic.specs.View.{problem_tree}
use Rattle.zenon_modulo.proofs.PlainProblems.{built_equality_free}
use Rattle.zenon_modulo.proofs.answer.solve.Goals as goal

pub search-requires-clause-equality_free : goal.search-requires-clause-equality_free
search-requires-clause-equality_free c = built_equality_free (problem_tree c.args.problem.now) c.requires.built
