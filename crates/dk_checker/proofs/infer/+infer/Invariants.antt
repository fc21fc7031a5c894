use Rattle.std.proofs.Common.{◌+◌, ◌*◌}
use Rattle.dk_checker.proofs.infer.+infer.Given as goal

abbrev pub decreases-infer : goal.decreases-infer
decreases-infer l = 4 * (l.levels + l.chain)

abbrev pub decreases-infer_application : goal.decreases-infer_application
decreases-infer_application l = 4 * (l.levels + l.chain) + 3

abbrev pub decreases-infer_function : goal.decreases-infer_function
decreases-infer_function l = 4 * (l.levels + l.chain) + 2

abbrev pub decreases-reduced_product : goal.decreases-reduced_product
decreases-reduced_product l = 4 * (l.levels + l.chain) + 1

abbrev pub decreases-ask_more : goal.decreases-ask_more
decreases-ask_more l = 4 * (l.levels + l.chain)

abbrev pub decreases-infer_as : goal.decreases-infer_as
decreases-infer_as l = 4 * (l.levels + l.chain) + 1

abbrev pub decreases-infer_abstraction : goal.decreases-infer_abstraction
decreases-infer_abstraction l = 4 * (l.levels + l.chain) + 3

abbrev pub decreases-infer_product : goal.decreases-infer_product
decreases-infer_product l = 4 * (l.levels + l.chain) + 3

abbrev pub decreases-infer_binder : goal.decreases-infer_binder
decreases-infer_binder l = 4 * (l.levels + l.chain) + 2

abbrev pub decreases-infer_under : goal.decreases-infer_under
decreases-infer_under l = 4 * (l.levels + l.chain) + 1
