use Rattle.lp_terms.specs.View.{term_of}
use Rattle.lp_reduce.proofs.Puts.{same_test}
use Rattle.dk_checker.proofs.asking.is_same_term.Goals as goal

pub returns : goal.returns
returns c = same_test c.is_same.result (term_of c.args.left.now) (term_of c.args.right.now) c.is_same.ensures
