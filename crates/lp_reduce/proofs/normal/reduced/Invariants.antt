use Rattle.lp_terms.specs.View.{term_of, entries_of}
use Rattle.lp_reduce.specs.Normal.{Leads}
use Rattle.lp_reduce.proofs.normal.reduced.Given as goal

abbrev pub invariant-loop-count : goal.invariant-loop-count
invariant-loop-count l = Leads (entries_of l.signature) l.number l.count (term_of l.fn.term) (term_of l.form)
