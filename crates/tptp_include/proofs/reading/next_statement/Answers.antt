use Rattle.tptp_include.proofs.Steps.{reads_refused}
use Rattle.tptp_include.proofs.reading.next_statement.Goals as goal

pub returns-in_ok-refusal_in-in-Err-clause-refused : goal.returns-in_ok-refusal_in-in-Err-clause-refused
returns-in_ok-refusal_in-in-Err-clause-refused c = λ fs path count.
    rw c.in_ok-refusal_in-in-Err.ensures.refused
    (reads_refused fs path c.args.name.now c.args.bytes.now c.args.at count c.in-Err.refusal c.in-Err.ensures.answer)
