use Rattle.lp_signature.proofs.Declared.{writable}
use Rattle.lp_signature.proofs.problem.signature_entries.Goals as goal

pub returns-clause-writable : goal.returns-clause-writable
returns-clause-writable c =
    writable c.args.problem.now c.as_slice-symbols.result.now c.as_slice-premises.result.now c.as_slice-symbols.ensures c.as_slice-premises.ensures
    c.in_ok-add_symbols.ensures.declarable c.in_ok-add_premises.ensures.few
