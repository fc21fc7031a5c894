use Rattle.tptp_lex.proofs.LongestSign.{found_is_longest}
use Rattle.tptp_lex.proofs.signs.sign_at.Goals as goal

pub returns-clause-longest : goal.returns-clause-longest
returns-clause-longest c = found_is_longest c.args.bytes.now c.table_sign.result c.table_sign.ensures.value
