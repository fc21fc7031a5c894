use Rattle.std.proofs.Common.{ap, not, ◌∙◌}
use Rattle.tptp_include.proofs.Lists.{any_placed}
use Rattle.tptp_include.proofs.Names.{find_alike}
use Rattle.tptp_include.proofs.selection.first_absent.Goals as goal

pub returns : goal.returns
returns c = c.first_outside.ensures ∙ find_alike _ _ (λ name. ap not (c.in_ok-names.ensures name ∙ any_placed name c.args.list.now)) c.args.asked.now
