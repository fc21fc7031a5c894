use Rattle.std.proofs.Common.{◌∙◌}
use Rattle.std.proofs.lemmas.List.Elements.{filter_agree}
use Rattle.tptp_include.specs.Outcomes.{placed_of}
use Rattle.tptp_include.proofs.selection.keep_named.Goals as goal

pub returns : goal.returns
returns c = c.keep_inside.ensures ∙ filter_agree _ _ (λ g. c.in_ok-names.ensures (placed_of g)) c.args.list.now.items
