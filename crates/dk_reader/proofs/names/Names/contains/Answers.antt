use Rattle.std.proofs.Common.{◌∙◌, ap}
use Rattle.lp_terms.specs.Names.{is_among}
use Rattle.dk_reader.proofs.NamesAmong.{among_reversed}
use Rattle.dk_reader.proofs.names.Names.contains.Goals as goal

pub returns : goal.returns
returns c = c.contains.ensures ∙ among_reversed (λ k. k.now) c.args.name.now c.self.inside.table.keys ∙ ap (λ z. is_among c.args.name.now z) c.self.view_is
