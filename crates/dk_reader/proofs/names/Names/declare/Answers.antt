use Rattle.std.proofs.Common.{◌∷◌, ◌∙◌, ap}
use Rattle.lp_terms.specs.Names.{is_among}
use Rattle.dk_reader.proofs.NamesAmong.{declared_first}
use Rattle.dk_reader.proofs.names.Names.declare.Goals as goal
use Rattle.dk_reader.proofs.names.Names.declare.Goals.{in-Ok, in-Err}

pub returns : goal.returns
returns c = elim c.match-insert.branch [
  | in-Ok w ↦ rw w.result-is (declared_first (λ k. k.now) c.args.name c.self.inside.table.keys c.insert.new.self.keys (ap (λ z. is_among c.args.name.now z) c.self.view_is ∙ c.requires) w.in-Ok.ensures.keys
      ∙ ap (λ z. c.args.name.now ∷ z) c.self.view_is)
  | in-Err w ↦ rw w.result-is tt
]
