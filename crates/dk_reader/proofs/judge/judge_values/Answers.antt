use Rattle.dk_reader.specs.Pieces.{value_seen}
use Rattle.dk_reader.specs.Parts.{defined_as}
use Rattle.dk_reader.proofs.judge.judge_values.Goals as goal

pub returns-in-Err : goal.returns-in-Err
returns-in-Err c = c.in-Err.ensures.new (defined_as c.args.name.now (value_seen c.args.ty) (value_seen c.args.body))
