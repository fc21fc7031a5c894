use Rattle.lp_terms.specs.Signature.{Entry}
use Rattle.dk_text.specs.Names.{known, and_then}
use Rattle.dk_reader.specs.Pieces.{value_seen}
use Rattle.dk_reader.proofs.judge.judge_value.Goals as goal

pub returns-in-Err : goal.returns-in-Err
returns-in-Err c = c.in-Err.ensures.new (and_then (value_seen c.args.ty) (λ t. known (Entry.declare c.args.name.now c.args.definable t)))
