use Rattle.std.proofs.Common.{sym, ◌∙◌, ap}
use Rattle.std.specs.Option.{option_map}
use Rattle.dk_reader.specs.Pieces.{piece_seen}
use Rattle.dk_reader.specs.Machine.{finish, whole, finish_seen, state_seen}
use Rattle.dk_reader.proofs.Answered.{finish_of}
use Rattle.dk_reader.proofs.machine.Machine.finish.Goals as goal

pub returns : goal.returns
returns c =
    let s = state_seen c.args.self.now c.args.scope.now in
    let empty = c.is_empty.ensures in
    ap (λ r. finish_seen r c.close.new.scope) c.then_some.ensures
    ∙ finish_of c.close.new.self.frames c.in_ok-whole.whole c.close.new.scope c.is_empty.result empty.0 empty.1
    ∙ sym (ap (λ h. finish s (option_map piece_seen h)) (sym c.in-Some.ensures.value) ∙ ap whole c.in_ok-whole.ensures.whole)
