use Rattle.std.proofs.Common.{◌∷◌, sym, ◌∙◌, ap, map}
use Rattle.std.specs.Option.{option_map}
use Rattle.dk_reader.specs.Pieces.{piece_seen}
use Rattle.dk_reader.specs.Machine.{put, after_bracket, after_bracket_in, frame_seen}
use Rattle.dk_reader.proofs.Answered.{outcome_of}
use Rattle.dk_reader.proofs.machine.Machine.close_bracket.Goals as goal

pub returns-in-Some-Opened : goal.returns-in-Some-Opened
returns-in-Some-Opened c =
    let w = c.in_ok-whole.whole in
    let scope = c.close.new.scope in
    let b = c.in-Some-Opened.before in
    outcome_of c.put_behind.result c.put_behind.new.self scope _ _ (c.put_behind.ensures scope)
    (ap (λ p. put p (record { frames = map frame_seen c.pop.new.self; head = option_map piece_seen b; scope = scope })) c.bracketed.ensures
    ∙ sym (ap after_bracket c.in_ok-whole.ensures.whole
    ∙ ap (λ fs. after_bracket (record { frames = map frame_seen fs; piece = piece_seen w; scope = scope })) c.in-Some-Opened.ensures
    ∙ ap (λ f. after_bracket_in (frame_seen f ∷ map frame_seen c.pop.new.self) (piece_seen w) scope) c.in-Some-Opened.field-0-is))
