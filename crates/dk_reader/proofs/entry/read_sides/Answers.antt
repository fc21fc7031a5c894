use Rattle.std.proofs.Common.{map, subst}
use Rattle.dk_text.specs.Names.{Scope}
use Rattle.dk_reader.specs.Seen.{seen}
use Rattle.dk_reader.specs.Pieces.{piece_seen}
use Rattle.dk_reader.specs.Parts.{context_seen, parts_seen}
use Rattle.dk_reader.specs.Entries.{SpellsRight}
use Rattle.dk_reader.proofs.Entering.{answered, no_sides, no_right, sides_read}
use Rattle.dk_reader.proofs.entry.read_sides.Goals as goal

pub returns-in_default-after : goal.returns-in_default-after
returns-in_default-after c =
    let left = rw c.in-Some.is at c.in_ok-left.ensures.read in
    no_sides _ _ _ _ _ left (λ middle e. absurd (c.in_default-after.ensures.value middle e))

pub returns : goal.returns
returns c =
    let left = rw c.in-Some.is at c.in_ok-left.ensures.read in
    let same = rw c.in-Some.is at c.in_ok-left.ensures.scope in
    let behind = c.in-Some-after.ensures.value in
    answered c.read_right.result
    (λ n. no_right _ _ _ _ _ _ left behind n)
    (λ p r. sides_read _ _ _ _ _ _ _ _ left behind
    (subst (λ (z : Scope). SpellsRight c.args.names.now z (map seen c.in-Some-after.right.now) (context_seen c.args.context) (piece_seen c.in-Some.left.piece) (parts_seen p)) same r))
    c.read_right.ensures
