use Rattle.std.proofs.Common.{◌≡◌, map, length}
use Rattle.dk_reader.specs.Pieces.{piece_seen}
use Rattle.dk_reader.specs.Machine.{frame_seen, closing}
use Rattle.dk_reader.proofs.machine.Machine.close.Given as goal

-- what is left to close makes the whole that all of it makes
abbrev pub invariant-loop-kind : goal.invariant-loop-kind
invariant-loop-kind l = record {
  head : l.self.head ≡ l.initial.self.head;
  whole : closing (map frame_seen l.initial.self.frames) l.initial.scope (piece_seen l.initial.whole) ≡ closing (map frame_seen l.self.frames) l.scope (piece_seen l.whole);
}

abbrev pub decreases-loop-kind : goal.decreases-loop-kind
decreases-loop-kind l = length l.self.frames
