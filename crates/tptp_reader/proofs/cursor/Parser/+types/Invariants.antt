use Rattle.std.proofs.Common.{◌≡◌, ◌≤◌, length, map, ◌+◌, ◌*◌}
use Rattle.tptp_reader.specs.View.{raw_type_tree}
use Rattle.tptp_reader.specs.Parsing.{seen}
use Rattle.tptp_reader.specs.SlowLists.{followed_all}
use Rattle.tptp_reader.specs.SlowTypes.{type_in}
use Rattle.tptp_reader.proofs.cursor.Parser.+types.Given as goal

abbrev pub decreases-constructor : goal.decreases-constructor
decreases-constructor l = 4 * l.room

abbrev pub decreases-written_type : goal.decreases-written_type
decreases-written_type l = 4 * l.room + 1

abbrev pub decreases-types_from : goal.decreases-types_from
decreases-types_from l = 4 * l.room + 2

abbrev pub decreases-types : goal.decreases-types
decreases-types l = 4 * l.room + 3

-- what reading goes on to give is what it gave from the start
abbrev pub invariant-types_from-loop-between : goal.invariant-types_from-loop-between
invariant-types_from-loop-between l =
    record {
      same : followed_all (type_in l.room) l.between (map raw_type_tree l.types) (map seen l.self.rest.now)
          ≡ followed_all (type_in l.room) l.between (map raw_type_tree l.initial.types) (map seen l.initial.self.rest.now);
      shrinks : length l.self.rest.now ≤ length l.initial.self.rest.now;
    }

abbrev pub decreases-types_from-loop-between : goal.decreases-types_from-loop-between
decreases-types_from-loop-between l = length l.self.rest.now
