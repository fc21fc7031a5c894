use Rattle.std.proofs.Common.{◌≡◌, ◌≤◌, ◌+◌, ◌*◌, length, map}
use Rattle.tptp_reader.specs.Parsing.{seen}
use Rattle.tptp_reader.specs.SlowForms.{unit_in, chain_from}
use Rattle.tptp_reader.specs.Kept.{limited, kept_tree, joint_connective}
use Rattle.tptp_reader.proofs.cursor.Parser.+reading.Given as goal

abbrev pub decreases-unit : goal.decreases-unit
decreases-unit l = 5 * l.room

abbrev pub decreases-chain : goal.decreases-chain
decreases-chain l = 5 * l.room + 1

abbrev pub decreases-joined : goal.decreases-joined
decreases-joined l = 5 * l.room + 1

abbrev pub decreases-negation : goal.decreases-negation
decreases-negation l = 5 * l.room + 1

abbrev pub decreases-quantified : goal.decreases-quantified
decreases-quantified l = 5 * l.room + 1

abbrev pub decreases-completed : goal.decreases-completed
decreases-completed l = 5 * l.room + 2

abbrev pub decreases-formula : goal.decreases-formula
decreases-formula l = 5 * l.room + 3

abbrev pub decreases-bracketed : goal.decreases-bracketed
decreases-bracketed l = 5 * l.room + 4

-- what the chain goes on to give is what it gave from the start
abbrev pub invariant-chain-loop-connective : goal.invariant-chain-loop-connective
invariant-chain-loop-connective l =
    record {
      same : chain_from (limited.of_join (joint_connective l.joint)) l.connective (unit_in limited l.typed l.room) (kept_tree l.formula) (map seen l.self.rest.now)
          ≡ chain_from (limited.of_join (joint_connective l.joint)) l.connective (unit_in limited l.typed l.room) (kept_tree l.initial.formula) (map seen l.initial.self.rest.now);
      shrinks : length l.self.rest.now ≤ length l.initial.self.rest.now;
    }

abbrev pub decreases-chain-loop-connective : goal.decreases-chain-loop-connective
decreases-chain-loop-connective l = length l.self.rest.now
