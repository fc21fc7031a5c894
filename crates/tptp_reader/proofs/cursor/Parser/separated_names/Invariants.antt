use Rattle.std.proofs.Common.{◌≡◌, ◌≤◌, length, map}
use Rattle.tptp_lex.specs.declared.signs.Sign.TheVariants.{Comma}
use Rattle.tptp_reader.specs.Parsing.{seen}
use Rattle.tptp_reader.specs.SlowLists.{followed_all}
use Rattle.tptp_reader.specs.SlowWords.{name_in}
use Rattle.tptp_reader.proofs.cursor.Parser.separated_names.Given as goal

-- what reading goes on to give is what it gave from the start
abbrev pub invariant-loop-self : goal.invariant-loop-self
invariant-loop-self l =
    record {
      same : followed_all name_in Comma l.names (map seen l.self.rest.now) ≡ followed_all name_in Comma l.initial.names (map seen l.initial.self.rest.now);
      shrinks : length l.self.rest.now ≤ length l.initial.self.rest.now;
    }

abbrev pub decreases-loop-self : goal.decreases-loop-self
decreases-loop-self l = length l.self.rest.now
