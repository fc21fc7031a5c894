use Rattle.std.proofs.Common.{◌≡◌, ◌≤◌, length, map}
use Rattle.tptp_lex.specs.declared.signs.Sign.TheVariants.{Comma}
use Rattle.tptp_reader.specs.View.{raw_variable_tree}
use Rattle.tptp_reader.specs.Parsing.{seen}
use Rattle.tptp_reader.specs.SlowLists.{followed_all}
use Rattle.tptp_reader.specs.SlowTypes.{variable_in}
use Rattle.tptp_reader.proofs.cursor.Parser.variables.Given as goal

-- what reading goes on to give is what it gave from the start
abbrev pub invariant-loop-self : goal.invariant-loop-self
invariant-loop-self l =
    record {
      same : followed_all (variable_in l.typed l.room) Comma (map raw_variable_tree l.variables) (map seen l.self.rest.now)
          ≡ followed_all (variable_in l.typed l.room) Comma (map raw_variable_tree l.initial.variables) (map seen l.initial.self.rest.now);
      shrinks : length l.self.rest.now ≤ length l.initial.self.rest.now;
    }

abbrev pub decreases-loop-self : goal.decreases-loop-self
decreases-loop-self l = length l.self.rest.now
