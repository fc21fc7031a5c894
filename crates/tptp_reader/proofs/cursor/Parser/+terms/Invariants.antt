use Rattle.std.proofs.Common.{◌≡◌, ◌≤◌, length, map, ◌+◌, ◌*◌}
use Rattle.tptp_lex.specs.declared.signs.Sign.TheVariants.{Comma}
use Rattle.tptp_reader.specs.View.{raw_term_tree}
use Rattle.tptp_reader.specs.Parsing.{seen}
use Rattle.tptp_reader.specs.SlowLists.{followed_all}
use Rattle.tptp_reader.specs.SlowTerms.{term_in}
use Rattle.tptp_reader.proofs.cursor.Parser.+terms.Given as goal

abbrev pub decreases-symbol : goal.decreases-symbol
decreases-symbol l = 3 * l.room

abbrev pub decreases-term : goal.decreases-term
decreases-term l = 3 * l.room + 1

abbrev pub decreases-terms : goal.decreases-terms
decreases-terms l = 3 * l.room + 2

-- what reading goes on to give is what it gave from the start
abbrev pub invariant-terms-loop-self : goal.invariant-terms-loop-self
invariant-terms-loop-self l =
    record {
      same : followed_all (term_in l.typed l.room) Comma (map raw_term_tree l.terms) (map seen l.self.rest.now)
          ≡ followed_all (term_in l.typed l.room) Comma (map raw_term_tree l.initial.terms) (map seen l.initial.self.rest.now);
      shrinks : length l.self.rest.now ≤ length l.initial.self.rest.now;
    }

abbrev pub decreases-terms-loop-self : goal.decreases-terms-loop-self
decreases-terms-loop-self l = length l.self.rest.now
