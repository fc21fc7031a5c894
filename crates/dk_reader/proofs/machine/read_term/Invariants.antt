use Rattle.std.proofs.Common.{◌≡◌, ◌≤◌, map, length}
use Rattle.dk_reader.specs.Seen.{seen}
use Rattle.dk_reader.specs.Machine.{read, fresh, state_seen}
use Rattle.dk_reader.proofs.machine.read_term.Given as goal

-- what is read from here on is what all of the tokens give
abbrev pub invariant-loop-machine : goal.invariant-loop-machine
invariant-loop-machine l = record {
  read : read l.names (map seen l.tokens) (fresh l.initial.scope) ≡ read l.names (map seen l.rest) (state_seen l.machine l.scope);
  within : length l.rest ≤ length l.tokens;
}

abbrev pub decreases-loop-machine : goal.decreases-loop-machine
decreases-loop-machine l = length l.rest
