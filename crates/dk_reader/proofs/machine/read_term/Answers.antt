use Rattle.std.proofs.Common.{◌≡◌, true, sym, ◌∙◌, ap, map, length, arith, rules}
use Rattle.std.proofs.lemmas.List.{length-map}
use Rattle.dk_reader.specs.Seen.{seen}
use Rattle.dk_reader.specs.Spelled.{ends_term}
use Rattle.dk_reader.specs.Machine.{read, state_seen}
use Rattle.dk_reader.proofs.Terms.{read_refused}
use Rattle.dk_reader.proofs.Answered.{some_of, none_of, rest_seen, rest_within, read_ended, read_open}
use Rattle.dk_reader.proofs.machine.read_term.Goals as goal

pub loop-machine-init : goal.loop-machine-init
loop-machine-init c = record {
  read = sym (ap (read c.args.names.now (map seen c.args.tokens.now)) (c.new-machine.ensures c.args.scope.now));
  within = omega arith;
}

pub returns-in-None-clause-read : goal.returns-in-None-clause-read
returns-in-None-clause-read c =
    read_refused c.args.names.now c.args.scope.now (map seen c.args.tokens.now)
    (c.loop-machine.invariant.read ∙ none_of c.in_ok-count.field-0 _ _ c.in-None.is c.in_ok-count.ensures.read)

pub loop-machine-preserved : goal.loop-machine-preserved
loop-machine-preserved c =
    let count = c.in-Some.count in
    let rest = c.loop-machine.rest.now in
    let after = state_seen c.advance.new.self c.advance.new.scope in
    record {
      read = c.loop-machine.invariant.read ∙ some_of c.in_ok-count.field-0 count _ _ c.in-Some.is c.in_ok-count.ensures.read
          ∙ ap (λ ts. read c.args.names.now ts after) (sym (rest_seen rest count));
      within = rest_within rest count (length c.args.tokens.now) c.loop-machine.invariant.within;
    }

pub returns-in-Some-2-clause-read : goal.returns-in-Some-2-clause-read
returns-in-Some-2-clause-read c =
    let ends : ends_term (map seen c.loop-machine.rest.now) ≡ true = search rules in
    (read_ended c.args.names.now c.args.scope.now c.finish.new.scope (map seen c.args.tokens.now) (map seen c.loop-machine.rest.now)
    (state_seen c.loop-machine.machine c.loop-machine.scope) c.in_ok-piece.field-0 c.in-Some-2.piece c.loop-machine.invariant.read ends c.in_ok-piece.ensures c.in-Some-2.is).spells

pub returns-in-Some-2-clause-scope : goal.returns-in-Some-2-clause-scope
returns-in-Some-2-clause-scope c =
    let ends : ends_term (map seen c.loop-machine.rest.now) ≡ true = search rules in
    (read_ended c.args.names.now c.args.scope.now c.finish.new.scope (map seen c.args.tokens.now) (map seen c.loop-machine.rest.now)
    (state_seen c.loop-machine.machine c.loop-machine.scope) c.in_ok-piece.field-0 c.in-Some-2.piece c.loop-machine.invariant.read ends c.in_ok-piece.ensures c.in-Some-2.is).scope_kept

pub returns-in-Some-2-clause-shrinks : goal.returns-in-Some-2-clause-shrinks
returns-in-Some-2-clause-shrinks c =
    let ends : ends_term (map seen c.loop-machine.rest.now) ≡ true = search rules in
    let h = (read_ended c.args.names.now c.args.scope.now c.finish.new.scope (map seen c.args.tokens.now) (map seen c.loop-machine.rest.now)
    (state_seen c.loop-machine.machine c.loop-machine.scope) c.in_ok-piece.field-0 c.in-Some-2.piece c.loop-machine.invariant.read ends c.in_ok-piece.ensures c.in-Some-2.is).shrinks in
    omega (arith, h, length-map c.loop-machine.rest.now seen, length-map c.args.tokens.now seen)

pub returns-clause-read : goal.returns-clause-read
returns-clause-read c =
    let ends : ends_term (map seen c.loop-machine.rest.now) ≡ true = search rules in
    read_open c.args.names.now c.args.scope.now c.finish.new.scope (map seen c.args.tokens.now) (map seen c.loop-machine.rest.now)
    (state_seen c.loop-machine.machine c.loop-machine.scope) c.in_ok-piece.field-0 c.loop-machine.invariant.read ends c.in_ok-piece.ensures c.in-None-2.is
