use Rattle.std.proofs.Common.{sym, ◌∙◌, ap, map, drop, arith}
use Rattle.dk_reader.specs.Seen.{seen}
use Rattle.dk_reader.specs.Machine.{go_on, read, state_seen, outcome_seen}
use Rattle.dk_reader.proofs.Steps.{read_binder}
use Rattle.dk_reader.proofs.Answered.{first_seen, read_at}
use Rattle.dk_reader.proofs.machine.Machine.advance.Goals as goal

pub returns-in-On-clause-read : goal.returns-in-On-clause-read
returns-in-On-clause-read c =
    let tokens = map seen c.args.tokens.now in
    let scope = c.args.scope.now in
    read_binder c.args.names.now tokens (state_seen c.args.self.now scope) c.in-Some.name.now (sym c.in-Some.ensures)
    ∙ ap (go_on (read c.args.names.now (drop 2 tokens)) tokens) (sym (c.in_ok-bind.ensures scope) ∙ ap (λ s. outcome_seen s (state_seen c.bind.new.self scope)) c.in-On.is)

pub returns-in-On-2-clause-read : goal.returns-in-On-2-clause-read
returns-in-On-2-clause-read c =
    let tokens = map seen c.args.tokens.now in
    let after = state_seen c.step.new.self c.step.new.scope in
    read_at c.args.names.now tokens _ (state_seen c.args.self.now c.args.scope.now) _ (first_seen c.args.tokens.now _ (omega arith)) (sym c.in_default.ensures) c.in_ok-step-in-len1-up.ensures
    ∙ ap (λ s. go_on (read c.args.names.now (drop 1 tokens)) tokens (outcome_seen s after)) c.in-On-2.is
