use Rattle.std.proofs.Common.{sym, ◌∙◌, ap}
use Rattle.dk_reader.specs.Seen.{seen}
use Rattle.dk_reader.specs.Machine.{put, step, state_seen}
use Rattle.dk_reader.proofs.Answered.{outcome_of}
use Rattle.dk_reader.proofs.machine.Machine.step.Goals as goal

pub returns-in_ok-piece-in-Name : goal.returns-in_ok-piece-in-Name
returns-in_ok-piece-in-Name c =
    let s = state_seen c.args.self.now c.args.scope.now in
    outcome_of c.put.result c.put.new.self c.args.scope.now _ _ (c.put.ensures c.args.scope.now)
    (ap (λ p. put p s) c.in_ok-piece-in-Name.ensures ∙ ap (λ t. step c.args.names.now (seen t) s) (sym c.in-Name.is))

pub returns-in-Type : goal.returns-in-Type
returns-in-Type c =
    let s = state_seen c.args.self.now c.args.scope.now in
    outcome_of c.put-in-Type.result c.put-in-Type.new.self c.args.scope.now _ _ (c.put-in-Type.ensures c.args.scope.now)
    (ap (λ p. put p s) c.universe.ensures ∙ ap (λ t. step c.args.names.now (seen t) s) (sym c.in-Type.is))
