use Rattle.std.proofs.Common.{◌≡◌, ◌||◌, ap, ◌∙◌}
use Rattle.tptp_include.specs.Gathering.{has_name, name_of}
use Rattle.tptp_include.specs.Outcomes.{holds}
use Rattle.tptp_include.proofs.Names.{holds_more, moved_over}
use Rattle.tptp_include.proofs.selection.asked_names.Goals as goal

pub loop-name-preserved : goal.loop-name-preserved
loop-name-preserved c = λ p.
    let text = name_of p.statement in
    let grown = holds_more c.loop-name.names c.insert.new.self c.text.result c.in_ok-insert.ensures.updates text in
    moved_over (λ name. has_name name p) c.args.asked.now c.loop-name.name-index c.name-item.result (holds c.loop-name.names text) _
    c.loop-name-test.true c.name-item.is (rw c.text.ensures at grown) (c.loop-name.invariant p)
