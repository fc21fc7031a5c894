use Rattle.std.proofs.Common.{◌≡◌, ◌||◌, ap, ◌∙◌}
use Rattle.tptp_include.specs.Gathering.{has_name}
use Rattle.tptp_include.specs.Outcomes.{holds, placed_of}
use Rattle.tptp_include.proofs.Names.{holds_more, moved_over, same_bytes_back}
use Rattle.tptp_include.proofs.selection.own_names.Goals as goal

pub loop-listed-preserved : goal.loop-listed-preserved
loop-listed-preserved c = λ name.
    let grown = holds_more c.loop-listed.names c.insert.new.self c.own_name.result c.in_ok-insert.ensures.updates name in
    let own = rw c.own_name.ensures at grown in
    moved_over (λ g. has_name name (placed_of g)) c.args.list.now c.loop-listed.listed-index c.listed-item.result (holds c.loop-listed.names name) _
    c.loop-listed-test.true c.listed-item.is
    (own ∙ ap (λ b. b || holds c.loop-listed.names name) (same_bytes_back _ name)) (c.loop-listed.invariant name)
