use Rattle.std.proofs.Common.{map}
use Rattle.tptp_include.specs.Outcomes.{placed_of}
use Rattle.zenon_modulo.proofs.Answered.{gathering_given, gathers_list, tells_files}
use Rattle.zenon_modulo.proofs.answer.answer_text.Goals as goal

pub returns-in-Ok-clause-answer : goal.returns-in-Ok-clause-answer
returns-in-Ok-clause-answer g c = λ call read files fault.
    c.answer_statements.ensures.answer call c.args.name.now c.args.bytes.now read
    (gathers_list call.files (g.L.Library.files c.args.library.now) c.args.name.now c.args.bytes.now (map placed_of c.in-Ok.gathered) files c.in-Ok.ensures.list)

pub returns-in-Err-clause-answer : goal.returns-in-Err-clause-answer
returns-in-Err-clause-answer g c = λ call read files fault.
    gathering_given call c.args.name.now c.args.bytes.now c.args.steps read c.in-Err.refusal c.ungathered.result.outcome c.ungathered.result.text.items
    (tells_files call.files (g.L.Library.files c.args.library.now) c.args.name.now c.args.bytes.now c.in-Err.refusal files c.in-Err.ensures.refused)
    fault c.ungathered.ensures.answer c.ungathered.ensures.text
