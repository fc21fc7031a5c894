use Rattle.std.proofs.Common.{map, string_bytes, refl}
use Rattle.zenon_modulo.specs.Claims.{call_of}
use Rattle.zenon_modulo.proofs.Calls.{file_command, reads_nothing}
use Rattle.zenon_modulo.proofs.answer.prove.Goals as goal

pub returns-in-File-clause-answered : goal.returns-in-File-clause-answered
returns-in-File-clause-answered g c = λ words command.
    c.answer_file.ensures.answered (call_of g.S.Source g.L.Library words c.args.input.now c.args.input.now c.args.library.now c.answer_file.new.library)
    (file_command (map string_bytes words) c.args.operand.now c.in-File.name c.text.result.now c.args.steps c.in-File.is c.text.ensures command)
    refl refl refl refl

pub returns-in-File-clause-reads : goal.returns-in-File-clause-reads
returns-in-File-clause-reads g c = reads_nothing (g.S.Source.left c.args.input.now)
