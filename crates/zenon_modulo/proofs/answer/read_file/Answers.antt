use Rattle.std.proofs.Common.{refl}
use Rattle.zenon_modulo.proofs.FileText.{file_read}
use Rattle.zenon_modulo.proofs.answer.read_file.Goals as goal

pub returns-in-Ok-clause-read : goal.returns-in-Ok-clause-read
returns-in-Ok-clause-read g c = file_read (g.L.Library.files c.args.library.now) c.args.name.now 16777217 _ c.file_bytes.result refl c.in-Ok.ensures.got c.file_bytes.ensures
