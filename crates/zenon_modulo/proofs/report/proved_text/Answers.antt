use Rattle.std.proofs.Common.{IfOk, subst}
use Rattle.dk_text.specs.Text.{file_text}
use Rattle.dk_printer.specs.Reading.{HasOneReading}
use Rattle.zenon_modulo.proofs.report.proved_text.Goals as goal

pub returns-clause-reading : goal.returns-clause-reading
returns-clause-reading c =
    subst (λ es. IfOk c.with_file.result (λ t. HasOneReading (file_text es) es)) c.in_ok-file.ensures c.with_file.ensures.reading
