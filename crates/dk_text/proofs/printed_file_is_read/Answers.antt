use Rattle.dk_text.proofs.OneReading.{text_reads, one_reading}
use Rattle.dk_text.proofs.printed_file_is_read.Goals as goal

pub returns : goal.returns
returns c = λ es f. (text_reads es f, λ ds r. one_reading es ds f r)
