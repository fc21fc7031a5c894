use Rattle.std.proofs.Common.{[]}
use Rattle.dk_text.proofs.Unique.{reads_unique}
use Rattle.dk_text.proofs.reading_is_unique.Goals as goal

pub returns : goal.returns
returns c = λ bytes ds es r s. reads_unique [] bytes ds es r s
