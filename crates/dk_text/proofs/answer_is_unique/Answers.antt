use Rattle.std.proofs.Common.{[]}
use Rattle.dk_text.proofs.OneAnswer.{one_file_answer}
use Rattle.dk_text.proofs.answer_is_unique.Goals as goal

pub returns : goal.returns
returns c = λ bytes a b p q. one_file_answer [] bytes a b p q
