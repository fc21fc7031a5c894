use Rattle.dk_reader.proofs.Identifiers.{word_ascii}
use Rattle.dk_reader.proofs.token.word_at.Goals as goal

pub text_of-requires : goal.text_of-requires
text_of-requires c = word_ascii c.args.bytes.now _ c.word_length-end.ensures.word
