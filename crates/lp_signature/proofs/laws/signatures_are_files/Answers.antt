use Rattle.lp_signature.proofs.SignatureIsFile.{signatures_are_files}
use Rattle.lp_signature.proofs.laws.signatures_are_files.Goals as goal

pub returns : goal.returns
returns c = signatures_are_files
