use Rattle.lp_signature.proofs.typed_laws.signatures_are_well_formed.Goals as goal
use Rattle.lp_signature.proofs.SignatureIsWellFormed.{signatures_are_well_formed}

-- src/typed_laws.rt:6:1
pub returns : goal.returns
returns c = signatures_are_well_formed c.selected_rules_are_sound.ensures
