use Rattle.tff_typing.proofs.declarations.individual_of.Goals as goal

pub returns : goal.returns
returns c = λ x. rw c.individual.ensures at (c.function_of.ensures x)
