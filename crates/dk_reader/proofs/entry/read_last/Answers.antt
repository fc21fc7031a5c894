use Rattle.std.proofs.lemmas.Bool.{both_ways}
use Rattle.dk_reader.proofs.Entering.{not_last}
use Rattle.dk_reader.proofs.entry.read_last.Goals as goal

pub returns-else-is_last : goal.returns-else-is_last
returns-else-is_last c =
    let term = rw c.in-Some.is at c.in_ok-term.ensures.read in
    not_last _ _ _ _ _ term (λ e. both_ways c.is_last.result c.if-is_last.false (c.is_last.ensures.1 e))
