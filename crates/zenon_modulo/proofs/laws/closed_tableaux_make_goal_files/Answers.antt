use Rattle.zenon_modulo.proofs.laws.closed_tableaux_make_goal_files.Goals as goal
use Rattle.zenon_modulo.proofs.ProofFiles.{make_goal_files}

pub returns : goal.returns
returns c =
    make_goal_files c.keeping_all_keeps_the_premises.ensures c.closed_tableaux_are_derivations.ensures c.end_sequents_are_given.ensures
    c.signatures_are_well_formed.ensures c.goal_files_are_made.ensures
