use Rattle.std.proofs.Common.{◌≡◌, ◌-◌, take, length}
use Rattle.zm_logic.specs.View.{form_tree}
use Rattle.lp_translation.specs.ProofOf.{earliest}
use Rattle.lp_translation.specs.View.{found_proof, hypotheses_of}
use Rattle.lp_translation.specs.ViewOldest.{forms_of, oldest_or}
use Rattle.lp_translation.proofs.hypotheses.earliest_proof.Given as goal

-- the facts that are left, and what was found, give the earliest proof
abbrev pub invariant-loop-place : goal.invariant-loop-place
invariant-loop-place l =
    oldest_or (hypotheses_of (take (length l.facts - l.place) l.facts)) (forms_of l.wanted.items) (found_proof l.found)
    ≡ earliest (hypotheses_of l.facts) (form_tree l.form)
