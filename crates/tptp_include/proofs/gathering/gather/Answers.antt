use Rattle.std.proofs.Common.{map}
use Rattle.std.proofs.lemmas.Result.{err_from_is_err_and}
use Rattle.tptp_include.specs.Gathering.{GathersAll, Outcome}
use Rattle.tptp_include.specs.Outcomes.{placed_of}
use Rattle.tptp_include.proofs.Steps.{list_told, refusal_is_told}
use Rattle.tptp_include.proofs.gathering.gather.Goals as goal

pub returns-in_err-list-clause-refused : goal.returns-in_err-list-clause-refused
returns-in_err-list-clause-refused g c =
    let p = err_from_is_err_and c.from_residual-in_err-list.result c.from_residual-in_err-list.ensures.1 in
    rw (p.1, p.2) (refusal_is_told _ (λ fs o. GathersAll fs c.args.name.now c.args.bytes.now o) _
    (λ fs is. rw (c.in_ok-reached.ensures.0, c.in_ok-reached.ensures.1, c.in_ok-name.ensures) at (c.in_err-list.ensures.told fs is)))

pub returns-clause-list : goal.returns-clause-list
returns-clause-list g c =
    rw c.of-2.ensures (list_told _ (λ fs n. GathersAll fs c.args.name.now c.args.bytes.now (Outcome.gathered (map placed_of c.in_ok-list.list.items) n)) _
    (λ fs is. rw (c.in_ok-reached.ensures.0, c.in_ok-reached.ensures.1, c.in_ok-name.ensures) at (c.in_ok-list.ensures.told fs is)))
