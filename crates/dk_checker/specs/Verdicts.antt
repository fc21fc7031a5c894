-- What a verdict says.
use Rattle.std.specs.Prelude.{ℕ, List, ◌∷◌}
use Rattle.lp_terms.specs.View.{term_of}
use Rattle.dk_checker.specs.declared.verdict.DkPlace.{DkPlace}
use Rattle.dk_checker.specs.declared.verdict.CheckRefusal.{CheckRefusal}
use Rattle.dk_checker.specs.declared.verdict.CheckRefusal.TheVariants as refusals
use Rattle.dk_checker.specs.declared.verdict.Verdict.{Verdict}
use Rattle.dk_checker.specs.declared.verdict.Verdict.TheVariants as verdicts
use Rattle.dk_checker.specs.Found.{Refusal, Stop, Found}
use Rattle.dk_checker.specs.View.{class_of}

-- the entry's number, and the numbers of the parts that lead to the place
abbrev pub place_of : DkPlace → List ℕ
place_of p = p.entry ∷ p.path

abbrev pub refusal_found : CheckRefusal → Stop
refusal_found (refusals.Mismatch p f w fn wn) = Stop.refused (place_of p) (Refusal.mismatch (class_of f) (class_of w) (class_of fn) (class_of wn))
refusal_found (refusals.NotProduct p f n) = Stop.refused (place_of p) (Refusal.not_product (class_of f) (class_of n))
refusal_found (refusals.NotSort p f n) = Stop.refused (place_of p) (Refusal.not_sort (class_of f) (class_of n))
refusal_found (refusals.BodyKind p) = Stop.refused (place_of p) Refusal.body_kind
refusal_found (refusals.RuleHead p) = Stop.refused (place_of p) Refusal.rule_head

-- what the check found where this is its verdict
abbrev pub verdict_found : Verdict → Found (Unit {0})
verdict_found verdicts.Accepted = Found.gives tt
verdict_found (verdicts.Refused r) = Found.stops (refusal_found r)
verdict_found (verdicts.Spent from) = Found.stops (Stop.spent (term_of from))
