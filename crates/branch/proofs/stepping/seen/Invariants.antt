use Rattle.std.proofs.Common.{◌≡◌, map, take}
use Rattle.branch.proofs.stepping.seen.Given as goal

abbrev pub invariant-loop-one : goal.invariant-loop-one
invariant-loop-one l = l.all ≡ map (λ o. o.offer) (take l.one-index l.listed)
