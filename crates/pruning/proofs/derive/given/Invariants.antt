use Rattle.std.proofs.Common.{◌≡◌, map, take}
use Rattle.pruning.proofs.derive.given.Given as goal

abbrev pub invariant-loop-root : goal.invariant-loop-root
invariant-loop-root l = l.all ≡ map (λ r. r.given) (take l.root-index l.roots)
