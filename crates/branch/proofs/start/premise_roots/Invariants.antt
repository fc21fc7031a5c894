use Rattle.std.proofs.Common.{take}
use Rattle.branch.specs.Roots.{AreRoots, premise_forms}
use Rattle.branch.proofs.start.premise_roots.Given as goal

abbrev pub invariant-loop-premise : goal.invariant-loop-premise
invariant-loop-premise l = AreRoots l.store (premise_forms (take l.premise-index l.premises)) l.roots
