use Rattle.std.proofs.Common.{◌≡◌, drop}
use Rattle.std.specs.List.{list_all}
use Rattle.dk_reader.proofs.rule.are_marked.Given as goal

-- the marks go on from here
abbrev pub invariant-loop-mark : goal.invariant-loop-mark
invariant-loop-mark l = list_all (λ m. m) (drop l.mark-index l.marks) ≡ list_all (λ m. m) l.marks
