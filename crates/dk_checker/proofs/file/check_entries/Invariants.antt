use Rattle.std.proofs.Common.{◌≡◌, take, drop}
use Rattle.lp_terms.specs.View.{entries_of}
use Rattle.dk_checker.specs.Inference.{check_after, check}
use Rattle.dk_checker.proofs.file.check_entries.Given as goal

-- the entries so far are accepted
abbrev pub invariant-loop-number : goal.invariant-loop-number
invariant-loop-number l =
    check_after l.limit (entries_of (take l.number l.entries)) l.number (entries_of (drop l.number l.entries)) ≡ check l.limit (entries_of l.entries)
