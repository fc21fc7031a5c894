use Rattle.std.proofs.Common.{◌≡◌, drop}
use Rattle.lp_terms.specs.View.{entries_of}
use Rattle.dk_checker.specs.Asking.{is_by_def}
use Rattle.dk_checker.proofs.lookup.is_by_def.Given as goal

-- no entry so far declares the name by def
abbrev pub invariant-loop-entry : goal.invariant-loop-entry
invariant-loop-entry l = is_by_def (entries_of (drop l.entry-index l.signature)) l.name ≡ is_by_def (entries_of l.signature) l.name
