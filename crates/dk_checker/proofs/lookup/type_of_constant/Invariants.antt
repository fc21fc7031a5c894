use Rattle.std.proofs.Common.{◌≡◌, drop}
use Rattle.lp_terms.specs.View.{entries_of}
use Rattle.dk_checker.specs.Asking.{type_of_constant}
use Rattle.dk_checker.proofs.lookup.type_of_constant.Given as goal

-- no entry so far declares the name
abbrev pub invariant-loop-entry : goal.invariant-loop-entry
invariant-loop-entry l = type_of_constant (entries_of (drop l.entry-index l.signature)) l.name ≡ type_of_constant (entries_of l.signature) l.name
