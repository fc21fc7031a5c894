use Rattle.std.proofs.Common.{◌≡◌, ◌||◌, drop}
use Rattle.tptp_include.specs.Gathering.{Placed, has_a_name, name_of}
use Rattle.tptp_include.specs.Outcomes.{holds}
use Rattle.tptp_include.proofs.selection.asked_names.Given as goal

-- a name is among those so far or among those that are left
abbrev pub invariant-loop-name : goal.invariant-loop-name
invariant-loop-name l = (p : Placed) →
    holds l.names (name_of p.statement) || has_a_name (drop l.name-index l.asked) p ≡ has_a_name l.asked p
