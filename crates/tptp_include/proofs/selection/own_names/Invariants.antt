use Rattle.std.proofs.Common.{◌≡◌, ◌||◌, drop}
use Rattle.std.specs.List.{list_any}
use Rattle.tptp_reader.specs.Raw.{Name}
use Rattle.tptp_include.specs.Gathering.{has_name}
use Rattle.tptp_include.specs.Outcomes.{holds, placed_of}
use Rattle.tptp_include.proofs.selection.own_names.Given as goal

-- a name is among those so far or among those that are left
abbrev pub invariant-loop-listed : goal.invariant-loop-listed
invariant-loop-listed l = (name : Name) →
    holds l.names name || list_any (λ g. has_name name (placed_of g)) (drop l.listed-index l.list)
    ≡ list_any (λ g. has_name name (placed_of g)) l.list
