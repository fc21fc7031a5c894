use Rattle.std.proofs.Common.{◌≡◌, drop}
use Rattle.dk_text.specs.Names.{index_of}
use Rattle.dk_reader.proofs.Searched.{behind_index}
use Rattle.dk_reader.proofs.scope.Scope.search.Given as goal

-- what is left to search decides
abbrev pub invariant-loop-index : goal.invariant-loop-index
invariant-loop-index l = behind_index l.index (index_of l.name (drop l.index l.self)) ≡ index_of l.name l.self
