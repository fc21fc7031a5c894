use Rattle.std.proofs.Common.{◌≡◌, take}
use Rattle.lp_signature.specs.Prelude.{iota}
use Rattle.lp_signature.specs.Translation.{read_type}
use Rattle.lp_signature.specs.View.{scope_tree, variable_or}
use Rattle.lp_signature.proofs.scope.type_variable.Given as goal

abbrev pub invariant-loop-bound : goal.invariant-loop-bound
invariant-loop-bound l = read_type (scope_tree (take l.bound-index l.scope)) l.number ≡ variable_or l.found iota
