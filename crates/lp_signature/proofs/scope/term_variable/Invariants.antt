use Rattle.std.proofs.Common.{◌≡◌, take}
use Rattle.lp_terms.specs.Term.{Lp}
use Rattle.zm_logic.specs.View.{type_tree}
use Rattle.lp_signature.specs.Translation.{read_term}
use Rattle.lp_signature.specs.View.{scope_tree, variable_or}
use Rattle.lp_signature.proofs.scope.term_variable.Given as goal

abbrev pub invariant-loop-bound : goal.invariant-loop-bound
invariant-loop-bound l = (u : Lp) → read_term (scope_tree (take l.bound-index l.scope)) l.number (type_tree l.ty) u ≡ variable_or l.found u
