use Rattle.std.proofs.Common.{◌≡◌, ◌<◌, take, length, IfSome}
use Rattle.tff_typing.specs.Scope.{look_up}
use Rattle.tff_typing.specs.View.{scope_tree, bound_in}
use Rattle.tff_typing.proofs.scope.look_up.Given as goal

abbrev pub invariant-loop-i : goal.invariant-loop-i
invariant-loop-i l = record {
  found : look_up (scope_tree (take l.i l.scope)) l.name ≡ bound_in l.scope l.found;
  within : IfSome l.found (λ i. i < length l.scope);
}
