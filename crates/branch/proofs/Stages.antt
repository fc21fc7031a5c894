-- What the type of tableaux keeps at each stage.
use Rattle.std.proofs.Common.{◌≡◌, Bool, true, false, subst}
use Rattle.branch.specs.State.{State, tree, IsKept, Keeps}
use Rattle.branch.specs.Tableau.{is_finished}

pub stage_kept : (closed : Bool) (t u : State) → t ≡ u → Keeps closed t → IsKept u
stage_kept true t u e h = subst IsKept e h.0
stage_kept false t u e h = subst IsKept e h

pub closed_finished : (t u : State) → t ≡ u → Keeps true t → is_finished (tree u) ≡ true
closed_finished t u e h = subst (λ v. is_finished (tree v) ≡ true) e h.1
