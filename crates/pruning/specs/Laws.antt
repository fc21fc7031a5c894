-- What the derivation of a tableau promises. Each statement is the contract of a function of the module laws.
use Rattle.std.specs.Prelude.{◌≡◌, ◌≤◌, true, List, []}
use Rattle.zm_logic.specs.Tree.{Form}
use Rattle.branch.specs.Setting.{Setting}
use Rattle.branch.specs.Sound.{IsSound, AreGiven}
use Rattle.branch.specs.Stopping.{IsRoot}
use Rattle.branch.specs.Tableau.{Node, IsTableau, is_finished}
use Rattle.sequent_proof.specs.Tree.{added, depth, IsDerivation}
use Rattle.pruning.specs.Trees.{tableau_derivation}

-- the derivation of a tableau without an Open leaf is one, modulo any rules and pruned or not
abbrev pub ClosedTableauxAreDerivations : Type 0
ClosedTableauxAreDerivations =
    (s : Setting) (given root : List Form) (tree : Node) → IsSound s → AreGiven s given → (is : IsRoot s given root)
    → IsTableau s root tree → is_finished tree ≡ true
    → IsDerivation s.symbols s.rules [] (tableau_derivation given is.normal tree)

-- its end sequent is what was given
abbrev pub EndSequentsAreGiven : Type 0
EndSequentsAreGiven = (given normal : List Form) (tree : Node) → added (tableau_derivation given normal tree) ≡ given

-- without rules no branch of it has more nodes than a branch of the tableau has Steps and a leaf
abbrev pub DerivationsAreShallow : Type 0
DerivationsAreShallow =
    (s : Setting) (given root : List Form) (tree : Node) → s.rules ≡ [] → (is : IsRoot s given root) → IsTableau s root tree
    → depth (tableau_derivation given is.normal tree) ≤ 513
