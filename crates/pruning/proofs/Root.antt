-- The tree of a lawful tableau without an Open leaf derives what was given.
use Rattle.std.proofs.Common.{◌≡◌, true, refl, sym, subst, List, [], ◌++◌, inl, inr, Contains}
use Rattle.std.proofs.lemmas.List.Elements.{Contains-append_left, Contains-append_right, Contains-append_cases}
use Rattle.zm_logic.specs.Tree.{Form}
use Rattle.zm_logic.proofs.Sames.{Contains-none}
use Rattle.branch.specs.Branch.{extend}
use Rattle.branch.specs.Setting.{Setting}
use Rattle.branch.specs.Sound.{IsSound, AreGiven}
use Rattle.branch.specs.Normal.{Made, Normalizes, MakesAll}
use Rattle.branch.specs.Tableau.{Node, uses, enter, is_finished, IsTableau}
use Rattle.branch.specs.Stopping.{IsRoot}
use Rattle.branch.proofs.Branches.{extend-cases, extend-has}
use Rattle.branch.proofs.Closings.{IsWithin}
use Rattle.branch.proofs.Derived.{uses_within, root_branch}
use Rattle.branch.proofs.Root.{root_given, roots_reached}
use Rattle.sequent_proof.specs.Tree.{DTree, IsDerivation}
use Rattle.pruning.specs.Trees.{derivation_tree, tableau_derivation}
use Rattle.pruning.specs.Laws as laws
use Rattle.pruning.proofs.Converted.{converted_adds, converted_derives}
use Rattle.pruning.proofs.Derived.{tree_adds, derives}

module _ (s : Setting) (sound : IsSound s) (given normal : List Form) (reached : MakesAll (Normalizes s) given (Made.made normal)) where
  root_derives : (tree : Node) → AreGiven s given → IsTableau s (extend [] normal) tree → is_finished tree ≡ true
      → IsDerivation s.symbols s.rules [] (tableau_derivation given normal tree)
  root_derives tree h t finished =
      let root = extend [] normal in
      let fine = root_given s sound given root h (record { normal = normal; reached = reached; distinct = refl }) in
      let branch = root_branch s sound given root (λ f m. (h.typed f m, h.parameters f m)) (λ f m. (fine.typed f m, fine.parameters f m)) in
      let used = uses_within s sound tree (enter [] root) [] root (root ++ given) branch t.lawful finished in
      let above : List Form → DTree = λ g. derivation_tree root g tree in
      converted_derives s sound above (λ g. tree_adds tree root g) (uses root tree) (root ++ given) branch.typed
      (λ below g low high. derives s sound tree (enter [] root) [] root (root ++ given) below g branch t.lawful finished t.entered low high)
      given given normal [] (roots_reached s given normal reached refl) (λ f m. Contains-append_left given [] f m)
      (λ f m. elim (extend-cases [] normal f (used f m)) [
        | inl i ↦ absurd (Contains-none f i)
        | inr i ↦ Contains-append_left normal (given ++ []) f i
      ])
      (λ f m. elim (Contains-append_cases normal (given ++ []) f m) [
        | inl i ↦ Contains-append_left root given f (extend-has [] normal f i)
        | inr i ↦ elim (Contains-append_cases given [] f i) [
          | inl j ↦ Contains-append_right root given f j
          | inr j ↦ absurd (Contains-none f j)
        ]
      ])

pub closed_tableaux_are_derivations : laws.ClosedTableauxAreDerivations
closed_tableaux_are_derivations s given root tree sound h is t finished =
    root_derives s sound given is.normal is.reached tree h (subst (λ r. IsTableau s r tree) (sym is.distinct) t) finished

pub end_sequents_are_given : laws.EndSequentsAreGiven
end_sequents_are_given given normal tree =
    converted_adds (λ g. derivation_tree (extend [] normal) g tree) (λ g. tree_adds tree (extend [] normal) g) given given normal
