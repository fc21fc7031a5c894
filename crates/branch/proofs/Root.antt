-- A lawful tableau without an Open leaf gives a derivation of the given formulas before normalising.
use Rattle.std.proofs.Common.{◌≡◌, true, refl, sym, subst, List, [], ◌∷◌, ◌++◌, inl, inr, Contains}
use Rattle.std.proofs.lemmas.List.Elements.{Contains-append_left, Contains-append_right, Contains-append_cases}
use Rattle.zm_logic.specs.Tree.{Form}
use Rattle.zm_logic.specs.Parameter.{Never, HasNoParameter}
use Rattle.zm_logic.specs.Typing.{WellTyped}
use Rattle.zm_logic.proofs.Sames.{Contains-here, Contains-there, Contains-none}
use Rattle.branch.specs.Setting.{Setting}
use Rattle.branch.specs.Sound.{IsSound, AreGiven}
use Rattle.branch.specs.Normal.{Made, Normalizes, MakesAll}
use Rattle.branch.specs.Tableau.{Node, is_finished, enter, IsTableau}
use Rattle.branch.specs.Stopping.{IsRoot}
use Rattle.branch.proofs.Branches.{extend-cases, extend-has}
use Rattle.branch.proofs.Made.{AreReached}
use Rattle.branch.proofs.Kept.{made_is, normal_keeps}
use Rattle.branch.proofs.Children.{AllOf}
use Rattle.branch.proofs.Grows.{all_of, reached_all}
use Rattle.branch.proofs.Rules.{Proves, converted}
use Rattle.branch.proofs.Derived.{derives, uses_within, root_branch}

pub roots_reached : (s : Setting) (fs gs : List Form) {x : Made (List Form)} → MakesAll (Normalizes s) fs x → x ≡ Made.made gs → AreReached s fs gs
roots_reached s [] gs MakesAll.none e = subst (AreReached s []) (made_is [] gs e) tt
roots_reached s (f ∷ fs) gs (MakesAll.more {y = g} {ys = ys} m ms) e =
    subst (AreReached s (f ∷ fs)) (made_is (g ∷ ys) gs e) (m, roots_reached s fs ys ms refl)
roots_reached s (f ∷ fs) gs (MakesAll.first m) e = cc
roots_reached s (f ∷ fs) gs (MakesAll.later m ms) e = cc

abbrev IsFine : Setting → Form → Type 0
IsFine s f = WellTyped s.symbols f × HasNoParameter f

all_fine : (s : Setting) (fs : List Form) → AreGiven s fs → AllOf (IsFine s) fs
all_fine s [] h = tt
all_fine s (f ∷ fs) h = (
  (h.typed f (Contains-here f fs), h.parameters f (Contains-here f fs)),
  all_fine s fs (record { typed = λ g m. h.typed g (Contains-there f fs g m); parameters = λ g m. h.parameters g (Contains-there f fs g m) }),
)

module _ (s : Setting) (sound : IsSound s) where
  -- the normal forms of given formulas are well typed and without parameters
  pub root_given : (given root : List Form) → AreGiven s given → IsRoot s given root → AreGiven s root
  root_given given root h is =
      let reached = roots_reached s given is.normal is.reached refl in
      let normals = reached_all s (IsFine s) (λ f g i w. let x = normal_keeps s sound Never f g i w.0 in (x.typed, x.each w.1)) given is.normal reached (all_fine s given h) in
      let fine : (g : Form) → Contains root g → IsFine s g = λ g m. elim (extend-cases [] is.normal g (subst (λ y. Contains y g) (sym is.distinct) m)) [
        | inl i ↦ absurd (Contains-none g i)
        | inr i ↦ all_of (IsFine s) is.normal normals g i
      ] in
      record { typed = λ g m. (fine g m).0; parameters = λ g m. (fine g m).1 }

  typed : (fs : List Form) → AllOf (IsFine s) fs → AllOf (WellTyped s.symbols) fs
  typed [] h = tt
  typed (f ∷ fs) h = (h.0.0, typed fs h.1)

  pub tableau_derives : (given root : List Form) (tree : Node) → AreGiven s given → IsRoot s given root → IsTableau s root tree → is_finished tree ≡ true → Proves s given
  tableau_derives given root tree h is t finished =
      let reached = roots_reached s given is.normal is.reached refl in
      let at_root = root_given given root h is in
      let branch = root_branch s sound given root (λ f m. (h.typed f m, h.parameters f m)) (λ g m. (at_root.typed g m, at_root.parameters g m)) in
      let normal : (g : Form) → Contains root g → Contains is.normal g = λ g m. elim (extend-cases [] is.normal g (subst (λ y. Contains y g) (sym is.distinct) m)) [
        | inl i ↦ absurd (Contains-none g i)
        | inr i ↦ i
      ] in
      converted s sound given given is.normal (typed given (all_fine s given h)) reached (λ f m. m)
      (derives s sound tree (enter [] root) [] root (root ++ given) (is.normal ++ given) branch t.lawful finished t.entered
      (λ f m. Contains-append_left is.normal given f (normal f (uses_within s sound tree (enter [] root) [] root (root ++ given) branch t.lawful finished f m)))
      (λ f m. elim (Contains-append_cases is.normal given f m) [
        | inl i ↦ Contains-append_left root given f (subst (λ y. Contains y f) is.distinct (extend-has [] is.normal f i))
        | inr i ↦ Contains-append_right root given f i
      ]))
