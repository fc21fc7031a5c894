-- From formulas to their normal forms by conversions.
use Rattle.std.proofs.Common.{◌≡◌, ℕ, suc, Bool, true, false, cond, refl, sym, subst, ◌∙◌, List, [], ◌∷◌, ◌++◌, inl, inr, Contains, None, Some}
use Rattle.std.proofs.lemmas.List.Elements.{Contains-append_left, Contains-append_right, Contains-append_cases}
use Rattle.zm_logic.specs.Tree.{Form, Rule}
use Rattle.zm_logic.specs.Parameter.{Never}
use Rattle.zm_logic.specs.Typing.{WellTyped}
use Rattle.zm_logic.specs.Same.{same}
use Rattle.zm_logic.specs.Innermost.{Innermost}
use Rattle.zm_logic.proofs.Sames.{Contains-here, Contains-there, Contains-cases, Contains-none, same-self, same-true}
use Rattle.branch.specs.Setting.{Setting}
use Rattle.branch.specs.Sound.{IsSound}
use Rattle.branch.specs.Normal.{Made, NormalizesFrom, Reaches}
use Rattle.branch.proofs.Closings.{IsWithin}
use Rattle.branch.proofs.Made.{AreReached}
use Rattle.branch.proofs.Kept.{made_is, normal_keeps}
use Rattle.branch.proofs.NoRules.{its_own}
use Rattle.sequent_proof.specs.Rules.{RuleName, Applies}
use Rattle.sequent_proof.specs.Tree.{DTree, DTrees, added, IsDerivation}
use Rattle.pruning.specs.Trees.{converted}
use Rattle.pruning.proofs.Members.{all_within}

module _ (rules : List Rule) where
  -- the steps to a normal form, with their number
  counted : {from : Form} {n : ℕ} {f : Form} {x : Made Form} (g : Form) → NormalizesFrom rules from n f x → x ≡ Made.made g → (k : ℕ) × Innermost rules f k g
  counted g (NormalizesFrom.done {f = f} d) e = (0, subst (λ y. Innermost rules f 0 y) (made_is f g e) (Innermost.done d))
  counted g (NormalizesFrom.step i b rest) e = let k = counted g rest e in (suc k.0, Innermost.step i k.1)
  counted g (NormalizesFrom.too_deep i b) e = cc
  counted g (NormalizesFrom.spent i) e = cc

  -- to another formula there is at least one
  at_least_one : {f g : Form} {k : ℕ} → Innermost rules f k g → same f g ≡ false → (m : ℕ) × Innermost rules f (suc m) g
  at_least_one (Innermost.done {f = f} d) e = absurd (let i = same-self f in cc)
  at_least_one (Innermost.step {n = m} i rest) e = (m, Innermost.step i rest)

-- conversions leave what the tree adds
module _ (above : List Form → DTree) (adds : (g : List Form) → added (above g) ≡ g) where
  pub converted_adds : (g r f : List Form) → added (converted g r f above) ≡ g
  converted_adds g [] [] = adds g
  converted_adds g [] (y ∷ f) = adds g
  converted_adds g (x ∷ r) [] = adds g
  converted_adds g (x ∷ r) (y ∷ f) = go (same x y) (converted_adds g r f)
    where
      go : (v : Bool) → added (converted g r f above) ≡ g → added (cond v (converted g r f above) (DTree.node g RuleName.conversion x (Some y) None (DTrees.more (converted (y ∷ []) r f above) DTrees.none))) ≡ g
      go true h = h
      go false h = refl

module _ (s : Setting) (sound : IsSound s) where
  -- a formula with another normal form converts to it
  conversion_applies : (gamma : List Form) (x y : Form) → Contains gamma x → WellTyped s.symbols x → Reaches s x y → same x y ≡ false
      → Applies s.symbols s.rules gamma RuleName.conversion x (Some y) None ((y ∷ []) ∷ [])
  conversion_applies gamma x y h w r e =
      let k = counted s.rules y r refl in
      let m = at_least_one s.rules k.1 e in
      Applies.conversion x y m.0 h m.1 (normal_keeps s sound Never x y r w).congruent

  -- the tree derives what it adds, where the one above derives each sequent between these two
  module _ (above : List Form → DTree) (adds : (g : List Form) → added (above g) ≡ g) (low high : List Form)
      (typed : (f : Form) → Contains high f → WellTyped s.symbols f)
      (derives : (below g : List Form) → IsWithin low (g ++ below) → IsWithin (g ++ below) high → IsDerivation s.symbols s.rules below (above g)) where
    pub converted_derives : (g r f below : List Form) → AreReached s r f → IsWithin r (g ++ below) → IsWithin low (f ++ (g ++ below))
        → IsWithin (f ++ (g ++ below)) high → IsDerivation s.symbols s.rules below (converted g r f above)
    converted_derives g [] [] below h w l u = derives below g l u
    converted_derives g [] (y ∷ f) below h w l u = absurd h
    converted_derives g (x ∷ r) [] below h w l u = absurd h
    converted_derives g (x ∷ r) (y ∷ f) below h w l u =
        go (same x y) refl (λ e. converted_derives g r f below h.1 (λ z m. w z (Contains-there x r z m)) (low_same e) (λ z m. u z (Contains-there y (f ++ (g ++ below)) z m)))
        (converted_derives (y ∷ []) r f (g ++ below) h.1 (λ z m. Contains-there y (g ++ below) z (w z (Contains-there x r z m))) low_other high_other)
      where
        here : Contains (g ++ below) x
        here = w x (Contains-here x r)

        within : IsWithin (g ++ below) high
        within z m = u z (Contains-there y (f ++ (g ++ below)) z (Contains-append_right f (g ++ below) z m))

        -- the formula is its own normal form
        low_same : same x y ≡ true → IsWithin low (f ++ (g ++ below))
        low_same e z m = elim (Contains-cases y (f ++ (g ++ below)) z (l z m)) [
          | inl i ↦ Contains-append_right f (g ++ below) z (subst (Contains (g ++ below)) (same-true x y e ∙ i) here)
          | inr i ↦ i
        ]

        -- or its normal form is added
        low_other : IsWithin low (f ++ (y ∷ (g ++ below)))
        low_other z m = elim (Contains-cases y (f ++ (g ++ below)) z (l z m)) [
          | inl i ↦ Contains-append_right f (y ∷ (g ++ below)) z (subst (Contains (y ∷ (g ++ below))) i (Contains-here y (g ++ below)))
          | inr i ↦ elim (Contains-append_cases f (g ++ below) z i) [
            | inl j ↦ Contains-append_left f (y ∷ (g ++ below)) z j
            | inr j ↦ Contains-append_right f (y ∷ (g ++ below)) z (Contains-there y (g ++ below) z j)
          ]
        ]

        high_other : IsWithin (f ++ (y ∷ (g ++ below))) high
        high_other z m = elim (Contains-append_cases f (y ∷ (g ++ below)) z m) [
          | inl i ↦ u z (Contains-there y (f ++ (g ++ below)) z (Contains-append_left f (g ++ below) z i))
          | inr i ↦ elim (Contains-cases y (g ++ below) z i) [
            | inl j ↦ u z (subst (Contains (y ∷ (f ++ (g ++ below)))) j (Contains-here y (f ++ (g ++ below))))
            | inr j ↦ within z j
          ]
        ]

        go : (v : Bool) → same x y ≡ v → (same x y ≡ true → IsDerivation s.symbols s.rules below (converted g r f above))
            → IsDerivation s.symbols s.rules (g ++ below) (converted (y ∷ []) r f above)
            → IsDerivation s.symbols s.rules below (cond v (converted g r f above) (DTree.node g RuleName.conversion x (Some y) None (DTrees.more (converted (y ∷ []) r f above) DTrees.none)))
        go true e own other = own e
        go false e own other = (
          all_within (WellTyped s.symbols) (g ++ below) (λ z m. typed z (within z m)),
          ((y ∷ []) ∷ [], conversion_applies (g ++ below) x y here (typed x (within x here)) h.0 e, (converted_adds above adds (y ∷ []) r f, other, tt)),
        )

-- without rules no formula is converted
pub unconverted : (s : Setting) → s.rules ≡ [] → (g r f : List Form) → AreReached s r f → (above : List Form → DTree) → converted g r f above ≡ above g
unconverted s none g [] [] h above = refl
unconverted s none g [] (y ∷ f) h above = absurd h
unconverted s none g (x ∷ r) [] h above = absurd h
unconverted s none g (x ∷ r) (y ∷ f) h above =
    let i : y ≡ x = made_is y x (its_own (subst (λ rules. NormalizesFrom rules x s.rewrites x (Made.made y)) none h.0)) in
    let e : same x y ≡ true = subst (λ z. same x z ≡ true) (sym i) (same-self x) in
    let t : DTree = DTree.node g RuleName.conversion x (Some y) None (DTrees.more (converted (y ∷ []) r f above) DTrees.none) in
    subst (λ v. cond v (converted g r f above) t ≡ above g) (sym e) (unconverted s none g r f h.1 above)
