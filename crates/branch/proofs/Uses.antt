-- What a finished node uses, and what its children use beyond their new formulas.
use Rattle.std.proofs.Common.{◌≡◌, Bool, true, false, cond, not, refl, ap, sym, subst, ◌∙◌, List, [], ◌∷◌, ◌⊎◌, inl, inr, Contains, filter}
use Rattle.std.proofs.lemmas.List.Elements.{All-contains, filter_passes}
use Rattle.std.proofs.lemmas.Bool.{and_parts}
use Rattle.zm_logic.specs.Tree.{Form}
use Rattle.zm_logic.specs.Same.{has}
use Rattle.branch.specs.Branch.{extend}
use Rattle.branch.specs.Tableau.{fresh, without, is_apart}
use Rattle.zm_logic.proofs.Sames.{Contains-here, Contains-there, Contains-cases, Contains-none, has-contains, contains-has}
use Rattle.branch.proofs.Lists.{filter-kept, filter-has}
use Rattle.branch.proofs.Branches.{extend-cases}
use Rattle.branch.proofs.Closings.{IsWithin}

-- what a child uses beyond its new formulas
pub kept_uses : (b f used : List Form) (x : Form) → Contains used x → Contains f x ⊎ Contains (without (fresh b f) used) x
kept_uses b f [] x h = absurd (Contains-none x h)
kept_uses b f (u ∷ used) x h = go (has (fresh b f) u) refl (kept_uses b f used x)
  where
    go : (v : Bool) → has (fresh b f) u ≡ v → (Contains used x → Contains f x ⊎ Contains (without (fresh b f) used) x)
        → Contains f x ⊎ Contains (cond (not v) (u ∷ without (fresh b f) used) (without (fresh b f) used)) x
    go true e rest = elim (Contains-cases u used x h) [
      | inl i ↦ let P : Form → Type 0 = λ y. Contains f y in inl (subst P i (filter-kept (λ y. not (has b y)) f u (has-contains (fresh b f) u e)))
      | inr i ↦ rest i
    ]
    go false e rest = elim (Contains-cases u used x h) [
      | inl i ↦ let Q : Form → Type 0 = λ y. Contains (u ∷ without (fresh b f) used) y in inr (subst Q i (Contains-here u (without (fresh b f) used)))
      | inr i ↦ elim (rest i) [ inl j ↦ inl j | inr j ↦ inr (Contains-there u (without (fresh b f) used) x j) ]
    ]

pub filter-yes : (p : Form → Bool) (xs : List Form) (x : Form) → Contains (filter p xs) x → p x ≡ true
filter-yes p xs x h = All-contains (λ y. p y ≡ true) (filter p xs) x (filter_passes p xs) h

-- a formula of the child's branch is new or stands on the branch
pub new_or_old : (b f : List Form) (x : Form) → Contains (extend b f) x → Contains b x ⊎ Contains (fresh b f) x
new_or_old b f x h =
    elim (extend-cases b f x h) [
      | inl i ↦ inl i
      | inr i ↦ go (has b x) refl i
    ]
  where
    go : (v : Bool) → has b x ≡ v → Contains f x → Contains b x ⊎ Contains (fresh b f) x
    go true e i = inl (has-contains b x e)
    go false e i = inr (filter-has (λ y. not (has b y)) f x i (ap not e))

pub beyond : (b f u : List Form) → IsWithin u (extend b f) → IsWithin (without (fresh b f) u) b
beyond b f u w x h =
    elim (new_or_old b f x (w x (filter-kept (λ y. not (has (fresh b f) y)) u x h))) [
      | inl i ↦ i
      | inr i ↦ absurd (let p = filter-yes (λ y. not (has (fresh b f) y)) u x h in let q = contains-has (fresh b f) x i in let r : not true ≡ true = ap not (sym q) ∙ p in cc)
    ]

pub apart : (fs u : List Form) (x : Form) → is_apart fs u ≡ true → Contains fs x → Contains u x → ⊥
apart [] u x e h k = Contains-none x h
apart (f ∷ fs) u x e h k =
    let p = and_parts (not (has u f)) (is_apart fs u) e in
    elim (Contains-cases f fs x h) [
      | inl i ↦ let Q : Form → Type 0 = λ y. Contains u y in let q = contains-has u f (subst Q (sym i) k) in let r : not true ≡ true = ap not (sym q) ∙ p.0 in cc
      | inr i ↦ apart fs u x p.1 i k
    ]

pub idle_within : (b f u : List Form) → is_apart (fresh b f) u ≡ true → IsWithin u (extend b f) → IsWithin u b
idle_within b f u e w x h = elim (new_or_old b f x (w x h)) [ inl i ↦ i | inr i ↦ absurd (apart (fresh b f) u x e i h) ]
