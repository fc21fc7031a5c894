-- What stands on an extended branch, and where the closing pair of a branch comes from.
use Rattle.std.proofs.Common.{◌≡◌, Bool, true, false, cond, refl, subst, List, [], ◌∷◌, ◌++◌, ◌⊎◌, inl, inr, Contains, Some, append_assoc}
use Rattle.std.proofs.lemmas.List.Elements.{Contains-append_left, Contains-append_right, Contains-push, Contains-push_cases}
use Rattle.std.proofs.lemmas.Option.{same_Some}
use Rattle.zm_logic.proofs.Sames.{Contains-here, Contains-there, Contains-cases, Contains-none, has-contains}
use Rattle.zm_logic.specs.Tree.{Form}
use Rattle.zm_logic.specs.Same.{has}
use Rattle.branch.specs.Branch.{Closing, alone, add, extend, closes_alone, closing_of, closing_with, closing_at, closing_from}
use Rattle.branch.proofs.Lists.{cond-cases, or-cases}

-- what is on an extended branch
pub add-cases : (b : List Form) (f x : Form) → Contains (add b f) x → Contains b x ⊎ (f ≡ x)
add-cases b f x h = go (has b f) h
  where
    go : (v : Bool) → Contains (cond v b (b ++ f ∷ [])) x → Contains b x ⊎ (f ≡ x)
    go true h = inl h
    go false h = Contains-push_cases b f x h

pub add-keeps : (b : List Form) (f x : Form) → Contains b x → Contains (add b f) x
add-keeps b f x h = go (has b f)
  where
    go : (v : Bool) → Contains (cond v b (b ++ f ∷ [])) x
    go true = h
    go false = Contains-append_left b (f ∷ []) x h

pub add-has : (b : List Form) (f : Form) → Contains (add b f) f
add-has b f = go (has b f) refl
  where
    go : (v : Bool) → has b f ≡ v → Contains (cond v b (b ++ f ∷ [])) f
    go true e = has-contains b f e
    go false e = Contains-push b f

pub extend-cases : (b fs : List Form) (x : Form) → Contains (extend b fs) x → Contains b x ⊎ Contains fs x
extend-cases b [] x h = inl h
extend-cases b (f ∷ fs) x h =
    elim (extend-cases (add b f) fs x h) [
      | inl a ↦ elim (add-cases b f x a) [ inl p ↦ inl p | inr e ↦ inr (rw e (Contains-here x fs)) ]
      | inr a ↦ inr (Contains-there f fs x a)
    ]

pub extend-keeps : (b fs : List Form) (x : Form) → Contains b x → Contains (extend b fs) x
extend-keeps b [] x h = h
extend-keeps b (f ∷ fs) x h = extend-keeps (add b f) fs x (add-keeps b f x h)

pub extend-has : (b fs : List Form) (x : Form) → Contains fs x → Contains (extend b fs) x
extend-has b [] x h = absurd (Contains-none x h)
extend-has b (f ∷ fs) x h =
    elim (Contains-cases f fs x h) [
      | inl e ↦ let P : Form → Type 0 = λ y. Contains (extend (add b f) fs) y in subst P e (extend-keeps (add b f) fs f (add-has b f))
      | inr a ↦ extend-has (add b f) fs x a
    ]

-- what closes a branch stands on it
abbrev pub Closes : List Form → Closing → Type 0
Closes b c = ((f : Form) × Contains b f × (closes_alone f ≡ true) × (alone f ≡ c)) ⊎ ((g f : Form) × Contains b g × Contains b f × (closing_of g f ≡ Some c))

pub with-source : (gs : List Form) (f : Form) (c : Closing) → closing_with gs f ≡ Some c → (g : Form) × Contains gs g × (closing_of g f ≡ Some c)
with-source [] f c e = cc
with-source (g ∷ gs) f c e =
    elim (or-cases (closing_of g f) (closing_with gs f) c e) [
      | inl a ↦ (g, Contains-here g gs, a)
      | inr a ↦ let s = with-source gs f c a in (s.0, Contains-there g gs s.0 s.1, s.2)
    ]

pub at-source : (gs fs : List Form) (f : Form) (c : Closing) → closing_at gs f ≡ Some c → Closes (gs ++ f ∷ fs) c
at-source gs fs f c e =
    elim (cond-cases (closes_alone f) (Some (alone f)) (closing_with gs f) (Some c) e) [
      | inl a ↦ inl (f, Contains-append_right gs (f ∷ fs) f (Contains-here f fs), a.0, same_Some (alone f) c a.1)
      | inr a ↦ let s = with-source gs f c a.1 in
          inr (s.0, f, Contains-append_left gs (f ∷ fs) s.0 s.1, Contains-append_right gs (f ∷ fs) f (Contains-here f fs), s.2)
    ]

pub closing-source : (gs fs : List Form) (c : Closing) → closing_from gs fs ≡ Some c → Closes (gs ++ fs) c
closing-source gs [] c e = cc
closing-source gs (f ∷ fs) c e =
    elim (or-cases (closing_at gs f) (closing_from (gs ++ f ∷ []) fs) c e) [
      | inl a ↦ at-source gs fs f c a
      | inr a ↦ let P : List Form → Type 0 = λ b. Closes b c in subst P (append_assoc gs (f ∷ []) fs) (closing-source (gs ++ f ∷ []) fs c a)
    ]
