-- The atoms that stand on a branch are enough to tell which atoms do.
use Rattle.std.proofs.Common.{◌≡◌, Bool, true, false, ◌||◌, cond, refl, ap, sym, subst, ◌∙◌, List, [], ◌∷◌, ◌++◌, map, filter, flat_map}
use Rattle.zm_logic.specs.Tree.{Form, Problem}
use Rattle.zm_logic.specs.Same.{same, has}
use Rattle.branch.specs.Branch.{add, extend}
use Rattle.valuation.specs.Valuation.{is_atom, atoms, formulas, problem_atoms, value_on}

-- only an atom is the same as an atom
other : (g a : Form) → is_atom a ≡ true → is_atom g ≡ false → same g a ≡ false
other Form.truth (Form.atom p ts us) e h = refl
other Form.falsity (Form.atom p ts us) e h = refl
other (Form.atom q vs ws) a e h = absurd (let z = h in cc)
other (Form.equal t x y) (Form.atom p ts us) e h = refl
other (Form.negation f) (Form.atom p ts us) e h = refl
other (Form.binary c f g) (Form.atom p ts us) e h = refl
other (Form.quantified q t f) (Form.atom p ts us) e h = refl
other (Form.quantified_types q f) (Form.atom p ts us) e h = refl
other g Form.truth e h = absurd (let z = e in cc)
other g Form.falsity e h = absurd (let z = e in cc)
other g (Form.equal t x y) e h = absurd (let z = e in cc)
other g (Form.negation f) e h = absurd (let z = e in cc)
other g (Form.binary c f k) e h = absurd (let z = e in cc)
other g (Form.quantified q t f) e h = absurd (let z = e in cc)
other g (Form.quantified_types q f) e h = absurd (let z = e in cc)

has_among : (b : List Form) (a : Form) → is_atom a ≡ true → has (filter is_atom b) a ≡ has b a
has_among [] a e = refl
has_among (g ∷ gs) a e = go (is_atom g) refl (has_among gs a e)
  where
    go : (v : Bool) → is_atom g ≡ v → has (filter is_atom gs) a ≡ has gs a
        → has (cond v (g ∷ filter is_atom gs) (filter is_atom gs)) a ≡ (same g a || has gs a)
    go true q h = ap (λ w. same g a || w) h
    go false q h = h ∙ ap (λ w. w || has gs a) (sym (other g a e q))

-- atoms alone
abbrev AreAtoms : List Form → Type 0
AreAtoms [] = Unit {0}
AreAtoms (f ∷ fs) = (is_atom f ≡ true) × AreAtoms fs

append_atoms : (fs gs : List Form) → AreAtoms fs → AreAtoms gs → AreAtoms (fs ++ gs)
append_atoms [] gs h k = k
append_atoms (f ∷ fs) gs h k = (h.0, append_atoms fs gs h.1 k)

atoms_are : (f : Form) → AreAtoms (atoms f)
atoms_are Form.truth = tt
atoms_are Form.falsity = tt
atoms_are (Form.atom p ts us) = (refl, tt)
atoms_are (Form.equal t a b) = tt
atoms_are (Form.negation f) = atoms_are f
atoms_are (Form.binary c f g) = append_atoms (atoms f) (atoms g) (atoms_are f) (atoms_are g)
atoms_are (Form.quantified q t f) = tt
atoms_are (Form.quantified_types q f) = tt

all_are : (fs : List Form) → AreAtoms (flat_map atoms fs)
all_are [] = tt
all_are (f ∷ fs) = append_atoms (atoms f) (flat_map atoms fs) (atoms_are f) (all_are fs)

add_are : (b : List Form) (f : Form) → AreAtoms b → is_atom f ≡ true → AreAtoms (add b f)
add_are b f h e = go (has b f)
  where
    go : (v : Bool) → AreAtoms (cond v b (b ++ f ∷ []))
    go true = h
    go false = append_atoms b (f ∷ []) h (e, tt)

extend_are : (b fs : List Form) → AreAtoms b → AreAtoms fs → AreAtoms (extend b fs)
extend_are b [] h k = h
extend_are b (f ∷ fs) h k = extend_are (add b f) fs (add_are b f h k.0) k.1

values_among : (b fs : List Form) → AreAtoms fs → map (value_on (filter is_atom b)) fs ≡ map (value_on b) fs
values_among b [] h = refl
values_among b (f ∷ fs) h =
    let e = has_among b f h.0 in
    let k = values_among b fs h.1 in
    ap (λ v. record { atom = f; truth = v } ∷ map (value_on (filter is_atom b)) fs) e
    ∙ ap (λ vs. record { atom = f; truth = has b f } ∷ vs) k

-- so they give each atom of a problem its value
pub same_values : (b : List Form) (p : Problem) → map (value_on (filter is_atom b)) (problem_atoms p) ≡ map (value_on b) (problem_atoms p)
same_values b p = values_among b (problem_atoms p) (extend_are [] (flat_map atoms (formulas p)) tt (all_are (formulas p)))
