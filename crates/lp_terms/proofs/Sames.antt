-- The test of sameness decides equality.
use Rattle.std.proofs.Common.{◌≡◌, ◌↔◌, Bool, true, false, refl, sym, ap, ◌∙◌}
use Rattle.std.proofs.lemmas.Bool.{eqb-true, eq-eqb, and_parts, and_from}
use Rattle.std.proofs.lemmas.Slice.Eq.{bytes_eq-Decides}
use Rattle.lp_terms.specs.Term.{Lp}
use Rattle.lp_terms.specs.Same.{same}

pub same-self : (t : Lp) → same t t ≡ true
same-self Lp.sort = refl
same-self (Lp.const name) = (bytes_eq-Decides name name).1 refl
same-self (Lp.free n) = eq-eqb n n refl
same-self (Lp.index i) = eq-eqb i i refl
same-self (Lp.app f a) = and_from _ _ (same-self f) (same-self a)
same-self (Lp.abs a b) = and_from _ _ (same-self a) (same-self b)
same-self (Lp.prod a b) = and_from _ _ (same-self a) (same-self b)

pub same-true : (t u : Lp) → same t u ≡ true → t ≡ u
same-true Lp.sort Lp.sort h = refl
same-true (Lp.const x) (Lp.const y) h = ap Lp.const ((bytes_eq-Decides x y).0 h)
same-true (Lp.free m) (Lp.free n) h = ap Lp.free (eqb-true m n h)
same-true (Lp.index i) (Lp.index j) h = ap Lp.index (eqb-true i j h)
same-true (Lp.app f a) (Lp.app g b) h =
    let p = and_parts _ _ h in let q = same-true f g p.0 in let r = same-true a b p.1 in cc
same-true (Lp.abs a c) (Lp.abs b d) h =
    let p = and_parts _ _ h in let q = same-true a b p.0 in let r = same-true c d p.1 in cc
same-true (Lp.prod a c) (Lp.prod b d) h =
    let p = and_parts _ _ h in let q = same-true a b p.0 in let r = same-true c d p.1 in cc
same-true t u h = cc

pub equal-same : (t u : Lp) → t ≡ u → same t u ≡ true
equal-same t u e = rw (sym e) (same-self t)

pub same_decides : (t u : Lp) (b : Bool) → b ≡ same t u → (b ≡ true) ↔ (t ≡ u)
same_decides t u b e = ((λ h. same-true t u (sym e ∙ h)), λ h. e ∙ equal-same t u h)
