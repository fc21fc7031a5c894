-- Equations determine their bindings: each rule excludes the others, and gives one result.
use Rattle.std.proofs.Common.{◌≡◌, List, [], ◌∷◌, refl, ap, sym, subst}
use Rattle.zm_logic.specs.Tree.{Tys, Terms, Form}
use Rattle.unify.specs.Equation.{Equation, TypeParts, TermParts, FormParts}
use Rattle.unify.specs.Binding.{Binding}
use Rattle.unify.specs.Unification.{Binds, Splits, Unifies, UnifiesForms}

pub one_type_parts : {ss ts : Tys} {rest all also : List Equation}
    → TypeParts ss ts rest all → TypeParts ss ts rest also → all ≡ also
one_type_parts (TypeParts.none) (TypeParts.none) = refl
one_type_parts (TypeParts.more {s = s} {t = t} p) (TypeParts.more q) = ap (λ es. Equation.of_types s t ∷ es) (one_type_parts p q)

pub one_term_parts : {ss ts : Terms} {rest all also : List Equation}
    → TermParts ss ts rest all → TermParts ss ts rest also → all ≡ also
one_term_parts (TermParts.none) (TermParts.none) = refl
one_term_parts (TermParts.more {s = s} {t = t} p) (TermParts.more q) = ap (λ es. Equation.of_terms s t ∷ es) (one_term_parts p q)

-- the same for equal lists
equal_type_parts : {ss ts us vs : Tys} {rest same all also : List Equation} → us ≡ ss → vs ≡ ts → same ≡ rest
    → TypeParts ss ts rest all → TypeParts us vs same also → all ≡ also
equal_type_parts {ss} {ts} {us} {vs} {rest} {same} {all} {also} e f g p q =
    one_type_parts p
    (subst (λ l. TypeParts ss ts l also) g (subst (λ l. TypeParts ss l same also) f (subst (λ l. TypeParts l vs same also) e q)))

equal_term_parts : {ss ts us vs : Terms} {rest all also : List Equation} → us ≡ ss → vs ≡ ts
    → TermParts ss ts rest all → TermParts us vs rest also → all ≡ also
equal_term_parts {ss} {ts} {us} {vs} {rest} {all} {also} e f p q =
    one_term_parts p (subst (λ l. TermParts ss l rest also) f (subst (λ l. TermParts l vs rest also) e q))

module _ (bs : List Binding) where
  pub one_binding : {e : Equation} {b c : Binding} → Binds bs e b → Binds bs e c → b ≡ c
  one_binding (Binds.left_type x o) (Binds.left_type y p) = cc
  one_binding (Binds.left_type {m = m} x o) (Binds.right_type n y p) = absurd (n m x)
  one_binding (Binds.right_type n x o) (Binds.left_type {m = m} y p) = absurd (n m y)
  one_binding (Binds.right_type n x o) (Binds.right_type k y p) = cc
  one_binding (Binds.left_term x o) (Binds.left_term y p) = cc
  one_binding (Binds.left_term {m = m} {k = k} x o) (Binds.right_term n y p) = absurd (n m k x)
  one_binding (Binds.right_term n x o) (Binds.left_term {m = m} {k = k} y p) = absurd (n m k y)
  one_binding (Binds.right_term n x o) (Binds.right_term k y p) = cc

  pub one_split : {e : Equation} {rest all also : List Equation} → Splits bs e rest all → Splits bs e rest also → all ≡ also
  one_split (Splits.types x y p) (Splits.types v w q) = equal_type_parts (cc) (cc) refl p q
  one_split (Splits.terms x y p q) (Splits.terms v w r s) = equal_type_parts (cc) (cc) (sym (equal_term_parts (cc) (cc) p r)) q s

  pub not_both : {e : Equation} {b : Binding} {rest all : List Equation} → Binds bs e b → Splits bs e rest all → ⊥
  not_both (Binds.left_type x o) (Splits.types v w q) = cc
  not_both (Binds.right_type n x o) (Splits.types v w q) = cc
  not_both (Binds.left_term x o) (Splits.terms v w q r) = cc
  not_both (Binds.right_term n x o) (Splits.terms v w q r) = cc

pub one_outcome : {bs cs ds : List Binding} {es : List Equation} → Unifies bs es cs → Unifies bs es ds → cs ≡ ds
one_outcome (Unifies.done) (Unifies.done) = refl
one_outcome (Unifies.same x u) (Unifies.same y v) = one_outcome u v
one_outcome (Unifies.same x u) (Unifies.binds n y v) = absurd (n x)
one_outcome (Unifies.same x u) (Unifies.splits n y v) = absurd (n x)
one_outcome (Unifies.binds n x u) (Unifies.same y v) = absurd (n y)
one_outcome (Unifies.binds {bs = bs} {es = es} n x u) (Unifies.binds {cs = ds} m y v) =
    one_outcome u (subst (λ b. Unifies (b ∷ bs) es ds) (sym (one_binding bs x y)) v)
one_outcome (Unifies.binds {bs = bs} n x u) (Unifies.splits m y v) = absurd (not_both bs x y)
one_outcome (Unifies.splits n x u) (Unifies.same y v) = absurd (n y)
one_outcome (Unifies.splits {bs = bs} n x u) (Unifies.binds m y v) = absurd (not_both bs y x)
one_outcome (Unifies.splits {bs = bs} n x u) (Unifies.splits {cs = ds} m y v) =
    one_outcome u (subst (λ l. Unifies bs l ds) (sym (one_split bs x y)) v)

-- and so do two formulas
equal_form_parts : {f g h k : Form} {all also : List Equation} → h ≡ f → k ≡ g → FormParts f g all → FormParts h k also → all ≡ also
equal_form_parts e d (FormParts.atoms p q) (FormParts.atoms r s) = equal_type_parts (cc) (cc) (sym (equal_term_parts (cc) (cc) p r)) q s
equal_form_parts e d (FormParts.atoms p q) (FormParts.equalities) = cc
equal_form_parts e d (FormParts.equalities) (FormParts.atoms p q) = cc
equal_form_parts e d (FormParts.equalities) (FormParts.equalities) = cc

pub one_form_parts : {f g : Form} {all also : List Equation} → FormParts f g all → FormParts f g also → all ≡ also
one_form_parts p q = equal_form_parts refl refl p q

pub one_unifier : {f g : Form} {made also : List Binding} → UnifiesForms f g made → UnifiesForms f g also → made ≡ also
one_unifier {also = also} u v = one_outcome u.2 (subst (λ es. Unifies [] es also) (sym (one_form_parts u.1 v.1)) v.2)
