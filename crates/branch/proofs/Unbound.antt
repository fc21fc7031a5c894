-- Trees without parameters leave nothing to bind: two atoms, or two equalities, are one already, or nothing makes them one.
use Rattle.std.proofs.Common.{◌≡◌, Bool, true, false, cond, refl, ap, sym, subst, ◌∙◌, List, [], ◌∷◌, None, Some}
use Rattle.zm_logic.specs.Tree.{Ty, Tys, Term, Terms, Form}
use Rattle.zm_logic.specs.Same.{same}
use Rattle.zm_logic.specs.Parameter.{EachInType, EachInTypes, EachInTerm, EachInTerms, Never, HasNoParameter}
use Rattle.zm_logic.proofs.Sames.{same-self}
use Rattle.unify.specs.Substitution.{Substitution, put_type, put_types, put_term, put_terms, put_form}
use Rattle.unify.specs.Equation.{Equation, TypeParts, TermParts, FormParts}
use Rattle.unify.specs.Binding.{Binding}
use Rattle.unify.specs.Unification.{Binds, Splits, Unifies, UnifiesForms}
use Rattle.equality_rules.specs.Pairs.{Opposites, alike, opposites, FormsDiffer}

abbrev IsPlain : Equation → Type 0
IsPlain (Equation.of_types s t) = EachInType Never s × EachInType Never t
IsPlain (Equation.of_terms s t) = EachInTerm Never s × EachInTerm Never t

abbrev ArePlain : List Equation → Type 0
ArePlain [] = Unit {0}
ArePlain (e ∷ es) = IsPlain e × ArePlain es

types_plain : {ss ts : Tys} {rest all : List Equation} → TypeParts ss ts rest all → EachInTypes Never ss → EachInTypes Never ts → ArePlain rest → ArePlain all
types_plain (TypeParts.none) h k r = r
types_plain (TypeParts.more p) h k r = ((h.0, k.0), types_plain p h.1 k.1 r)

terms_plain : {us vs : Terms} {rest all : List Equation} → TermParts us vs rest all → EachInTerms Never us → EachInTerms Never vs → ArePlain rest → ArePlain all
terms_plain (TermParts.none) h k r = r
terms_plain (TermParts.more p) h k r = ((h.0, k.0), terms_plain p h.1 k.1 r)

parts_plain : {f g : Form} {es : List Equation} → FormParts f g es → HasNoParameter f → HasNoParameter g → ArePlain es
parts_plain (FormParts.atoms p q) h k = types_plain q h.0 k.0 (terms_plain p h.1 k.1 tt)
parts_plain (FormParts.equalities) h k = ((h.0, k.0), ((h.1, k.1), ((h.2, k.2), tt)))

splits_plain : {e : Equation} {es all : List Equation} → Splits [] e es all → IsPlain e → ArePlain es → ArePlain all
splits_plain (Splits.types p q parts) h r = types_plain parts (subst (λ x. EachInType Never x) p h.0) (subst (λ x. EachInType Never x) q h.1) r
splits_plain (Splits.terms p q parts types) h r =
    let k = subst (λ x. EachInTerm Never x) p h.0 in
    let l = subst (λ x. EachInTerm Never x) q h.1 in
    types_plain types k.0 l.0 (terms_plain parts k.1 l.1 r)

nothing_binds : {e : Equation} {b : Binding} → Binds [] e b → IsPlain e → ⊥
nothing_binds (Binds.left_type p l) h = subst (λ x. EachInType Never x) p h.0
nothing_binds (Binds.right_type n p l) h = subst (λ x. EachInType Never x) p h.1
nothing_binds (Binds.left_term p l) h = let k = subst (λ x. EachInTerm Never x) p h.0 in k.0
nothing_binds (Binds.right_term n p l) h = let k = subst (λ x. EachInTerm Never x) p h.1 in k.0

none_bound : {bs made : List Binding} {es : List Equation} → Unifies bs es made → bs ≡ [] → ArePlain es → made ≡ []
none_bound (Unifies.done) e h = e
none_bound (Unifies.same s u) e h = none_bound u e h.1
none_bound (Unifies.binds {e = q} {b = b} n x u) e h = absurd (nothing_binds (subst (λ z. Binds z q b) e x) h.0)
none_bound (Unifies.splits {e = q} {es = es} {all = all} n x u) e h = none_bound u e (splits_plain (subst (λ z. Splits z q es all) e x) h.0 h.1)

-- two formulas without parameters have the empty unifier, if any
pub nothing_bound : (f g : Form) (made : List Binding) → HasNoParameter f → HasNoParameter g → UnifiesForms f g made → made ≡ []
nothing_bound f g made h k u = none_bound u.2 refl (parts_plain u.1 h k)

chosen : (v : Bool) (p o : Opposites) → cond v (Some p) None ≡ Some o → p ≡ o
chosen true p o e = cc
chosen false p o e = cc

abbrev HaveNone : Opposites → Type 0
HaveNone o = HasNoParameter o.left × HasNoParameter o.right

left_denied : (b a : Form) (o : Opposites) → cond (alike b a) (Some (record { plain = a; denied = b; left = b; right = a })) None ≡ Some o
    → HasNoParameter b → HasNoParameter a → HaveNone o
left_denied b a o e h k = subst HaveNone (chosen (alike b a) (record { plain = a; denied = b; left = b; right = a }) o e) (h, k)

right_denied : (a b : Form) (o : Opposites) → cond (alike a b) (Some (record { plain = a; denied = b; left = a; right = b })) None ≡ Some o
    → HasNoParameter a → HasNoParameter b → HaveNone o
right_denied a b o e h k = subst HaveNone (chosen (alike a b) (record { plain = a; denied = b; left = a; right = b }) o e) (h, k)

-- what two formulas without parameters oppose has none
pub opposites_plain : (g f : Form) (o : Opposites) → opposites g f ≡ Some o → HasNoParameter g → HasNoParameter f → HasNoParameter o.left × HasNoParameter o.right
opposites_plain (Form.negation b) (Form.negation a) o e h k = cc
opposites_plain (Form.negation b) a o e h k = left_denied b a o e h k
opposites_plain a (Form.negation b) o e h k = right_denied a b o e h k
opposites_plain a b o e h k = cc

is_chosen : (v : Bool) (p o : Opposites) → cond v (Some p) None ≡ Some o → v ≡ true
is_chosen true p o e = refl
is_chosen false p o e = cc

left_alike : (b a : Form) (o : Opposites) → cond (alike b a) (Some (record { plain = a; denied = b; left = b; right = a })) None ≡ Some o → alike o.left o.right ≡ true
left_alike b a o e =
    let p : Opposites = record { plain = a; denied = b; left = b; right = a } in
    subst (λ x. alike x.left x.right ≡ true) (chosen (alike b a) p o e) (is_chosen (alike b a) p o e)

right_alike : (a b : Form) (o : Opposites) → cond (alike a b) (Some (record { plain = a; denied = b; left = a; right = b })) None ≡ Some o → alike o.left o.right ≡ true
right_alike a b o e =
    let p : Opposites = record { plain = a; denied = b; left = a; right = b } in
    subst (λ x. alike x.left x.right ≡ true) (chosen (alike a b) p o e) (is_chosen (alike a b) p o e)

-- what two formulas oppose are two atoms or two equalities
pub opposites_alike : (g f : Form) (o : Opposites) → opposites g f ≡ Some o → alike o.left o.right ≡ true
opposites_alike (Form.negation b) (Form.negation a) o e = cc
opposites_alike (Form.negation b) a o e = left_alike b a o e
opposites_alike a (Form.negation b) o e = right_alike a b o e
opposites_alike a b o e = cc

-- one atom, or one equality, has the empty unifier with itself
types_one : (ts : Tys) (rest : List Equation) → Unifies [] rest [] → (all : List Equation) × TypeParts ts ts rest all × Unifies [] all []
types_one Tys.none rest u = (rest, TypeParts.none, u)
types_one (Tys.more t ts) rest u = let x = types_one ts rest u in (Equation.of_types t t ∷ x.0, TypeParts.more x.1, Unifies.same refl x.2)

terms_one : (us : Terms) (rest : List Equation) → Unifies [] rest [] → (all : List Equation) × TermParts us us rest all × Unifies [] all []
terms_one Terms.none rest u = (rest, TermParts.none, u)
terms_one (Terms.more v us) rest u = let x = terms_one us rest u in (Equation.of_terms v v ∷ x.0, TermParts.more x.1, Unifies.same refl x.2)

pub one_unified : (f : Form) → alike f f ≡ true → UnifiesForms f f []
one_unified Form.truth e = cc
one_unified Form.falsity e = cc
one_unified (Form.atom p ts us) e =
    let x = terms_one us [] Unifies.done in let y = types_one ts x.0 x.2 in (y.0, FormParts.atoms x.1 y.1, y.2)
one_unified (Form.equal t a b) e =
    (Equation.of_types t t ∷ Equation.of_terms a a ∷ Equation.of_terms b b ∷ [], FormParts.equalities, Unifies.same refl (Unifies.same refl (Unifies.same refl Unifies.done)))
one_unified (Form.negation f) e = cc
one_unified (Form.binary c f g) e = cc
one_unified (Form.quantified q t f) e = cc
one_unified (Form.quantified_types q f) e = cc

-- a substitution leaves a tree without parameters as it is
module _ (a : Substitution) where
  mutual
    type_stays : (t : Ty) → EachInType Never t → put_type a t ≡ t
    type_stays (Ty.bound i) h = refl
    type_stays (Ty.param n) h = refl
    type_stays (Ty.meta n) h = absurd h
    type_stays (Ty.con c ts) h = ap (Ty.con c) (types_stay ts h)

    types_stay : (ts : Tys) → EachInTypes Never ts → put_types a ts ≡ ts
    types_stay Tys.none h = refl
    types_stay (Tys.more t ts) h = let p = type_stays t h.0 in let q = types_stay ts h.1 in cc

  mutual
    term_stays : (u : Term) → EachInTerm Never u → put_term a u ≡ u
    term_stays (Term.bound i) h = refl
    term_stays (Term.eps n t) h = refl
    term_stays (Term.meta n t) h = absurd h.0
    term_stays (Term.app f ts us) h = let p = types_stay ts h.0 in let q = terms_stay us h.1 in cc

    terms_stay : (us : Terms) → EachInTerms Never us → put_terms a us ≡ us
    terms_stay Terms.none h = refl
    terms_stay (Terms.more u us) h = let p = term_stays u h.0 in let q = terms_stay us h.1 in cc

  form_stays : (f : Form) → HasNoParameter f → put_form a f ≡ f
  form_stays Form.truth h = refl
  form_stays Form.falsity h = refl
  form_stays (Form.atom p ts us) h = let x = types_stay ts h.0 in let y = terms_stay us h.1 in cc
  form_stays (Form.equal t u v) h = let x = type_stays t h.0 in let y = term_stays u h.1 in let z = term_stays v h.2 in cc
  form_stays (Form.negation f) h = ap Form.negation (form_stays f h)
  form_stays (Form.binary c f g) h = let x = form_stays f h.0 in let y = form_stays g h.1 in cc
  form_stays (Form.quantified q t f) h = let x = type_stays t h.0 in let y = form_stays f h.1 in cc
  form_stays (Form.quantified_types q f) h = ap (Form.quantified_types q) (form_stays f h)

-- nothing makes two formulas without parameters one
pub never_one : (f g : Form) → HasNoParameter f → HasNoParameter g → same f g ≡ false → FormsDiffer f g
never_one f g h k d a e =
    let i : f ≡ g = sym (form_stays a f h) ∙ (e ∙ form_stays a g k) in
    let s : same f g ≡ true = subst (λ x. same f x ≡ true) i (same-self f) in cc
