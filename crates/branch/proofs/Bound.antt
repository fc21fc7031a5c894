-- What the bindings of sides on a branch have in common with the sides: parameters, and types.
use Rattle.std.proofs.Common.{◌≡◌, ℕ, ◌+◌, ◌==◌, ◌&&◌, Bool, true, false, if◌then◌else◌, refl, ap, sym, subst, ◌∙◌, List, [], ◌∷◌, inl, inr, Contains, reverse}
use Rattle.zm_logic.specs.Tree.{Ty, Tys, Term, Terms, Form, Symbol}
use Rattle.zm_logic.specs.Parameter.{Parameter, EachInType, EachInTypes, EachInTerm, EachInTerms, EachIn}
use Rattle.zm_logic.specs.Typing.{IsType, AreTypes, HasType, HaveTypes, WellTyped, argument_types, how_many}
use Rattle.zm_logic.specs.Same.{same_type}
use Rattle.zm_logic.proofs.Sames.{Contains-none, Contains-cases}
use Rattle.unify.specs.Substitution.{put_type, put_types, put_term, put_terms}
use Rattle.unify.specs.Equation.{Equation, TypeParts, TermParts, FormParts}
use Rattle.unify.specs.Binding.{Binding, only_type, only_term, solved_type, solved_term}
use Rattle.unify.specs.Unification.{Binds, Splits, Unifies, UnifiesForms, UnifiesTerms}
use Rattle.unify.specs.Answer.{solved_binding}
use Rattle.unify.proofs.Closed.{EachType, EachTerm, Sides, RightSides, of_head_type, of_head_term}
use Rattle.equality_rules.specs.Instances.{in_order}
use Rattle.branch.proofs.Lists.{map-source, reverse-has}
use Rattle.zm_logic.proofs.Inverted.{well_typed_equality, well_typed_left, well_typed_right, well_typed_atom}

-- each binding's metavariable and right side have the property
module _ (P : Ty → Type 0) (Q : Term → Type 0) where
  abbrev pub BothSides : List Binding → Type 0
  BothSides [] = Unit {0}
  BothSides (Binding.of_type m u ∷ bs) = P (Ty.meta m) × P u × BothSides bs
  BothSides (Binding.of_term m k u ∷ bs) = Q (Term.meta m k) × Q u × BothSides bs

  abbrev Both : Binding → Type 0
  Both (Binding.of_type m u) = P (Ty.meta m) × P u
  Both (Binding.of_term m k u) = Q (Term.meta m k) × Q u

  first_both : (b : Binding) (bs : List Binding) → BothSides (b ∷ bs) → Both b × BothSides bs
  first_both (Binding.of_type m u) bs h = ((h.0, h.1), h.2)
  first_both (Binding.of_term m k u) bs h = ((h.0, h.1), h.2)

  pub member_both : (bs : List Binding) → BothSides bs → (b : Binding) → Contains bs b → Both b
  member_both [] h b m = absurd (Contains-none b m)
  member_both (c ∷ bs) h b m =
      let x = first_both c bs h in
      elim (Contains-cases c bs b m) [ inl e ↦ subst Both e x.0 | inr i ↦ member_both bs x.1 b i ]

  right_of : (bs : List Binding) → BothSides bs → RightSides P Q bs
  right_of [] h = tt
  right_of (Binding.of_type m u ∷ bs) h = (h.1, right_of bs h.2)
  right_of (Binding.of_term m k u ∷ bs) h = (h.1, right_of bs h.2)

  rest_of : (e : Equation) (es : List Equation) → Sides P Q (e ∷ es) → Sides P Q es
  rest_of (Equation.of_types s t) es h = h.2
  rest_of (Equation.of_terms s t) es h = h.2

  binds_both : (bs : List Binding) (es : List Equation) → BothSides bs → {e : Equation} {b : Binding} → Binds bs e b → Sides P Q (e ∷ es) → BothSides (b ∷ bs)
  binds_both bs es r (Binds.left_type {s = s} {t = t} x o) h =
      (subst P x (of_head_type P Q bs (right_of bs r) s h.0), of_head_type P Q bs (right_of bs r) t h.1, r)
  binds_both bs es r (Binds.right_type {s = s} {t = t} n x o) h =
      (subst P x (of_head_type P Q bs (right_of bs r) t h.1), of_head_type P Q bs (right_of bs r) s h.0, r)
  binds_both bs es r (Binds.left_term {s = s} {t = t} x o) h =
      (subst Q x (of_head_term P Q bs (right_of bs r) s h.0), of_head_term P Q bs (right_of bs r) t h.1, r)
  binds_both bs es r (Binds.right_term {s = s} {t = t} n x o) h =
      (subst Q x (of_head_term P Q bs (right_of bs r) t h.1), of_head_term P Q bs (right_of bs r) s h.0, r)

  pub type_sides : {ss ts : Tys} {rest all : List Equation} → TypeParts ss ts rest all → EachType P ss → EachType P ts → Sides P Q rest → Sides P Q all
  type_sides (TypeParts.none) h k r = r
  type_sides (TypeParts.more p) h k r = (h.0, k.0, type_sides p h.1 k.1 r)

  pub term_sides : {ss ts : Terms} {rest all : List Equation} → TermParts ss ts rest all → EachTerm Q ss → EachTerm Q ts → Sides P Q rest → Sides P Q all
  term_sides (TermParts.none) h k r = r
  term_sides (TermParts.more p) h k r = (h.0, k.0, term_sides p h.1 k.1 r)

  module _ (types : (c : ℕ) (ts : Tys) → P (Ty.con c ts) → EachType P ts)
      (terms : (f : ℕ) (ts : Tys) (us : Terms) → Q (Term.app f ts us) → EachType P ts × EachTerm Q us) where
    split_both : (bs : List Binding) → RightSides P Q bs → {e : Equation} {es all : List Equation} → Splits bs e es all → Sides P Q (e ∷ es) → Sides P Q all
    split_both bs r (Splits.types {s = s} {t = t} {c = c} {ss = ss} {ts = ts} x y p) h =
        type_sides p (types c ss (subst P x (of_head_type P Q bs r s h.0))) (types c ts (subst P y (of_head_type P Q bs r t h.1))) h.2
    split_both bs r (Splits.terms {s = s} {t = t} {f = f} {ss = ss} {ts = ts} {us = us} {vs = vs} x y q p) h =
        let v = terms f ss us (subst Q x (of_head_term P Q bs r s h.0)) in
        let w = terms f ts vs (subst Q y (of_head_term P Q bs r t h.1)) in
        type_sides p v.0 w.0 (term_sides q v.1 w.1 h.2)

    pub both_sides : {bs cs : List Binding} {es : List Equation} → Unifies bs es cs → BothSides bs → Sides P Q es → BothSides cs
    both_sides (Unifies.done) r h = r
    both_sides (Unifies.same {e = e} {es = es} x u) r h = both_sides u r (rest_of e es h)
    both_sides (Unifies.binds {bs = bs} {e = e} {es = es} n x u) r h = both_sides u (binds_both bs es r x h) (rest_of e es h)
    both_sides (Unifies.splits {bs = bs} n x u) r h = both_sides u r (split_both bs (right_of bs r) x h)

-- Parameters.

module _ (P : Parameter → Type 0) where
  either : {A : Type 0} (R : A → Type 0) (b : Bool) (x y : A) → R x → R y → R (if b then x else y)
  either R true x y h k = h
  either R false x y h k = k

  mutual
    put_type_each : (m : ℕ) (u t : Ty) → EachInType P u → EachInType P t → EachInType P (put_type (only_type m u) t)
    put_type_each m u (Ty.bound i) h k = tt
    put_type_each m u (Ty.param n) h k = k
    put_type_each m u (Ty.meta n) h k = either (EachInType P) (n == m) u (Ty.meta n) h k
    put_type_each m u (Ty.con c ts) h k = put_types_each m u ts h k

    put_types_each : (m : ℕ) (u : Ty) (ts : Tys) → EachInType P u → EachInTypes P ts → EachInTypes P (put_types (only_type m u) ts)
    put_types_each m u Tys.none h k = tt
    put_types_each m u (Tys.more t ts) h k = (put_type_each m u t h k.0, put_types_each m u ts h k.1)

  mutual
    put_in_term_each : (m : ℕ) (u : Ty) (t : Term) → EachInType P u → EachInTerm P t → EachInTerm P (put_term (only_type m u) t)
    put_in_term_each m u (Term.bound i) h k = tt
    put_in_term_each m u (Term.eps n t) h k = k
    put_in_term_each m u (Term.meta n t) h k = k
    put_in_term_each m u (Term.app f ts us) h k = (put_types_each m u ts h k.0, put_in_terms_each m u us h k.1)

    put_in_terms_each : (m : ℕ) (u : Ty) (us : Terms) → EachInType P u → EachInTerms P us → EachInTerms P (put_terms (only_type m u) us)
    put_in_terms_each m u Terms.none h k = tt
    put_in_terms_each m u (Terms.more t us) h k = (put_in_term_each m u t h k.0, put_in_terms_each m u us h k.1)

  mutual
    kept_type_each : (m : ℕ) (j : Ty) (u : Term) (t : Ty) → EachInType P t → EachInType P (put_type (only_term m j u) t)
    kept_type_each m j u (Ty.bound i) k = tt
    kept_type_each m j u (Ty.param n) k = k
    kept_type_each m j u (Ty.meta n) k = k
    kept_type_each m j u (Ty.con c ts) k = kept_types_each m j u ts k

    kept_types_each : (m : ℕ) (j : Ty) (u : Term) (ts : Tys) → EachInTypes P ts → EachInTypes P (put_types (only_term m j u) ts)
    kept_types_each m j u Tys.none k = tt
    kept_types_each m j u (Tys.more t ts) k = (kept_type_each m j u t k.0, kept_types_each m j u ts k.1)

  mutual
    put_term_each : (m : ℕ) (j : Ty) (u t : Term) → EachInTerm P u → EachInTerm P t → EachInTerm P (put_term (only_term m j u) t)
    put_term_each m j u (Term.bound i) h k = tt
    put_term_each m j u (Term.eps n t) h k = k
    put_term_each m j u (Term.meta n t) h k = either (EachInTerm P) ((n == m) && same_type t j) u (Term.meta n t) h k
    put_term_each m j u (Term.app f ts us) h k = (kept_types_each m j u ts k.0, put_terms_each m j u us h k.1)

    put_terms_each : (m : ℕ) (j : Ty) (u : Term) (us : Terms) → EachInTerm P u → EachInTerms P us → EachInTerms P (put_terms (only_term m j u) us)
    put_terms_each m j u Terms.none h k = tt
    put_terms_each m j u (Terms.more t us) h k = (put_term_each m j u t h k.0, put_terms_each m j u us h k.1)

  -- the bindings' parameters have the property
  abbrev pub EachBound : List Binding → Type 0
  EachBound bs = BothSides (EachInType P) (EachInTerm P) bs

  solved_type_each : (bs : List Binding) → EachBound bs → (t : Ty) → EachInType P t → EachInType P (solved_type bs t)
  solved_type_each [] h t k = k
  solved_type_each (Binding.of_type m u ∷ bs) h t k =
      put_type_each m (solved_type bs u) (solved_type bs t) (solved_type_each bs h.2 u h.1) (solved_type_each bs h.2 t k)
  solved_type_each (Binding.of_term m j u ∷ bs) h t k = solved_type_each bs h.2 t k

  solved_term_each : (bs : List Binding) → EachBound bs → (t : Term) → EachInTerm P t → EachInTerm P (solved_term bs t)
  solved_term_each [] h t k = k
  solved_term_each (Binding.of_type m u ∷ bs) h t k =
      put_in_term_each m (solved_type bs u) (solved_term bs t) (solved_type_each bs h.2 u h.1) (solved_term_each bs h.2 t k)
  solved_term_each (Binding.of_term m j u ∷ bs) h t k =
      put_term_each m j (solved_term bs u) (solved_term bs t) (solved_term_each bs h.2 u h.1) (solved_term_each bs h.2 t k)

  -- the metavariable and the parameters of what is put for it
  abbrev pub EachInBinding : Binding → Type 0
  EachInBinding (Binding.of_type m u) = P (Parameter.type_meta m) × EachInType P u
  EachInBinding (Binding.of_term m t u) = P (Parameter.meta m t) × EachInTerm P u

  solved_each : (made : List Binding) → EachBound made → (b : Binding) → Both (EachInType P) (EachInTerm P) b → EachInBinding (solved_binding made b)
  solved_each made h (Binding.of_type m u) k = (k.0, solved_type_each made h u k.1)
  solved_each made h (Binding.of_term m t u) k = (k.0.0, solved_term_each made h u k.1)

  ordered_each : (made : List Binding) → EachBound made → (x : Binding) → Contains (in_order made) x → EachInBinding x
  ordered_each made h x m =
      let y = map-source (solved_binding made) (reverse made) x m in
      subst EachInBinding y.2 (solved_each made h y.0 (member_both (EachInType P) (EachInTerm P) made h y.0 (reverse-has made y.0 y.1)))

  types_apart : (ts : Tys) → EachInTypes P ts → EachType (EachInType P) ts
  types_apart Tys.none h = tt
  types_apart (Tys.more t ts) h = (h.0, types_apart ts h.1)

  terms_apart : (us : Terms) → EachInTerms P us → EachTerm (EachInTerm P) us
  terms_apart Terms.none h = tt
  terms_apart (Terms.more u us) h = (h.0, terms_apart us h.1)

  unified_each : {es : List Equation} {made : List Binding} → Unifies [] es made → Sides (EachInType P) (EachInTerm P) es
      → (x : Binding) → Contains (in_order made) x → EachInBinding x
  unified_each {es} {made} u h =
      let b = both_sides (EachInType P) (EachInTerm P) (λ c ts k. types_apart ts k) (λ f ts us k. (types_apart ts k.0, terms_apart us k.1)) u tt h in
      ordered_each made b

  form_parts_each : {f g : Form} {es : List Equation} → FormParts f g es → EachIn P f → EachIn P g → Sides (EachInType P) (EachInTerm P) es
  form_parts_each (FormParts.atoms {ss = ss} {ts = ts} {us = us} {vs = vs} q p) h k =
      type_sides (EachInType P) (EachInTerm P) p (types_apart ss h.0) (types_apart ts k.0)
      (term_sides (EachInType P) (EachInTerm P) q (terms_apart us h.1) (terms_apart vs k.1) tt)
  form_parts_each (FormParts.equalities) h k = (h.0, k.0, (h.1, k.1, (h.2, k.2, tt)))

  -- each binding is of a metavariable of the two sides, to a tree with their parameters
  pub forms_each : {f g : Form} {made : List Binding} → UnifiesForms f g made → EachIn P f → EachIn P g
      → (x : Binding) → Contains (in_order made) x → EachInBinding x
  forms_each u h k = unified_each u.2 (form_parts_each u.1 h k)

  pub terms_each : {u v : Term} {made : List Binding} → UnifiesTerms u v made → EachInTerm P u → EachInTerm P v
      → (x : Binding) → Contains (in_order made) x → EachInBinding x
  terms_each u h k = unified_each u (h, k, tt)

-- Types.

module _ (symbols : List Symbol) where
  abbrev IsTyped : Term → Type 0
  IsTyped u = (t : Ty) × HasType symbols u t

  abbrev Typed : List Binding → Type 0
  Typed bs = BothSides (IsType symbols 0) IsTyped bs

  types_typed : (ts : Tys) → AreTypes symbols 0 ts → EachType (IsType symbols 0) ts
  types_typed Tys.none h = tt
  types_typed (Tys.more t ts) h = (h.0, types_typed ts h.1)

  terms_typed : (us : Terms) (ts : Tys) → HaveTypes symbols us ts → EachTerm IsTyped us
  terms_typed Terms.none ts h = tt
  terms_typed (Terms.more u us) Tys.none h = absurd h
  terms_typed (Terms.more u us) (Tys.more t ts) h = ((t, h.0), terms_typed us ts h.1)

  application_typed : (f : ℕ) (ts : Tys) (us : Terms) → IsTyped (Term.app f ts us) → EachType (IsType symbols 0) ts × EachTerm IsTyped us
  application_typed f ts us (t, (d, r, declared, sense, types, terms, result)) = (types_typed ts types, terms_typed us (argument_types d ts) terms)

  choose : (b : Bool) (x y : Ty) → IsType symbols 0 x → IsType symbols 0 y → IsType symbols 0 (if b then x else y)
  choose true x y h k = h
  choose false x y h k = k

  how_many_put : (m : ℕ) (u : Ty) (ts : Tys) → how_many (put_types (only_type m u) ts) ≡ how_many ts
  how_many_put m u Tys.none = refl
  how_many_put m u (Tys.more t ts) = ap (λ n. 1 + n) (how_many_put m u ts)

  mutual
    put_is_type : (m : ℕ) (u t : Ty) → IsType symbols 0 u → IsType symbols 0 t → IsType symbols 0 (put_type (only_type m u) t)
    put_is_type m u (Ty.bound i) h k = k
    put_is_type m u (Ty.param n) h k = tt
    put_is_type m u (Ty.meta n) h k = choose (n == m) u (Ty.meta n) h tt
    put_is_type m u (Ty.con c ts) h k =
        ((k.0.0, (k.0.1.0, k.0.1.1 ∙ sym (how_many_put m u ts)), k.0.2), put_are_types m u ts h k.1)

    put_are_types : (m : ℕ) (u : Ty) (ts : Tys) → IsType symbols 0 u → AreTypes symbols 0 ts → AreTypes symbols 0 (put_types (only_type m u) ts)
    put_are_types m u Tys.none h k = tt
    put_are_types m u (Tys.more t ts) h k = (put_is_type m u t h k.0, put_are_types m u ts h k.1)

  solved_is_type : (bs : List Binding) → Typed bs → (t : Ty) → IsType symbols 0 t → IsType symbols 0 (solved_type bs t)
  solved_is_type [] h t k = k
  solved_is_type (Binding.of_type m u ∷ bs) h t k =
      put_is_type m (solved_type bs u) (solved_type bs t) (solved_is_type bs h.2 u h.1) (solved_is_type bs h.2 t k)
  solved_is_type (Binding.of_term m j u ∷ bs) h t k = solved_is_type bs h.2 t k

  -- a type that is put is a type
  abbrev pub PutsType : Binding → Type 0
  PutsType (Binding.of_type m u) = IsType symbols 0 u
  PutsType (Binding.of_term m t u) = Unit {0}

  solved_puts : (made : List Binding) → Typed made → (b : Binding) → Both (IsType symbols 0) IsTyped b → PutsType (solved_binding made b)
  solved_puts made h (Binding.of_type m u) k = solved_is_type made h u k.1
  solved_puts made h (Binding.of_term m t u) k = tt

  ordered_puts : (made : List Binding) → Typed made → (x : Binding) → Contains (in_order made) x → PutsType x
  ordered_puts made h x m =
      let y = map-source (solved_binding made) (reverse made) x m in
      subst PutsType y.2 (solved_puts made h y.0 (member_both (IsType symbols 0) IsTyped made h y.0 (reverse-has made y.0 y.1)))

  unified_puts : {es : List Equation} {made : List Binding} → Unifies [] es made → Sides (IsType symbols 0) IsTyped es
      → (x : Binding) → Contains (in_order made) x → PutsType x
  unified_puts {es} {made} u h =
      let b = both_sides (IsType symbols 0) IsTyped (λ c ts k. types_typed ts k.1) application_typed u tt h in
      ordered_puts made b

  form_parts_typed : {f g : Form} {es : List Equation} → FormParts f g es → WellTyped symbols f → WellTyped symbols g → Sides (IsType symbols 0) IsTyped es
  form_parts_typed (FormParts.atoms {ss = ss} {ts = ts} {us = us} {vs = vs} q p) h k =
      let x = well_typed_atom symbols h in
      let y = well_typed_atom symbols k in
      type_sides (IsType symbols 0) IsTyped p (types_typed ss x.3) (types_typed ts y.3)
      (term_sides (IsType symbols 0) IsTyped q (terms_typed us (argument_types x.0 ss) x.4) (terms_typed vs (argument_types y.0 ts) y.4) tt)
  form_parts_typed (FormParts.equalities {s = s} {t = t}) h k = (
    well_typed_equality symbols h,
    well_typed_equality symbols k,
    ((s, well_typed_left symbols h), (t, well_typed_left symbols k), ((s, well_typed_right symbols h), (t, well_typed_right symbols k), tt)),
  )

  pub forms_put : {f g : Form} {made : List Binding} → UnifiesForms f g made → WellTyped symbols f → WellTyped symbols g
      → (x : Binding) → Contains (in_order made) x → PutsType x
  forms_put u h k = unified_puts u.2 (form_parts_typed u.1 h k)

  pub terms_put : {u v : Term} {made : List Binding} (t : Ty) → UnifiesTerms u v made → HasType symbols u t → HasType symbols v t
      → (x : Binding) → Contains (in_order made) x → PutsType x
  terms_put t u h k = unified_puts u ((t, h), (t, k), tt)
