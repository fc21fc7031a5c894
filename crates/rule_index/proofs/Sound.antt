-- A sound rule, so each rule that is selected from a typed problem, is one that normal forms can be taken by.
use Rattle.std.proofs.Common.{ℕ, ◌≡◌, ◌+◌, ◌-◌, ◌≤◌, ◌==◌, Bool, true, false, if◌then◌else◌, refl, ap, sym, ◌∙◌, subst, arith, List, [], ◌∷◌, ◌++◌, length, map, length-append, append_assoc, Option, Some, None}
use Rattle.std.proofs.lemmas.Bool.{ne_eqb}
use Rattle.zm_logic.specs.Tree.{Ty, Tys, Term, Terms, Form, Binder, Side, Rule, Symbol, iff}
use Rattle.zm_logic.specs.Problem.{prenex, IsTypedSides}
use Rattle.rule_select.specs.Sound.{IsPattern, IsSound}
use Rattle.rule_index.specs.Matching.{binder_at, IsTypeBinder, IsTermBinder, IsKindedType, AreKindedTypes, IsKindedTerm, AreKindedTerms, IsKindedForm, IsKinded}
use Rattle.rule_index.specs.Usable.{AreSides, IsUsable}
use Rattle.rule_index.proofs.Equal.{itself, number}
use Rattle.rule_index.proofs.Scope.{IsScopedType, AreScopedTypes, IsScopedTerm, AreScopedTerms, IsScoped, a_term, past_binder, length_more, typed_is_scoped}

abbrev pub erased : Binder → Binder
erased Binder.of_type = Binder.of_type
erased (Binder.of_term t) = a_term

append_none : (bs : List Binder) → bs ++ [] ≡ bs
append_none [] = refl
append_none (b ∷ bs) = ap (◌∷◌ b) (append_none bs)

pub scoped_prenex : (cs bs : List Binder) (f : Form) → IsScoped cs (prenex bs f) → IsScoped (cs ++ map erased bs) f
scoped_prenex cs [] f h = subst (λ x. IsScoped x f) (sym (append_none cs)) h
scoped_prenex cs (Binder.of_type ∷ bs) f h =
    subst (λ x. IsScoped x f) (append_assoc cs (Binder.of_type ∷ []) (map erased bs)) (scoped_prenex (cs ++ Binder.of_type ∷ []) bs f h)
scoped_prenex cs (Binder.of_term t ∷ bs) f h =
    subst (λ x. IsScoped x f) (append_assoc cs (a_term ∷ []) (map erased bs)) (scoped_prenex (cs ++ a_term ∷ []) bs f h.1)

pub length_erased : (bs : List Binder) → length (map erased bs) ≡ length bs
length_erased [] = refl
length_erased (b ∷ bs) = cc (length_erased bs)

abbrev under_erased : Option Binder → Option Binder
under_erased None = None
under_erased (Some b) = Some (erased b)

erased_at : (bs : List Binder) (i : ℕ) → binder_at (map erased bs) i ≡ under_erased (binder_at bs i)
erased_at [] i = refl
erased_at (b ∷ bs) i = rw (length_erased bs) (go (erased_at bs i) (i == length bs))
  where
    go : binder_at (map erased bs) i ≡ under_erased (binder_at bs i) → (z : Bool)
        → (if z then Some (erased b) else binder_at (map erased bs) i) ≡ under_erased (if z then Some b else binder_at bs i)
    go e true = refl
    go e false = e

type_erased : (m : Option Binder) → IsTypeBinder (under_erased m) → IsTypeBinder m
type_erased None h = h
type_erased (Some Binder.of_type) h = tt
type_erased (Some (Binder.of_term t)) h = h

term_erased : (m : Option Binder) → IsTermBinder (under_erased m) → IsTermBinder m
term_erased None h = h
term_erased (Some Binder.of_type) h = h
term_erased (Some (Binder.of_term t)) h = tt

-- an index past the last binders is one of the first
at_front : (bs ds : List Binder) (i : ℕ) → length ds ≤ i → binder_at (bs ++ ds) i ≡ binder_at bs (i - length ds)
at_front [] ds i h = past_binder ds i h
at_front (b ∷ bs) ds i h = go (at_front bs ds i h) ((i - length ds) == length bs) refl
  where
    n : length (bs ++ ds) ≡ length bs + length ds
    n = length-append bs ds

    go : binder_at (bs ++ ds) i ≡ binder_at bs (i - length ds) → (z : Bool) → ((i - length ds) == length bs) ≡ z
        → (if i == length (bs ++ ds) then Some b else binder_at (bs ++ ds) i) ≡ (if z then Some b else binder_at bs (i - length ds))
    go e true x =
        let k : i - length ds ≡ length bs = number (i - length ds) (length bs) x in
        let j : i ≡ length (bs ++ ds) = omega (arith, n, k, h) in
        let t : (i == length (bs ++ ds)) ≡ true = rw (← j) (itself i) in
        rw t
    go e false x =
        let t : (i == length (bs ++ ds)) ≡ false =
        ne_eqb i (length (bs ++ ds)) (λ j. let k : i - length ds ≡ length bs = omega (arith, n, j, h) in let y : true ≡ false = sym (rw k (itself (length bs))) ∙ x in cc) in
        rw t e

type_at_front : (bs ds : List Binder) (i : ℕ) → IsTypeBinder (binder_at (map erased bs ++ ds) i) → length ds ≤ i → IsTypeBinder (binder_at bs (i - length ds))
type_at_front bs ds i h l = type_erased (binder_at bs (i - length ds)) (subst IsTypeBinder (at_front (map erased bs) ds i l ∙ erased_at bs (i - length ds)) h)

term_at_front : (bs ds : List Binder) (i : ℕ) → IsTermBinder (binder_at (map erased bs ++ ds) i) → length ds ≤ i → IsTermBinder (binder_at bs (i - length ds))
term_at_front bs ds i h l = term_erased (binder_at bs (i - length ds)) (subst IsTermBinder (at_front (map erased bs) ds i l ∙ erased_at bs (i - length ds)) h)

module _ (bs : List Binder) where
  mutual
    kinded_type : (ds : List Binder) (t : Ty) → IsScopedType (map erased bs ++ ds) t → IsKindedType bs (length ds) t
    kinded_type ds (Ty.bound i) h = λ l. type_at_front bs ds i h l
    kinded_type ds (Ty.param n) h = tt
    kinded_type ds (Ty.meta n) h = tt
    kinded_type ds (Ty.con c ts) h = kinded_types ds ts h

    kinded_types : (ds : List Binder) (ts : Tys) → AreScopedTypes (map erased bs ++ ds) ts → AreKindedTypes bs (length ds) ts
    kinded_types ds Tys.none h = tt
    kinded_types ds (Tys.more t ts) h = (kinded_type ds t h.0, kinded_types ds ts h.1)

  mutual
    kinded_term : (ds : List Binder) (a : Term) → IsScopedTerm (map erased bs ++ ds) a → IsKindedTerm bs (length ds) a
    kinded_term ds (Term.bound i) h = λ l. term_at_front bs ds i h l
    kinded_term ds (Term.eps n t) h = kinded_type ds t h
    kinded_term ds (Term.meta n t) h = kinded_type ds t h
    kinded_term ds (Term.app f ts us) h = (kinded_types ds ts h.0, kinded_terms ds us h.1)

    kinded_terms : (ds : List Binder) (us : Terms) → AreScopedTerms (map erased bs ++ ds) us → AreKindedTerms bs (length ds) us
    kinded_terms ds Terms.none h = tt
    kinded_terms ds (Terms.more a us) h = (kinded_term ds a h.0, kinded_terms ds us h.1)

  kinded_form : (ds : List Binder) (f : Form) → IsScoped (map erased bs ++ ds) f → IsKindedForm bs (length ds) f
  kinded_form ds Form.truth h = tt
  kinded_form ds Form.falsity h = tt
  kinded_form ds (Form.atom p ts us) h = (kinded_types ds ts h.0, kinded_terms ds us h.1)
  kinded_form ds (Form.equal t a b) h = (kinded_type ds t h.0, kinded_term ds a h.1, kinded_term ds b h.2)
  kinded_form ds (Form.negation f) h = kinded_form ds f h
  kinded_form ds (Form.binary c f g) h = (kinded_form ds f h.0, kinded_form ds g h.1)
  kinded_form ds (Form.quantified q t f) h = (
    kinded_type ds t h.0,
    subst (λ k. IsKindedForm bs k f) (length_more ds a_term)
        (kinded_form (ds ++ a_term ∷ []) f (subst (λ x. IsScoped x f) (append_assoc (map erased bs) ds (a_term ∷ [])) h.1)),
  )
  kinded_form ds (Form.quantified_types q f) h =
      subst (λ k. IsKindedForm bs k f) (length_more ds Binder.of_type)
      (kinded_form (ds ++ Binder.of_type ∷ []) f (subst (λ x. IsScoped x f) (append_assoc (map erased bs) ds (Binder.of_type ∷ [])) h))

  scoped_kinded : (f : Form) → IsScoped [] (prenex bs f) → IsKindedForm bs 0 f
  scoped_kinded f h = kinded_form [] f (subst (λ x. IsScoped x f) (sym (append_none (map erased bs))) (scoped_prenex [] bs f h))

module _ (symbols : List Symbol) where
  typed_sides_kinded : (bs : List Binder) (x y : Side) → IsTypedSides symbols bs x y → IsKinded bs x × IsKinded bs y
  typed_sides_kinded bs (Side.of_term a) (Side.of_term b) (t, w) = let k = scoped_kinded bs (Form.equal t a b) (typed_is_scoped symbols w) in (k.1, k.2)
  typed_sides_kinded bs (Side.of_form f) (Side.of_form g) w = scoped_kinded bs (iff f g) (typed_is_scoped symbols w)
  typed_sides_kinded bs (Side.of_term a) (Side.of_form g) w = absurd w
  typed_sides_kinded bs (Side.of_form f) (Side.of_term b) w = absurd w

  are_sides : (bs : List Binder) (x y : Side) → IsTypedSides symbols bs x y → IsPattern x → AreSides x y
  are_sides bs (Side.of_term (Term.app f ts us)) (Side.of_term b) w p = tt
  are_sides bs (Side.of_form f) (Side.of_form g) w p = tt
  are_sides bs (Side.of_form f) (Side.of_term g) w p = absurd w
  are_sides bs (Side.of_term (Term.app f ts us)) (Side.of_form g) w p = absurd w
  are_sides bs (Side.of_term (Term.bound i)) y w p = absurd p
  are_sides bs (Side.of_term (Term.eps i t)) y w p = absurd p
  are_sides bs (Side.of_term (Term.meta i t)) y w p = absurd p

  pub sound_is_usable : (r : Rule) → IsSound symbols r → IsUsable r
  sound_is_usable r s =
      let k = typed_sides_kinded r.binders r.left r.right s.typed in
      record {
        sides = are_sides r.binders r.left r.right s.typed s.pattern;
        left = record { kinded = k.0; bound = s.bound };
        right = k.1;
        free_left = s.left_parameters;
        free_right = s.right_parameters;
      }
