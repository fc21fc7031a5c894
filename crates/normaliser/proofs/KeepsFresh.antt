-- A next step brings no new number: a number that is fresh before it is fresh after it.
use Rattle.std.proofs.Common.{ℕ, ◌≡◌, ◌+◌, ◌-◌, ◌==◌, ltb, Bool, true, false, ◌&&◌, if◌then◌else◌, subst, List, [], ◌∷◌, length, Option, Some, None}
use Rattle.zm_logic.specs.Tree.{Ty, Tys, Term, Terms, Form, Binder, Opening, Side, Rule}
use Rattle.zm_logic.specs.Index.{type_has, types_have, term_has, form_has}
use Rattle.zm_logic.specs.Parameter.{IsNot, EachInType, EachInTypes, EachInTerm, EachInTerms, EachIn, Never}
use Rattle.zm_logic.proofs.Each.{EachInOpening}
use Rattle.rule_index.specs.Instance.{lift_type, lift_types, lift_term, lift_terms, type_in, term_in, type_part, term_part, put_type, put_types, put_term, put_terms, put_form, put}
use Rattle.rule_index.specs.Matching.{lower_type, lower_types, lower_term, lower_terms, find_in_type, find_in_types, find_in_term, find_in_terms, find_in_form, find, find_all, put_some, rewrite, or_else, first_rewrite, are_of}
use Rattle.rule_index.specs.Instance.{same_side}
use Rattle.normaliser.specs.NextStep.{under, as_term, as_form, root_term, root_form, next_term, next_terms, next_step}
use Rattle.rule_index.specs.Usable.{IsUsable, AreUsable}
use Rattle.zm_logic.specs.Laws.{HasNoParameterIn}
use Rattle.normaliser.proofs.Fresh.{IsFreshSide}

module _ (n : ℕ) where
  mutual
    lifted_fresh_type : (d : ℕ) (t : Ty) → EachInType (IsNot n) t → EachInType (IsNot n) (lift_type d t)
    lifted_fresh_type d (Ty.bound i) e = tt
    lifted_fresh_type d (Ty.param m) e = e
    lifted_fresh_type d (Ty.meta m) e = e
    lifted_fresh_type d (Ty.con c ts) e = lifted_fresh_types d ts e

    lifted_fresh_types : (d : ℕ) (ts : Tys) → EachInTypes (IsNot n) ts → EachInTypes (IsNot n) (lift_types d ts)
    lifted_fresh_types d Tys.none e = tt
    lifted_fresh_types d (Tys.more t ts) e = (lifted_fresh_type d t e.0, lifted_fresh_types d ts e.1)

  mutual
    lifted_fresh_term : (d : ℕ) (a : Term) → EachInTerm (IsNot n) a → EachInTerm (IsNot n) (lift_term d a)
    lifted_fresh_term d (Term.bound i) e = tt
    lifted_fresh_term d (Term.eps m t) e = (e.0, lifted_fresh_type d t e.1)
    lifted_fresh_term d (Term.meta m t) e = (e.0, lifted_fresh_type d t e.1)
    lifted_fresh_term d (Term.app f ts us) e = (lifted_fresh_types d ts e.0, lifted_fresh_terms d us e.1)

    lifted_fresh_terms : (d : ℕ) (us : Terms) → EachInTerms (IsNot n) us → EachInTerms (IsNot n) (lift_terms d us)
    lifted_fresh_terms d Terms.none e = tt
    lifted_fresh_terms d (Terms.more a us) e = (lifted_fresh_term d a e.0, lifted_fresh_terms d us e.1)

  mutual
    lowered_fresh_type : (d : ℕ) (t : Ty) → EachInType (IsNot n) t → EachInType (IsNot n) (lower_type d t)
    lowered_fresh_type d (Ty.bound i) e = tt
    lowered_fresh_type d (Ty.param m) e = e
    lowered_fresh_type d (Ty.meta m) e = e
    lowered_fresh_type d (Ty.con c ts) e = lowered_fresh_types d ts e

    lowered_fresh_types : (d : ℕ) (ts : Tys) → EachInTypes (IsNot n) ts → EachInTypes (IsNot n) (lower_types d ts)
    lowered_fresh_types d Tys.none e = tt
    lowered_fresh_types d (Tys.more t ts) e = (lowered_fresh_type d t e.0, lowered_fresh_types d ts e.1)

  mutual
    lowered_fresh_term : (d : ℕ) (a : Term) → EachInTerm (IsNot n) a → EachInTerm (IsNot n) (lower_term d a)
    lowered_fresh_term d (Term.bound i) e = tt
    lowered_fresh_term d (Term.eps m t) e = (e.0, lowered_fresh_type d t e.1)
    lowered_fresh_term d (Term.meta m t) e = (e.0, lowered_fresh_type d t e.1)
    lowered_fresh_term d (Term.app f ts us) e = (lowered_fresh_types d ts e.0, lowered_fresh_terms d us e.1)

    lowered_fresh_terms : (d : ℕ) (us : Terms) → EachInTerms (IsNot n) us → EachInTerms (IsNot n) (lower_terms d us)
    lowered_fresh_terms d Terms.none e = tt
    lowered_fresh_terms d (Terms.more a us) e = (lowered_fresh_term d a e.0, lowered_fresh_terms d us e.1)

  choice : (b : Bool) (x y : Opening) → EachInOpening (IsNot n) x → EachInOpening (IsNot n) y → EachInOpening (IsNot n) (if b then x else y)
  choice true x y e h = e
  choice false x y e h = h

  -- what is found is a part of the place
  mutual
    found_fresh_type : (d i : ℕ) (t x : Ty) → EachInType (IsNot n) x → EachInOpening (IsNot n) (find_in_type d i t x)
    found_fresh_type d i (Ty.bound j) x e = lowered_fresh_type d x e
    found_fresh_type d i (Ty.con c ts) (Ty.con g xs) e = found_fresh_types d i ts xs e
    found_fresh_type d i _ _ e = tt

    found_fresh_types : (d i : ℕ) (ts xs : Tys) → EachInTypes (IsNot n) xs → EachInOpening (IsNot n) (find_in_types d i ts xs)
    found_fresh_types d i (Tys.more t ts) (Tys.more x xs) e =
        choice (type_has (i + d) t) (find_in_type d i t x) (find_in_types d i ts xs) (found_fresh_type d i t x e.0) (found_fresh_types d i ts xs e.1)
    found_fresh_types d i _ _ e = tt

  mutual
    found_fresh_term : (d i : ℕ) (a x : Term) → EachInTerm (IsNot n) x → EachInOpening (IsNot n) (find_in_term d i a x)
    found_fresh_term d i (Term.bound j) x e = lowered_fresh_term d x e
    found_fresh_term d i (Term.eps m t) (Term.eps k x) e = found_fresh_type d i t x e.1
    found_fresh_term d i (Term.meta m t) (Term.meta k x) e = found_fresh_type d i t x e.1
    found_fresh_term d i (Term.app f ts us) (Term.app g xs ys) e =
        choice (types_have (i + d) ts) (find_in_types d i ts xs) (find_in_terms d i us ys) (found_fresh_types d i ts xs e.0) (found_fresh_terms d i us ys e.1)
    found_fresh_term d i _ _ e = tt

    found_fresh_terms : (d i : ℕ) (us xs : Terms) → EachInTerms (IsNot n) xs → EachInOpening (IsNot n) (find_in_terms d i us xs)
    found_fresh_terms d i (Terms.more u us) (Terms.more x xs) e =
        choice (term_has (i + d) u) (find_in_term d i u x) (find_in_terms d i us xs) (found_fresh_term d i u x e.0) (found_fresh_terms d i us xs e.1)
    found_fresh_terms d i _ _ e = tt

  found_fresh_form : (d i : ℕ) (f x : Form) → EachIn (IsNot n) x → EachInOpening (IsNot n) (find_in_form d i f x)
  found_fresh_form d i (Form.atom p ts us) (Form.atom q xs ys) e =
      choice (types_have (i + d) ts) (find_in_types d i ts xs) (find_in_terms d i us ys) (found_fresh_types d i ts xs e.0) (found_fresh_terms d i us ys e.1)
  found_fresh_form d i (Form.equal t a b) (Form.equal x y z) e =
      choice (type_has (i + d) t) (find_in_type d i t x) (if term_has (i + d) a then find_in_term d i a y else find_in_term d i b z) (found_fresh_type d i t x e.0)
      (choice (term_has (i + d) a) (find_in_term d i a y) (find_in_term d i b z) (found_fresh_term d i a y e.1) (found_fresh_term d i b z e.2))
  found_fresh_form d i (Form.negation f) (Form.negation x) e = found_fresh_form d i f x e
  found_fresh_form d i (Form.binary c f g) (Form.binary h x y) e =
      choice (form_has (i + d) f) (find_in_form d i f x) (find_in_form d i g y) (found_fresh_form d i f x e.0) (found_fresh_form d i g y e.1)
  found_fresh_form d i (Form.quantified q t f) (Form.quantified r x y) e =
      choice (type_has (i + d) t) (find_in_type d i t x) (find_in_form (d + 1) i f y) (found_fresh_type d i t x e.0) (found_fresh_form (d + 1) i f y e.1)
  found_fresh_form d i (Form.quantified_types q f) (Form.quantified_types r x) e = found_fresh_form (d + 1) i f x e
  found_fresh_form d i _ _ e = tt

  found_fresh : (i : ℕ) (left x : Side) → IsFreshSide n x → EachInOpening (IsNot n) (find i left x)
  found_fresh i (Side.of_term a) (Side.of_term x) e = found_fresh_term 0 i a x e
  found_fresh i (Side.of_form f) (Side.of_form x) e = found_fresh_form 0 i f x e
  found_fresh i (Side.of_term f) (Side.of_form x) e = tt
  found_fresh i (Side.of_form f) (Side.of_term x) e = tt

  abbrev AreFreshParts : List Opening → Type 0
  AreFreshParts [] = Unit {0}
  AreFreshParts (o ∷ os) = EachInOpening (IsNot n) o × AreFreshParts os

  all_found_fresh : (bs : List Binder) (left x : Side) → IsFreshSide n x → AreFreshParts (find_all bs left x)
  all_found_fresh [] left x e = tt
  all_found_fresh (b ∷ bs) left x e = (found_fresh (length bs) left x e, all_found_fresh bs left x e)

  fresh_type_part : (os : List Opening) → AreFreshParts os → (i : ℕ) → EachInType (IsNot n) (type_part os i)
  fresh_type_part [] e i = tt
  fresh_type_part (o ∷ os) e i = go o (i == length os) e.0 (fresh_type_part os e.1 i)
    where
      go : (o : Opening) (b : Bool) → EachInOpening (IsNot n) o → EachInType (IsNot n) (type_part os i) → EachInType (IsNot n) (if b then type_in o i else type_part os i)
      go (Opening.of_type t) true e h = e
      go (Opening.of_term t) true e h = tt
      go o false e h = h

  fresh_term_part : (os : List Opening) → AreFreshParts os → (i : ℕ) → EachInTerm (IsNot n) (term_part os i)
  fresh_term_part [] e i = tt
  fresh_term_part (o ∷ os) e i = go o (i == length os) e.0 (fresh_term_part os e.1 i)
    where
      go : (o : Opening) (b : Bool) → EachInOpening (IsNot n) o → EachInTerm (IsNot n) (term_part os i) → EachInTerm (IsNot n) (if b then term_in o i else term_part os i)
      go (Opening.of_type t) true e h = tt
      go (Opening.of_term t) true e h = e
      go o false e h = h

  module _ (os : List Opening) (fresh : AreFreshParts os) where
    mutual
      put_fresh_type : (d : ℕ) (t : Ty) → EachInType Never t → EachInType (IsNot n) (put_type d os t)
      put_fresh_type d (Ty.bound i) e = go (ltb i d)
        where
          go : (b : Bool) → EachInType (IsNot n) (if b then Ty.bound i else lift_type d (type_part os (i - d)))
          go true = tt
          go false = lifted_fresh_type d (type_part os (i - d)) (fresh_type_part os fresh (i - d))
      put_fresh_type d (Ty.param m) e = absurd e
      put_fresh_type d (Ty.meta m) e = absurd e
      put_fresh_type d (Ty.con c ts) e = put_fresh_types d ts e

      put_fresh_types : (d : ℕ) (ts : Tys) → EachInTypes Never ts → EachInTypes (IsNot n) (put_types d os ts)
      put_fresh_types d Tys.none e = tt
      put_fresh_types d (Tys.more t ts) e = (put_fresh_type d t e.0, put_fresh_types d ts e.1)

    mutual
      put_fresh_term : (d : ℕ) (a : Term) → EachInTerm Never a → EachInTerm (IsNot n) (put_term d os a)
      put_fresh_term d (Term.bound i) e = go (ltb i d)
        where
          go : (b : Bool) → EachInTerm (IsNot n) (if b then Term.bound i else lift_term d (term_part os (i - d)))
          go true = tt
          go false = lifted_fresh_term d (term_part os (i - d)) (fresh_term_part os fresh (i - d))
      put_fresh_term d (Term.eps m t) e = absurd e.0
      put_fresh_term d (Term.meta m t) e = absurd e.0
      put_fresh_term d (Term.app f ts us) e = (put_fresh_types d ts e.0, put_fresh_terms d us e.1)

      put_fresh_terms : (d : ℕ) (us : Terms) → EachInTerms Never us → EachInTerms (IsNot n) (put_terms d os us)
      put_fresh_terms d Terms.none e = tt
      put_fresh_terms d (Terms.more a us) e = (put_fresh_term d a e.0, put_fresh_terms d us e.1)

    put_fresh_form : (d : ℕ) (f : Form) → EachIn Never f → EachIn (IsNot n) (put_form d os f)
    put_fresh_form d Form.truth e = tt
    put_fresh_form d Form.falsity e = tt
    put_fresh_form d (Form.atom p ts us) e = (put_fresh_types d ts e.0, put_fresh_terms d us e.1)
    put_fresh_form d (Form.equal t a b) e = (put_fresh_type d t e.0, put_fresh_term d a e.1, put_fresh_term d b e.2)
    put_fresh_form d (Form.negation f) e = put_fresh_form d f e
    put_fresh_form d (Form.binary c f g) e = (put_fresh_form d f e.0, put_fresh_form d g e.1)
    put_fresh_form d (Form.quantified q t f) e = (put_fresh_type d t e.0, put_fresh_form (d + 1) f e.1)
    put_fresh_form d (Form.quantified_types q f) e = put_fresh_form (d + 1) f e

    put_fresh : (x : Side) → HasNoParameterIn x → IsFreshSide n (put os x)
    put_fresh (Side.of_term a) e = put_fresh_term 0 a e
    put_fresh (Side.of_form f) e = put_fresh_form 0 f e

  -- of something
  abbrev OfSome : {A : Type 0} → (A → Type 0) → Option A → Type 0
  OfSome P None = Unit {0}
  OfSome P (Some a) = P a

  rewrite_fresh : (r : Rule) → IsUsable r → (x : Side) → IsFreshSide n x → OfSome (IsFreshSide n) (rewrite r x)
  rewrite_fresh r ok x e = go (are_of (find_all r.binders r.left x) r.binders && same_side (put (find_all r.binders r.left x) r.left) x)
    where
      go : (b : Bool) → OfSome (IsFreshSide n) (put_some r.right (if b then Some (find_all r.binders r.left x) else None))
      go true = put_fresh (find_all r.binders r.left x) (all_found_fresh r.binders r.left x e) r.right ok.free_right
      go false = tt

  either : {A : Type 0} (P : A → Type 0) (m y : Option A) → OfSome P m → OfSome P y → OfSome P (or_else m y)
  either P None y e h = h
  either P (Some a) y e h = e

  within : {A B : Type 0} (P : A → Type 0) (Q : B → Type 0) (g : A → B) → ((a : A) → P a → Q (g a)) → (m : Option A) → OfSome P m → OfSome Q (under g m)
  within P Q g h None e = tt
  within P Q g h (Some a) e = h a e

  first_fresh : (rules : List Rule) → AreUsable rules → (x : Side) → IsFreshSide n x → OfSome (IsFreshSide n) (first_rewrite rules x)
  first_fresh [] ok x e = tt
  first_fresh (r ∷ rules) ok x e = either (IsFreshSide n) (rewrite r x) (first_rewrite rules x) (rewrite_fresh r ok.0 x e) (first_fresh rules ok.1 x e)

  module _ (rules : List Rule) (ok : AreUsable rules) where
    root_term_fresh : (a : Term) → EachInTerm (IsNot n) a → OfSome (EachInTerm (IsNot n)) (root_term rules a)
    root_term_fresh a e = go (first_rewrite rules (Side.of_term a)) (first_fresh rules ok (Side.of_term a) e)
      where
        go : (m : Option Side) → OfSome (IsFreshSide n) m → OfSome (EachInTerm (IsNot n)) (as_term m)
        go None e = tt
        go (Some (Side.of_term b)) e = e
        go (Some (Side.of_form b)) e = tt

    root_form_fresh : (f : Form) → EachIn (IsNot n) f → OfSome (EachIn (IsNot n)) (root_form rules f)
    root_form_fresh f e = go (first_rewrite rules (Side.of_form f)) (first_fresh rules ok (Side.of_form f) e)
      where
        go : (m : Option Side) → OfSome (IsFreshSide n) m → OfSome (EachIn (IsNot n)) (as_form m)
        go None e = tt
        go (Some (Side.of_term b)) e = tt
        go (Some (Side.of_form b)) e = e

    mutual
      next_term_fresh : (a : Term) → EachInTerm (IsNot n) a → OfSome (EachInTerm (IsNot n)) (next_term rules a)
      next_term_fresh (Term.bound i) e = tt
      next_term_fresh (Term.eps m t) e = tt
      next_term_fresh (Term.meta m t) e = tt
      next_term_fresh (Term.app f ts us) e =
          either (EachInTerm (IsNot n)) (under (Term.app f ts) (next_terms rules us)) (root_term rules (Term.app f ts us))
          (within (EachInTerms (IsNot n)) (EachInTerm (IsNot n)) (Term.app f ts) (λ vs h. (e.0, h)) (next_terms rules us) (next_terms_fresh us e.1))
          (root_term_fresh (Term.app f ts us) e)

      next_terms_fresh : (us : Terms) → EachInTerms (IsNot n) us → OfSome (EachInTerms (IsNot n)) (next_terms rules us)
      next_terms_fresh Terms.none e = tt
      next_terms_fresh (Terms.more a us) e =
          either (EachInTerms (IsNot n)) (under (λ v. Terms.more v us) (next_term rules a)) (under (Terms.more a) (next_terms rules us))
          (within (EachInTerm (IsNot n)) (EachInTerms (IsNot n)) (λ v. Terms.more v us) (λ v h. (h, e.1)) (next_term rules a) (next_term_fresh a e.0))
          (within (EachInTerms (IsNot n)) (EachInTerms (IsNot n)) (Terms.more a) (λ v h. (e.0, h)) (next_terms rules us) (next_terms_fresh us e.1))

    pub next_fresh : (f : Form) → EachIn (IsNot n) f → OfSome (EachIn (IsNot n)) (next_step rules f)
    next_fresh Form.truth e = root_form_fresh Form.truth e
    next_fresh Form.falsity e = root_form_fresh Form.falsity e
    next_fresh (Form.atom p ts us) e =
        either (EachIn (IsNot n)) (under (Form.atom p ts) (next_terms rules us)) (root_form rules (Form.atom p ts us))
        (within (EachInTerms (IsNot n)) (EachIn (IsNot n)) (Form.atom p ts) (λ vs h. (e.0, h)) (next_terms rules us) (next_terms_fresh us e.1))
        (root_form_fresh (Form.atom p ts us) e)
    next_fresh (Form.equal t a b) e =
        either (EachIn (IsNot n)) (under (λ c. Form.equal t c b) (next_term rules a)) (or_else (under (Form.equal t a) (next_term rules b)) (root_form rules (Form.equal t a b)))
        (within (EachInTerm (IsNot n)) (EachIn (IsNot n)) (λ c. Form.equal t c b) (λ v h. (e.0, h, e.2)) (next_term rules a) (next_term_fresh a e.1))
        (either (EachIn (IsNot n)) (under (Form.equal t a) (next_term rules b)) (root_form rules (Form.equal t a b))
        (within (EachInTerm (IsNot n)) (EachIn (IsNot n)) (Form.equal t a) (λ v h. (e.0, e.1, h)) (next_term rules b) (next_term_fresh b e.2))
        (root_form_fresh (Form.equal t a b) e))
    next_fresh (Form.negation f) e =
        either (EachIn (IsNot n)) (under Form.negation (next_step rules f)) (root_form rules (Form.negation f))
        (within (EachIn (IsNot n)) (EachIn (IsNot n)) Form.negation (λ v h. h) (next_step rules f) (next_fresh f e)) (root_form_fresh (Form.negation f) e)
    next_fresh (Form.binary c f g) e =
        either (EachIn (IsNot n)) (under (λ h. Form.binary c h g) (next_step rules f)) (or_else (under (Form.binary c f) (next_step rules g)) (root_form rules (Form.binary c f g)))
        (within (EachIn (IsNot n)) (EachIn (IsNot n)) (λ h. Form.binary c h g) (λ v h. (h, e.1)) (next_step rules f) (next_fresh f e.0))
        (either (EachIn (IsNot n)) (under (Form.binary c f) (next_step rules g)) (root_form rules (Form.binary c f g))
        (within (EachIn (IsNot n)) (EachIn (IsNot n)) (Form.binary c f) (λ v h. (e.0, h)) (next_step rules g) (next_fresh g e.1))
        (root_form_fresh (Form.binary c f g) e))
    next_fresh (Form.quantified q t f) e =
        either (EachIn (IsNot n)) (under (Form.quantified q t) (next_step rules f)) (root_form rules (Form.quantified q t f))
        (within (EachIn (IsNot n)) (EachIn (IsNot n)) (Form.quantified q t) (λ v h. (e.0, h)) (next_step rules f) (next_fresh f e.1)) (root_form_fresh (Form.quantified q t f) e)
    next_fresh (Form.quantified_types q f) e =
        either (EachIn (IsNot n)) (under (Form.quantified_types q) (next_step rules f)) (root_form rules (Form.quantified_types q f))
        (within (EachIn (IsNot n)) (EachIn (IsNot n)) (Form.quantified_types q) (λ v h. h) (next_step rules f) (next_fresh f e)) (root_form_fresh (Form.quantified_types q f) e)

    pub step_is_fresh : (f g : Form) → EachIn (IsNot n) f → next_step rules f ≡ Some g → EachIn (IsNot n) g
    step_is_fresh f g e d = subst (OfSome (EachIn (IsNot n))) d (next_fresh f e)
