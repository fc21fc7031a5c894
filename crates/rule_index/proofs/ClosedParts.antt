-- At a place without loose indices the parts have none, and the instance is the one that opens binder by binder.
use Rattle.std.proofs.Common.{ℕ, ◌≡◌, ◌+◌, ◌-◌, ◌≤◌, ◌<◌, ◌==◌, ltb, Bool, true, false, ◌||◌, if◌then◌else◌, refl, ap, sym, ◌∙◌, subst, arith, List, [], ◌∷◌, length}
use Rattle.std.proofs.lemmas.Bool.Decides.{Decides-ltb}
use Rattle.std.proofs.lemmas.Bool.{ne_eqb, ltb-false, lt-ltb}
use Rattle.zm_logic.specs.Tree.{Ty, Tys, Term, Terms, Form, Binder, Opening, Side}
use Rattle.zm_logic.specs.Opening.{type_at, term_at, open_type, open_types, open_term, open_terms, open_at, side_instance}
use Rattle.zm_logic.specs.Index.{IsClosedType, AreClosedTypes, IsClosedTerm, AreClosedTerms, IsClosed, type_has, types_have, term_has, terms_have, form_has}
use Rattle.zm_logic.specs.Rewriting.{Fit}
use Rattle.rule_select.specs.Sound.{IsClosedSide}
use Rattle.rule_index.specs.Instance.{lift_type, lift_types, lift_term, lift_terms, type_in, term_in, type_part, term_part, put_type, put_types, put_term, put_terms, put_form, put}
use Rattle.rule_index.specs.Matching.{are_of, binder_at, IsTypeBinder, IsTermBinder, IsKindedType, AreKindedTypes, IsKindedTerm, AreKindedTerms, IsKindedForm}
use Rattle.rule_index.specs.Usable.{IsLeft}
use Rattle.rule_index.proofs.Equal.{itself, number}
use Rattle.rule_index.proofs.Found.{Entry, type_entry, term_entry, entry_is_type, entry_is_term, entry_is_below, same_length, put_type_at, put_term_at}
use Rattle.rule_index.specs.Fits.{IsMatch}
use Rattle.rule_index.proofs.Commute.{IsClosedPart, lift_closed_type, lift_closed_term}

below_is : (i d : ℕ) → i < d → ltb i d ≡ true
below_is i d h = lt-ltb i d h

-- a tree without loose indices is its own instance
mutual
  put_closed_type : (d : ℕ) (os : List Opening) (t : Ty) → IsClosedType d t → put_type d os t ≡ t
  put_closed_type d os (Ty.bound i) h = rw (below_is i d h)
  put_closed_type d os (Ty.param n) h = refl
  put_closed_type d os (Ty.meta n) h = refl
  put_closed_type d os (Ty.con c ts) h = ap (Ty.con c) (put_closed_types d os ts h)

  put_closed_types : (d : ℕ) (os : List Opening) (ts : Tys) → AreClosedTypes d ts → put_types d os ts ≡ ts
  put_closed_types d os Tys.none h = refl
  put_closed_types d os (Tys.more t ts) h = cc (put_closed_type d os t h.0, put_closed_types d os ts h.1)

mutual
  put_closed_term : (d : ℕ) (os : List Opening) (a : Term) → IsClosedTerm d a → put_term d os a ≡ a
  put_closed_term d os (Term.bound i) h = rw (below_is i d h)
  put_closed_term d os (Term.eps n t) h = ap (Term.eps n) (put_closed_type d os t h)
  put_closed_term d os (Term.meta n t) h = ap (Term.meta n) (put_closed_type d os t h)
  put_closed_term d os (Term.app f ts us) h = cc (put_closed_types d os ts h.0, put_closed_terms d os us h.1)

  put_closed_terms : (d : ℕ) (os : List Opening) (us : Terms) → AreClosedTerms d us → put_terms d os us ≡ us
  put_closed_terms d os Terms.none h = refl
  put_closed_terms d os (Terms.more a us) h = cc (put_closed_term d os a h.0, put_closed_terms d os us h.1)

mutual
  wider_type : (k d : ℕ) → k ≤ d → (t : Ty) → IsClosedType k t → IsClosedType d t
  wider_type k d l (Ty.bound i) h = omega arith
  wider_type k d l (Ty.param n) h = tt
  wider_type k d l (Ty.meta n) h = tt
  wider_type k d l (Ty.con c ts) h = wider_types k d l ts h

  wider_types : (k d : ℕ) → k ≤ d → (ts : Tys) → AreClosedTypes k ts → AreClosedTypes d ts
  wider_types k d l Tys.none h = tt
  wider_types k d l (Tys.more t ts) h = (wider_type k d l t h.0, wider_types k d l ts h.1)

mutual
  wider_term : (k d : ℕ) → k ≤ d → (a : Term) → IsClosedTerm k a → IsClosedTerm d a
  wider_term k d l (Term.bound i) h = omega arith
  wider_term k d l (Term.eps n t) h = wider_type k d l t h
  wider_term k d l (Term.meta n t) h = wider_type k d l t h
  wider_term k d l (Term.app f ts us) h = (wider_types k d l ts h.0, wider_terms k d l us h.1)

  wider_terms : (k d : ℕ) → k ≤ d → (us : Terms) → AreClosedTerms k us → AreClosedTerms d us
  wider_terms k d l Terms.none h = tt
  wider_terms k d l (Terms.more a us) h = (wider_term k d l a h.0, wider_terms k d l us h.1)

-- an index past the parts stays
type_part_past : (os : List Opening) (i : ℕ) → length os ≤ i → type_part os i ≡ Ty.bound i
type_part_past [] i h = refl
type_part_past (o ∷ os) i h = rw (ne_eqb i (length os) (λ x. omega arith)) (type_part_past os i (omega arith))

term_part_past : (os : List Opening) (i : ℕ) → length os ≤ i → term_part os i ≡ Term.bound i
term_part_past [] i h = refl
term_part_past (o ∷ os) i h = rw (ne_eqb i (length os) (λ x. omega arith)) (term_part_past os i (omega arith))

-- the first part can be put first, by opening
put_first_type_at : (d : ℕ) (o : Opening) → IsClosedPart o → (os : List Opening) (i : ℕ) → put_type d (o ∷ os) (Ty.bound i) ≡ put_type d os (type_at (length os + d) o i)
put_first_type_at d o c os i = go (ltb i d) refl ((i - d) == length os) refl
  where
    low : (o : Opening) → i < d → type_at (length os + d) o i ≡ Ty.bound i
    low (Opening.of_term u) l = refl
    low (Opening.of_type u) l = rw (ne_eqb i (length os + d) (λ x. omega arith))

    same : (o : Opening) → IsClosedPart o → d ≤ i → i - d ≡ length os → ltb i d ≡ false → lift_type d (type_in o (i - d)) ≡ put_type d os (type_at (length os + d) o i)
    same (Opening.of_type u) c l e x =
        let n : i ≡ length os + d = omega arith in
        rw (n, itself (length os + d)) (lift_closed_type d u c ∙ sym (put_closed_type d os u (wider_type 0 d (omega arith) u c)))
    same (Opening.of_term u) c l e x = rw x (ap (lift_type d) (sym (type_part_past os (i - d) (omega arith))))

    other : (o : Opening) → d ≤ i → ((i - d) == length os) ≡ false → ltb i d ≡ false → lift_type d (type_part os (i - d)) ≡ put_type d os (type_at (length os + d) o i)
    other (Opening.of_type u) l e x =
        rw (ne_eqb i (length os + d) (λ n. let m : i - d ≡ length os = omega arith in let f : true ≡ false = sym (rw m (itself (length os))) ∙ e in cc), x)
    other (Opening.of_term u) l e x = rw x

    go : (b : Bool) → ltb i d ≡ b → (z : Bool) → ((i - d) == length os) ≡ z
        → (if b then Ty.bound i else lift_type d (if z then type_in o (i - d) else type_part os (i - d))) ≡ put_type d os (type_at (length os + d) o i)
    go true x z y = let l : i < d = (Decides-ltb i d).0 x in rw (low o l, x)
    go false x true y = same o c (ltb-false i d x) (number (i - d) (length os) y) x
    go false x false y = other o (ltb-false i d x) y x

put_first_term_at : (d : ℕ) (o : Opening) → IsClosedPart o → (os : List Opening) (i : ℕ) → put_term d (o ∷ os) (Term.bound i) ≡ put_term d os (term_at (length os + d) o i)
put_first_term_at d o c os i = go (ltb i d) refl ((i - d) == length os) refl
  where
    low : (o : Opening) → i < d → term_at (length os + d) o i ≡ Term.bound i
    low (Opening.of_type u) l = refl
    low (Opening.of_term u) l = rw (ne_eqb i (length os + d) (λ x. omega arith))

    same : (o : Opening) → IsClosedPart o → d ≤ i → i - d ≡ length os → ltb i d ≡ false → lift_term d (term_in o (i - d)) ≡ put_term d os (term_at (length os + d) o i)
    same (Opening.of_term u) c l e x =
        let n : i ≡ length os + d = omega arith in
        rw (n, itself (length os + d)) (lift_closed_term d u c ∙ sym (put_closed_term d os u (wider_term 0 d (omega arith) u c)))
    same (Opening.of_type u) c l e x = rw x (ap (lift_term d) (sym (term_part_past os (i - d) (omega arith))))

    other : (o : Opening) → d ≤ i → ((i - d) == length os) ≡ false → ltb i d ≡ false → lift_term d (term_part os (i - d)) ≡ put_term d os (term_at (length os + d) o i)
    other (Opening.of_term u) l e x =
        rw (ne_eqb i (length os + d) (λ n. let m : i - d ≡ length os = omega arith in let f : true ≡ false = sym (rw m (itself (length os))) ∙ e in cc), x)
    other (Opening.of_type u) l e x = rw x

    go : (b : Bool) → ltb i d ≡ b → (z : Bool) → ((i - d) == length os) ≡ z
        → (if b then Term.bound i else lift_term d (if z then term_in o (i - d) else term_part os (i - d))) ≡ put_term d os (term_at (length os + d) o i)
    go true x z y = let l : i < d = (Decides-ltb i d).0 x in rw (low o l, x)
    go false x true y = same o c (ltb-false i d x) (number (i - d) (length os) y) x
    go false x false y = other o (ltb-false i d x) y x

more_under : (k d : ℕ) → (k + d) + 1 ≡ k + (d + 1)
more_under k d = omega arith

module _ (o : Opening) (c : IsClosedPart o) (os : List Opening) where
  mutual
    put_first_type : (d : ℕ) (t : Ty) → put_type d (o ∷ os) t ≡ put_type d os (open_type (length os + d) o t)
    put_first_type d (Ty.bound i) = put_first_type_at d o c os i
    put_first_type d (Ty.param n) = refl
    put_first_type d (Ty.meta n) = refl
    put_first_type d (Ty.con f ts) = ap (Ty.con f) (put_first_types d ts)

    put_first_types : (d : ℕ) (ts : Tys) → put_types d (o ∷ os) ts ≡ put_types d os (open_types (length os + d) o ts)
    put_first_types d Tys.none = refl
    put_first_types d (Tys.more t ts) = cc (put_first_type d t, put_first_types d ts)

  mutual
    put_first_term : (d : ℕ) (a : Term) → put_term d (o ∷ os) a ≡ put_term d os (open_term (length os + d) o a)
    put_first_term d (Term.bound i) = put_first_term_at d o c os i
    put_first_term d (Term.eps n t) = ap (Term.eps n) (put_first_type d t)
    put_first_term d (Term.meta n t) = ap (Term.meta n) (put_first_type d t)
    put_first_term d (Term.app f ts us) = cc (put_first_types d ts, put_first_terms d us)

    put_first_terms : (d : ℕ) (us : Terms) → put_terms d (o ∷ os) us ≡ put_terms d os (open_terms (length os + d) o us)
    put_first_terms d Terms.none = refl
    put_first_terms d (Terms.more a us) = cc (put_first_term d a, put_first_terms d us)

  put_first_form : (d : ℕ) (f : Form) → put_form d (o ∷ os) f ≡ put_form d os (open_at (length os + d) o f)
  put_first_form d Form.truth = refl
  put_first_form d Form.falsity = refl
  put_first_form d (Form.atom p ts us) = cc (put_first_types d ts, put_first_terms d us)
  put_first_form d (Form.equal t a b) = cc (put_first_type d t, put_first_term d a, put_first_term d b)
  put_first_form d (Form.negation f) = ap Form.negation (put_first_form d f)
  put_first_form d (Form.binary x f g) = cc (put_first_form d f, put_first_form d g)
  put_first_form d (Form.quantified q t f) = cc (put_first_type d t, put_first_form (d + 1) f, more_under (length os) d)
  put_first_form d (Form.quantified_types q f) = cc (put_first_form (d + 1) f, more_under (length os) d)

put_nothing_under : (d i : ℕ) → ltb i d ≡ false → (i - d) + d ≡ i
put_nothing_under d i e = let l = ltb-false i d e in omega arith

mutual
  put_nothing_type : (d : ℕ) (t : Ty) → put_type d [] t ≡ t
  put_nothing_type d (Ty.bound i) = go (ltb i d) refl
    where
      go : (b : Bool) → ltb i d ≡ b → (if b then Ty.bound i else Ty.bound ((i - d) + d)) ≡ Ty.bound i
      go true e = refl
      go false e = ap Ty.bound (put_nothing_under d i e)
  put_nothing_type d (Ty.param n) = refl
  put_nothing_type d (Ty.meta n) = refl
  put_nothing_type d (Ty.con f ts) = ap (Ty.con f) (put_nothing_types d ts)

  put_nothing_types : (d : ℕ) (ts : Tys) → put_types d [] ts ≡ ts
  put_nothing_types d Tys.none = refl
  put_nothing_types d (Tys.more t ts) = cc (put_nothing_type d t, put_nothing_types d ts)

mutual
  put_nothing_term : (d : ℕ) (a : Term) → put_term d [] a ≡ a
  put_nothing_term d (Term.bound i) = go (ltb i d) refl
    where
      go : (b : Bool) → ltb i d ≡ b → (if b then Term.bound i else Term.bound ((i - d) + d)) ≡ Term.bound i
      go true e = refl
      go false e = ap Term.bound (put_nothing_under d i e)
  put_nothing_term d (Term.eps n t) = ap (Term.eps n) (put_nothing_type d t)
  put_nothing_term d (Term.meta n t) = ap (Term.meta n) (put_nothing_type d t)
  put_nothing_term d (Term.app f ts us) = cc (put_nothing_types d ts, put_nothing_terms d us)

  put_nothing_terms : (d : ℕ) (us : Terms) → put_terms d [] us ≡ us
  put_nothing_terms d Terms.none = refl
  put_nothing_terms d (Terms.more a us) = cc (put_nothing_term d a, put_nothing_terms d us)

put_nothing_form : (d : ℕ) (f : Form) → put_form d [] f ≡ f
put_nothing_form d Form.truth = refl
put_nothing_form d Form.falsity = refl
put_nothing_form d (Form.atom p ts us) = cc (put_nothing_types d ts, put_nothing_terms d us)
put_nothing_form d (Form.equal t a b) = cc (put_nothing_type d t, put_nothing_term d a, put_nothing_term d b)
put_nothing_form d (Form.negation f) = ap Form.negation (put_nothing_form d f)
put_nothing_form d (Form.binary x f g) = cc (put_nothing_form d f, put_nothing_form d g)
put_nothing_form d (Form.quantified q t f) = cc (put_nothing_type d t, put_nothing_form (d + 1) f)
put_nothing_form d (Form.quantified_types q f) = cc (put_nothing_form (d + 1) f)

abbrev pub AreClosedParts : List Opening → Type 0
AreClosedParts [] = Unit {0}
AreClosedParts (o ∷ os) = IsClosedPart o × AreClosedParts os

no_more : (k : ℕ) → k + 0 ≡ k
no_more k = omega arith

-- at parts without loose indices it is the instance that opens binder by binder
pub put_is_instance : (os : List Opening) → AreClosedParts os → (x : Side) → put os x ≡ side_instance os x
put_is_instance [] h (Side.of_term a) = ap Side.of_term (put_nothing_term 0 a)
put_is_instance [] h (Side.of_form f) = ap Side.of_form (put_nothing_form 0 f)
put_is_instance (o ∷ os) h (Side.of_term a) =
    ap Side.of_term (put_first_term o h.0 os 0 a ∙ ap (λ k. put_term 0 os (open_term k o a)) (no_more (length os)))
    ∙ put_is_instance os h.1 (Side.of_term (open_term (length os) o a))
put_is_instance (o ∷ os) h (Side.of_form f) =
    ap Side.of_form (put_first_form o h.0 os 0 f ∙ ap (λ k. put_form 0 os (open_at k o f)) (no_more (length os)))
    ∙ put_is_instance os h.1 (Side.of_form (open_at (length os) o f))

-- a lifted tree whose indices are below what it was lifted by has none that is loose
mutual
  unlifted_type : (d : ℕ) (t : Ty) → IsClosedType d (lift_type d t) → IsClosedType 0 t
  unlifted_type d (Ty.bound i) h = omega arith
  unlifted_type d (Ty.param n) h = tt
  unlifted_type d (Ty.meta n) h = tt
  unlifted_type d (Ty.con c ts) h = unlifted_types d ts h

  unlifted_types : (d : ℕ) (ts : Tys) → AreClosedTypes d (lift_types d ts) → AreClosedTypes 0 ts
  unlifted_types d Tys.none h = tt
  unlifted_types d (Tys.more t ts) h = (unlifted_type d t h.0, unlifted_types d ts h.1)

mutual
  unlifted_term : (d : ℕ) (a : Term) → IsClosedTerm d (lift_term d a) → IsClosedTerm 0 a
  unlifted_term d (Term.bound i) h = omega arith
  unlifted_term d (Term.eps n t) h = unlifted_type d t h
  unlifted_term d (Term.meta n t) h = unlifted_type d t h
  unlifted_term d (Term.app f ts us) h = (unlifted_types d ts h.0, unlifted_terms d us h.1)

  unlifted_terms : (d : ℕ) (us : Terms) → AreClosedTerms d (lift_terms d us) → AreClosedTerms 0 us
  unlifted_terms d Terms.none h = tt
  unlifted_terms d (Terms.more a us) h = (unlifted_term d a h.0, unlifted_terms d us h.1)

-- one of two places has the index
split : {P : Type 0} (a b : Bool) → (a || b) ≡ true → (a ≡ true → P) → (b ≡ true → P) → P
split true b e f g = f refl
split false b e f g = g e

-- the part of a binder that occurs has no loose index where its instance has none
module _ (bs : List Binder) (os : List Opening) (k : are_of os bs ≡ true) (i : ℕ) (o : Opening) (e : Entry os i o) where
  mutual
    part_in_type : (d : ℕ) (t : Ty) → IsKindedType bs d t → type_has (i + d) t ≡ true → IsClosedType d (put_type d os t) → IsClosedPart o
    part_in_type d (Ty.bound j) h has c =
        let n : j ≡ i + d = number j (i + d) has in
        let is : j - d ≡ i = omega arith in
        let kind : IsTypeBinder (binder_at bs i) = subst (λ x. IsTypeBinder (binder_at bs x)) is (h (omega arith)) in
        subst IsClosedPart (sym (entry_is_type bs k e kind))
        (unlifted_type d (type_in o i) (subst (IsClosedType d) (put_type_at d i j os has ∙ ap (lift_type d) (type_entry e)) c))
    part_in_type d (Ty.param n) h has c = cc
    part_in_type d (Ty.meta n) h has c = cc
    part_in_type d (Ty.con f ts) h has c = part_in_types d ts h has c

    part_in_types : (d : ℕ) (ts : Tys) → AreKindedTypes bs d ts → types_have (i + d) ts ≡ true → AreClosedTypes d (put_types d os ts) → IsClosedPart o
    part_in_types d Tys.none h has c = cc
    part_in_types d (Tys.more t ts) h has c =
        split (type_has (i + d) t) (types_have (i + d) ts) has (λ x. part_in_type d t h.0 x c.0) (λ x. part_in_types d ts h.1 x c.1)

  mutual
    part_in_term : (d : ℕ) (a : Term) → IsKindedTerm bs d a → term_has (i + d) a ≡ true → IsClosedTerm d (put_term d os a) → IsClosedPart o
    part_in_term d (Term.bound j) h has c =
        let n : j ≡ i + d = number j (i + d) has in
        let is : j - d ≡ i = omega arith in
        let kind : IsTermBinder (binder_at bs i) = subst (λ x. IsTermBinder (binder_at bs x)) is (h (omega arith)) in
        subst IsClosedPart (sym (entry_is_term bs k e kind))
        (unlifted_term d (term_in o i) (subst (IsClosedTerm d) (put_term_at d i j os has ∙ ap (lift_term d) (term_entry e)) c))
    part_in_term d (Term.eps n t) h has c = part_in_type d t h has c
    part_in_term d (Term.meta n t) h has c = part_in_type d t h has c
    part_in_term d (Term.app f ts us) h has c =
        split (types_have (i + d) ts) (terms_have (i + d) us) has (λ x. part_in_types d ts h.0 x c.0) (λ x. part_in_terms d us h.1 x c.1)

    part_in_terms : (d : ℕ) (us : Terms) → AreKindedTerms bs d us → terms_have (i + d) us ≡ true → AreClosedTerms d (put_terms d os us) → IsClosedPart o
    part_in_terms d Terms.none h has c = cc
    part_in_terms d (Terms.more a us) h has c =
        split (term_has (i + d) a) (terms_have (i + d) us) has (λ x. part_in_term d a h.0 x c.0) (λ x. part_in_terms d us h.1 x c.1)

  part_in_form : (d : ℕ) (f : Form) → IsKindedForm bs d f → form_has (i + d) f ≡ true → IsClosed d (put_form d os f) → IsClosedPart o
  part_in_form d Form.truth h has c = cc
  part_in_form d Form.falsity h has c = cc
  part_in_form d (Form.atom p ts us) h has c =
      split (types_have (i + d) ts) (terms_have (i + d) us) has (λ x. part_in_types d ts h.0 x c.0) (λ x. part_in_terms d us h.1 x c.1)
  part_in_form d (Form.equal t a b) h has c =
      split (type_has (i + d) t) (term_has (i + d) a || term_has (i + d) b) has (λ x. part_in_type d t h.0 x c.0)
      (λ y. split (term_has (i + d) a) (term_has (i + d) b) y (λ x. part_in_term d a h.1 x c.1) (λ x. part_in_term d b h.2 x c.2))
  part_in_form d (Form.negation f) h has c = part_in_form d f h has c
  part_in_form d (Form.binary x f g) h has c =
      split (form_has (i + d) f) (form_has (i + d) g) has (λ x. part_in_form d f h.0 x c.0) (λ x. part_in_form d g h.1 x c.1)
  part_in_form d (Form.quantified q t f) h has c =
      split (type_has (i + d) t) (form_has ((i + d) + 1) f) has (λ x. part_in_type d t h.0 x c.0)
      (λ x. part_in_form (d + 1) f h.1 (subst (λ n. form_has n f ≡ true) (more_under i d) x) c.1)
  part_in_form d (Form.quantified_types q f) h has c = part_in_form (d + 1) f h (subst (λ n. form_has n f ≡ true) (more_under i d) has) c

part_in_side : (bs : List Binder) (left x : Side) (os : List Opening) → IsLeft bs left → IsMatch bs left x os → IsClosedSide 0 x → (i : ℕ) (o : Opening) → Entry os i o
    → IsClosedPart o
part_in_side bs (Side.of_term a) x os l m c i o e =
    part_in_term bs os m.kinds i o e 0 a l.kinded
    (subst (λ n. term_has n a ≡ true) (sym (no_more i)) (l.bound i (let n : length os ≡ length bs = same_length os bs m.kinds in let h = entry_is_below e in omega arith)))
    (subst (IsClosedSide 0) (sym m.instance) c)
part_in_side bs (Side.of_form f) x os l m c i o e =
    part_in_form bs os m.kinds i o e 0 f l.kinded
    (subst (λ n. form_has n f ≡ true) (sym (no_more i)) (l.bound i (let n : length os ≡ length bs = same_length os bs m.kinds in let h = entry_is_below e in omega arith)))
    (subst (IsClosedSide 0) (sym m.instance) c)

closed_entries : (os : List Opening) → ((i : ℕ) (o : Opening) → Entry os i o → IsClosedPart o) → AreClosedParts os
closed_entries [] h = tt
closed_entries (o ∷ os) h = (h (length os) o Entry.here, closed_entries os (λ i p e. h i p (Entry.there (entry_is_below e) e)))

pub parts_are_closed : (bs : List Binder) (left x : Side) (os : List Opening) → IsLeft bs left → IsMatch bs left x os → IsClosedSide 0 x → AreClosedParts os
parts_are_closed bs left x os l m c = closed_entries os (part_in_side bs left x os l m c)

pub closed_parts_fit : (os : List Opening) (bs : List Binder) → are_of os bs ≡ true → AreClosedParts os → Fit os bs
closed_parts_fit [] [] e c = Fit.none
closed_parts_fit (Opening.of_type t ∷ os) (Binder.of_type ∷ bs) e c = Fit.a_type c.0 (closed_parts_fit os bs e c.1)
closed_parts_fit (Opening.of_term u ∷ os) (Binder.of_term t ∷ bs) e c = Fit.a_term c.0 (closed_parts_fit os bs e c.1)
closed_parts_fit (Opening.of_type t ∷ os) (Binder.of_term u ∷ bs) e c = cc
closed_parts_fit (Opening.of_term u ∷ os) (Binder.of_type ∷ bs) e c = cc
closed_parts_fit [] (b ∷ bs) e c = cc
closed_parts_fit (o ∷ os) [] e c = cc

pub fit_is_of : {os : List Opening} {bs : List Binder} → Fit os bs → (are_of os bs ≡ true) × AreClosedParts os
fit_is_of Fit.none = (refl, tt)
fit_is_of (Fit.a_type h f) = let x = fit_is_of f in (x.0, (h, x.1))
fit_is_of (Fit.a_term h f) = let x = fit_is_of f in (x.0, (h, x.1))
