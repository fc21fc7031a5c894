-- In an instance of a side, the part of each binder that occurs is found.
use Rattle.std.proofs.Common.{ℕ, ◌≡◌, ◌+◌, ◌-◌, ◌<◌, ◌==◌, ltb, Bool, true, false, ◌||◌, if◌then◌else◌, suc, refl, ap, sym, ◌∙◌, subst, arith, List, [], ◌∷◌, map, length, Some}
use Rattle.std.proofs.lemmas.Bool.Decides.{Decides-ltb}
use Rattle.std.proofs.lemmas.Bool.{ne_eqb}
use Rattle.std.proofs.lemmas.List.{length-map}
use Rattle.zm_logic.specs.Tree.{Ty, Tys, Term, Terms, Form, Binder, Opening, Side}
use Rattle.zm_logic.specs.Index.{type_has, types_have, term_has, terms_have, form_has, side_has}
use Rattle.rule_index.specs.Instance.{lift_type, lift_types, lift_term, lift_terms, type_in, term_in, type_part, term_part, put_type, put_types, put_term, put_terms, put_form, put}
use Rattle.rule_index.specs.Matching.{lower_type, lower_types, lower_term, lower_terms, find_in_type, find_in_types, find_in_term, find_in_terms, find_in_form, find, is_of, are_of, binder_at, IsTypeBinder, IsTermBinder, IsKindedType, AreKindedTypes, IsKindedTerm, AreKindedTerms, IsKindedForm, IsKinded}
use Rattle.rule_index.proofs.Equal.{both_true, number, itself}

mutual
  pub lowered_type : (d : ℕ) (t : Ty) → lower_type d (lift_type d t) ≡ t
  lowered_type d (Ty.bound i) = ap Ty.bound (omega arith)
  lowered_type d (Ty.param n) = refl
  lowered_type d (Ty.meta n) = refl
  lowered_type d (Ty.con c ts) = ap (Ty.con c) (lowered_types d ts)

  pub lowered_types : (d : ℕ) (ts : Tys) → lower_types d (lift_types d ts) ≡ ts
  lowered_types d Tys.none = refl
  lowered_types d (Tys.more t ts) = cc (lowered_type d t, lowered_types d ts)

mutual
  pub lowered_term : (d : ℕ) (a : Term) → lower_term d (lift_term d a) ≡ a
  lowered_term d (Term.bound i) = ap Term.bound (omega arith)
  lowered_term d (Term.eps n t) = ap (Term.eps n) (lowered_type d t)
  lowered_term d (Term.meta n t) = ap (Term.meta n) (lowered_type d t)
  lowered_term d (Term.app f ts us) = cc (lowered_types d ts, lowered_terms d us)

  pub lowered_terms : (d : ℕ) (us : Terms) → lower_terms d (lift_terms d us) ≡ us
  lowered_terms d Terms.none = refl
  lowered_terms d (Terms.more a us) = cc (lowered_term d a, lowered_terms d us)

-- what is put at the index i + d under d binders
pub put_type_at : (d i j : ℕ) (os : List Opening) → (j == i + d) ≡ true → put_type d os (Ty.bound j) ≡ lift_type d (type_part os i)
put_type_at d i j os e =
    let n : j ≡ i + d = number j (i + d) e in
    let past : ltb j d ≡ false = go (ltb j d) refl n in
    rw past (ap (λ k. lift_type d (type_part os k)) (omega arith))
  where
    go : (b : Bool) → ltb j d ≡ b → j ≡ i + d → ltb j d ≡ false
    go false x n = x
    go true x n = let l : j < d = (Decides-ltb j d).0 x in absurd (omega arith)

pub put_term_at : (d i j : ℕ) (os : List Opening) → (j == i + d) ≡ true → put_term d os (Term.bound j) ≡ lift_term d (term_part os i)
put_term_at d i j os e =
    let n : j ≡ i + d = number j (i + d) e in
    let past : ltb j d ≡ false = go (ltb j d) refl n in
    rw past (ap (λ k. lift_term d (term_part os k)) (omega arith))
  where
    go : (b : Bool) → ltb j d ≡ b → j ≡ i + d → ltb j d ≡ false
    go false x n = x
    go true x n = let l : j < d = (Decides-ltb j d).0 x in absurd (omega arith)

-- the part of an index, as it was given
pub data Entry : List Opening → ℕ → Opening → Type 0 where
  here : {o : Opening} {os : List Opening} → Entry (o ∷ os) (length os) o
  there : {o p : Opening} {os : List Opening} {i : ℕ} → i < length os → Entry os i o → Entry (p ∷ os) i o

pub type_entry : {os : List Opening} {i : ℕ} {o : Opening} → Entry os i o → type_part os i ≡ type_in o i
type_entry (Entry.here {o = o} {os = os}) = rw (itself (length os))
type_entry (Entry.there {os = os} {i = i} l e) = rw (ne_eqb i (length os) (λ x. omega arith)) (type_entry e)

pub term_entry : {os : List Opening} {i : ℕ} {o : Opening} → Entry os i o → term_part os i ≡ term_in o i
term_entry (Entry.here {o = o} {os = os}) = rw (itself (length os))
term_entry (Entry.there {os = os} {i = i} l e) = rw (ne_eqb i (length os) (λ x. omega arith)) (term_entry e)

pub same_length : (os : List Opening) (bs : List Binder) → are_of os bs ≡ true → length os ≡ length bs
same_length [] [] e = refl
same_length (o ∷ os) (b ∷ bs) e = ap suc (same_length os bs (both_true (is_of o b) (are_of os bs) e).1)
same_length _ _ e = cc

pub is_type : (o : Opening) (b : Binder) → is_of o b ≡ true → IsTypeBinder (Some b) → (i : ℕ) → o ≡ Opening.of_type (type_in o i)
is_type (Opening.of_type t) Binder.of_type e h i = refl
is_type (Opening.of_term u) Binder.of_type e h i = cc
is_type o (Binder.of_term t) e h i = absurd h

pub is_term : (o : Opening) (b : Binder) → is_of o b ≡ true → IsTermBinder (Some b) → (i : ℕ) → o ≡ Opening.of_term (term_in o i)
is_term (Opening.of_term t) (Binder.of_term u) e h i = refl
is_term (Opening.of_type u) (Binder.of_term t) e h i = cc
is_term o Binder.of_type e h i = absurd h

last_binder : (b : Binder) (bs : List Binder) (i : ℕ) → i ≡ length bs → binder_at (b ∷ bs) i ≡ Some b
last_binder b bs i e = rw (e, itself (length bs))

other_binder : (b : Binder) (bs : List Binder) (i : ℕ) → i < length bs → binder_at (b ∷ bs) i ≡ binder_at bs i
other_binder b bs i l = rw (ne_eqb i (length bs) (λ x. omega arith))

-- the part of a binder is of its kind
pub entry_is_type : {os : List Opening} {i : ℕ} {o : Opening} (bs : List Binder) → are_of os bs ≡ true → Entry os i o → IsTypeBinder (binder_at bs i)
    → o ≡ Opening.of_type (type_in o i)
entry_is_type [] k (Entry.here {o = o} {os = os}) h = cc
entry_is_type (b ∷ bs) k (Entry.here {o = o} {os = os}) h =
    let x = both_true (is_of o b) (are_of os bs) k in
    is_type o b x.0 (subst IsTypeBinder (last_binder b bs (length os) (same_length os bs x.1)) h) (length os)
entry_is_type [] k (Entry.there {o = o} {p = p} {os = os} {i = i} l e) h = cc
entry_is_type (b ∷ bs) k (Entry.there {o = o} {p = p} {os = os} {i = i} l e) h =
    let x = both_true (is_of p b) (are_of os bs) k in
    entry_is_type bs x.1 e (subst IsTypeBinder (other_binder b bs i (let n : length os ≡ length bs = same_length os bs x.1 in omega arith)) h)

pub entry_is_term : {os : List Opening} {i : ℕ} {o : Opening} (bs : List Binder) → are_of os bs ≡ true → Entry os i o → IsTermBinder (binder_at bs i)
    → o ≡ Opening.of_term (term_in o i)
entry_is_term [] k (Entry.here {o = o} {os = os}) h = cc
entry_is_term (b ∷ bs) k (Entry.here {o = o} {os = os}) h =
    let x = both_true (is_of o b) (are_of os bs) k in
    is_term o b x.0 (subst IsTermBinder (last_binder b bs (length os) (same_length os bs x.1)) h) (length os)
entry_is_term [] k (Entry.there {o = o} {p = p} {os = os} {i = i} l e) h = cc
entry_is_term (b ∷ bs) k (Entry.there {o = o} {p = p} {os = os} {i = i} l e) h =
    let x = both_true (is_of p b) (are_of os bs) k in
    entry_is_term bs x.1 e (subst IsTermBinder (other_binder b bs i (let n : length os ≡ length bs = same_length os bs x.1 in omega arith)) h)

pub either_true : (a b : Bool) → (a || b) ≡ true → a ≡ false → b ≡ true
either_true true b e h = cc
either_true false b e h = e

pub more_under : (i d : ℕ) → (i + d) + 1 ≡ i + (d + 1)
more_under i d = omega arith

-- what a test chooses
chosen : (b : Bool) {x y o : Opening} → (b ≡ true → x ≡ o) → (b ≡ false → y ≡ o) → (if b then x else y) ≡ o
chosen true f g = f refl
chosen false f g = g refl

module _ (bs : List Binder) (os : List Opening) (k : are_of os bs ≡ true) (i : ℕ) (o : Opening) (e : Entry os i o) where
  mutual
    pub found_in_type : (d : ℕ) (t : Ty) → IsKindedType bs d t → type_has (i + d) t ≡ true → find_in_type d i t (put_type d os t) ≡ o
    found_in_type d (Ty.bound j) h has =
        let n : j ≡ i + d = number j (i + d) has in
        let is : j - d ≡ i = omega arith in
        let kind : IsTypeBinder (binder_at bs i) = subst (λ x. IsTypeBinder (binder_at bs x)) is (h (omega arith)) in
        ap (λ x. Opening.of_type (lower_type d x)) (put_type_at d i j os has) ∙ ap Opening.of_type (lowered_type d (type_part os i) ∙ type_entry e)
        ∙ sym (entry_is_type bs k e kind)
    found_in_type d (Ty.param n) h has = cc
    found_in_type d (Ty.meta n) h has = cc
    found_in_type d (Ty.con c ts) h has = found_in_types d ts h has

    pub found_in_types : (d : ℕ) (ts : Tys) → AreKindedTypes bs d ts → types_have (i + d) ts ≡ true → find_in_types d i ts (put_types d os ts) ≡ o
    found_in_types d Tys.none h has = cc
    found_in_types d (Tys.more t ts) h has =
        chosen (type_has (i + d) t) (λ x. found_in_type d t h.0 x) (λ x. found_in_types d ts h.1 (either_true (type_has (i + d) t) (types_have (i + d) ts) has x))

  mutual
    pub found_in_term : (d : ℕ) (a : Term) → IsKindedTerm bs d a → term_has (i + d) a ≡ true → find_in_term d i a (put_term d os a) ≡ o
    found_in_term d (Term.bound j) h has =
        let n : j ≡ i + d = number j (i + d) has in
        let is : j - d ≡ i = omega arith in
        let kind : IsTermBinder (binder_at bs i) = subst (λ x. IsTermBinder (binder_at bs x)) is (h (omega arith)) in
        ap (λ x. Opening.of_term (lower_term d x)) (put_term_at d i j os has) ∙ ap Opening.of_term (lowered_term d (term_part os i) ∙ term_entry e)
        ∙ sym (entry_is_term bs k e kind)
    found_in_term d (Term.eps n t) h has = found_in_type d t h has
    found_in_term d (Term.meta n t) h has = found_in_type d t h has
    found_in_term d (Term.app f ts us) h has =
        chosen (types_have (i + d) ts) (λ x. found_in_types d ts h.0 x)
        (λ x. found_in_terms d us h.1 (either_true (types_have (i + d) ts) (terms_have (i + d) us) has x))

    pub found_in_terms : (d : ℕ) (us : Terms) → AreKindedTerms bs d us → terms_have (i + d) us ≡ true → find_in_terms d i us (put_terms d os us) ≡ o
    found_in_terms d Terms.none h has = cc
    found_in_terms d (Terms.more a us) h has =
        chosen (term_has (i + d) a) (λ x. found_in_term d a h.0 x) (λ x. found_in_terms d us h.1 (either_true (term_has (i + d) a) (terms_have (i + d) us) has x))

  pub found_in_form : (d : ℕ) (f : Form) → IsKindedForm bs d f → form_has (i + d) f ≡ true → find_in_form d i f (put_form d os f) ≡ o
  found_in_form d Form.truth h has = cc
  found_in_form d Form.falsity h has = cc
  found_in_form d (Form.atom p ts us) h has =
      chosen (types_have (i + d) ts) (λ x. found_in_types d ts h.0 x)
      (λ x. found_in_terms d us h.1 (either_true (types_have (i + d) ts) (terms_have (i + d) us) has x))
  found_in_form d (Form.equal t a b) h has =
      chosen (type_has (i + d) t) (λ x. found_in_type d t h.0 x)
      (λ x. let rest = either_true (type_has (i + d) t) (term_has (i + d) a || term_has (i + d) b) has x in
      chosen (term_has (i + d) a) (λ y. found_in_term d a h.1 y) (λ y. found_in_term d b h.2 (either_true (term_has (i + d) a) (term_has (i + d) b) rest y)))
  found_in_form d (Form.negation f) h has = found_in_form d f h has
  found_in_form d (Form.binary c f g) h has =
      chosen (form_has (i + d) f) (λ x. found_in_form d f h.0 x) (λ x. found_in_form d g h.1 (either_true (form_has (i + d) f) (form_has (i + d) g) has x))
  found_in_form d (Form.quantified q t f) h has =
      chosen (type_has (i + d) t) (λ x. found_in_type d t h.0 x)
      (λ x. found_in_form (d + 1) f h.1
      (subst (λ n. form_has n f ≡ true) (more_under i d) (either_true (type_has (i + d) t) (form_has ((i + d) + 1) f) has x)))
  found_in_form d (Form.quantified_types q f) h has =
      found_in_form (d + 1) f h (subst (λ n. form_has n f ≡ true) (more_under i d) has)

  pub found : (left : Side) → IsKinded bs left → side_has i left ≡ true → find i left (put os left) ≡ o
  found (Side.of_term a) h has = found_in_term 0 a h (subst (λ n. term_has n a ≡ true) (no_more i) has)
    where
      no_more : (i : ℕ) → i ≡ i + 0
      no_more i = omega arith
  found (Side.of_form f) h has = found_in_form 0 f h (subst (λ n. form_has n f ≡ true) (no_more i) has)
    where
      no_more : (i : ℕ) → i ≡ i + 0
      no_more i = omega arith

pub entry_is_below : {ps : List Opening} {i : ℕ} {p : Opening} → Entry ps i p → i < length ps
entry_is_below (Entry.here {o = p} {os = ps}) = omega arith
entry_is_below (Entry.there l e) = omega arith

first_entry : (o : Opening) (os : List Opening) (i : ℕ) → i ≡ length os → Entry (o ∷ os) i o
first_entry o os i e = subst (λ n. Entry (o ∷ os) n o) (sym e) Entry.here

-- an index that has a binder has a part, of the binder's kind
pub has_type_part : (os : List Opening) (bs : List Binder) → are_of os bs ≡ true → (i : ℕ) → IsTypeBinder (binder_at bs i) → (t : Ty) × Entry os i (Opening.of_type t)
has_type_part [] [] e i h = absurd h
has_type_part (p ∷ os) [] e i h = absurd h
has_type_part [] (b ∷ bs) e i h = cc
has_type_part (p ∷ os) (b ∷ bs) e i h = go (i == length bs) refl h (λ h. has_type_part os bs x.1 i h)
  where
    x : (is_of p b ≡ true) × (are_of os bs ≡ true)
    x = both_true (is_of p b) (are_of os bs) e

    go : (c : Bool) → (i == length bs) ≡ c → IsTypeBinder (if c then Some b else binder_at bs i)
        → (IsTypeBinder (binder_at bs i) → (t : Ty) × Entry os i (Opening.of_type t)) → (t : Ty) × Entry (p ∷ os) i (Opening.of_type t)
    go true t h ih = (type_in p 0, subst (Entry (p ∷ os) i) (is_type p b x.0 h 0) (first_entry p os i (number i (length bs) t ∙ sym (same_length os bs x.1))))
    go false t h ih = let y = ih h in (y.0, Entry.there (entry_is_below y.1) y.1)

pub has_term_part : (os : List Opening) (bs : List Binder) → are_of os bs ≡ true → (i : ℕ) → IsTermBinder (binder_at bs i) → (u : Term) × Entry os i (Opening.of_term u)
has_term_part [] [] e i h = absurd h
has_term_part (p ∷ os) [] e i h = absurd h
has_term_part [] (b ∷ bs) e i h = cc
has_term_part (p ∷ os) (b ∷ bs) e i h = go (i == length bs) refl h (λ h. has_term_part os bs x.1 i h)
  where
    x : (is_of p b ≡ true) × (are_of os bs ≡ true)
    x = both_true (is_of p b) (are_of os bs) e

    go : (c : Bool) → (i == length bs) ≡ c → IsTermBinder (if c then Some b else binder_at bs i)
        → (IsTermBinder (binder_at bs i) → (u : Term) × Entry os i (Opening.of_term u)) → (u : Term) × Entry (p ∷ os) i (Opening.of_term u)
    go true t h ih = (term_in p 0, subst (Entry (p ∷ os) i) (is_term p b x.0 h 0) (first_entry p os i (number i (length bs) t ∙ sym (same_length os bs x.1))))
    go false t h ih = let y = ih h in (y.0, Entry.there (entry_is_below y.1) y.1)

pub entry_map : (g : Opening → Opening) {os : List Opening} {i : ℕ} {o : Opening} → Entry os i o → Entry (map g os) i (g o)
entry_map g (Entry.here {o = o} {os = os}) = first_entry (g o) (map g os) (length os) (sym (length-map os g))
entry_map g (Entry.there {os = os} {i = i} l e) = Entry.there (subst (λ n. i < n) (sym (length-map os g)) l) (entry_map g e)

-- where the parts of the right kind are taken to others, so is the part of an index
pub type_part_map : (g : Opening → Opening) (h : Ty → Ty) → ((t : Ty) → g (Opening.of_type t) ≡ Opening.of_type (h t))
    → (os : List Opening) (bs : List Binder) → are_of os bs ≡ true → (i : ℕ) → IsTypeBinder (binder_at bs i) → type_part (map g os) i ≡ h (type_part os i)
type_part_map g h w os bs k i b =
    let x = has_type_part os bs k i b in
    type_entry (entry_map g x.1) ∙ ap (λ o. type_in o i) (w x.0) ∙ ap h (sym (type_entry x.1))

pub term_part_map : (g : Opening → Opening) (h : Term → Term) → ((u : Term) → g (Opening.of_term u) ≡ Opening.of_term (h u))
    → (os : List Opening) (bs : List Binder) → are_of os bs ≡ true → (i : ℕ) → IsTermBinder (binder_at bs i) → term_part (map g os) i ≡ h (term_part os i)
term_part_map g h w os bs k i b =
    let x = has_term_part os bs k i b in
    term_entry (entry_map g x.1) ∙ ap (λ o. term_in o i) (w x.0) ∙ ap h (sym (term_entry x.1))
