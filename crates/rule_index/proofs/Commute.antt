-- Taking an instance commutes with opening by a closed part, and with closing on a number that its side doesn't have.
use Rattle.std.proofs.Common.{ℕ, ◌≡◌, ◌+◌, ◌-◌, ◌≤◌, ◌<◌, ◌==◌, ltb, Bool, true, false, if◌then◌else◌, refl, ap, sym, ◌∙◌, arith, List, map}
use Rattle.std.proofs.lemmas.Bool.Decides.{Decides-ltb}
use Rattle.std.proofs.lemmas.Bool.{ne_eqb, ltb-false}
use Rattle.zm_logic.specs.Tree.{Ty, Tys, Term, Terms, Form, Binder, Opening}
use Rattle.zm_logic.specs.Opening.{type_at, term_at, open_type, open_types, open_term, open_terms, open_at, close_type, close_types, close_term, close_terms, close_at}
use Rattle.zm_logic.specs.Parameter.{EachInType, EachInTypes, EachInTerm, EachInTerms, EachIn, Never}
use Rattle.zm_logic.specs.Index.{IsClosedType, AreClosedTypes, IsClosedTerm, AreClosedTerms}
use Rattle.rule_index.specs.Instance.{lift_type, lift_types, lift_term, lift_terms, type_part, term_part, put_type, put_types, put_term, put_terms, put_form}
use Rattle.rule_index.specs.Matching.{are_of, IsKindedType, AreKindedTypes, IsKindedTerm, AreKindedTerms, IsKindedForm}
use Rattle.rule_index.proofs.Equal.{itself, number}
use Rattle.rule_index.proofs.Found.{type_part_map, term_part_map}

-- a tree without loose indices is lifted to itself
mutual
  pub lift_closed_type : (d : ℕ) (t : Ty) → IsClosedType 0 t → lift_type d t ≡ t
  lift_closed_type d (Ty.bound i) h = absurd (omega arith)
  lift_closed_type d (Ty.param n) h = refl
  lift_closed_type d (Ty.meta n) h = refl
  lift_closed_type d (Ty.con c ts) h = ap (Ty.con c) (lift_closed_types d ts h)

  pub lift_closed_types : (d : ℕ) (ts : Tys) → AreClosedTypes 0 ts → lift_types d ts ≡ ts
  lift_closed_types d Tys.none h = refl
  lift_closed_types d (Tys.more t ts) h = cc (lift_closed_type d t h.0, lift_closed_types d ts h.1)

mutual
  pub lift_closed_term : (d : ℕ) (a : Term) → IsClosedTerm 0 a → lift_term d a ≡ a
  lift_closed_term d (Term.bound i) h = absurd (omega arith)
  lift_closed_term d (Term.eps n t) h = ap (Term.eps n) (lift_closed_type d t h)
  lift_closed_term d (Term.meta n t) h = ap (Term.meta n) (lift_closed_type d t h)
  lift_closed_term d (Term.app f ts us) h = cc (lift_closed_types d ts h.0, lift_closed_terms d us h.1)

  pub lift_closed_terms : (d : ℕ) (us : Terms) → AreClosedTerms 0 us → lift_terms d us ≡ us
  lift_closed_terms d Terms.none h = refl
  lift_closed_terms d (Terms.more a us) h = cc (lift_closed_term d a h.0, lift_closed_terms d us h.1)

abbrev pub IsClosedPart : Opening → Type 0
IsClosedPart (Opening.of_type t) = IsClosedType 0 t
IsClosedPart (Opening.of_term u) = IsClosedTerm 0 u

abbrev pub open_part : ℕ → Opening → Opening → Opening
open_part k o (Opening.of_type t) = Opening.of_type (open_type k o t)
open_part k o (Opening.of_term u) = Opening.of_term (open_term k o u)

abbrev pub close_part : ℕ → ℕ → Opening → Opening
close_part k n (Opening.of_type t) = Opening.of_type (close_type k n t)
close_part k n (Opening.of_term u) = Opening.of_term (close_term k n u)

lifted_type_at : (d k : ℕ) (o : Opening) → IsClosedPart o → (j : ℕ) → type_at (k + d) o (j + d) ≡ lift_type d (type_at k o j)
lifted_type_at d k (Opening.of_term u) c j = refl
lifted_type_at d k (Opening.of_type u) c j = go (j == k) refl
  where
    go : (b : Bool) → (j == k) ≡ b → (if (j + d) == (k + d) then u else Ty.bound (j + d)) ≡ lift_type d (if b then u else Ty.bound j)
    go true e = let n : j ≡ k = number j k e in rw (n, itself (k + d)) (sym (lift_closed_type d u c))
    go false e = rw (ne_eqb (j + d) (k + d) (λ x. let n : j ≡ k = omega arith in let m : true ≡ false = sym (rw n (itself k)) ∙ e in cc))

lifted_term_at : (d k : ℕ) (o : Opening) → IsClosedPart o → (j : ℕ) → term_at (k + d) o (j + d) ≡ lift_term d (term_at k o j)
lifted_term_at d k (Opening.of_type u) c j = refl
lifted_term_at d k (Opening.of_term u) c j = go (j == k) refl
  where
    go : (b : Bool) → (j == k) ≡ b → (if (j + d) == (k + d) then u else Term.bound (j + d)) ≡ lift_term d (if b then u else Term.bound j)
    go true e = let n : j ≡ k = number j k e in rw (n, itself (k + d)) (sym (lift_closed_term d u c))
    go false e = rw (ne_eqb (j + d) (k + d) (λ x. let n : j ≡ k = omega arith in let m : true ≡ false = sym (rw n (itself k)) ∙ e in cc))

-- lifting commutes with opening and with closing
module _ (d k : ℕ) (o : Opening) (c : IsClosedPart o) where
  mutual
    pub open_lift_type : (t : Ty) → open_type (k + d) o (lift_type d t) ≡ lift_type d (open_type k o t)
    open_lift_type (Ty.bound j) = lifted_type_at d k o c j
    open_lift_type (Ty.param n) = refl
    open_lift_type (Ty.meta n) = refl
    open_lift_type (Ty.con f ts) = ap (Ty.con f) (open_lift_types ts)

    pub open_lift_types : (ts : Tys) → open_types (k + d) o (lift_types d ts) ≡ lift_types d (open_types k o ts)
    open_lift_types Tys.none = refl
    open_lift_types (Tys.more t ts) = cc (open_lift_type t, open_lift_types ts)

  mutual
    pub open_lift_term : (a : Term) → open_term (k + d) o (lift_term d a) ≡ lift_term d (open_term k o a)
    open_lift_term (Term.bound j) = lifted_term_at d k o c j
    open_lift_term (Term.eps n t) = ap (Term.eps n) (open_lift_type t)
    open_lift_term (Term.meta n t) = ap (Term.meta n) (open_lift_type t)
    open_lift_term (Term.app f ts us) = cc (open_lift_types ts, open_lift_terms us)

    pub open_lift_terms : (us : Terms) → open_terms (k + d) o (lift_terms d us) ≡ lift_terms d (open_terms k o us)
    open_lift_terms Terms.none = refl
    open_lift_terms (Terms.more a us) = cc (open_lift_term a, open_lift_terms us)

module _ (d k n : ℕ) where
  mutual
    pub close_lift_type : (t : Ty) → close_type (k + d) n (lift_type d t) ≡ lift_type d (close_type k n t)
    close_lift_type (Ty.bound j) = refl
    close_lift_type (Ty.param m) = go (m == n)
      where
        go : (b : Bool) → (if b then Ty.bound (k + d) else Ty.param m) ≡ lift_type d (if b then Ty.bound k else Ty.param m)
        go true = refl
        go false = refl
    close_lift_type (Ty.meta n) = refl
    close_lift_type (Ty.con f ts) = ap (Ty.con f) (close_lift_types ts)

    pub close_lift_types : (ts : Tys) → close_types (k + d) n (lift_types d ts) ≡ lift_types d (close_types k n ts)
    close_lift_types Tys.none = refl
    close_lift_types (Tys.more t ts) = cc (close_lift_type t, close_lift_types ts)

  mutual
    pub close_lift_term : (a : Term) → close_term (k + d) n (lift_term d a) ≡ lift_term d (close_term k n a)
    close_lift_term (Term.bound j) = refl
    close_lift_term (Term.eps m t) = go (m == n) (close_lift_type t)
      where
        go : (b : Bool) → close_type (k + d) n (lift_type d t) ≡ lift_type d (close_type k n t)
            → (if b then Term.bound (k + d) else Term.eps m (close_type (k + d) n (lift_type d t))) ≡ lift_term d (if b then Term.bound k else Term.eps m (close_type k n t))
        go true e = refl
        go false e = ap (Term.eps m) e
    close_lift_term (Term.meta n t) = ap (Term.meta n) (close_lift_type t)
    close_lift_term (Term.app f ts us) = cc (close_lift_types ts, close_lift_terms us)

    pub close_lift_terms : (us : Terms) → close_terms (k + d) n (lift_terms d us) ≡ lift_terms d (close_terms k n us)
    close_lift_terms Terms.none = refl
    close_lift_terms (Terms.more a us) = cc (close_lift_term a, close_lift_terms us)

past : (i d : ℕ) → ltb i d ≡ false → d ≤ i
past i d e = ltb-false i d e

below : (i d : ℕ) → ltb i d ≡ true → i < d
below i d e = (Decides-ltb i d).0 e

type_below : (k d i : ℕ) (o : Opening) → i < d → type_at (k + d) o i ≡ Ty.bound i
type_below k d i (Opening.of_term u) l = refl
type_below k d i (Opening.of_type u) l = rw (ne_eqb i (k + d) (λ x. omega arith))

term_below : (k d i : ℕ) (o : Opening) → i < d → term_at (k + d) o i ≡ Term.bound i
term_below k d i (Opening.of_type u) l = refl
term_below k d i (Opening.of_term u) l = rw (ne_eqb i (k + d) (λ x. omega arith))

more_under : (k d : ℕ) → (k + d) + 1 ≡ k + (d + 1)
more_under k d = omega arith

-- an instance opened is the instance at the opened parts
module _ (bs : List Binder) (os : List Opening) (kinds : are_of os bs ≡ true) (k : ℕ) (o : Opening) (c : IsClosedPart o) where
  mutual
    pub open_put_type : (d : ℕ) (t : Ty) → IsKindedType bs d t → open_type (k + d) o (put_type d os t) ≡ put_type d (map (open_part k o) os) t
    open_put_type d (Ty.bound i) h = go (ltb i d) refl
      where
        go : (b : Bool) → ltb i d ≡ b → open_type (k + d) o (if b then Ty.bound i else lift_type d (type_part os (i - d))) ≡ (if b then Ty.bound i else lift_type d (type_part (map (open_part k o) os) (i - d)))
        go true x = type_below k d i o (below i d x)
        go false x =
            open_lift_type d k o c (type_part os (i - d)) ∙ ap (lift_type d) (sym (type_part_map (open_part k o) (open_type k o) (λ t. refl) os bs kinds (i - d) (h (past i d x))))
    open_put_type d (Ty.param m) h = refl
    open_put_type d (Ty.meta m) h = refl
    open_put_type d (Ty.con f ts) h = ap (Ty.con f) (open_put_types d ts h)

    pub open_put_types : (d : ℕ) (ts : Tys) → AreKindedTypes bs d ts → open_types (k + d) o (put_types d os ts) ≡ put_types d (map (open_part k o) os) ts
    open_put_types d Tys.none h = refl
    open_put_types d (Tys.more t ts) h = cc (open_put_type d t h.0, open_put_types d ts h.1)

  mutual
    pub open_put_term : (d : ℕ) (a : Term) → IsKindedTerm bs d a → open_term (k + d) o (put_term d os a) ≡ put_term d (map (open_part k o) os) a
    open_put_term d (Term.bound i) h = go (ltb i d) refl
      where
        go : (b : Bool) → ltb i d ≡ b → open_term (k + d) o (if b then Term.bound i else lift_term d (term_part os (i - d))) ≡ (if b then Term.bound i else lift_term d (term_part (map (open_part k o) os) (i - d)))
        go true x = term_below k d i o (below i d x)
        go false x =
            open_lift_term d k o c (term_part os (i - d)) ∙ ap (lift_term d) (sym (term_part_map (open_part k o) (open_term k o) (λ t. refl) os bs kinds (i - d) (h (past i d x))))
    open_put_term d (Term.eps m t) h = ap (Term.eps m) (open_put_type d t h)
    open_put_term d (Term.meta m t) h = ap (Term.meta m) (open_put_type d t h)
    open_put_term d (Term.app f ts us) h = cc (open_put_types d ts h.0, open_put_terms d us h.1)

    pub open_put_terms : (d : ℕ) (us : Terms) → AreKindedTerms bs d us → open_terms (k + d) o (put_terms d os us) ≡ put_terms d (map (open_part k o) os) us
    open_put_terms d Terms.none h = refl
    open_put_terms d (Terms.more a us) h = cc (open_put_term d a h.0, open_put_terms d us h.1)

  pub open_put_form : (d : ℕ) (f : Form) → IsKindedForm bs d f → open_at (k + d) o (put_form d os f) ≡ put_form d (map (open_part k o) os) f
  open_put_form d Form.truth h = refl
  open_put_form d Form.falsity h = refl
  open_put_form d (Form.atom p ts us) h = cc (open_put_types d ts h.0, open_put_terms d us h.1)
  open_put_form d (Form.equal t a b) h = cc (open_put_type d t h.0, open_put_term d a h.1, open_put_term d b h.2)
  open_put_form d (Form.negation f) h = ap Form.negation (open_put_form d f h)
  open_put_form d (Form.binary x f g) h = cc (open_put_form d f h.0, open_put_form d g h.1)
  open_put_form d (Form.quantified q t f) h =
      cc (open_put_type d t h.0, ap (λ j. open_at j o (put_form (d + 1) os f)) (more_under k d), open_put_form (d + 1) f h.1)
  open_put_form d (Form.quantified_types q f) h =
      ap (Form.quantified_types q) (ap (λ j. open_at j o (put_form (d + 1) os f)) (more_under k d) ∙ open_put_form (d + 1) f h)

-- an instance closed on a number is the instance at the closed parts, where its side has no parameter
module _ (bs : List Binder) (os : List Opening) (kinds : are_of os bs ≡ true) (k : ℕ) (n : ℕ) where
  mutual
    pub close_put_type : (d : ℕ) (t : Ty) → IsKindedType bs d t → EachInType Never t → close_type (k + d) n (put_type d os t) ≡ put_type d (map (close_part k n) os) t
    close_put_type d (Ty.bound i) h e = go (ltb i d) refl
      where
        go : (b : Bool) → ltb i d ≡ b → close_type (k + d) n (if b then Ty.bound i else lift_type d (type_part os (i - d))) ≡ (if b then Ty.bound i else lift_type d (type_part (map (close_part k n) os) (i - d)))
        go true x = refl
        go false x =
            close_lift_type d k n (type_part os (i - d)) ∙ ap (lift_type d) (sym (type_part_map (close_part k n) (close_type k n) (λ t. refl) os bs kinds (i - d) (h (past i d x))))
    close_put_type d (Ty.param m) h e = absurd e
    close_put_type d (Ty.meta m) h e = absurd e
    close_put_type d (Ty.con f ts) h e = ap (Ty.con f) (close_put_types d ts h e)

    pub close_put_types : (d : ℕ) (ts : Tys) → AreKindedTypes bs d ts → EachInTypes Never ts → close_types (k + d) n (put_types d os ts) ≡ put_types d (map (close_part k n) os) ts
    close_put_types d Tys.none h e = refl
    close_put_types d (Tys.more t ts) h e = cc (close_put_type d t h.0 e.0, close_put_types d ts h.1 e.1)

  mutual
    pub close_put_term : (d : ℕ) (a : Term) → IsKindedTerm bs d a → EachInTerm Never a → close_term (k + d) n (put_term d os a) ≡ put_term d (map (close_part k n) os) a
    close_put_term d (Term.bound i) h e = go (ltb i d) refl
      where
        go : (b : Bool) → ltb i d ≡ b → close_term (k + d) n (if b then Term.bound i else lift_term d (term_part os (i - d))) ≡ (if b then Term.bound i else lift_term d (term_part (map (close_part k n) os) (i - d)))
        go true x = refl
        go false x =
            close_lift_term d k n (term_part os (i - d)) ∙ ap (lift_term d) (sym (term_part_map (close_part k n) (close_term k n) (λ t. refl) os bs kinds (i - d) (h (past i d x))))
    close_put_term d (Term.eps m t) h e = absurd e.0
    close_put_term d (Term.meta m t) h e = absurd e.0
    close_put_term d (Term.app f ts us) h e = cc (close_put_types d ts h.0 e.0, close_put_terms d us h.1 e.1)

    pub close_put_terms : (d : ℕ) (us : Terms) → AreKindedTerms bs d us → EachInTerms Never us → close_terms (k + d) n (put_terms d os us) ≡ put_terms d (map (close_part k n) os) us
    close_put_terms d Terms.none h e = refl
    close_put_terms d (Terms.more a us) h e = cc (close_put_term d a h.0 e.0, close_put_terms d us h.1 e.1)

  pub close_put_form : (d : ℕ) (f : Form) → IsKindedForm bs d f → EachIn Never f → close_at (k + d) n (put_form d os f) ≡ put_form d (map (close_part k n) os) f
  close_put_form d Form.truth h e = refl
  close_put_form d Form.falsity h e = refl
  close_put_form d (Form.atom p ts us) h e = cc (close_put_types d ts h.0 e.0, close_put_terms d us h.1 e.1)
  close_put_form d (Form.equal t a b) h e = cc (close_put_type d t h.0 e.0, close_put_term d a h.1 e.1, close_put_term d b h.2 e.2)
  close_put_form d (Form.negation f) h e = ap Form.negation (close_put_form d f h e)
  close_put_form d (Form.binary x f g) h e = cc (close_put_form d f h.0 e.0, close_put_form d g h.1 e.1)
  close_put_form d (Form.quantified q t f) h e =
      cc (close_put_type d t h.0 e.0, ap (λ j. close_at j n (put_form (d + 1) os f)) (more_under k d), close_put_form (d + 1) f h.1 e.1)
  close_put_form d (Form.quantified_types q f) h e =
      ap (Form.quantified_types q) (ap (λ j. close_at j n (put_form (d + 1) os f)) (more_under k d) ∙ close_put_form (d + 1) f h e)
