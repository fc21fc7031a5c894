-- Scopes that read a tree alike, and a scope without what it reads of a number.
use Rattle.std.proofs.Common.{◌≡◌, ℕ, ◌==◌, ◌&&◌, Bool, true, false, cond, if◌then◌else◌, codes, refl, ap, ap₂, sym, ◌∙◌, subst, List}
use Rattle.lp_terms.specs.Term.{Lp}
use Rattle.zm_logic.specs.Tree.{Ty, Tys, Term, Terms, Form, Symbol}
use Rattle.zm_logic.specs.Parameter.{Parameter, IsNot, IsFresh, EachInType, EachInTypes, EachInTerm, EachInTerms, EachIn}
use Rattle.zm_logic.specs.Same.{same_type}
use Rattle.zm_logic.proofs.Each.{each_joined, Deep}
use Rattle.zm_logic.proofs.Sames.{same_type-true}
use Rattle.lp_signature.specs.Prelude.{types, term, any, not_of}
use Rattle.lp_signature.specs.Names.{constant}
use Rattle.lp_signature.specs.Translation.{Scope, read_type, read_term, type_of, apply_types, term_of, apply_terms, binary_of, quantified_of, quantified_types_of, form_of}
use Rattle.lp_signature.specs.Scoped.{Avoids, CarriesTypes}
use Rattle.lp_signature.proofs.Trees.{all_in_type, type_holds, not_held, held_not}

-- two scopes read the parameter alike
abbrev pub ReadsAlike : Scope → Scope → Parameter → Type 0
ReadsAlike s r (Parameter.type_param n) = read_type s n ≡ read_type r n
ReadsAlike s r (Parameter.type_meta n) = Unit {0}
ReadsAlike s r (Parameter.eps n t) = (v : Lp) → read_term s n t v ≡ read_term r n t v
ReadsAlike s r (Parameter.meta n t) = Unit {0}

-- where two scopes read each parameter of a tree alike, they give it the same translation
module _ (symbols : List Symbol) (s r : Scope) where
  mutual
    pub type_alike : (under : ℕ) (t : Ty) → EachInType (ReadsAlike s r) t
        → type_of symbols s under t ≡ type_of symbols r under t
    type_alike under (Ty.bound i) h = refl
    type_alike under (Ty.param n) h = h
    type_alike under (Ty.meta n) h = refl
    type_alike under (Ty.con c ts) h =
        types_alike under (Lp.const (constant symbols c)) (Lp.const (constant symbols c)) ts refl h

    pub types_alike : (under : ℕ) (f g : Lp) (ts : Tys) → f ≡ g → EachInTypes (ReadsAlike s r) ts
        → apply_types symbols s under f ts ≡ apply_types symbols r under g ts
    types_alike under f g Tys.none e h = e
    types_alike under f g (Tys.more t ts) e h =
        types_alike under (Lp.app f (type_of symbols s under t)) (Lp.app g (type_of symbols r under t)) ts (ap₂ Lp.app e (type_alike under t h.0)) h.1

  mutual
    pub term_alike : (u : Term) → EachInTerm (ReadsAlike s r) u → term_of symbols s u ≡ term_of symbols r u
    term_alike (Term.bound i) h = refl
    term_alike (Term.eps n t) h =
        h.0 (any (type_of symbols s 0 t)) ∙ ap (λ v. read_term r n t (any v)) (type_alike 0 t h.1)
    term_alike (Term.meta n t) h = ap any (type_alike 0 t h.1)
    term_alike (Term.app f ts us) h =
        terms_alike (apply_types symbols s 0 (Lp.const (constant symbols f)) ts) (apply_types symbols r 0 (Lp.const (constant symbols f)) ts) us
        (types_alike 0 (Lp.const (constant symbols f)) (Lp.const (constant symbols f)) ts refl h.0) h.1

    pub terms_alike : (f g : Lp) (us : Terms) → f ≡ g → EachInTerms (ReadsAlike s r) us
        → apply_terms symbols s f us ≡ apply_terms symbols r g us
    terms_alike f g Terms.none e h = e
    terms_alike f g (Terms.more u us) e h =
        terms_alike (Lp.app f (term_of symbols s u)) (Lp.app g (term_of symbols r u)) us (ap₂ Lp.app e (term_alike u h.0)) h.1

  pub form_alike : (f : Form) → EachIn (ReadsAlike s r) f → form_of symbols s f ≡ form_of symbols r f
  form_alike Form.truth h = refl
  form_alike Form.falsity h = refl
  form_alike (Form.atom p ts us) h =
      terms_alike (apply_types symbols s 0 (Lp.const (constant symbols p)) ts) (apply_types symbols r 0 (Lp.const (constant symbols p)) ts) us
      (types_alike 0 (Lp.const (constant symbols p)) (Lp.const (constant symbols p)) ts refl h.0) h.1
  form_alike (Form.equal t a b) h =
      ap₂ Lp.app (ap₂ Lp.app (ap (Lp.app (Lp.const (codes "eq"))) (type_alike 0 t h.0)) (term_alike a h.1)) (term_alike b h.2)
  form_alike (Form.negation f) h = ap not_of (form_alike f h)
  form_alike (Form.binary c f g) h = ap₂ (binary_of symbols c) (form_alike f h.0) (form_alike g h.1)
  form_alike (Form.quantified q t f) h =
      ap₂ (λ a b. quantified_of symbols q a (Lp.abs (term a) b)) (type_alike 0 t h.0) (form_alike f h.1)
  form_alike (Form.quantified_types q f) h = ap (λ b. quantified_types_of symbols q (Lp.abs types b)) (form_alike f h)

-- a test that fails
pub and_false : (b c : Bool) → b ≡ false → (b && c) ≡ false
and_false true c e = absurd (cc)
and_false false c e = refl

pub cond_false : (b : Bool) (u v : Lp) → b ≡ false → cond b u v ≡ v
cond_false true u v e = absurd (cc)
cond_false false u v e = refl

-- the scope without the parameters that carry a type which holds the number n
abbrev pub without : ℕ → Scope → Scope
without n Scope.none = Scope.none
without n (Scope.of_type m x s) = Scope.of_type m x (without n s)
without n (Scope.of_term m t x s) = if type_holds n t then without n s else Scope.of_term m t x (without n s)

pub without_avoids : (n : ℕ) (s : Scope) → Avoids n (without n s)
without_avoids n Scope.none = tt
without_avoids n (Scope.of_type m x s) = without_avoids n s
without_avoids n (Scope.of_term m t x s) = go (type_holds n t) refl (without_avoids n s)
  where
    go : (b : Bool) → type_holds n t ≡ b → Avoids n (without n s)
        → Avoids n (if b then without n s else Scope.of_term m t x (without n s))
    go true e h = h
    go false e h = (not_held n t e, h)

pub without_carries : (symbols : List Symbol) (n : ℕ) (s : Scope) → CarriesTypes symbols s
    → CarriesTypes symbols (without n s)
without_carries symbols n Scope.none c = tt
without_carries symbols n (Scope.of_type m x s) c = without_carries symbols n s c
without_carries symbols n (Scope.of_term m t x s) c = go (type_holds n t) (without_carries symbols n s c.1)
  where
    go : (b : Bool) → CarriesTypes symbols (without n s)
        → CarriesTypes symbols (if b then without n s else Scope.of_term m t x (without n s))
    go true h = h
    go false h = (c.0, h)

pub without_types : (n : ℕ) (s : Scope) (m : ℕ) → read_type (without n s) m ≡ read_type s m
without_types n Scope.none m = refl
without_types n (Scope.of_type i x s) m = ap (cond (m == i) (Lp.free x)) (without_types n s m)
without_types n (Scope.of_term i t x s) m = go (type_holds n t) (without_types n s m)
  where
    go : (b : Bool) → read_type (without n s) m ≡ read_type s m
        → read_type (if b then without n s else Scope.of_term i t x (without n s)) m ≡ read_type s m
    go true h = h
    go false h = h

-- types of which one holds the number differ
held_differ : (n : ℕ) (t r : Ty) (b : Bool) → EachInType (IsNot n) t → type_holds n r ≡ true → same_type t r ≡ b
    → b ≡ false
held_differ n t r false a h e = refl
held_differ n t r true a h e =
    let p : type_holds n r ≡ false = subst (λ x. type_holds n x ≡ false) (same_type-true t r e) (held_not n t a) in cc

and_second : (b c : Bool) → c ≡ false → (b && c) ≡ false
and_second true c e = e
and_second false c e = refl

-- what doesn't hold the number is read as before
pub without_terms : (n : ℕ) (s : Scope) (m : ℕ) (t : Ty) (v : Lp) → EachInType (IsNot n) t
    → read_term (without n s) m t v ≡ read_term s m t v
without_terms n Scope.none m t v a = refl
without_terms n (Scope.of_type i x s) m t v a = without_terms n s m t v a
without_terms n (Scope.of_term i r x s) m t v a = go (type_holds n r) refl (without_terms n s m t v a)
  where
    go : (b : Bool) → type_holds n r ≡ b → read_term (without n s) m t v ≡ read_term s m t v
        → read_term (if b then without n s else Scope.of_term i r x (without n s)) m t v ≡ cond ((m == i) && same_type t r) (Lp.free x) (read_term s m t v)
    go true e h =
        h
        ∙ sym (cond_false ((m == i) && same_type t r) (Lp.free x) (read_term s m t v)
        (and_second (m == i) (same_type t r) (held_differ n t r (same_type t r) a e refl)))
    go false e h = ap (cond ((m == i) && same_type t r) (Lp.free x)) h

-- no variable stands for a term of a type that holds a number which the scope avoids
pub unread : (n : ℕ) (s : Scope) (m : ℕ) (t : Ty) (v : Lp) → Avoids n s → type_holds n t ≡ true → read_term s m t v ≡ v
unread n Scope.none m t v a h = refl
unread n (Scope.of_type i x s) m t v a h = unread n s m t v a h
unread n (Scope.of_term i r x s) m t v a h =
    cond_false ((m == i) && same_type t r) (Lp.free x) (read_term s m t v) (and_second (m == i) (same_type t r) (other (same_type t r) refl))
    ∙ unread n s m t v a.1 h
  where
    other : (c : Bool) → same_type t r ≡ c → c ≡ false
    other false q = refl
    other true q =
        let p : type_holds n r ≡ true = subst (λ y. type_holds n y ≡ true) (same_type-true t r q) h in
        let k : type_holds n r ≡ false = held_not n r a.0 in
        cc

module _ (n : ℕ) (s : Scope) where
  joined : (p : Parameter) → IsNot n p → Deep (IsNot n) p → ReadsAlike (without n s) s p
  joined (Parameter.type_param m) h d = without_types n s m
  joined (Parameter.type_meta m) h d = tt
  joined (Parameter.meta m t) h d = tt
  joined (Parameter.eps m t) h d = λ v. without_terms n s m t v d.1

  pub type_without : (symbols : List Symbol) (under : ℕ) (t : Ty)
      → type_of symbols (without n s) under t ≡ type_of symbols s under t
  type_without symbols under t =
      type_alike symbols (without n s) s under t (all_in_type (ReadsAlike (without n s) s) (λ m. without_types n s m) (λ m. tt) t)

  pub form_without : (symbols : List Symbol) (f : Form) → IsFresh n f
      → form_of symbols (without n s) f ≡ form_of symbols s f
  form_without symbols f h =
      form_alike symbols (without n s) s f (each_joined (IsNot n) (IsNot n) (ReadsAlike (without n s) s) joined f h h)
