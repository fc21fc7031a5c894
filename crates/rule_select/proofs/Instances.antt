-- Instances of the trees that a rule's side is built of, and of closed trees.
use Rattle.std.proofs.Common.{ℕ, ◌≡◌, ◌≤◌, refl, ap, ◌∙◌, arith, List, [], ◌∷◌, length}
use Rattle.std.proofs.lemmas.Bool.{ne_eqb}
use Rattle.zm_logic.specs.Tree.{Ty, Tys, Term, Terms, Form, Opening, Side, iff}
use Rattle.zm_logic.specs.Opening.{type_at, term_at, open_type, open_types, open_term, open_terms, open_at, type_instance, types_instance, side_instance}
use Rattle.zm_logic.specs.Index.{IsClosedType, AreClosedTypes, IsClosedTerm, AreClosedTerms}

-- instances of terms and formulas
abbrev pub term_instance : List Opening → Term → Term
term_instance [] a = a
term_instance (o ∷ os) a = term_instance os (open_term (length os) o a)

abbrev pub terms_instance : List Opening → Terms → Terms
terms_instance [] us = us
terms_instance (o ∷ os) us = terms_instance os (open_terms (length os) o us)

abbrev pub form_instance : List Opening → Form → Form
form_instance [] f = f
form_instance (o ∷ os) f = form_instance os (open_at (length os) o f)

pub side_of_term : (os : List Opening) (a : Term) → side_instance os (Side.of_term a) ≡ Side.of_term (term_instance os a)
side_of_term [] a = refl
side_of_term (o ∷ os) a = side_of_term os (open_term (length os) o a)

pub side_of_form : (os : List Opening) (f : Form) → side_instance os (Side.of_form f) ≡ Side.of_form (form_instance os f)
side_of_form [] f = refl
side_of_form (o ∷ os) f = side_of_form os (open_at (length os) o f)

-- an instance is built as the tree is
pub con_instance : (os : List Opening) (c : ℕ) (ts : Tys) → type_instance os (Ty.con c ts) ≡ Ty.con c (types_instance os ts)
con_instance [] c ts = refl
con_instance (o ∷ os) c ts = con_instance os c (open_types (length os) o ts)

pub types_more : (os : List Opening) (t : Ty) (ts : Tys) → types_instance os (Tys.more t ts) ≡ Tys.more (type_instance os t) (types_instance os ts)
types_more [] t ts = refl
types_more (o ∷ os) t ts = types_more os (open_type (length os) o t) (open_types (length os) o ts)

pub app_instance : (os : List Opening) (f : ℕ) (ts : Tys) (us : Terms)
    → term_instance os (Term.app f ts us) ≡ Term.app f (types_instance os ts) (terms_instance os us)
app_instance [] f ts us = refl
app_instance (o ∷ os) f ts us = app_instance os f (open_types (length os) o ts) (open_terms (length os) o us)

pub terms_more : (os : List Opening) (u : Term) (us : Terms) → terms_instance os (Terms.more u us) ≡ Terms.more (term_instance os u) (terms_instance os us)
terms_more [] u us = refl
terms_more (o ∷ os) u us = terms_more os (open_term (length os) o u) (open_terms (length os) o us)

pub atom_instance : (os : List Opening) (p : ℕ) (ts : Tys) (us : Terms)
    → form_instance os (Form.atom p ts us) ≡ Form.atom p (types_instance os ts) (terms_instance os us)
atom_instance [] p ts us = refl
atom_instance (o ∷ os) p ts us = atom_instance os p (open_types (length os) o ts) (open_terms (length os) o us)

pub equal_instance : (os : List Opening) (t : Ty) (a b : Term)
    → form_instance os (Form.equal t a b) ≡ Form.equal (type_instance os t) (term_instance os a) (term_instance os b)
equal_instance [] t a b = refl
equal_instance (o ∷ os) t a b = equal_instance os (open_type (length os) o t) (open_term (length os) o a) (open_term (length os) o b)

pub iff_instance : (os : List Opening) (f g : Form) → form_instance os (iff f g) ≡ iff (form_instance os f) (form_instance os g)
iff_instance [] f g = refl
iff_instance (o ∷ os) f g = iff_instance os (open_at (length os) o f) (open_at (length os) o g)

mutual
  pub open_closed_type : (k j : ℕ) (o : Opening) (t : Ty) → IsClosedType k t → k ≤ j → open_type j o t ≡ t
  open_closed_type k j (Opening.of_type u) (Ty.bound i) h l = rw (ne_eqb i j (λ e. omega arith))
  open_closed_type k j (Opening.of_term u) (Ty.bound i) h l = refl
  open_closed_type k j o (Ty.param n) h l = refl
  open_closed_type k j o (Ty.meta n) h l = refl
  open_closed_type k j o (Ty.con c ts) h l = ap (Ty.con c) (open_closed_types k j o ts h l)

  pub open_closed_types : (k j : ℕ) (o : Opening) (ts : Tys) → AreClosedTypes k ts → k ≤ j → open_types j o ts ≡ ts
  open_closed_types k j o Tys.none h l = refl
  open_closed_types k j o (Tys.more t ts) h l = cc (open_closed_type k j o t h.0 l, open_closed_types k j o ts h.1 l)

mutual
  pub open_closed_term : (k j : ℕ) (o : Opening) (a : Term) → IsClosedTerm k a → k ≤ j → open_term j o a ≡ a
  open_closed_term k j (Opening.of_term u) (Term.bound i) h l = rw (ne_eqb i j (λ e. omega arith))
  open_closed_term k j (Opening.of_type u) (Term.bound i) h l = refl
  open_closed_term k j o (Term.eps n t) h l = ap (Term.eps n) (open_closed_type k j o t h l)
  open_closed_term k j o (Term.meta n t) h l = ap (Term.meta n) (open_closed_type k j o t h l)
  open_closed_term k j o (Term.app f ts us) h l = cc (open_closed_types k j o ts h.0 l, open_closed_terms k j o us h.1 l)

  pub open_closed_terms : (k j : ℕ) (o : Opening) (us : Terms) → AreClosedTerms k us → k ≤ j → open_terms j o us ≡ us
  open_closed_terms k j o Terms.none h l = refl
  open_closed_terms k j o (Terms.more u us) h l = cc (open_closed_term k j o u h.0 l, open_closed_terms k j o us h.1 l)

pub type_instance_closed : (os : List Opening) (t : Ty) → IsClosedType 0 t → type_instance os t ≡ t
type_instance_closed [] t h = refl
type_instance_closed (o ∷ os) t h = ap (type_instance os) (open_closed_type 0 (length os) o t h (omega arith)) ∙ type_instance_closed os t h

pub term_instance_closed : (os : List Opening) (a : Term) → IsClosedTerm 0 a → term_instance os a ≡ a
term_instance_closed [] a h = refl
term_instance_closed (o ∷ os) a h = ap (term_instance os) (open_closed_term 0 (length os) o a h (omega arith)) ∙ term_instance_closed os a h

-- an index past the parts stays
pub type_instance_past : (os : List Opening) (i : ℕ) → length os ≤ i → type_instance os (Ty.bound i) ≡ Ty.bound i
type_instance_past [] i h = refl
type_instance_past (o ∷ os) i h =
    ap (type_instance os) (past o) ∙ type_instance_past os i (omega arith)
  where
    past : (o : Opening) → type_at (length os) o i ≡ Ty.bound i
    past (Opening.of_type t) = rw (ne_eqb i (length os) (λ e. omega arith))
    past (Opening.of_term u) = refl

pub term_instance_past : (os : List Opening) (i : ℕ) → length os ≤ i → term_instance os (Term.bound i) ≡ Term.bound i
term_instance_past [] i h = refl
term_instance_past (o ∷ os) i h =
    ap (term_instance os) (past o) ∙ term_instance_past os i (omega arith)
  where
    past : (o : Opening) → term_at (length os) o i ≡ Term.bound i
    past (Opening.of_type t) = refl
    past (Opening.of_term u) = rw (ne_eqb i (length os) (λ e. omega arith))
