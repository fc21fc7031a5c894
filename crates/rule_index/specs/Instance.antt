-- The instance of a rule's side at parts that may have loose indices: under binders the parts are lifted over them.
use Rattle.std.specs.Prelude.{ℕ, Bool, false, ◌+◌, ◌-◌, ◌==◌, ltb, if◌then◌else◌, List, [], ◌∷◌, length}
use Rattle.zm_logic.specs.Tree.{Ty, Tys, Term, Terms, Form, Opening, Side}
use Rattle.zm_logic.specs.Same.{same_term, same}

-- the tree under d more binders: each index counts them
abbrev mutual
  pub lift_type : ℕ → Ty → Ty
  lift_type d (Ty.bound i) = Ty.bound (i + d)
  lift_type d (Ty.param n) = Ty.param n
  lift_type d (Ty.meta n) = Ty.meta n
  lift_type d (Ty.con c ts) = Ty.con c (lift_types d ts)

  pub lift_types : ℕ → Tys → Tys
  lift_types d Tys.none = Tys.none
  lift_types d (Tys.more t ts) = Tys.more (lift_type d t) (lift_types d ts)

abbrev mutual
  pub lift_term : ℕ → Term → Term
  lift_term d (Term.bound i) = Term.bound (i + d)
  lift_term d (Term.eps n t) = Term.eps n (lift_type d t)
  lift_term d (Term.meta n t) = Term.meta n (lift_type d t)
  lift_term d (Term.app f ts us) = Term.app f (lift_types d ts) (lift_terms d us)

  pub lift_terms : ℕ → Terms → Terms
  lift_terms d Terms.none = Terms.none
  lift_terms d (Terms.more u us) = Terms.more (lift_term d u) (lift_terms d us)

-- the part of an index: the last part is that of 0
abbrev pub type_in : Opening → ℕ → Ty
type_in (Opening.of_type t) i = t
type_in (Opening.of_term u) i = Ty.bound i

abbrev pub term_in : Opening → ℕ → Term
term_in (Opening.of_type t) i = Term.bound i
term_in (Opening.of_term u) i = u

abbrev pub type_part : List Opening → ℕ → Ty
type_part [] i = Ty.bound i
type_part (o ∷ os) i = if i == length os then type_in o i else type_part os i

abbrev pub term_part : List Opening → ℕ → Term
term_part [] i = Term.bound i
term_part (o ∷ os) i = if i == length os then term_in o i else term_part os i

-- the instance at the parts of a tree that stands under d binders of its side
abbrev mutual
  pub put_type : ℕ → List Opening → Ty → Ty
  put_type d os (Ty.bound i) = if ltb i d then Ty.bound i else lift_type d (type_part os (i - d))
  put_type d os (Ty.param n) = Ty.param n
  put_type d os (Ty.meta n) = Ty.meta n
  put_type d os (Ty.con c ts) = Ty.con c (put_types d os ts)

  pub put_types : ℕ → List Opening → Tys → Tys
  put_types d os Tys.none = Tys.none
  put_types d os (Tys.more t ts) = Tys.more (put_type d os t) (put_types d os ts)

abbrev mutual
  pub put_term : ℕ → List Opening → Term → Term
  put_term d os (Term.bound i) = if ltb i d then Term.bound i else lift_term d (term_part os (i - d))
  put_term d os (Term.eps n t) = Term.eps n (put_type d os t)
  put_term d os (Term.meta n t) = Term.meta n (put_type d os t)
  put_term d os (Term.app f ts us) = Term.app f (put_types d os ts) (put_terms d os us)

  pub put_terms : ℕ → List Opening → Terms → Terms
  put_terms d os Terms.none = Terms.none
  put_terms d os (Terms.more u us) = Terms.more (put_term d os u) (put_terms d os us)

abbrev pub put_form : ℕ → List Opening → Form → Form
put_form d os Form.truth = Form.truth
put_form d os Form.falsity = Form.falsity
put_form d os (Form.atom p ts us) = Form.atom p (put_types d os ts) (put_terms d os us)
put_form d os (Form.equal t a b) = Form.equal (put_type d os t) (put_term d os a) (put_term d os b)
put_form d os (Form.negation f) = Form.negation (put_form d os f)
put_form d os (Form.binary c f g) = Form.binary c (put_form d os f) (put_form d os g)
put_form d os (Form.quantified q t f) = Form.quantified q (put_type d os t) (put_form (d + 1) os f)
put_form d os (Form.quantified_types q f) = (Form.quantified_types q) (put_form (d + 1) os f)

abbrev pub put : List Opening → Side → Side
put os (Side.of_term a) = Side.of_term (put_term 0 os a)
put os (Side.of_form f) = Side.of_form (put_form 0 os f)

-- whether two sides are the same
abbrev pub same_side : Side → Side → Bool
same_side (Side.of_term a) (Side.of_term b) = same_term a b
same_side (Side.of_form f) (Side.of_form g) = same f g
same_side _ _ = false
