-- Substitutions: what metavariables stand for, put into types, terms and formulas.
-- A metavariable over terms is a number with a type. The types that parameters carry are names: nothing is put into them.
use Rattle.std.specs.Prelude.{ℕ}
use Rattle.zm_logic.specs.Tree.{Ty, Tys, Term, Terms, Form}

-- what each metavariable stands for
pub record Substitution : Type 0 where
  pub type : ℕ → Ty
  pub term : ℕ → Ty → Term

-- a type with what its metavariables stand for put in
abbrev mutual
  pub put_type : Substitution → Ty → Ty
  put_type a (Ty.bound i) = Ty.bound i
  put_type a (Ty.param n) = Ty.param n
  put_type a (Ty.meta n) = a.type n
  put_type a (Ty.con c ts) = Ty.con c (put_types a ts)

  pub put_types : Substitution → Tys → Tys
  put_types a Tys.none = Tys.none
  put_types a (Tys.more t ts) = Tys.more (put_type a t) (put_types a ts)

-- a term with what its metavariables stand for put in
abbrev mutual
  pub put_term : Substitution → Term → Term
  put_term a (Term.bound i) = Term.bound i
  put_term a (Term.eps n t) = Term.eps n t
  put_term a (Term.meta n t) = a.term n t
  put_term a (Term.app f ts us) = Term.app f (put_types a ts) (put_terms a us)

  pub put_terms : Substitution → Terms → Terms
  put_terms a Terms.none = Terms.none
  put_terms a (Terms.more u us) = Terms.more (put_term a u) (put_terms a us)

-- and a formula
abbrev pub put_form : Substitution → Form → Form
put_form a Form.truth = Form.truth
put_form a Form.falsity = Form.falsity
put_form a (Form.atom p ts us) = Form.atom p (put_types a ts) (put_terms a us)
put_form a (Form.equal t x y) = Form.equal (put_type a t) (put_term a x) (put_term a y)
put_form a (Form.negation f) = Form.negation (put_form a f)
put_form a (Form.binary c f g) = Form.binary c (put_form a f) (put_form a g)
put_form a (Form.quantified q t f) = Form.quantified q (put_type a t) (put_form a f)
put_form a (Form.quantified_types q f) = Form.quantified_types q (put_form a f)
