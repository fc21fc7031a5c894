-- The symbols in a tree, and that those in well typed trees are declared.
use Rattle.std.proofs.Common.{ℕ, ◌≡◌, ◌+◌, Some, List}
use Rattle.zm_logic.specs.Tree.{Ty, Tys, Term, Terms, Form, Opening, Symbol}
use Rattle.zm_logic.specs.Opening.{open_type, open_types, open_term, open_terms, open_at}
use Rattle.zm_logic.specs.Index.{IsClosedType, AreClosedTypes}
use Rattle.zm_logic.specs.Typing.{symbol_at, argument_types, IsType, AreTypes, HasType, HaveTypes, WellTyped}

-- P of the number of each symbol
abbrev mutual
  pub EachInType : (ℕ → Type 0) → Ty → Type 0
  EachInType P (Ty.bound i) = Unit {0}
  EachInType P (Ty.param n) = Unit {0}
  EachInType P (Ty.meta n) = Unit {0}
  EachInType P (Ty.con c ts) = P c × EachInTypes P ts

  pub EachInTypes : (ℕ → Type 0) → Tys → Type 0
  EachInTypes P Tys.none = Unit {0}
  EachInTypes P (Tys.more t ts) = EachInType P t × EachInTypes P ts

abbrev mutual
  pub EachInTerm : (ℕ → Type 0) → Term → Type 0
  EachInTerm P (Term.bound i) = Unit {0}
  EachInTerm P (Term.eps n t) = EachInType P t
  EachInTerm P (Term.meta n t) = EachInType P t
  EachInTerm P (Term.app f ts us) = P f × EachInTypes P ts × EachInTerms P us

  pub EachInTerms : (ℕ → Type 0) → Terms → Type 0
  EachInTerms P Terms.none = Unit {0}
  EachInTerms P (Terms.more u us) = EachInTerm P u × EachInTerms P us

abbrev pub EachIn : (ℕ → Type 0) → Form → Type 0
EachIn P Form.truth = Unit {0}
EachIn P Form.falsity = Unit {0}
EachIn P (Form.atom p ts us) = P p × EachInTypes P ts × EachInTerms P us
EachIn P (Form.equal t a b) = EachInType P t × EachInTerm P a × EachInTerm P b
EachIn P (Form.negation f) = EachIn P f
EachIn P (Form.binary c f g) = EachIn P f × EachIn P g
EachIn P (Form.quantified q t f) = EachInType P t × EachIn P f
EachIn P (Form.quantified_types q f) = EachIn P f

-- each symbol of a tree stands in the tree with an index opened too
module _ (P : ℕ → Type 0) (o : Opening) where
  mutual
    before_type : (k : ℕ) (t : Ty) → EachInType P (open_type k o t) → EachInType P t
    before_type k (Ty.bound i) h = tt
    before_type k (Ty.param n) h = tt
    before_type k (Ty.meta n) h = tt
    before_type k (Ty.con c ts) h = (h.0, before_types k ts h.1)

    before_types : (k : ℕ) (ts : Tys) → EachInTypes P (open_types k o ts) → EachInTypes P ts
    before_types k Tys.none h = tt
    before_types k (Tys.more t ts) h = (before_type k t h.0, before_types k ts h.1)

  mutual
    before_term : (k : ℕ) (a : Term) → EachInTerm P (open_term k o a) → EachInTerm P a
    before_term k (Term.bound i) h = tt
    before_term k (Term.eps n t) h = before_type k t h
    before_term k (Term.meta n t) h = before_type k t h
    before_term k (Term.app f ts us) h = (h.0, before_types k ts h.1, before_terms k us h.2)

    before_terms : (k : ℕ) (us : Terms) → EachInTerms P (open_terms k o us) → EachInTerms P us
    before_terms k Terms.none h = tt
    before_terms k (Terms.more u us) h = (before_term k u h.0, before_terms k us h.1)

  before : (k : ℕ) (f : Form) → EachIn P (open_at k o f) → EachIn P f
  before k Form.truth h = tt
  before k Form.falsity h = tt
  before k (Form.atom p ts us) h = (h.0, before_types k ts h.1, before_terms k us h.2)
  before k (Form.equal t a b) h = (before_type k t h.0, before_term k a h.1, before_term k b h.2)
  before k (Form.negation f) h = before k f h
  before k (Form.binary c f g) h = (before k f h.0, before k g h.1)
  before k (Form.quantified q t f) h = (before_type k t h.0, before (k + 1) f h.1)
  before k (Form.quantified_types q f) h = before (k + 1) f h

-- each symbol of a well typed tree is declared
module _ (symbols : List Symbol) (P : ℕ → Type 0) (declared : (c : ℕ) (d : Symbol) → symbol_at symbols c ≡ Some d → P c) where
  mutual
    pub type_has_symbols : (k : ℕ) (t : Ty) → IsType symbols k t → EachInType P t
    type_has_symbols k (Ty.bound i) h = tt
    type_has_symbols k (Ty.param n) h = tt
    type_has_symbols k (Ty.meta n) h = tt
    type_has_symbols k (Ty.con c ts) h = (declared c h.0.0 h.0.1.0, types_have_symbols k ts h.1)

    pub types_have_symbols : (k : ℕ) (ts : Tys) → AreTypes symbols k ts → EachInTypes P ts
    types_have_symbols k Tys.none h = tt
    types_have_symbols k (Tys.more t ts) h = (type_has_symbols k t h.0, types_have_symbols k ts h.1)

  mutual
    term_has_symbols : (a : Term) (t : Ty) → HasType symbols a t → EachInTerm P a
    term_has_symbols (Term.bound i) t h = absurd h
    term_has_symbols (Term.eps n r) t h = type_has_symbols 0 r h.0
    term_has_symbols (Term.meta n r) t h = type_has_symbols 0 r h.0
    term_has_symbols (Term.app f ts us) t h =
        (declared f h.0 h.2.0, types_have_symbols 0 ts h.4, terms_have_symbols us (argument_types h.0 ts) h.5)

    terms_have_symbols : (us : Terms) (ts : Tys) → HaveTypes symbols us ts → EachInTerms P us
    terms_have_symbols Terms.none ts h = tt
    terms_have_symbols (Terms.more u us) Tys.none h = absurd h
    terms_have_symbols (Terms.more u us) (Tys.more t ts) h = (term_has_symbols u t h.0, terms_have_symbols us ts h.1)

  pub form_has_symbols : {f : Form} → WellTyped symbols f → EachIn P f
  form_has_symbols WellTyped.truth = tt
  form_has_symbols WellTyped.falsity = tt
  form_has_symbols (WellTyped.atom {p = p} {ts = ts} {us = us} h) =
      (declared p h.0 h.1.0, types_have_symbols 0 ts h.3, terms_have_symbols us (argument_types h.0 ts) h.4)
  form_has_symbols (WellTyped.equal {t = t} {a = a} {b = b} it h g) = (type_has_symbols 0 t it, term_has_symbols a t h, term_has_symbols b t g)
  form_has_symbols (WellTyped.negation h) = form_has_symbols h
  form_has_symbols (WellTyped.binary h g) = (form_has_symbols h, form_has_symbols g)
  form_has_symbols (WellTyped.quantified {t = t} {f = f} n fresh it h) =
      (type_has_symbols 0 t it, before P (Opening.of_term (Term.eps n t)) 0 f (form_has_symbols h))
  form_has_symbols (WellTyped.quantified_types {f = f} n fresh h) = before P (Opening.of_type (Ty.param n)) 0 f (form_has_symbols h)

-- a type over so many type variables has no index past them
mutual
  pub type_within : (symbols : List Symbol) (k : ℕ) (t : Ty) → IsType symbols k t → IsClosedType k t
  type_within symbols k (Ty.bound i) h = h
  type_within symbols k (Ty.param n) h = tt
  type_within symbols k (Ty.meta n) h = tt
  type_within symbols k (Ty.con c ts) h = types_within symbols k ts h.1

  pub types_within : (symbols : List Symbol) (k : ℕ) (ts : Tys) → AreTypes symbols k ts → AreClosedTypes k ts
  types_within symbols k Tys.none h = tt
  types_within symbols k (Tys.more t ts) h = (type_within symbols k t h.0, types_within symbols k ts h.1)
