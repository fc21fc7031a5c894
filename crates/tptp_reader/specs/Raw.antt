-- Statements as they are written, as plain data, with the abbreviations of the language written out.
use Rattle.std.specs.Prelude.{ℕ, ◌+◌, max, List, Option, Some, None}
use Rattle.tptp_reader.specs.declared.tree.RawRole.{RawRole}

abbrev pub Name : Type 0
Name = List ℕ

-- a type: $i, $o, $tType, a type variable, or a constructor at types
mutual
  pub data RawType : Type 0 where
    individual : RawType
    truth : RawType
    kind : RawType
    variable : (name : Name) → RawType
    named : (name : Name) (parts : RawTypes) → RawType

  pub data RawTypes : Type 0 where
    none : RawTypes
    more : RawType → RawTypes → RawTypes

-- a term or an atom: $i, $o, a variable, or a symbol at terms and types
mutual
  pub data RawTerm : Type 0 where
    individual : RawTerm
    truth : RawTerm
    variable : (name : Name) → RawTerm
    named : (name : Name) (parts : RawTerms) → RawTerm

  pub data RawTerms : Type 0 where
    none : RawTerms
    more : RawTerm → RawTerms → RawTerms

-- a variable at its quantifier, with its type where one is written
pub record RawVariable : Type 0 where
  pub name : Name
  pub type : Option RawType

-- and, or, implies, is equivalent to
pub data Connective : Type 0 where
  conjunction : Connective
  disjunction : Connective
  implication : Connective
  equivalence : Connective

-- for all, and for some
pub data Quantifier : Type 0 where
  universal : Quantifier
  existential : Quantifier

-- a formula
pub data RawForm : Type 0 where
  truth : RawForm
  falsity : RawForm
  plain : RawTerm → RawForm
  equal : (left right : RawTerm) → RawForm
  negation : RawForm → RawForm
  binary : Connective → RawForm → RawForm → RawForm
  quantified : Quantifier → RawVariable → (body : RawForm) → RawForm

-- a declared type: its type variables, the types of its arguments, and its result
pub record RawTop : Type 0 where
  pub binders : List RawVariable
  pub arguments : RawTypes
  pub result : RawType

-- a statement: a formula with its name and role, a declaration with its name and the symbol declared, or an include with
-- the file's name and the names of the statements asked for, where some are
pub data RawStatement : Type 0 where
  formula : (name : Name) (role : RawRole) (form : RawForm) → RawStatement
  typing : (name subject : Name) (declared : RawTop) → RawStatement
  inclusion : (file : Name) (names : Option (List Name)) → RawStatement

-- how deep a type and a term are
abbrev mutual
  pub raw_type_depth : RawType → ℕ
  raw_type_depth RawType.individual = 1
  raw_type_depth RawType.truth = 1
  raw_type_depth RawType.kind = 1
  raw_type_depth (RawType.variable x) = 1
  raw_type_depth (RawType.named c ts) = 1 + raw_types_depth ts

  pub raw_types_depth : RawTypes → ℕ
  raw_types_depth RawTypes.none = 0
  raw_types_depth (RawTypes.more t ts) = max (raw_type_depth t) (raw_types_depth ts)

abbrev mutual
  pub raw_term_depth : RawTerm → ℕ
  raw_term_depth RawTerm.individual = 1
  raw_term_depth RawTerm.truth = 1
  raw_term_depth (RawTerm.variable x) = 1
  raw_term_depth (RawTerm.named f us) = 1 + raw_terms_depth us

  pub raw_terms_depth : RawTerms → ℕ
  raw_terms_depth RawTerms.none = 0
  raw_terms_depth (RawTerms.more u us) = max (raw_term_depth u) (raw_terms_depth us)

abbrev pub written_depth : Option RawType → ℕ
written_depth None = 0
written_depth (Some t) = raw_type_depth t

-- how deep a formula is: an atom is as deep as its term, and a variable's type is a part of its quantifier
abbrev pub raw_depth : RawForm → ℕ
raw_depth RawForm.truth = 1
raw_depth RawForm.falsity = 1
raw_depth (RawForm.plain u) = raw_term_depth u
raw_depth (RawForm.equal a b) = 1 + max (raw_term_depth a) (raw_term_depth b)
raw_depth (RawForm.negation f) = 1 + raw_depth f
raw_depth (RawForm.binary c f g) = 1 + max (raw_depth f) (raw_depth g)
raw_depth (RawForm.quantified q v f) = 1 + max (written_depth v.type) (raw_depth f)
