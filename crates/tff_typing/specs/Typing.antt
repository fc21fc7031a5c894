-- Terms and formulas as they are written, typed: the tree, or the first fault in the order of the text. A law says that
-- this agrees with the rules of `Rules`.
-- A variable in scope is its parameter, and a quantifier binds the parameter of its variable.
use Rattle.std.specs.Prelude.{ℕ, zero, suc, Bool, true, false, ◌&&◌, Option, Some, None, Ok, Err, ◌∷◌, length}
use Rattle.zm_logic.specs.Tree.{Ty, Tys, Terms, Form, Binder}
use Rattle.zm_logic.specs.Typing.{individual, argument_types}
use Rattle.zm_logic.specs.Opening.{close}
use Rattle.tptp_reader.specs.Raw.{RawType, RawTerm, RawTerms, RawForm, Quantifier}
use Rattle.tff_typing.specs.Written.{as_types, number_of_terms, connective_of, quantifier_of}
use Rattle.tff_typing.specs.Scope.{Scope, look_up}
use Rattle.tff_typing.specs.Table.{Table, Place, formula, term}
use Rattle.tff_typing.specs.Fault.{Found, found_type, Fault, Outcome, ◌>>=◌}
use Rattle.tff_typing.specs.Places.{type_in, types_in, symbol_for, Expression, applied, term_variable, wanted, as_formula, first}

-- a tree, and the table with the symbols that it used first
pub record Typed (A : Type 0) : Type 0 where
  pub tree : A
  pub table : Table

abbrev pub gives : {A : Type 0} → Table → A → Outcome (Typed A)
gives table x = Ok (record { tree = x; table = table })

-- with the table as it is
abbrev pub unchanged : {A : Type 0} → Table → Outcome A → Outcome (Typed A)
unchanged table r = r >>= λ x. gives table x

abbrev mutual
  -- what stands in a term's or a formula's place, by itself. A symbol with n type variables takes n types first
  pub expression_in : Table → Scope → Place → RawTerm → Outcome (Typed Expression)
  expression_in table s place RawTerm.individual = Err Fault.not_a_term
  expression_in table s place RawTerm.truth = Err Fault.not_a_term
  expression_in table s place (RawTerm.variable x) = unchanged table (term_variable (look_up s x))
  expression_in table s place (RawTerm.named f us) =
      symbol_for table place f (number_of_terms us) >>= λ d.
      types_in d.table s (as_types (first d.found.symbol.types us)) >>= λ ts.
      terms_in d.table s d.found.symbol.types (argument_types d.found.symbol ts) us >>= λ vs.
      gives vs.table (applied d.found.number ts vs.tree d.found.symbol.sense)

  -- the terms after n types, each of its type
  pub terms_in : Table → Scope → ℕ → Tys → RawTerms → Outcome (Typed Terms)
  terms_in table s n ws RawTerms.none = gives table Terms.none
  terms_in table s (suc n) ws (RawTerms.more u us) = terms_in table s n ws us
  terms_in table s zero Tys.none (RawTerms.more u us) = gives table Terms.none
  terms_in table s zero (Tys.more w ws) (RawTerms.more u us) =
      expression_in table s term u >>= λ x.
      wanted w x.tree >>= λ a.
      terms_in x.table s zero ws us >>= λ vs.
      gives vs.table (Terms.more a vs.tree)

-- the sides of an equality: the left one is a term, and the right one a term of its type
abbrev pub left_side : Expression → Outcome Ty
left_side (Expression.term t a) = Ok t
left_side (Expression.atom p ts us) = Err (Fault.mismatch (found_type individual) Found.truth)

abbrev pub equality_in : Table → Scope → RawTerm → RawTerm → Outcome (Typed Form)
equality_in table s left right =
    expression_in table s term left >>= λ x.
    left_side x.tree >>= λ t.
    wanted t x.tree >>= λ a.
    expression_in x.table s term right >>= λ y.
    wanted t y.tree >>= λ b.
    gives y.table (Form.equal t a b)

-- what a quantifier binds: a variable of the kind $tType stands for types, and any other one for terms of its type
abbrev pub of_written : Table → Scope → RawType → Outcome Binder
of_written table s RawType.kind = Ok Binder.of_type
of_written table s RawType.individual = Ok (Binder.of_term individual)
of_written table s RawType.truth = Err Fault.not_a_type
of_written table s (RawType.variable x) = type_in table s (RawType.variable x) >>= λ t. Ok (Binder.of_term t)
of_written table s (RawType.named c ts) = type_in table s (RawType.named c ts) >>= λ t. Ok (Binder.of_term t)

-- a variable without a type is an individual
abbrev pub binder_in : Table → Scope → Option RawType → Outcome Binder
binder_in table s None = Ok (Binder.of_term individual)
binder_in table s (Some t) = of_written table s t

-- the formula that binds the parameter of the number
abbrev pub bind : Quantifier → Binder → ℕ → Form → Form
bind q Binder.of_type n f = Form.quantified_types (quantifier_of q) (close f n)
bind q (Binder.of_term t) n f = Form.quantified (quantifier_of q) t (close f n)

-- a formula
abbrev pub form_in : Table → Scope → RawForm → Outcome (Typed Form)
form_in table s RawForm.truth = gives table Form.truth
form_in table s RawForm.falsity = gives table Form.falsity
form_in table s (RawForm.plain u) =
    expression_in table s formula u >>= λ x. unchanged x.table (as_formula x.tree)
form_in table s (RawForm.equal a b) = equality_in table s a b
form_in table s (RawForm.negation f) =
    form_in table s f >>= λ g. gives g.table (Form.negation g.tree)
form_in table s (RawForm.binary c f g) =
    form_in table s f >>= λ a.
    form_in a.table s g >>= λ b.
    gives b.table (Form.binary (connective_of c) a.tree b.tree)
form_in table s (RawForm.quantified q v f) =
    binder_in table s v.type >>= λ b.
    form_in table (record { name = v.name; binder = b } ∷ s) f >>= λ g.
    gives g.table (bind q b (length s) g.tree)
