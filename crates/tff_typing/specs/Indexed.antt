-- The trees of typing as one walk builds them: each variable in scope is its index at once, and nothing is closed.
-- Types that are still compared keep their parameters.
use Rattle.std.specs.Prelude.{ℕ, suc, zero, ◌-◌, ◌==◌, ◌++◌, Bool, true, false, ◌&&◌, if◌then◌else◌, Option, Some, None, Ok, Err, ◌∷◌, [], length, nat_lt}
use Rattle.zm_logic.specs.Tree.{Ty, Tys, Term, Terms, Form, Symbol, Sense, Binder, Role}
use Rattle.zm_logic.specs.Typing.{how_many}
use Rattle.tptp_reader.specs.Raw.{Name, RawType, RawTerm, RawTerms, RawForm, RawStatement, Quantifier}
use Rattle.tff_typing.specs.Written.{as_types, number_of_terms, connective_of, quantifier_of, premise_role}
use Rattle.tff_typing.specs.Scope.{Scope, Bound, look_up}
use Rattle.tff_typing.specs.Table.{Table, Numbered, Place, formula, term, arity, declared, used, undeclared, with_entry, most_symbols}
use Rattle.tff_typing.specs.Fault.{Fault, Outcome, ◌>>=◌}
use Rattle.tff_typing.specs.Places.{type_in, types_in, Expression, wanted, as_formula, first}
use Rattle.tff_typing.specs.Typing.{Typed, gives, unchanged, left_side, binder_in}
use Rattle.tff_typing.specs.Statements.{indexed, all_indexed, is_kind, function_of, State, if_first, declare}

-- the term and the formula with an index for each variable in scope, under k binders
abbrev mutual
  pub indexed_term : ℕ → Term → Term
  indexed_term k (Term.bound i) = Term.bound i
  indexed_term k (Term.eps n t) = Term.bound (k - suc n)
  indexed_term k (Term.meta n t) = Term.meta n (indexed k t)
  indexed_term k (Term.app f ts us) = Term.app f (all_indexed k ts) (indexed_terms k us)

  pub indexed_terms : ℕ → Terms → Terms
  indexed_terms k Terms.none = Terms.none
  indexed_terms k (Terms.more u us) = Terms.more (indexed_term k u) (indexed_terms k us)

abbrev pub indexed_form : ℕ → Form → Form
indexed_form k Form.truth = Form.truth
indexed_form k Form.falsity = Form.falsity
indexed_form k (Form.atom p ts us) = Form.atom p (all_indexed k ts) (indexed_terms k us)
indexed_form k (Form.equal t a b) = Form.equal (indexed k t) (indexed_term k a) (indexed_term k b)
indexed_form k (Form.negation f) = Form.negation (indexed_form k f)
indexed_form k (Form.binary c f g) = Form.binary c (indexed_form k f) (indexed_form k g)
indexed_form k (Form.quantified q t f) = Form.quantified q (indexed k t) (indexed_form (suc k) f)
indexed_form k (Form.quantified_types q f) = Form.quantified_types q (indexed_form (suc k) f)

-- the expression with an index for each variable; its type keeps the parameters
abbrev pub indexed_expression : ℕ → Expression → Expression
indexed_expression k (Expression.term t u) = Expression.term t (indexed_term k u)
indexed_expression k (Expression.atom p ts us) = Expression.atom p (all_indexed k ts) (indexed_terms k us)

-- one more type at the end
abbrev pub with_type : Tys → Ty → Tys
with_type Tys.none t = Tys.more t Tys.none
with_type (Tys.more x xs) t = Tys.more x (with_type xs t)

-- what an index stands for, the last of the types being at 0
abbrev pub picked : Tys → ℕ → Ty
picked Tys.none i = Ty.bound i
picked (Tys.more t ts) i = if i == how_many ts then t else picked ts i

-- a declared type at types, all put in at once
abbrev mutual
  pub filled : Tys → Ty → Ty
  filled ts (Ty.bound i) = picked ts i
  filled ts (Ty.param n) = Ty.param n
  filled ts (Ty.meta n) = Ty.meta n
  filled ts (Ty.con c us) = Ty.con c (all_filled ts us)

  pub all_filled : Tys → Tys → Tys
  all_filled ts Tys.none = Tys.none
  all_filled ts (Tys.more u us) = Tys.more (filled ts u) (all_filled ts us)

-- a variable in a term's or a formula's place, under k binders
abbrev pub if_indexed_term : ℕ → ℕ → Binder → Outcome Expression
if_indexed_term k n Binder.of_type = Err Fault.not_a_term
if_indexed_term k n (Binder.of_term t) = Ok (Expression.term t (Term.bound (k - suc n)))

abbrev pub indexed_variable : ℕ → Option Bound → Outcome Expression
indexed_variable k None = Err Fault.unbound
indexed_variable k (Some b) = if_indexed_term k b.number b.binder

-- a symbol without its name
pub record Taken : Type 0 where
  pub number : ℕ
  pub types : ℕ
  pub arguments : Tys
  pub sense : Sense

abbrev pub taken_of : Numbered → Taken
taken_of d =
    record { number = d.number; types = d.symbol.types; arguments = d.symbol.arguments; sense = d.symbol.sense }

abbrev pub taken_if : Numbered → Sense → Outcome Taken
taken_if d Sense.constructor = Err Fault.not_a_term
taken_if d Sense.predicate = Ok (taken_of d)
taken_if d (Sense.function r) = Ok (taken_of d)

abbrev pub taken_with : ℕ → Numbered → Outcome Taken
taken_with n d = if n == arity d.symbol then taken_if d d.symbol.sense else Err Fault.arity

abbrev pub new_taken : Table → Place → Name → ℕ → Outcome (Typed Taken)
new_taken table place x n =
    if nat_lt (length table) most_symbols
    then gives (with_entry table false (undeclared place x n))
    (taken_of (record { number = suc (length table); symbol = undeclared place x n }))
    else Err Fault.too_many_symbols

abbrev pub used_taken : Table → Place → Name → ℕ → Option Numbered → Outcome (Typed Taken)
used_taken table place x n (Some d) = unchanged table (taken_if d d.symbol.sense)
used_taken table place x n None = new_taken table place x n

abbrev pub declared_taken : Table → Place → Name → ℕ → Option Numbered → Outcome (Typed Taken)
declared_taken table place x n (Some d) = unchanged table (taken_with n d)
declared_taken table place x n None = used_taken table place x n (used table x n)

abbrev pub symbol_at : Table → Place → Name → ℕ → Outcome (Typed Taken)
symbol_at table place x n = declared_taken table place x n (declared table x)

-- a symbol at its types: its number, the types, the types that its other arguments want, and its sense
pub record Head : Type 0 where
  pub number : ℕ
  pub skipped : ℕ
  pub types : Tys
  pub wanted_types : Tys
  pub sense : Sense

abbrev pub head_of : Taken → Tys → Head
head_of d ts = record {
  number = d.number;
  skipped = d.types;
  types = ts;
  wanted_types = all_filled ts d.arguments;
  sense = d.sense;
}

abbrev pub head_at : Table → Scope → Place → Name → RawTerms → Outcome (Typed Head)
head_at table s place f us =
    symbol_at table place f (number_of_terms us) >>= λ d.
    types_in d.table s (as_types (first d.tree.types us)) >>= λ ts.
    gives d.table (head_of d.tree ts)

abbrev pub applied_at : ℕ → ℕ → Tys → Terms → Sense → Expression
applied_at k f ts us Sense.constructor = Expression.atom f (all_indexed k ts) us
applied_at k f ts us Sense.predicate = Expression.atom f (all_indexed k ts) us
applied_at k f ts us (Sense.function r) = Expression.term (filled ts r) (Term.app f (all_indexed k ts) us)

abbrev mutual
  pub expression_at : Table → Scope → Place → RawTerm → Outcome (Typed Expression)
  expression_at table s place RawTerm.individual = Err Fault.not_a_term
  expression_at table s place RawTerm.truth = Err Fault.not_a_term
  expression_at table s place (RawTerm.variable x) = unchanged table (indexed_variable (length s) (look_up s x))
  expression_at table s place (RawTerm.named f us) =
      head_at table s place f us >>= λ h.
      terms_at h.table s h.tree.skipped h.tree.wanted_types us >>= λ vs.
      gives vs.table (applied_at (length s) h.tree.number h.tree.types vs.tree h.tree.sense)

  pub terms_at : Table → Scope → ℕ → Tys → RawTerms → Outcome (Typed Terms)
  terms_at table s n ws RawTerms.none = gives table Terms.none
  terms_at table s (suc n) ws (RawTerms.more u us) = terms_at table s n ws us
  terms_at table s zero Tys.none (RawTerms.more u us) = gives table Terms.none
  terms_at table s zero (Tys.more w ws) (RawTerms.more u us) =
      expression_at table s term u >>= λ x.
      wanted w x.tree >>= λ a.
      terms_at x.table s zero ws us >>= λ vs.
      gives vs.table (Terms.more a vs.tree)

abbrev pub named_at : Table → Scope → Place → Name → RawTerms → Outcome (Typed Expression)
named_at table s place f us = expression_at table s place (RawTerm.named f us)

-- a term of the wanted type
abbrev pub term_at : Table → Scope → Ty → RawTerm → Outcome (Typed Term)
term_at table s w u = expression_at table s term u >>= λ x. unchanged x.table (wanted w x.tree)

-- the left side of an equality, with its type
pub record Side : Type 0 where
  pub type : Ty
  pub term : Term

abbrev pub side_with : Ty → Term → Side
side_with t a = record { type = t; term = a }

abbrev pub side_of : Expression → Outcome Side
side_of x = left_side x >>= λ t. wanted t x >>= λ a. Ok (side_with t a)

abbrev pub left_at : Table → Scope → RawTerm → Outcome (Typed Side)
left_at table s u = expression_at table s term u >>= λ x. unchanged x.table (side_of x.tree)

abbrev pub equality_at : Table → Scope → RawTerm → RawTerm → Outcome (Typed Form)
equality_at table s left right =
    left_at table s left >>= λ l.
    term_at l.table s l.tree.type right >>= λ b.
    gives b.table (Form.equal (indexed (length s) l.tree.type) l.tree.term b.tree)

abbrev pub indexed_binder : ℕ → Binder → Binder
indexed_binder k Binder.of_type = Binder.of_type
indexed_binder k (Binder.of_term t) = Binder.of_term (indexed k t)

abbrev pub bind_at : Quantifier → Binder → Form → Form
bind_at q Binder.of_type f = Form.quantified_types (quantifier_of q) f
bind_at q (Binder.of_term t) f = Form.quantified (quantifier_of q) t f

abbrev pub plain_at : Table → Scope → RawTerm → Outcome (Typed Form)
plain_at table s u = expression_at table s formula u >>= λ x. unchanged x.table (as_formula x.tree)

abbrev pub form_at : Table → Scope → RawForm → Outcome (Typed Form)
form_at table s RawForm.truth = gives table Form.truth
form_at table s RawForm.falsity = gives table Form.falsity
form_at table s (RawForm.plain u) = plain_at table s u
form_at table s (RawForm.equal a b) = equality_at table s a b
form_at table s (RawForm.negation f) =
    form_at table s f >>= λ g. gives g.table (Form.negation g.tree)
form_at table s (RawForm.binary c f g) =
    form_at table s f >>= λ a.
    form_at a.table s g >>= λ b.
    gives b.table (Form.binary (connective_of c) a.tree b.tree)
form_at table s (RawForm.quantified q v f) =
    binder_in table s v.type >>= λ b.
    form_at table (record { name = v.name; binder = b } ∷ s) f >>= λ g.
    gives g.table (bind_at q (indexed_binder (length s) b) g.tree)

-- one argument of a declaration: its type, or none where it is `$tType`
abbrev pub argument_at : Table → Scope → Bool → RawType → Outcome (Option Ty)
argument_at table s kinds t =
    if is_kind t
    then (if kinds then Ok None else Err Fault.not_a_type)
    else (type_in table s t >>= λ u. Ok (Some u))

abbrev pub with_argument : Tys → Option Ty → Tys
with_argument ts None = ts
with_argument ts (Some t) = with_type ts t

-- a function with the written result
abbrev pub function_at : Table → Name → Scope → Tys → RawType → Outcome Symbol
function_at table x s ts t = type_in table s t >>= λ r. Ok (function_of x s ts r)

-- a statement
abbrev pub formula_at : State → Name → Option Role → RawForm → Outcome State
formula_at state x (Some role) f =
    form_at state.table [] f >>= λ g.
    Ok (record state {
      table = g.table;
      premises = state.premises ++ record { name = x; role = role; form = g.tree } ∷ [];
    })
formula_at state x None f =
    if_first state.conjecture
    (form_at state.table [] f >>= λ g. Ok (record state { table = g.table; conjecture = Some g.tree }))

abbrev pub statement_at : State → RawStatement → Outcome State
statement_at state (RawStatement.formula x role f) = formula_at state x (premise_role role) f
statement_at state (RawStatement.typing x subject top) =
    declare state.table subject top >>= λ table. Ok (record state { table = table })
statement_at state (RawStatement.inclusion file names) = Ok state
