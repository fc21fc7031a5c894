-- Where there is a derivation by the rules of types, terms and formulas, the functions give its tree and its table.
use Rattle.std.proofs.Common.{◌≡◌, ℕ, zero, suc, ◌<◌, ◌==◌, Bool, true, false, ◌&&◌, Option, Some, None, Ok, ◌∷◌, length, nat_lt, refl, ap, ◌∙◌, eq-eqb, lt-ltb}
use Rattle.zm_logic.specs.Tree.{Ty, Tys, Term, Terms, Form, Sense, Binder}
use Rattle.zm_logic.specs.Same.{same_type}
use Rattle.zm_logic.specs.Typing.{argument_types}
use Rattle.zm_logic.proofs.Sames.{same_type-self}
use Rattle.tptp_reader.specs.Raw.{Name, RawType, RawTypes, RawTerm, RawTerms, RawForm, Quantifier}
use Rattle.tff_typing.specs.Written.{as_types, number_of_types, number_of_terms}
use Rattle.tff_typing.specs.Scope.{Scope, Bound, look_up}
use Rattle.tff_typing.specs.Table.{Table, Numbered, Place, arity, declared, used, undeclared, with_entry, most_symbols}
use Rattle.tff_typing.specs.Fault.{Outcome, ◌>>=◌}
use Rattle.tff_typing.specs.Places.{type_variable, constructor_at, type_in, types_in, if_symbol, used_or_new, declared_or_used, symbol_for, Expression, term_variable, wanted, first, rest}
use Rattle.tff_typing.specs.Typing.{Typed, gives, expression_in, terms_in, of_written, binder_in, form_in}
use Rattle.tff_typing.specs.Rules.{DenotesType, DenoteTypes, IsNoConstructor, DenotesSymbol, DenotesExpression, DenoteTerms, DenotesWritten, DenotesForm}
use Rattle.tff_typing.proofs.Tables.{use_of}

-- the first step gives something, and so the next one begins with it
pub then_ok : {A B : Type 0} (r : Outcome A) (f : A → Outcome B) (x : A) (y : Outcome B) → r ≡ Ok x → f x ≡ y
    → (r >>= f) ≡ y
then_ok r f x y h i = rw h i

type_variable_given : (o : Option Bound) (n : ℕ) → o ≡ Some (record { number = n; binder = Binder.of_type })
    → type_variable o ≡ Ok (Ty.param n)
type_variable_given o n h = rw h refl

constructor_given : (o : Option Numbered) (d : Numbered) (n : ℕ) → o ≡ Some d → d.symbol.sense ≡ Sense.constructor
    → n ≡ arity d.symbol
    → constructor_at o n ≡ Ok d.number
constructor_given o d n h sense number =
    let k : (n == arity d.symbol) ≡ true = eq-eqb n (arity d.symbol) number in
    rw (h, k, sense) refl

module _ (table : Table) (s : Scope) where
  mutual
    pub type_given : (t : RawType) (u : Ty) → DenotesType table s t u → type_in table s t ≡ Ok u
    type_given t u DenotesType.of_individuals = refl
    type_given t u (DenotesType.type_variable {x = x} {n = n} h) = type_variable_given (look_up s x) n h
    type_given t u (DenotesType.constructed {c = c} {d = d} {ts = ts} {us = us} h sense number parts) =
        then_ok (constructor_at (declared table c) (number_of_types ts)) _ d.number _
        (constructor_given (declared table c) d (number_of_types ts) h sense number)
        (then_ok (types_in table s ts) _ us _ (types_given ts us parts) refl)

    pub types_given : (ts : RawTypes) (us : Tys) → DenoteTypes table s ts us → types_in table s ts ≡ Ok us
    types_given ts us DenoteTypes.no_types = refl
    types_given ts us (DenoteTypes.more_types {t = t} {ts = rs} {u = u} {us = vs} first later) =
        then_ok (type_in table s t) _ u _ (type_given t u first)
        (then_ok (types_in table s rs) _ vs _ (types_given rs vs later) refl)

if_symbol_given : (table : Table) (d : Numbered) (sense : Sense) → IsNoConstructor sense
    → if_symbol table d sense ≡ Ok (use_of table d)
if_symbol_given table d Sense.constructor h = absurd h
if_symbol_given table d Sense.predicate h = refl
if_symbol_given table d (Sense.function r) h = refl

module _ (table : Table) (place : Place) (x : Name) (n : ℕ) where
  declared_given : (o : Option Numbered) (d : Numbered) → o ≡ Some d → n ≡ arity d.symbol
      → IsNoConstructor d.symbol.sense
      → declared_or_used table place x n o ≡ Ok (use_of table d)
  declared_given o d h number sense =
      let k : (n == arity d.symbol) ≡ true = eq-eqb n (arity d.symbol) number in
      rw (h, k) (if_symbol_given table d d.symbol.sense sense)

  used_given : (o : Option Numbered) (d : Numbered) → o ≡ Some d → IsNoConstructor d.symbol.sense
      → used_or_new table place x n o ≡ Ok (use_of table d)
  used_given o d h sense = rw h (if_symbol_given table d d.symbol.sense sense)

  new_given : (o : Option Numbered) → o ≡ None → length table < most_symbols
      → used_or_new table place x n o
      ≡ Ok (use_of (with_entry table false (undeclared place x n))
      (record { number = suc (length table); symbol = undeclared place x n }))
  new_given o h room =
      let k : nat_lt (length table) most_symbols ≡ true = lt-ltb (length table) most_symbols room in
      rw (h, k) refl

  pub symbol_given : (d : Numbered) (after : Table) → DenotesSymbol table place x n d after
      → symbol_for table place x n ≡ Ok (use_of after d)
  symbol_given d after (DenotesSymbol.declared_before h number sense) =
      declared_given (declared table x) d h number sense
  symbol_given d after (DenotesSymbol.used_before h i sense) =
      ap (λ o. declared_or_used table place x n o) h ∙ used_given (used table x n) d i sense
  symbol_given d after (DenotesSymbol.used_first h i room) =
      ap (λ o. declared_or_used table place x n o) h ∙ new_given (used table x n) i room

term_variable_given : (o : Option Bound) (n : ℕ) (t : Ty) → o ≡ Some (record { number = n; binder = Binder.of_term t })
    → term_variable o ≡ Ok (Expression.term t (Term.eps n t))
term_variable_given o n t h = rw h refl

pub wanted_given : (w : Ty) (a : Term) → wanted w (Expression.term w a) ≡ Ok a
wanted_given w a = let k : same_type w w ≡ true = same_type-self w in rw k refl

-- the first parts are passed over
pub terms_after : (table : Table) (s : Scope) (n : ℕ) (ws : Tys) (us : RawTerms)
    → terms_in table s n ws us ≡ terms_in table s 0 ws (rest n us)
terms_after table s zero ws RawTerms.none = refl
terms_after table s (suc n) ws RawTerms.none = refl
terms_after table s zero ws (RawTerms.more u us) = refl
terms_after table s (suc n) ws (RawTerms.more u us) = terms_after table s n ws us

abbrev typed : {A : Type 0} → A → Table → Typed A
typed x table = record { tree = x; table = table }

mutual
  pub expression_given : (table : Table) (s : Scope) (place : Place) (u : RawTerm) (x : Expression) (after : Table)
      → DenotesExpression table s place u x after → expression_in table s place u ≡ Ok (typed x after)
  expression_given table s place u x after (DenotesExpression.term_variable {x = name} {n = n} {t = t} h) =
      then_ok (term_variable (look_up s name)) (λ y. gives table y) x _
      (term_variable_given (look_up s name) n t h) refl
  expression_given table s place u x after
      (DenotesExpression.at_arguments {middle = middle} {f = f} {us = us} {d = d} {ts = ts} {vs = vs} symbol types
      terms) =
      then_ok (symbol_for table place f (number_of_terms us)) _ (use_of middle d) _
      (symbol_given table place f (number_of_terms us) d middle symbol)
      (then_ok (types_in middle s (as_types (first d.symbol.types us))) _ ts _
      (types_given middle s (as_types (first d.symbol.types us)) ts types)
      (then_ok (terms_in middle s d.symbol.types (argument_types d.symbol ts) us) _ (typed vs after) _
      (terms_after middle s d.symbol.types (argument_types d.symbol ts) us
      ∙ terms_given middle s (rest d.symbol.types us) (argument_types d.symbol ts) vs after terms)
      refl))

  pub terms_given : (table : Table) (s : Scope) (us : RawTerms) (ws : Tys) (vs : Terms) (after : Table)
      → DenoteTerms table s us ws vs after → terms_in table s 0 ws us ≡ Ok (typed vs after)
  terms_given table s us ws vs after DenoteTerms.no_terms = refl
  terms_given table s us ws vs after
      (DenoteTerms.more_terms {middle = middle} {u = u} {us = parts} {w = w} {ws = types} {a = a} {vs = others} first
      later) =
      then_ok (expression_in table s Place.term u) _ (typed (Expression.term w a) middle) _
      (expression_given table s Place.term u (Expression.term w a) middle first)
      (then_ok (wanted w (Expression.term w a)) _ a _ (wanted_given w a)
      (then_ok (terms_in middle s 0 types parts) _ (typed others after) _
      (terms_given middle s parts types others after later) refl))

written_given : (table : Table) (s : Scope) (t : RawType) (u : Ty)
    → DenotesType table s t u
    → of_written table s t ≡ Ok (Binder.of_term u)
written_given table s t u DenotesType.of_individuals = refl
written_given table s t u (DenotesType.type_variable {x = x} h) =
    then_ok (type_in table s (RawType.variable x)) _ u _
    (type_given table s (RawType.variable x) u (DenotesType.type_variable h)) refl
written_given table s t u (DenotesType.constructed {c = c} {ts = ts} h sense number parts) =
    then_ok (type_in table s (RawType.named c ts)) _ u _
    (type_given table s (RawType.named c ts) u (DenotesType.constructed h sense number parts)) refl

binder_given : (table : Table) (s : Scope) (o : Option RawType) (t : Ty)
    → DenotesWritten table s o t
    → binder_in table s o ≡ Ok (Binder.of_term t)
binder_given table s o t DenotesWritten.unwritten = refl
binder_given table s o t (DenotesWritten.written {t = r} h) = written_given table s r t h

pub form_given : (table : Table) (s : Scope) (f : RawForm) (g : Form) (after : Table)
    → DenotesForm table s f g after → form_in table s f ≡ Ok (typed g after)
form_given table s f g after DenotesForm.truth = refl
form_given table s f g after DenotesForm.falsity = refl
form_given table s f g after (DenotesForm.atom {u = u} {p = p} {ts = ts} {us = us} h) =
    then_ok (expression_in table s Place.formula u) _ (typed (Expression.atom p ts us) after) _
    (expression_given table s Place.formula u (Expression.atom p ts us) after h) refl
form_given table s f g after
    (DenotesForm.equal {middle = middle} {left = left} {right = right} {t = t} {a = a} {b = b} h i) =
    then_ok (expression_in table s Place.term left) _ (typed (Expression.term t a) middle) _
    (expression_given table s Place.term left (Expression.term t a) middle h)
    (then_ok (wanted t (Expression.term t a)) _ a _ (wanted_given t a)
    (then_ok (expression_in middle s Place.term right) _ (typed (Expression.term t b) after) _
    (expression_given middle s Place.term right (Expression.term t b) after i)
    (then_ok (wanted t (Expression.term t b)) _ b _ (wanted_given t b) refl)))
form_given table s f g after (DenotesForm.negation {f = body} {g = tree} h) =
    then_ok (form_in table s body) _ (typed tree after) _ (form_given table s body tree after h) refl
form_given table s f g after (DenotesForm.binary {middle = middle} {f = left} {g = right} {a = a} {b = b} h i) =
    then_ok (form_in table s left) _ (typed a middle) _ (form_given table s left a middle h)
    (then_ok (form_in middle s right) _ (typed b after) _ (form_given middle s right b after i) refl)
form_given table s f g after (DenotesForm.quantified {q = q} {v = v} {t = t} {f = body} {g = tree} h i) =
    then_ok (binder_in table s v.type) _ (Binder.of_term t) _ (binder_given table s v.type t h)
    (then_ok (form_in table (record { name = v.name; binder = Binder.of_term t } ∷ s) body) _
    (typed tree after) _
    (form_given table (record { name = v.name; binder = Binder.of_term t } ∷ s)
    body tree after i) refl)
form_given table s f g after (DenotesForm.quantified_types {v = v} {f = body} {g = tree} h i) =
    then_ok (binder_in table s v.type) _ Binder.of_type _ (ap (λ o. binder_in table s o) h)
    (then_ok (form_in table (record { name = v.name; binder = Binder.of_type } ∷ s) body) _ (typed tree after) _
    (form_given table (record { name = v.name; binder = Binder.of_type } ∷ s) body tree after i) refl)
