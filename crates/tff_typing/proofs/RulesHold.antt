-- What the functions give for types, terms and formulas has a derivation by the rules.
use Rattle.std.proofs.Common.{◌≡◌, ℕ, zero, suc, ◌+◌, ◌==◌, Bool, true, false, ◌&&◌, Option, Some, None, Ok, ◌∷◌, length, nat_lt, refl, arith, ap, subst, ◌∙◌, eqb-true, ltb-true}
use Rattle.zm_logic.specs.Tree.{Ty, Tys, Term, Terms, Form, Sense, Binder}
use Rattle.zm_logic.specs.Opening.{openings}
use Rattle.zm_logic.specs.Same.{same_type}
use Rattle.zm_logic.specs.Typing.{individual, how_many, argument_types}
use Rattle.zm_logic.proofs.Sames.{same_type-true}
use Rattle.tptp_reader.specs.Raw.{Name, RawType, RawTypes, RawTerm, RawTerms, RawVariable, RawForm, Quantifier}
use Rattle.tff_typing.specs.Written.{as_types, number_of_types, number_of_terms, connective_of}
use Rattle.tff_typing.specs.Scope.{Scope, Variable, Bound, look_up}
use Rattle.tff_typing.specs.Table.{Table, Numbered, Place, arity, declared, used, used_as, undeclared, with_entry, most_symbols}
use Rattle.tff_typing.specs.Fault.{found_type, Fault, ◌>>=◌}
use Rattle.tff_typing.specs.Places.{if_type, type_variable, if_constructor, constructor_at, type_in, types_in, Use, if_symbol, new_symbol, used_or_new, declared_or_used, symbol_for, Expression, applied, if_term, term_variable, wanted, as_formula, first, rest}
use Rattle.tff_typing.specs.Typing.{Typed, gives, expression_in, terms_in, left_side, equality_in, of_written, binder_in, bind, form_in}
use Rattle.tff_typing.specs.Rules.{DenotesType, DenoteTypes, IsNoConstructor, DenotesSymbol, DenotesExpression, DenoteTerms, DenotesWritten, DenotesForm}
use Rattle.tff_typing.proofs.Outcomes.{both_ok, ok_same, no_ok, test_held}
use Rattle.zm_logic.proofs.TypeInstances.{how_many_instance}
use Rattle.tff_typing.proofs.Lookups.{first_found}
use Rattle.tff_typing.proofs.Tables.{use_of, used_number, how_many_individuals}

-- a constructor at as many types as it takes
record IsFound (o : Option Numbered) (n m : ℕ) : Type 0 where
  pub found : Numbered
  pub here : o ≡ Some found
  pub sense : found.symbol.sense ≡ Sense.constructor
  pub number : n ≡ arity found.symbol
  pub same : found.number ≡ m

sense_holds : (c m : ℕ) (sense : Sense) → if_constructor c sense ≡ Ok m → (sense ≡ Sense.constructor) × (c ≡ m)
sense_holds c m Sense.constructor h = (refl, ok_same c m h)
sense_holds c m Sense.predicate h = absurd (no_ok _ m h)
sense_holds c m (Sense.function r) h = absurd (no_ok _ m h)

constructor_holds : (o : Option Numbered) (n m : ℕ) → constructor_at o n ≡ Ok m → IsFound o n m
constructor_holds None n m h = absurd (no_ok _ m h)
constructor_holds (Some d) n m h =
    let a = test_held (n == arity d.symbol) (if_constructor d.number d.symbol.sense) Fault.arity m h in
    let b = sense_holds d.number m d.symbol.sense a.1 in
    record { found = d; here = refl; sense = b.0; number = eqb-true n (arity d.symbol) a.0; same = b.1 }

module _ (table : Table) (s : Scope) where
  binder_holds : (x : Name) (u : Ty) (n : ℕ) (b : Binder) → look_up s x ≡ Some (record { number = n; binder = b })
      → if_type n b ≡ Ok u
      → DenotesType table s (RawType.variable x) u
  binder_holds x u n Binder.of_type e h =
      subst (λ (y : Ty). DenotesType table s (RawType.variable x) y) (ok_same (Ty.param n) u h)
      (DenotesType.type_variable e)
  binder_holds x u n (Binder.of_term t) e h = absurd (no_ok _ u h)

  variable_holds : (x : Name) (u : Ty) (o : Option Bound) → look_up s x ≡ o → type_variable o ≡ Ok u
      → DenotesType table s (RawType.variable x) u
  variable_holds x u None e h = absurd (no_ok _ u h)
  variable_holds x u (Some b) e h = binder_holds x u b.number b.binder e h

  mutual
    pub type_holds : (t : RawType) (u : Ty) → type_in table s t ≡ Ok u → DenotesType table s t u
    type_holds RawType.individual u h =
        subst (λ (y : Ty). DenotesType table s RawType.individual y) (ok_same individual u h) DenotesType.of_individuals
    type_holds RawType.truth u h = absurd (no_ok _ u h)
    type_holds RawType.kind u h = absurd (no_ok _ u h)
    type_holds (RawType.variable x) u h = variable_holds x u (look_up s x) refl h
    type_holds (RawType.named c ts) u h =
        let a = both_ok (constructor_at (declared table c) (number_of_types ts)) _ u h in
        let b = both_ok (types_in table s ts) _ u a.2 in
        let d = constructor_holds (declared table c) (number_of_types ts) a.0 a.1 in
        subst (λ (y : Ty). DenotesType table s (RawType.named c ts) y)
        (ap (λ (m : ℕ). Ty.con m b.0) d.same ∙ ok_same (Ty.con a.0 b.0) u b.2)
        (DenotesType.constructed d.here d.sense d.number (types_hold ts b.0 b.1))

    pub types_hold : (ts : RawTypes) (us : Tys) → types_in table s ts ≡ Ok us → DenoteTypes table s ts us
    types_hold RawTypes.none us h =
        subst (λ (y : Tys). DenoteTypes table s RawTypes.none y) (ok_same Tys.none us h) DenoteTypes.no_types
    types_hold (RawTypes.more t ts) us h =
        let a = both_ok (type_in table s t) _ us h in
        let b = both_ok (types_in table s ts) _ us a.2 in
        subst (λ (y : Tys). DenoteTypes table s (RawTypes.more t ts) y) (ok_same (Tys.more a.0 b.0) us b.2)
        (DenoteTypes.more_types (type_holds t a.0 a.1) (types_hold ts b.0 b.1))

if_symbol_holds : (table : Table) (d : Numbered) (sense : Sense) (u : Use) → if_symbol table d sense ≡ Ok u
    → IsNoConstructor sense × (use_of table d ≡ u)
if_symbol_holds table d Sense.constructor u h = absurd (no_ok _ u h)
if_symbol_holds table d Sense.predicate u h = (tt, ok_same (use_of table d) u h)
if_symbol_holds table d (Sense.function r) u h = (tt, ok_same (use_of table d) u h)

module _ (table : Table) (place : Place) (x : Name) (n : ℕ) where
  new_holds : (u : Use) → declared table x ≡ None → used table x n ≡ None
      → new_symbol table false (undeclared place x n) ≡ Ok u
      → DenotesSymbol table place x n u.found u.table
  new_holds u d e h =
      let made = use_of (with_entry table false (undeclared place x n))
      (record { number = suc (length table); symbol = undeclared place x n }) in
      let a = test_held (nat_lt (length table) most_symbols) (Ok made) Fault.too_many_symbols u h in
      subst (λ (y : Use). DenotesSymbol table place x n y.found y.table) (ok_same made u a.1)
      (DenotesSymbol.used_first d e (ltb-true (length table) most_symbols a.0))

  used_holds : (u : Use) (o : Option Numbered) → declared table x ≡ None → used table x n ≡ o
      → used_or_new table place x n o ≡ Ok u
      → DenotesSymbol table place x n u.found u.table
  used_holds u None d e h = new_holds u d e h
  used_holds u (Some y) d e h =
      let a = if_symbol_holds table y y.symbol.sense u h in
      subst (λ (y : Use). DenotesSymbol table place x n y.found y.table) a.1 (DenotesSymbol.used_before d e a.0)

  declared_holds : (u : Use) (o : Option Numbered) → declared table x ≡ o → declared_or_used table place x n o ≡ Ok u
      → DenotesSymbol table place x n u.found u.table
  declared_holds u None d h = used_holds u (used table x n) d refl h
  declared_holds u (Some y) d h =
      let a = test_held (n == arity y.symbol) (if_symbol table y y.symbol.sense) Fault.arity u h in
      let b = if_symbol_holds table y y.symbol.sense u a.1 in
      subst (λ (y : Use). DenotesSymbol table place x n y.found y.table) b.1
      (DenotesSymbol.declared_before d (eqb-true n (arity y.symbol) a.0) b.0)

  pub symbol_holds : (u : Use) → symbol_for table place x n ≡ Ok u → DenotesSymbol table place x n u.found u.table
  symbol_holds u h = declared_holds u (declared table x) refl h

-- a symbol takes as many types and terms as there are arguments
number_holds : (table : Table) (place : Place) (x : Name) (n : ℕ) (d : Numbered) (after : Table)
    → DenotesSymbol table place x n d after → n ≡ arity d.symbol
number_holds table place x n d after (DenotesSymbol.declared_before h number sense) = number
number_holds table place x n d after (DenotesSymbol.used_before h i sense) =
    let f = first_found 1 (used_as x n) table d i in
    used_number x n f.entry d.symbol f.same f.passes
number_holds table place x n d after (DenotesSymbol.used_first h i room) = omega (arith, how_many_individuals n)

module _ (table : Table) (s : Scope) (place : Place) where
  abbrev IsDenoted : RawTerm → Typed Expression → Type 0
  IsDenoted u e = DenotesExpression table s place u e.tree e.table

  bound_holds : (x : Name) (e : Expression) (n : ℕ) (b : Binder)
      → look_up s x ≡ Some (record { number = n; binder = b }) → if_term n b ≡ Ok e
      → DenotesExpression table s place (RawTerm.variable x) e table
  bound_holds x e n Binder.of_type i h = absurd (no_ok _ e h)
  bound_holds x e n (Binder.of_term t) i h =
      subst (λ (y : Expression). DenotesExpression table s place (RawTerm.variable x) y table)
      (ok_same (Expression.term t (Term.eps n t)) e h)
      (DenotesExpression.term_variable i)

  term_variable_holds : (x : Name) (e : Expression) (o : Option Bound) → look_up s x ≡ o → term_variable o ≡ Ok e
      → DenotesExpression table s place (RawTerm.variable x) e table
  term_variable_holds x e None i h = absurd (no_ok _ e h)
  term_variable_holds x e (Some b) i h = bound_holds x e b.number b.binder i h

-- the expression of a wanted type is a term of it
wanted_holds : (w : Ty) (e : Expression) (a : Term) → wanted w e ≡ Ok a → e ≡ Expression.term w a
wanted_holds w (Expression.term t u) a h =
    let b = test_held (same_type t w) (Ok u) (Fault.mismatch (found_type w) (found_type t)) a h in
    let i = same_type-true t w b.0 in
    let j = ok_same u a b.1 in
    cc
wanted_holds w (Expression.atom p ts us) a h = absurd (no_ok _ a h)

abbrev typed : {A : Type 0} → A → Table → Typed A
typed x table = record { tree = x; table = table }

-- after n parts there are so many fewer
number_after : (n : ℕ) (us : RawTerms) (m : ℕ) → number_of_terms us ≡ n + m → number_of_terms (rest n us) ≡ m
number_after zero us m h = omega (arith, h)
number_after (suc n) RawTerms.none m h = absurd (omega (arith, h))
number_after (suc n) (RawTerms.more u us) m h = number_after n us m (omega (arith, h))

mutual
  pub expression_holds : (table : Table) (s : Scope) (place : Place) (u : RawTerm) (e : Typed Expression)
      → expression_in table s place u ≡ Ok e → DenotesExpression table s place u e.tree e.table
  expression_holds table s place RawTerm.individual e h = absurd (no_ok _ e h)
  expression_holds table s place RawTerm.truth e h = absurd (no_ok _ e h)
  expression_holds table s place (RawTerm.variable x) e h =
      let a = both_ok (term_variable (look_up s x)) (λ y. gives table y) e h in
      subst (λ (y : Typed Expression). IsDenoted table s place (RawTerm.variable x) y) (ok_same (typed a.0 table) e a.2)
      (term_variable_holds table s place x a.0 (look_up s x) refl a.1)
  expression_holds table s place (RawTerm.named f us) e h =
      let a = both_ok (symbol_for table place f (number_of_terms us)) _ e h in
      let d = a.0.found.symbol in
      let b = both_ok (types_in a.0.table s (as_types (first d.types us))) _ e a.2 in
      let c = both_ok (terms_in a.0.table s d.types (argument_types d b.0) us) _ e b.2 in
      let symbol = symbol_holds table place f (number_of_terms us) a.0 a.1 in
      let n = number_holds table place f (number_of_terms us) a.0.found a.0.table symbol in
      let m = how_many_instance (openings b.0) d.arguments in
      subst (λ (y : Typed Expression). IsDenoted table s place (RawTerm.named f us) y)
      (ok_same (typed (applied a.0.found.number b.0 c.0.tree d.sense) c.0.table) e c.2)
      (DenotesExpression.at_arguments symbol
      (types_hold a.0.table s (as_types (first d.types us)) b.0 b.1)
      (terms_hold a.0.table s d.types (argument_types d b.0) us c.0 (omega (arith, n, m)) c.1))

  pub terms_hold : (table : Table) (s : Scope) (n : ℕ) (ws : Tys) (us : RawTerms) (e : Typed Terms)
      → number_of_terms us ≡ n + how_many ws → terms_in table s n ws us ≡ Ok e
      → DenoteTerms table s (rest n us) ws e.tree e.table
  terms_hold table s zero Tys.none RawTerms.none e k h =
      subst (λ (y : Typed Terms). DenoteTerms table s RawTerms.none Tys.none y.tree y.table)
      (ok_same (typed Terms.none table) e h) DenoteTerms.no_terms
  terms_hold table s zero (Tys.more w ws) RawTerms.none e k h = absurd (omega arith)
  terms_hold table s (suc n) ws RawTerms.none e k h = absurd (omega arith)
  terms_hold table s (suc n) ws (RawTerms.more u us) e k h = terms_hold table s n ws us e (omega arith) h
  terms_hold table s zero Tys.none (RawTerms.more u us) e k h = absurd (omega arith)
  terms_hold table s zero (Tys.more w ws) (RawTerms.more u us) e k h =
      let a = both_ok (expression_in table s Place.term u) _ e h in
      let b = both_ok (wanted w a.0.tree) _ e a.2 in
      let c = both_ok (terms_in a.0.table s zero ws us) _ e b.2 in
      let x = expression_holds table s Place.term u a.0 a.1 in
      subst (λ (y : Typed Terms). DenoteTerms table s (RawTerms.more u us) (Tys.more w ws) y.tree y.table)
      (ok_same (typed (Terms.more b.0 c.0.tree) c.0.table) e c.2)
      (DenoteTerms.more_terms
      (subst (λ (y : Expression). DenotesExpression table s Place.term u y a.0.table)
      (wanted_holds w a.0.tree b.0 b.1) x)
      (terms_hold a.0.table s zero ws us c.0 (omega arith) c.1))

-- what a quantifier binds: a variable of a type, or a type variable
data Binds (table : Table) (s : Scope) (o : Option RawType) : Binder → Type 0 where
  a_term : {t : Ty} → DenotesWritten table s o t → Binds table s o (Binder.of_term t)
  a_type : o ≡ Some RawType.kind → Binds table s o Binder.of_type

module _ (table : Table) (s : Scope) where
  type_binds : (t : RawType) (b : Binder)
      → (type_in table s t >>= λ u. Ok (Binder.of_term u)) ≡ Ok b
      → Binds table s (Some t) b
  type_binds t b h =
      let a = both_ok (type_in table s t) _ b h in
      subst (λ (y : Binder). Binds table s (Some t) y) (ok_same (Binder.of_term a.0) b a.2)
      (Binds.a_term (DenotesWritten.written (type_holds table s t a.0 a.1)))

  written_binds : (t : RawType) (b : Binder) → of_written table s t ≡ Ok b
      → Binds table s (Some t) b
  written_binds RawType.kind b h =
      subst (λ (y : Binder). Binds table s (Some RawType.kind) y) (ok_same Binder.of_type b h) (Binds.a_type refl)
  written_binds RawType.individual b h =
      subst (λ (y : Binder). Binds table s (Some RawType.individual) y)
      (ok_same (Binder.of_term individual) b h)
      (Binds.a_term (DenotesWritten.written DenotesType.of_individuals))
  written_binds RawType.truth b h = absurd (no_ok _ b h)
  written_binds (RawType.variable x) b h = type_binds (RawType.variable x) b h
  written_binds (RawType.named c ts) b h = type_binds (RawType.named c ts) b h

  binder_binds : (o : Option RawType) (b : Binder) → binder_in table s o ≡ Ok b
      → Binds table s o b
  binder_binds None b h =
      subst (λ (y : Binder). Binds table s None y) (ok_same (Binder.of_term individual) b h)
      (Binds.a_term DenotesWritten.unwritten)
  binder_binds (Some t) b h = written_binds t b h

  bound_form_holds : (q : Quantifier) (v : RawVariable) (f : RawForm) (b : Binder) (g : Form)
      (after : Table) → Binds table s v.type b
      → DenotesForm table (record { name = v.name; binder = b } ∷ s) f g after
      → DenotesForm table s (RawForm.quantified q v f) (bind q b (length s) g) after
  bound_form_holds q v f b g after (Binds.a_term h) body = DenotesForm.quantified h body
  bound_form_holds q v f b g after (Binds.a_type h) body = DenotesForm.quantified_types h body

abbrev HasForm : Table → Scope → RawForm → Typed Form → Type 0
HasForm table s f e = DenotesForm table s f e.tree e.table

-- a derivation of the tree that is given
given_form : (table : Table) (s : Scope) (f : RawForm) (g : Form) (after : Table) (e : Typed Form)
    → gives after g ≡ Ok e → DenotesForm table s f g after → HasForm table s f e
given_form table s f g after e h d =
    subst (λ (z : Typed Form). HasForm table s f z) (ok_same (typed g after) e h) d

-- a formula's place takes an atom
as_formula_holds : (table after : Table) (s : Scope) (u : RawTerm) (x : Expression) (g : Form)
    → as_formula x ≡ Ok g → DenotesExpression table s Place.formula u x after
    → DenotesForm table s (RawForm.plain u) g after
as_formula_holds table after s u (Expression.term t a) g h d = absurd (no_ok _ g h)
as_formula_holds table after s u (Expression.atom p ts us) g h d =
    subst (λ (y : Form). DenotesForm table s (RawForm.plain u) y after) (ok_same (Form.atom p ts us) g h)
    (DenotesForm.atom d)

sides_hold : (table : Table) (s : Scope) (left right : RawTerm) (x y : Typed Expression) (t : Ty)
    (a b : Term)
    → DenotesExpression table s Place.term left x.tree x.table → wanted t x.tree ≡ Ok a
    → DenotesExpression x.table s Place.term right y.tree y.table → wanted t y.tree ≡ Ok b
    → DenotesForm table s (RawForm.equal left right) (Form.equal t a b) y.table
sides_hold table s left right x y t a b i wx j wy =
    DenotesForm.equal
    (subst (λ (z : Expression). DenotesExpression table s Place.term left z x.table) (wanted_holds t x.tree a wx) i)
    (subst (λ (z : Expression). DenotesExpression x.table s Place.term right z y.table) (wanted_holds t y.tree b wy) j)

equality_holds : (table : Table) (s : Scope) (left right : RawTerm) (e : Typed Form)
    → equality_in table s left right ≡ Ok e → HasForm table s (RawForm.equal left right) e
equality_holds table s left right e h =
    let x = both_ok (expression_in table s Place.term left) _ e h in
    let t = both_ok (left_side x.0.tree) _ e x.2 in
    let a = both_ok (wanted t.0 x.0.tree) _ e t.2 in
    let y = both_ok (expression_in x.0.table s Place.term right) _ e a.2 in
    let b = both_ok (wanted t.0 y.0.tree) _ e y.2 in
    given_form table s (RawForm.equal left right) (Form.equal t.0 a.0 b.0) y.0.table e b.2
    (sides_hold table s left right x.0 y.0 t.0 a.0 b.0 (expression_holds table s Place.term left x.0 x.1) a.1
    (expression_holds x.0.table s Place.term right y.0 y.1) b.1)

pub form_holds : (table : Table) (s : Scope) (f : RawForm) (e : Typed Form)
    → form_in table s f ≡ Ok e → DenotesForm table s f e.tree e.table
form_holds table s RawForm.truth e h =
    given_form table s RawForm.truth Form.truth table e h DenotesForm.truth
form_holds table s RawForm.falsity e h =
    given_form table s RawForm.falsity Form.falsity table e h DenotesForm.falsity
form_holds table s (RawForm.plain u) e h =
    let a = both_ok (expression_in table s Place.formula u) _ e h in
    let b = both_ok (as_formula a.0.tree) _ e a.2 in
    given_form table s (RawForm.plain u) b.0 a.0.table e b.2
    (as_formula_holds table a.0.table s u a.0.tree b.0 b.1 (expression_holds table s Place.formula u a.0 a.1))
form_holds table s (RawForm.equal left right) e h = equality_holds table s left right e h
form_holds table s (RawForm.negation f) e h =
    let a = both_ok (form_in table s f) _ e h in
    given_form table s (RawForm.negation f) (Form.negation a.0.tree) a.0.table e a.2
    (DenotesForm.negation (form_holds table s f a.0 a.1))
form_holds table s (RawForm.binary c f g) e h =
    let a = both_ok (form_in table s f) _ e h in
    let b = both_ok (form_in a.0.table s g) _ e a.2 in
    given_form table s (RawForm.binary c f g) (Form.binary (connective_of c) a.0.tree b.0.tree) b.0.table e b.2
    (DenotesForm.binary (form_holds table s f a.0 a.1) (form_holds a.0.table s g b.0 b.1))
form_holds table s (RawForm.quantified q v f) e h =
    let a = both_ok (binder_in table s v.type) _ e h in
    let w : Variable = record { name = v.name; binder = a.0 } in
    let b = both_ok (form_in table (w ∷ s) f) _ e a.2 in
    given_form table s (RawForm.quantified q v f) (bind q a.0 (length s) b.0.tree) b.0.table e b.2
    (bound_form_holds table s q v f a.0 b.0.tree b.0.table (binder_binds table s v.type a.0 a.1)
    (form_holds table (w ∷ s) f b.0 b.1))
