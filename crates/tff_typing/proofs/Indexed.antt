-- The trees that one walk builds are those of typing, with an index for each variable in scope.
use Rattle.std.proofs.Common.{◌≡◌, ℕ, zero, suc, ◌+◌, ◌-◌, ◌==◌, Bool, true, false, ◌&&◌, if◌then◌else◌, Option, Some, None, Ok, Err, List, [], ◌∷◌, length, nat_lt, refl, arith, sym, ap, subst, ◌∙◌}
use Rattle.std.proofs.lemmas.Bool.{eqb-true}
use Rattle.zm_logic.proofs.TypeInstances.{length_openings}
use Rattle.zm_logic.specs.Tree.{Ty, Tys, Term, Terms, Form, Sense, Binder, Connective, Opening}
use Rattle.zm_logic.specs.Same.{same_type}
use Rattle.zm_logic.specs.Typing.{how_many, argument_types}
use Rattle.zm_logic.specs.Opening.{close_type, close_types, close_term, close_terms, close_at, open_type, open_types, type_instance, types_instance, openings}
use Rattle.zm_logic.specs.Index.{IsClosedType, AreClosedTypes}
use Rattle.zm_logic.specs.Parameter.{Never, EachInType, EachInTypes, EachInTerm, EachInTerms, HasNoParameter}
use Rattle.tptp_reader.specs.Raw.{Name, RawType, RawTypes, RawTerm, RawTerms, RawForm, Quantifier}
use Rattle.tff_typing.specs.Written.{as_types, number_of_types, number_of_terms, connective_of, quantifier_of}
use Rattle.tff_typing.specs.Scope.{Scope, Bound, look_up}
use Rattle.tff_typing.specs.Table.{Table, Numbered, Place, arity, declared, used, undeclared, with_entry, most_symbols}
use Rattle.tff_typing.specs.Fault.{found_type, Fault, Outcome, ◌>>=◌}
use Rattle.tff_typing.specs.Places.{type_variable, if_type, constructor_at, type_in, types_in, Use, if_symbol, new_symbol, used_or_new, declared_or_used, symbol_for, Expression, applied, term_variable, if_term, wanted, as_formula, first}
use Rattle.tff_typing.specs.Typing.{Typed, gives, unchanged, expression_in, terms_in, left_side, equality_in, binder_in, bind, form_in}
use Rattle.tff_typing.specs.Statements.{indexed, all_indexed}
use Rattle.tff_typing.specs.Indexed.{indexed_term, indexed_terms, indexed_form, indexed_expression, picked, filled, all_filled, if_indexed_term, indexed_variable, Taken, taken_of, taken_if, taken_with, new_taken, used_taken, declared_taken, symbol_at, Head, head_of, applied_at, expression_at, terms_at, side_with, side_of, equality_at, indexed_binder, bind_at, plain_at, form_at}
use Rattle.tff_typing.proofs.Outcomes.{both_ok, ok_same, no_ok}

-- closing the parameter of the outermost variable changes nothing once each parameter is an index
mutual
  closed_type : (j n : ℕ) (t : Ty) → indexed (suc (j + n)) (close_type j n t) ≡ indexed (suc (j + n)) t
  closed_type j n (Ty.bound i) = refl
  closed_type j n (Ty.param m) = go (m == n) refl
    where
      go : (b : Bool) → (m == n) ≡ b
          → indexed (suc (j + n)) (if b then Ty.bound j else Ty.param m) ≡ Ty.bound (suc (j + n) - suc m)
      go true e = let i : m ≡ n = eqb-true m n e in let k : suc (j + n) - suc m ≡ j = omega arith in ap Ty.bound (sym k)
      go false e = refl
  closed_type j n (Ty.meta m) = refl
  closed_type j n (Ty.con c ts) = ap (Ty.con c) (closed_types j n ts)

  closed_types : (j n : ℕ) (ts : Tys) → all_indexed (suc (j + n)) (close_types j n ts) ≡ all_indexed (suc (j + n)) ts
  closed_types j n Tys.none = refl
  closed_types j n (Tys.more t ts) = cc (closed_type j n t, closed_types j n ts)

mutual
  closed_term : (j n : ℕ) (u : Term) → indexed_term (suc (j + n)) (close_term j n u) ≡ indexed_term (suc (j + n)) u
  closed_term j n (Term.bound i) = refl
  closed_term j n (Term.eps m t) = go (m == n) refl
    where
      go : (b : Bool) → (m == n) ≡ b
          → indexed_term (suc (j + n)) (if b then Term.bound j else Term.eps m (close_type j n t))
          ≡ Term.bound (suc (j + n) - suc m)
      go true e =
          let i : m ≡ n = eqb-true m n e in let k : suc (j + n) - suc m ≡ j = omega arith in ap Term.bound (sym k)
      go false e = refl
  closed_term j n (Term.meta m t) = ap (Term.meta m) (closed_type j n t)
  closed_term j n (Term.app f ts us) = cc (closed_types j n ts, closed_terms j n us)

  closed_terms : (j n : ℕ) (us : Terms)
      → indexed_terms (suc (j + n)) (close_terms j n us) ≡ indexed_terms (suc (j + n)) us
  closed_terms j n Terms.none = refl
  closed_terms j n (Terms.more u us) = cc (closed_term j n u, closed_terms j n us)

closed_form : (j n k : ℕ) (f : Form) → k ≡ suc (j + n) → indexed_form k (close_at j n f) ≡ indexed_form k f
closed_form j n k Form.truth e = refl
closed_form j n k Form.falsity e = refl
closed_form j n k (Form.atom p ts us) e = rw e (cc (closed_types j n ts, closed_terms j n us))
closed_form j n k (Form.equal t a b) e = rw e (cc (closed_type j n t, closed_term j n a, closed_term j n b))
closed_form j n k (Form.negation f) e = ap Form.negation (closed_form j n k f e)
closed_form j n k (Form.binary c f g) e = cc (closed_form j n k f e, closed_form j n k g e)
closed_form j n k (Form.quantified q t f) e =
    let i : indexed k (close_type j n t) ≡ indexed k t = rw e (closed_type j n t) in
    cc (i, closed_form (j + 1) n (suc k) f (omega (arith, e)))
closed_form j n k (Form.quantified_types q f) e = ap (Form.quantified_types q) (closed_form (j + 1) n (suc k) f (omega (arith, e)))

-- a tree with no parameter stays as it is
mutual
  indexed_free : (k : ℕ) (t : Ty) → EachInType Never t → indexed k t ≡ t
  indexed_free k (Ty.bound i) h = refl
  indexed_free k (Ty.param n) h = absurd h
  indexed_free k (Ty.meta n) h = refl
  indexed_free k (Ty.con c ts) h = ap (Ty.con c) (all_indexed_free k ts h)

  all_indexed_free : (k : ℕ) (ts : Tys) → EachInTypes Never ts → all_indexed k ts ≡ ts
  all_indexed_free k Tys.none h = refl
  all_indexed_free k (Tys.more t ts) h = cc (indexed_free k t h.0, all_indexed_free k ts h.1)

mutual
  indexed_term_free : (k : ℕ) (u : Term) → EachInTerm Never u → indexed_term k u ≡ u
  indexed_term_free k (Term.bound i) h = refl
  indexed_term_free k (Term.eps n t) h = absurd h.0
  indexed_term_free k (Term.meta n t) h = absurd h.0
  indexed_term_free k (Term.app f ts us) h = cc (all_indexed_free k ts h.0, indexed_terms_free k us h.1)

  indexed_terms_free : (k : ℕ) (us : Terms) → EachInTerms Never us → indexed_terms k us ≡ us
  indexed_terms_free k Terms.none h = refl
  indexed_terms_free k (Terms.more u us) h = cc (indexed_term_free k u h.0, indexed_terms_free k us h.1)

pub indexed_form_free : (k : ℕ) (f : Form) → HasNoParameter f → indexed_form k f ≡ f
indexed_form_free k Form.truth h = refl
indexed_form_free k Form.falsity h = refl
indexed_form_free k (Form.atom p ts us) h = cc (all_indexed_free k ts h.0, indexed_terms_free k us h.1)
indexed_form_free k (Form.equal t a b) h =
    cc (indexed_free k t h.0, indexed_term_free k a h.1, indexed_term_free k b h.2)
indexed_form_free k (Form.negation f) h = ap Form.negation (indexed_form_free k f h)
indexed_form_free k (Form.binary c f g) h = cc (indexed_form_free k f h.0, indexed_form_free k g h.1)
indexed_form_free k (Form.quantified q t f) h = cc (indexed_free k t h.0, indexed_form_free (suc k) f h.1)
indexed_form_free k (Form.quantified_types q f) h = ap (Form.quantified_types q) (indexed_form_free (suc k) f h)

-- types put in one after the other, or all at once
mutual
  open_closed : (k : ℕ) (o : Opening) (t : Ty) → IsClosedType 0 t → open_type k o t ≡ t
  open_closed k o (Ty.bound i) h = absurd (omega (arith, h))
  open_closed k o (Ty.param n) h = refl
  open_closed k o (Ty.meta n) h = refl
  open_closed k o (Ty.con c ts) h = ap (Ty.con c) (opens_closed k o ts h)

  opens_closed : (k : ℕ) (o : Opening) (ts : Tys) → AreClosedTypes 0 ts → open_types k o ts ≡ ts
  opens_closed k o Tys.none h = refl
  opens_closed k o (Tys.more t ts) h = cc (open_closed k o t h.0, opens_closed k o ts h.1)

instance_closed : (os : List Opening) (t : Ty) → IsClosedType 0 t → type_instance os t ≡ t
instance_closed [] t h = refl
instance_closed (o ∷ os) t h = rw (open_closed (length os) o t h) (instance_closed os t h)

picked_step : (ts : Tys) (t : Ty) (i n : ℕ) → n ≡ how_many ts → IsClosedType 0 t
    → type_instance (openings ts) (Ty.bound i) ≡ picked ts i
    → type_instance (openings ts) (if i == n then t else Ty.bound i) ≡ (if i == how_many ts then t else picked ts i)
picked_step ts t i n e h r = rw e (go (i == how_many ts))
  where
    go : (b : Bool) → type_instance (openings ts) (if b then t else Ty.bound i) ≡ (if b then t else picked ts i)
    go true = instance_closed (openings ts) t h
    go false = r

bound_instance : (ts : Tys) (i : ℕ) → AreClosedTypes 0 ts → type_instance (openings ts) (Ty.bound i) ≡ picked ts i
bound_instance Tys.none i h = refl
bound_instance (Tys.more t ts) i h =
    picked_step ts t i (length (openings ts)) (length_openings ts) h.0 (bound_instance ts i h.1)

param_instance : (os : List Opening) (n : ℕ) → type_instance os (Ty.param n) ≡ Ty.param n
param_instance [] n = refl
param_instance (o ∷ os) n = param_instance os n

meta_instance : (os : List Opening) (n : ℕ) → type_instance os (Ty.meta n) ≡ Ty.meta n
meta_instance [] n = refl
meta_instance (o ∷ os) n = meta_instance os n

con_instance : (os : List Opening) (c : ℕ) (us : Tys) → type_instance os (Ty.con c us) ≡ Ty.con c (types_instance os us)
con_instance [] c us = refl
con_instance (o ∷ os) c us = con_instance os c (open_types (length os) o us)

none_instance : (os : List Opening) → types_instance os Tys.none ≡ Tys.none
none_instance [] = refl
none_instance (o ∷ os) = none_instance os

more_instance : (os : List Opening) (u : Ty) (us : Tys)
    → types_instance os (Tys.more u us) ≡ Tys.more (type_instance os u) (types_instance os us)
more_instance [] u us = refl
more_instance (o ∷ os) u us = more_instance os (open_type (length os) o u) (open_types (length os) o us)

mutual
  pub instance_filled : (ts : Tys) (u : Ty) → AreClosedTypes 0 ts → type_instance (openings ts) u ≡ filled ts u
  instance_filled ts (Ty.bound i) h = bound_instance ts i h
  instance_filled ts (Ty.param n) h = param_instance (openings ts) n
  instance_filled ts (Ty.meta n) h = meta_instance (openings ts) n
  instance_filled ts (Ty.con c us) h = con_instance (openings ts) c us ∙ ap (Ty.con c) (instances_filled ts us h)

  pub instances_filled : (ts us : Tys) → AreClosedTypes 0 ts → types_instance (openings ts) us ≡ all_filled ts us
  instances_filled ts Tys.none h = none_instance (openings ts)
  instances_filled ts (Tys.more u us) h =
      more_instance (openings ts) u us ∙ cc (instance_filled ts u h, instances_filled ts us h)

-- a written type has no index
binder_closed : (n : ℕ) (b : Binder) (u : Ty) → if_type n b ≡ Ok u → IsClosedType 0 u
binder_closed n Binder.of_type u h = subst (λ (y : Ty). IsClosedType 0 y) (ok_same (Ty.param n) u h) tt
binder_closed n (Binder.of_term t) u h = absurd (no_ok _ u h)

variable_closed : (o : Option Bound) (u : Ty) → type_variable o ≡ Ok u → IsClosedType 0 u
variable_closed None u h = absurd (no_ok _ u h)
variable_closed (Some b) u h = binder_closed b.number b.binder u h

mutual
  type_closed : (table : Table) (s : Scope) (t : RawType) (u : Ty) → type_in table s t ≡ Ok u → IsClosedType 0 u
  type_closed table s RawType.individual u h = subst (λ (y : Ty). IsClosedType 0 y) (ok_same (Ty.con 0 Tys.none) u h) tt
  type_closed table s RawType.truth u h = absurd (no_ok _ u h)
  type_closed table s RawType.kind u h = absurd (no_ok _ u h)
  type_closed table s (RawType.variable x) u h = variable_closed (look_up s x) u h
  type_closed table s (RawType.named c ts) u h =
      let a = both_ok (constructor_at (declared table c) (number_of_types ts)) _ u h in
      let b = both_ok (types_in table s ts) _ u a.2 in
      subst (λ (y : Ty). IsClosedType 0 y) (ok_same (Ty.con a.0 b.0) u b.2) (types_closed table s ts b.0 b.1)

  types_closed : (table : Table) (s : Scope) (ts : RawTypes) (us : Tys) → types_in table s ts ≡ Ok us
      → AreClosedTypes 0 us
  types_closed table s RawTypes.none us h = subst (λ (y : Tys). AreClosedTypes 0 y) (ok_same Tys.none us h) tt
  types_closed table s (RawTypes.more t ts) us h =
      let a = both_ok (type_in table s t) _ us h in
      let b = both_ok (types_in table s ts) _ us a.2 in
      subst (λ (y : Tys). AreClosedTypes 0 y) (ok_same (Tys.more a.0 b.0) us b.2)
      (type_closed table s t a.0 a.1, types_closed table s ts b.0 b.1)

abbrev shown_expression : ℕ → Outcome (Typed Expression) → Outcome (Typed Expression)
shown_expression k r = r >>= λ x. gives x.table (indexed_expression k x.tree)

abbrev shown_terms : ℕ → Outcome (Typed Terms) → Outcome (Typed Terms)
shown_terms k r = r >>= λ x. gives x.table (indexed_terms k x.tree)

abbrev pub shown_form : ℕ → Outcome (Typed Form) → Outcome (Typed Form)
shown_form k r = r >>= λ x. gives x.table (indexed_form k x.tree)

variable_shown : (table : Table) (k : ℕ) (o : Option Bound)
    → unchanged table (indexed_variable k o) ≡ shown_expression k (unchanged table (term_variable o))
variable_shown table k None = refl
variable_shown table k (Some b) = go b.binder
  where
    go : (x : Binder)
        → unchanged table (if_indexed_term k b.number x) ≡ shown_expression k (unchanged table (if_term b.number x))
    go Binder.of_type = refl
    go (Binder.of_term t) = refl

applied_shown : (k f : ℕ) (ts : Tys) (us : Terms) (sense : Sense) → AreClosedTypes 0 ts
    → applied_at k f ts (indexed_terms k us) sense ≡ indexed_expression k (applied f ts us sense)
applied_shown k f ts us Sense.constructor h = refl
applied_shown k f ts us Sense.predicate h = refl
applied_shown k f ts us (Sense.function r) h = rw (instance_filled ts r h) refl

wanted_shown : (k : ℕ) (w : Ty) (x : Expression)
    → wanted w (indexed_expression k x) ≡ (wanted w x >>= λ a. Ok (indexed_term k a))
wanted_shown k w (Expression.term t u) = go (same_type t w)
  where
    go : (b : Bool) → (if b then Ok (indexed_term k u) else Err (Fault.mismatch (found_type w) (found_type t)))
        ≡ ((if b then Ok u else Err (Fault.mismatch (found_type w) (found_type t))) >>= λ a. Ok (indexed_term k a))
    go true = refl
    go false = refl
wanted_shown k w (Expression.atom p ts us) = refl

abbrev rest_of_terms : ℕ → (Table → Outcome (Typed Terms)) → Ty → Typed Expression → Outcome (Typed Terms)
rest_of_terms k next w x = wanted w x.tree >>= λ a. next x.table >>= λ vs. gives vs.table (Terms.more a vs.tree)

more_shown : (k : ℕ) (w : Ty) (at inside : Table → Outcome (Typed Terms))
    → ((t : Table) → at t ≡ shown_terms k (inside t)) → (r : Outcome (Typed Expression))
    → (shown_expression k r >>= rest_of_terms k at w) ≡ shown_terms k (r >>= rest_of_terms k inside w)
more_shown k w at inside h (Err e) = refl
more_shown k w at inside h (Ok x) = rw (wanted_shown k w x.tree) (go (wanted w x.tree))
  where
    last : (a : Term) (r : Outcome (Typed Terms))
        → (shown_terms k r >>= λ vs. gives vs.table (Terms.more (indexed_term k a) vs.tree))
        ≡ shown_terms k (r >>= λ vs. gives vs.table (Terms.more a vs.tree))
    last a (Ok vs) = refl
    last a (Err e) = refl

    go : (r : Outcome Term)
        → ((r >>= λ a. Ok (indexed_term k a)) >>= λ a. at x.table >>= λ vs. gives vs.table (Terms.more a vs.tree))
        ≡ shown_terms k (r >>= λ a. inside x.table >>= λ vs. gives vs.table (Terms.more a vs.tree))
    go (Err e) = refl
    go (Ok a) = rw (h x.table) (last a (inside x.table))

-- a symbol at its types, and then at its other arguments
abbrev with_arguments : ℕ → Head → Outcome (Typed Terms) → Outcome (Typed Expression)
with_arguments k h r = r >>= λ vs. gives vs.table (applied_at k h.number h.types vs.tree h.sense)

head_shown : (k : ℕ) (d : Numbered) (ts : Tys) (r : Outcome (Typed Terms)) → AreClosedTypes 0 ts
    → (shown_terms k r >>= λ vs. gives vs.table (applied_at k d.number ts vs.tree d.symbol.sense))
    ≡ shown_expression k (r >>= λ vs. gives vs.table (applied d.number ts vs.tree d.symbol.sense))
head_shown k d ts (Err e) h = refl
head_shown k d ts (Ok vs) h = rw (applied_shown k d.number ts vs.tree d.symbol.sense h) refl

-- the symbol, with the table that it leaves
abbrev shown_symbol : Outcome Use → Outcome (Typed Taken)
shown_symbol r = r >>= λ d. gives d.table (taken_of d.found)

if_shown : (table : Table) (d : Numbered) (sense : Sense)
    → unchanged table (taken_if d sense) ≡ shown_symbol (if_symbol table d sense)
if_shown table d Sense.constructor = refl
if_shown table d Sense.predicate = refl
if_shown table d (Sense.function r) = refl

with_shown : (table : Table) (n : ℕ) (d : Numbered)
    → unchanged table (taken_with n d)
    ≡ shown_symbol (if n == arity d.symbol then if_symbol table d d.symbol.sense else Err Fault.arity)
with_shown table n d = go (n == arity d.symbol)
  where
    go : (b : Bool) → unchanged table (if b then taken_if d d.symbol.sense else Err Fault.arity)
        ≡ shown_symbol (if b then if_symbol table d d.symbol.sense else Err Fault.arity)
    go true = if_shown table d d.symbol.sense
    go false = refl

new_shown : (table : Table) (place : Place) (x : Name) (n : ℕ)
    → new_taken table place x n ≡ shown_symbol (new_symbol table false (undeclared place x n))
new_shown table place x n = go (nat_lt (length table) most_symbols)
  where
    go : (b : Bool)
        → (if b
        then gives (with_entry table false (undeclared place x n))
        (taken_of (record { number = suc (length table); symbol = undeclared place x n }))
        else Err Fault.too_many_symbols)
        ≡ shown_symbol
        (if b then Ok
        (record {
          found = record {
            number = suc (length table);
            symbol = undeclared place x n;
          };
          table = with_entry table false (undeclared place x n);
        }) else Err Fault.too_many_symbols)
    go true = refl
    go false = refl

used_shown : (table : Table) (place : Place) (x : Name) (n : ℕ) (o : Option Numbered)
    → used_taken table place x n o ≡ shown_symbol (used_or_new table place x n o)
used_shown table place x n (Some d) = if_shown table d d.symbol.sense
used_shown table place x n None = new_shown table place x n

declared_shown : (table : Table) (place : Place) (x : Name) (n : ℕ) (o : Option Numbered)
    → declared_taken table place x n o ≡ shown_symbol (declared_or_used table place x n o)
declared_shown table place x n (Some d) = with_shown table n d
declared_shown table place x n None = used_shown table place x n (used table x n)

symbol_shown : (table : Table) (place : Place) (x : Name) (n : ℕ)
    → symbol_at table place x n ≡ shown_symbol (symbol_for table place x n)
symbol_shown table place x n = declared_shown table place x n (declared table x)

named_shown : (table : Table) (s : Scope) (place : Place) (f : Name) (us : RawTerms)
    → ((t : Table) (n : ℕ) (ws : Tys) → terms_at t s n ws us ≡ shown_terms (length s) (terms_in t s n ws us))
    → expression_at table s place (RawTerm.named f us)
    ≡ shown_expression (length s) (expression_in table s place (RawTerm.named f us))
named_shown table s place f us h =
    rw (symbol_shown table place f (number_of_terms us)) (go (symbol_for table place f (number_of_terms us)))
  where
    at_types : (d : Use) (r : Outcome Tys) → ((ts : Tys) → r ≡ Ok ts → AreClosedTypes 0 ts)
        → ((r >>= λ ts. gives d.table (head_of (taken_of d.found) ts)) >>= λ x.
        terms_at x.table s x.tree.skipped x.tree.wanted_types us >>= λ vs.
        gives vs.table (applied_at (length s) x.tree.number x.tree.types vs.tree x.tree.sense))
        ≡ shown_expression (length s) (r >>= λ ts.
        terms_in d.table s d.found.symbol.types (argument_types d.found.symbol ts) us >>= λ vs.
        gives vs.table (applied d.found.number ts vs.tree d.found.symbol.sense))
    at_types d (Err e) closed = refl
    at_types d (Ok ts) closed =
        let c = closed ts refl in
        rw (
          ← instances_filled ts d.found.symbol.arguments c,
          h d.table d.found.symbol.types (argument_types d.found.symbol ts),
        )
        (head_shown (length s) d.found ts
        (terms_in d.table s d.found.symbol.types (argument_types d.found.symbol ts) us) c)

    go : (r : Outcome Use)
        → ((shown_symbol r >>= λ d. types_in d.table s (as_types (first d.tree.types us)) >>= λ ts.
        gives d.table (head_of d.tree ts)) >>= λ x.
        terms_at x.table s x.tree.skipped x.tree.wanted_types us >>= λ vs.
        gives vs.table (applied_at (length s) x.tree.number x.tree.types vs.tree x.tree.sense))
        ≡ shown_expression (length s) (r >>= λ d.
        types_in d.table s (as_types (first d.found.symbol.types us)) >>= λ ts.
        terms_in d.table s d.found.symbol.types (argument_types d.found.symbol ts) us >>= λ vs.
        gives vs.table (applied d.found.number ts vs.tree d.found.symbol.sense))
    go (Err e) = refl
    go (Ok d) =
        at_types d (types_in d.table s (as_types (first d.found.symbol.types us)))
        (λ ts e. types_closed d.table s (as_types (first d.found.symbol.types us)) ts e)

mutual
  pub expression_shown : (table : Table) (s : Scope) (place : Place) (u : RawTerm)
      → expression_at table s place u ≡ shown_expression (length s) (expression_in table s place u)
  expression_shown table s place RawTerm.individual = refl
  expression_shown table s place RawTerm.truth = refl
  expression_shown table s place (RawTerm.variable x) = variable_shown table (length s) (look_up s x)
  expression_shown table s place (RawTerm.named f us) =
      named_shown table s place f us (λ t n ws. terms_shown t s n ws us)

  pub terms_shown : (table : Table) (s : Scope) (n : ℕ) (ws : Tys) (us : RawTerms)
      → terms_at table s n ws us ≡ shown_terms (length s) (terms_in table s n ws us)
  terms_shown table s n ws RawTerms.none = refl
  terms_shown table s (suc n) ws (RawTerms.more u us) = terms_shown table s n ws us
  terms_shown table s zero Tys.none (RawTerms.more u us) = refl
  terms_shown table s zero (Tys.more w ws) (RawTerms.more u us) =
      rw (expression_shown table s Place.term u)
      (more_shown (length s) w (λ t. terms_at t s zero ws us) (λ t. terms_in t s zero ws us)
      (λ t. terms_shown t s zero ws us) (expression_in table s Place.term u))

left_shown : (k : ℕ) (at inside : Table → Outcome (Typed Expression))
    → ((t : Table) → at t ≡ shown_expression k (inside t)) → (r : Outcome (Typed Expression))
    → ((shown_expression k r >>= λ x. unchanged x.table (side_of x.tree)) >>= λ l.
    (at l.table >>= λ y. unchanged y.table (wanted l.tree.type y.tree)) >>= λ b.
    gives b.table (Form.equal (indexed k l.tree.type) l.tree.term b.tree))
    ≡ shown_form k
    (r >>= λ x. left_side x.tree >>= λ t. wanted t x.tree >>= λ a. inside x.table >>= λ y. wanted t y.tree >>= λ b.
    gives y.table (Form.equal t a b))
left_shown k at inside h (Err e) = refl
left_shown k at inside h (Ok x) = by x.tree
  where
    last : (t : Ty) (a : Term) (table : Table) (r : Outcome Term)
        → (unchanged table (r >>= λ b. Ok (indexed_term k b)) >>= λ b.
        gives b.table (Form.equal (indexed k t) (indexed_term k a) b.tree))
        ≡ shown_form k (r >>= λ b. gives table (Form.equal t a b))
    last t a table (Ok b) = refl
    last t a table (Err e) = refl

    right : (t : Ty) (a : Term) (r : Outcome (Typed Expression))
        → ((shown_expression k r >>= λ y. unchanged y.table (wanted t y.tree)) >>= λ b.
        gives b.table (Form.equal (indexed k t) (indexed_term k a) b.tree))
        ≡ shown_form k (r >>= λ y. wanted t y.tree >>= λ b. gives y.table (Form.equal t a b))
    right t a (Err e) = refl
    right t a (Ok y) = rw (wanted_shown k t y.tree) (last t a y.table (wanted t y.tree))

    of_side : (t : Ty) (a : Term) (b : Bool)
        → ((unchanged x.table
        ((if b then Ok (indexed_term k a) else Err (Fault.mismatch (found_type t) (found_type t))) >>= λ c.
        Ok (side_with t c))) >>= λ l.
        (at l.table >>= λ y. unchanged y.table (wanted l.tree.type y.tree)) >>= λ c.
        gives c.table (Form.equal (indexed k l.tree.type) l.tree.term c.tree))
        ≡ shown_form k
        ((if b then Ok a else Err (Fault.mismatch (found_type t) (found_type t))) >>= λ d. inside x.table >>= λ y.
        wanted t y.tree >>= λ c. gives y.table (Form.equal t d c))
    of_side t a true = rw (h x.table) (right t a (inside x.table))
    of_side t a false = refl

    by : (tree : Expression)
        → ((unchanged x.table (side_of (indexed_expression k tree))) >>= λ l.
        (at l.table >>= λ y. unchanged y.table (wanted l.tree.type y.tree)) >>= λ b.
        gives b.table (Form.equal (indexed k l.tree.type) l.tree.term b.tree))
        ≡ shown_form k
        (left_side tree >>= λ t. wanted t tree >>= λ a. inside x.table >>= λ y. wanted t y.tree >>= λ b.
        gives y.table (Form.equal t a b))
    by (Expression.term t a) = of_side t a (same_type t t)
    by (Expression.atom p ts us) = refl

equality_shown : (table : Table) (s : Scope) (left right : RawTerm)
    → equality_at table s left right ≡ shown_form (length s) (equality_in table s left right)
equality_shown table s left right =
    rw (expression_shown table s Place.term left)
    (left_shown (length s) (λ t. expression_at t s Place.term right) (λ t. expression_in t s Place.term right)
    (λ t. expression_shown t s Place.term right) (expression_in table s Place.term left))

plain_shown : (table : Table) (s : Scope) (u : RawTerm)
    → plain_at table s u
    ≡ shown_form (length s) (expression_in table s Place.formula u >>= λ x. unchanged x.table (as_formula x.tree))
plain_shown table s u = rw (expression_shown table s Place.formula u) (go (expression_in table s Place.formula u))
  where
    by : (t : Table) (x : Expression)
        → unchanged t (as_formula (indexed_expression (length s) x))
        ≡ shown_form (length s) (unchanged t (as_formula x))
    by t (Expression.term w a) = refl
    by t (Expression.atom p ts us) = refl

    go : (r : Outcome (Typed Expression))
        → (shown_expression (length s) r >>= λ x. unchanged x.table (as_formula x.tree))
        ≡ shown_form (length s) (r >>= λ x. unchanged x.table (as_formula x.tree))
    go (Err e) = refl
    go (Ok x) = by x.table x.tree

negation_shown : (k : ℕ) (r : Outcome (Typed Form))
    → (shown_form k r >>= λ g. gives g.table (Form.negation g.tree))
    ≡ shown_form k (r >>= λ g. gives g.table (Form.negation g.tree))
negation_shown k (Ok g) = refl
negation_shown k (Err e) = refl

binary_shown : (k : ℕ) (c : Connective) (at inside : Table → Outcome (Typed Form))
    → ((t : Table) → at t ≡ shown_form k (inside t)) → (r : Outcome (Typed Form))
    → (shown_form k r >>= λ a. at a.table >>= λ b. gives b.table (Form.binary c a.tree b.tree))
    ≡ shown_form k (r >>= λ a. inside a.table >>= λ b. gives b.table (Form.binary c a.tree b.tree))
binary_shown k c at inside h (Err e) = refl
binary_shown k c at inside h (Ok a) = rw (h a.table) (go (inside a.table))
  where
    go : (r : Outcome (Typed Form))
        → (shown_form k r >>= λ b. gives b.table (Form.binary c (indexed_form k a.tree) b.tree))
        ≡ shown_form k (r >>= λ b. gives b.table (Form.binary c a.tree b.tree))
    go (Ok b) = refl
    go (Err e) = refl

bind_shown : (k : ℕ) (q : Quantifier) (b : Binder) (f : Form)
    → bind_at q (indexed_binder k b) (indexed_form (suc k) f) ≡ indexed_form k (bind q b k f)
bind_shown k q Binder.of_type f = ap (Form.quantified_types (quantifier_of q)) (sym (closed_form 0 k (suc k) f (omega arith)))
bind_shown k q (Binder.of_term t) f =
    ap (Form.quantified (quantifier_of q) (indexed k t)) (sym (closed_form 0 k (suc k) f (omega arith)))

quantified_shown : (k : ℕ) (q : Quantifier) (b : Binder) (r : Outcome (Typed Form))
    → (shown_form (suc k) r >>= λ g. gives g.table (bind_at q (indexed_binder k b) g.tree))
    ≡ shown_form k (r >>= λ g. gives g.table (bind q b k g.tree))
quantified_shown k q b (Ok g) = rw (bind_shown k q b g.tree) refl
quantified_shown k q b (Err e) = refl

pub form_shown : (table : Table) (s : Scope) (f : RawForm)
    → form_at table s f ≡ shown_form (length s) (form_in table s f)
form_shown table s RawForm.truth = refl
form_shown table s RawForm.falsity = refl
form_shown table s (RawForm.plain u) = plain_shown table s u
form_shown table s (RawForm.equal a b) = equality_shown table s a b
form_shown table s (RawForm.negation f) =
    rw (form_shown table s f) (negation_shown (length s) (form_in table s f))
form_shown table s (RawForm.binary c f g) =
    rw (form_shown table s f)
    (binary_shown (length s) (connective_of c) (λ t. form_at t s g) (λ t. form_in t s g)
    (λ t. form_shown t s g) (form_in table s f))
form_shown table s (RawForm.quantified q v f) =
    go (binder_in table s v.type)
    (λ b. form_shown table (record { name = v.name; binder = b } ∷ s) f)
  where
    go : (r : Outcome Binder)
        → ((b : Binder) → form_at table (record { name = v.name; binder = b } ∷ s) f
        ≡ shown_form (suc (length s))
        (form_in table (record { name = v.name; binder = b } ∷ s) f))
        → (r >>= λ b. form_at table (record { name = v.name; binder = b } ∷ s) f >>= λ g.
        gives g.table (bind_at q (indexed_binder (length s) b) g.tree))
        ≡ shown_form (length s)
        (r >>= λ b. form_in table (record { name = v.name; binder = b } ∷ s) f >>= λ g.
        gives g.table (bind q b (length s) g.tree))
    go (Err e) h = refl
    go (Ok b) h =
        rw (h b)
        (quantified_shown (length s) q b
        (form_in table (record { name = v.name; binder = b } ∷ s) f))
