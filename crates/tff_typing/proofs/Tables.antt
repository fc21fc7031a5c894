-- A table keeps its signature well typed and its names distinct as it grows.
use Rattle.std.proofs.Common.{◌≡◌, ℕ, zero, suc, ◌+◌, ◌<◌, ◌≤◌, ◌==◌, not, ◌&&◌, Bool, true, false, if◌then◌else◌, bytes_eq, Option, Some, None, List, [], ◌∷◌, ◌++◌, length, take, refl, arith, sym, ap, subst, ◌∙◌, Ok, nat_lt}
use Rattle.std.proofs.lemmas.Bool.{eqb-true}
use Rattle.std.proofs.lemmas.Bool.Decides.{Decides-eqb}
use Rattle.std.proofs.lemmas.List.{take-append-le, take_all}
use Rattle.std.proofs.lemmas.Slice.Eq.{bytes_eq-Decides}
use Rattle.std.proofs.lemmas.Option.{same_Some, none-some}
use Rattle.zm_logic.specs.Tree.{Symbol, Sense}
use Rattle.zm_logic.specs.Typing.{nth, symbol_at, individuals, how_many, AreTypes, IsSignature, IsDeclaration}
use Rattle.zm_logic.specs.Parameter.{EachInTypes, Never}
use Rattle.tptp_reader.specs.Raw.{Name}
use Rattle.tff_typing.specs.Table.{Table, Entry, Numbered, Place, symbols_of, arity, first_from, declared, declared_as, used, used_as, undeclared, individuals_of, sense_at, with_entry, most_symbols}
use Rattle.tff_typing.specs.Fault.{Fault}
use Rattle.tff_typing.specs.Places.{Use, if_symbol, new_symbol, used_or_new, declared_or_used, symbol_for}
use Rattle.tff_typing.proofs.Outcomes.{ok_same, no_ok, test_held}
use Rattle.tff_typing.proofs.Lookups.{found_at, first_found}
use Rattle.tff_typing.proofs.Extends.{Extends, appended}

-- two symbols with one name and one number of arguments are one
pub record HasDistinctNames (symbols : List Symbol) : Type 0 where
  pub same : (m n : ℕ) (d e : Symbol) → nth symbols m ≡ Some d → nth symbols n ≡ Some e → d.name ≡ e.name
      → arity d ≡ arity e → m ≡ n

pub record IsTable (table : Table) : Type 0 where
  pub signature : IsSignature (symbols_of table)
  pub names : HasDistinctNames (symbols_of table)

-- a name with this number of arguments is not in the list
pub record IsNew (symbols : List Symbol) (d : Symbol) : Type 0 where
  pub differs : (n : ℕ) (e : Symbol) → nth symbols n ≡ Some e → e.name ≡ d.name → arity e ≡ arity d → ⊥

pub symbols_more : (table : Table) (b : Bool) (d : Symbol)
    → symbols_of (with_entry table b d) ≡ symbols_of table ++ d ∷ []
symbols_more [] b d = refl
symbols_more (e ∷ es) b d = ap (λ ss. e.symbol ∷ ss) (symbols_more es b d)

pub length_symbols : (table : Table) → length (symbols_of table) ≡ length table
length_symbols [] = refl
length_symbols (e ∷ es) = ap suc (length_symbols es)

-- where a symbol stands in a list with one more: before, or at the end
pub data InMore (a : List Symbol) (x : Symbol) (n : ℕ) (d : Symbol) : Type 0 where
  before : n < length a → nth a n ≡ Some d → InMore a x n d
  last : n ≡ length a → x ≡ d → InMore a x n d

pub in_more : (a : List Symbol) (x : Symbol) (n : ℕ) (d : Symbol) → nth (a ++ x ∷ []) n ≡ Some d → InMore a x n d
in_more [] x zero d h = last refl (same_Some x d h)
in_more [] x (suc n) d h = absurd (none-some d h)
in_more (s ∷ ss) x zero d h = before (omega arith) h
in_more (s ∷ ss) x (suc n) d h = go (in_more ss x n d h)
  where
    go : InMore ss x n d → InMore (s ∷ ss) x (suc n) d
    go (InMore.before l e) = before (omega arith) e
    go (InMore.last l e) = last (ap suc l) e

pub nth_last : (a : List Symbol) (d : Symbol) → nth (a ++ d ∷ []) (length a) ≡ Some d
nth_last [] d = refl
nth_last (s ∷ ss) d = nth_last ss d

pub signature_more : (a : List Symbol) (x : Symbol) → IsSignature a → IsDeclaration a x → IsSignature (a ++ x ∷ [])
signature_more a x sig new n d h = go (in_more a x n d h)
  where
    go : InMore a x n d → IsDeclaration (take n (a ++ x ∷ [])) d
    go (InMore.before l e) =
        let i : n ≤ length a = omega arith in
        rw (take-append-le n a (x ∷ []) i) (sig n d e)
    go (InMore.last l e) =
        let i : n ≤ length a = omega arith in
        let j : take n (a ++ x ∷ []) ≡ a = take-append-le n a (x ∷ []) i ∙ take_all n a (omega arith) in
        rw j (subst (λ (y : Symbol). IsDeclaration a y) e new)

pub names_more : (a : List Symbol) (x : Symbol) → HasDistinctNames a → IsNew a x → HasDistinctNames (a ++ x ∷ [])
names_more a x names new = record { same = λ m n d e h i s t. go m n d e s t (in_more a x m d h) (in_more a x n e i) }
  where
    go : (m n : ℕ) (d e : Symbol) → d.name ≡ e.name → arity d ≡ arity e → InMore a x m d → InMore a x n e → m ≡ n
    go m n d e s t (InMore.before k h) (InMore.before l i) = names.same m n d e h i s t
    go m n d e s t (InMore.before k h) (InMore.last l i) =
        absurd (new.differs m d h (s ∙ ap (λ (y : Symbol). y.name) (sym i)) (t ∙ ap arity (sym i)))
    go m n d e s t (InMore.last k h) (InMore.before l i) =
        absurd (new.differs n e i (sym s ∙ ap (λ (y : Symbol). y.name) (sym h)) (sym t ∙ ap arity (sym h)))
    go m n d e s t (InMore.last k h) (InMore.last l i) = k ∙ sym l

-- the table with one more symbol
pub record IsEntered (table grown : Table) (number : ℕ) (d : Symbol) : Type 0 where
  pub good : IsTable grown
  pub grows : Extends (symbols_of table) (symbols_of grown)
  pub at : symbol_at (symbols_of grown) number ≡ Some d

pub entered : (table : Table) (b : Bool) (d : Symbol) → IsTable table → IsDeclaration (symbols_of table) d
    → IsNew (symbols_of table) d
    → IsEntered table (with_entry table b d) (suc (length table)) d
entered table b d ok new fresh =
    let e = symbols_more table b d in
    record {
      good = record {
        signature =
            subst (λ (x : List Symbol). IsSignature x) (sym e) (signature_more (symbols_of table) d ok.signature new);
        names =
            subst (λ (x : List Symbol). HasDistinctNames x) (sym e) (names_more (symbols_of table) d ok.names fresh);
      };
      grows = subst (λ (x : List Symbol). Extends (symbols_of table) x) (sym e) (appended (symbols_of table) (d ∷ []));
      at = rw (e, ← length_symbols table) (nth_last (symbols_of table) d);
    }

-- no entry passes either test
pub record Fails (one two : Entry → Bool) (d : Symbol) : Type 0 where
  pub entry : Entry
  pub same : entry.symbol ≡ d
  pub first : one entry ≡ false
  pub second : two entry ≡ false

pub none_found : (k : ℕ) (one two : Entry → Bool) (table : Table) → first_from k one table ≡ None
    → first_from k two table ≡ None
    → (n : ℕ) (d : Symbol) → nth (symbols_of table) n ≡ Some d → Fails one two d
none_found k one two [] h i n d e = absurd (none-some d e)
none_found k one two (x ∷ xs) h i n d e =
    go (one x) (two x) refl refl h i n e (λ a b m f. none_found (suc k) one two xs a b m d f)
  where
    no_none : {A : Type 0} (y : A) → Some y ≡ None → ⊥
    no_none y h = cc

    go : (a b : Bool) → one x ≡ a → two x ≡ b
        → (if a then Some (record { number = k; symbol = x.symbol }) else first_from (suc k) one xs) ≡ None
        → (if b then Some (record { number = k; symbol = x.symbol }) else first_from (suc k) two xs) ≡ None
        → (m : ℕ) → nth (symbols_of (x ∷ xs)) m ≡ Some d
        → (first_from (suc k) one xs ≡ None → first_from (suc k) two xs ≡ None → (m : ℕ)
        → nth (symbols_of xs) m ≡ Some d → Fails one two d)
        → Fails one two d
    go true b p q h i m e later = absurd (no_none _ h)
    go false true p q h i m e later = absurd (no_none _ i)
    go false false p q h i zero e later = record { entry = x; same = same_Some x.symbol d e; first = p; second = q }
    go false false p q h i (suc m) e later = later h i m e

pub how_many_individuals : (n : ℕ) → how_many (individuals_of n) ≡ n
how_many_individuals zero = refl
how_many_individuals (suc n) = omega (arith, how_many_individuals n)

-- neither declared nor used with this number of arguments: new
pub not_used : (table : Table) (place : Place) (x : Name) (n : ℕ) → declared table x ≡ None → used table x n ≡ None
    → IsNew (symbols_of table) (undeclared place x n)
not_used table place x n h i = record { differs = differs }
  where
    true_false : true ≡ false → ⊥
    true_false h = cc

    tests : (b c : Bool) (m : ℕ) → c ≡ true → m ≡ n → (b && c) ≡ false → (not b && (c && (m == n))) ≡ false → ⊥
    tests true c m p q u v = cc
    tests false true m p q u v = true_false (sym ((Decides-eqb m n).1 q) ∙ v)
    tests false false m p q u v = cc

    differs : (m : ℕ) (e : Symbol) → nth (symbols_of table) m ≡ Some e → e.name ≡ x
        → arity e ≡ 0 + how_many (individuals_of n) → ⊥
    differs m e at name number =
        let f = none_found 1 (declared_as x) (used_as x n) table h i m e at in
        let s : f.entry.symbol.name ≡ x = ap (λ (y : Symbol). y.name) f.same ∙ name in
        let t : arity f.entry.symbol ≡ arity e = ap arity f.same in
        tests f.entry.is_declared (bytes_eq f.entry.symbol.name x) (arity f.entry.symbol)
        ((bytes_eq-Decides f.entry.symbol.name x).1 s) (omega (arith, how_many_individuals n)) f.first f.second

pub individuals_typed : (symbols : List Symbol) (k n : ℕ) → AreTypes symbols k (individuals_of n)
individuals_typed symbols k zero = tt
individuals_typed symbols k (suc n) = (((individuals, (refl, refl), refl), tt), individuals_typed symbols k n)

individuals_free : (n : ℕ) → EachInTypes Never (individuals_of n)
individuals_free zero = tt
individuals_free (suc n) = (tt, individuals_free n)

undeclared_typed : (symbols : List Symbol) (place : Place) (x : Name) (n : ℕ)
    → IsDeclaration symbols (undeclared place x n)
undeclared_typed symbols Place.formula x n = (individuals_typed symbols 0 n, individuals_free n, tt)
undeclared_typed symbols Place.term x n =
    (individuals_typed symbols 0 n, individuals_free n, (((individuals, (refl, refl), refl), tt), tt))

-- what is known of a symbol at its place
pub record IsUse (table : Table) (n : ℕ) (d : Use) : Type 0 where
  pub good : IsTable d.table
  pub grows : Extends (symbols_of table) (symbols_of d.table)
  pub at : symbol_at (symbols_of d.table) d.found.number ≡ Some d.found.symbol
  pub number : n ≡ arity d.found.symbol
  pub sense : Sense.constructor ≡ d.found.symbol.sense → ⊥

abbrev pub use_of : Table → Numbered → Use
use_of table d = record { found = d; table = table }

if_symbol_is : (table : Table) (d : Numbered) (x : Sense) (u : Use) → if_symbol table d x ≡ Ok u
    → (use_of table d ≡ u) × (Sense.constructor ≡ x → ⊥)
if_symbol_is table d Sense.constructor u h = absurd (no_ok _ u h)
if_symbol_is table d Sense.predicate u h = (ok_same (use_of table d) u h, no_predicate)
  where
    no_predicate : Sense.constructor ≡ Sense.predicate → ⊥
    no_predicate e = cc
if_symbol_is table d (Sense.function r) u h = (ok_same (use_of table d) u h, no_function)
  where
    no_function : Sense.constructor ≡ Sense.function r → ⊥
    no_function e = cc

-- a symbol that was used with n arguments takes so many
pub used_number : (x : Name) (n : ℕ) (e : Entry) (d : Symbol) → e.symbol ≡ d → used_as x n e ≡ true → n ≡ arity d
used_number x n e d s p =
    let a = second_true (not e.is_declared) (bytes_eq e.symbol.name x && (arity e.symbol == n)) p in
    let b = second_true (bytes_eq e.symbol.name x) (arity e.symbol == n) a in
    sym (eqb-true (arity e.symbol) n b) ∙ ap arity s
  where
    second_true : (a b : Bool) → (a && b) ≡ true → b ≡ true
    second_true true b p = p
    second_true false true p = refl
    second_true false false p = p

made_sense : (place : Place) → Sense.constructor ≡ sense_at place → ⊥
made_sense Place.formula e = cc
made_sense Place.term e = cc

module _ (table : Table) (ok : IsTable table) where
  new_is : (place : Place) (x : Name) (n : ℕ) (u : Use) → declared table x ≡ None → used table x n ≡ None
      → new_symbol table false (undeclared place x n) ≡ Ok u → IsUse table n u
  new_is place x n u h i e =
      let d = undeclared place x n in
      let made = entered table false d ok (undeclared_typed (symbols_of table) place x n)
      (not_used table place x n h i) in
      let r : Use = record {
        found = record {
          number = suc (length table);
          symbol = d;
        };
        table = with_entry table false d;
      } in
      let t = test_held (nat_lt (length table) most_symbols) (Ok r) Fault.too_many_symbols u e in
      subst (λ (y : Use). IsUse table n y) (ok_same r u t.1)
      (record {
        good = made.good;
        grows = made.grows;
        at = made.at;
        number = omega (arith, how_many_individuals n);
        sense = made_sense place;
      })

  used_is : (place : Place) (x : Name) (n : ℕ) (u : Use) → declared table x ≡ None → (o : Option Numbered)
      → used table x n ≡ o
      → used_or_new table place x n o ≡ Ok u → IsUse table n u
  used_is place x n u h None i e = new_is place x n u h i e
  used_is place x n u h (Some d) i e =
      let f = first_found 1 (used_as x n) table d i in
      let t = if_symbol_is table d d.symbol.sense u e in
      subst (λ (y : Use). IsUse table n y) t.0
      (record {
        good = ok;
        grows = record { at = λ m s a. a };
        at = found_at (used_as x n) table d i;
        number = used_number x n f.entry d.symbol f.same f.passes;
        sense = t.1;
      })

  declared_is : (place : Place) (x : Name) (n : ℕ) (u : Use) → (o : Option Numbered) → declared table x ≡ o
      → declared_or_used table place x n o ≡ Ok u → IsUse table n u
  declared_is place x n u None i e = used_is place x n u i (used table x n) refl e
  declared_is place x n u (Some d) i e =
      let t = test_held (n == arity d.symbol) (if_symbol table d d.symbol.sense) Fault.arity u e in
      let k = if_symbol_is table d d.symbol.sense u t.1 in
      subst (λ (y : Use). IsUse table n y) k.0
      (record {
        good = ok;
        grows = record { at = λ m s a. a };
        at = found_at (declared_as x) table d i;
        number = eqb-true n (arity d.symbol) t.0;
        sense = k.1;
      })

  -- the symbol of a name stands in the table that its use leaves, and takes as many arguments
  pub use_is : (place : Place) (x : Name) (n : ℕ) (u : Use) → symbol_for table place x n ≡ Ok u → IsUse table n u
  use_is place x n u h = declared_is place x n u (declared table x) refl h
