-- What the look-ups in scopes and tables find.
use Rattle.std.proofs.Common.{◌≡◌, ℕ, suc, ◌+◌, ◌<◌, ◌==◌, Bool, true, false, if◌then◌else◌, bytes_eq, Some, [], ◌∷◌, length, refl, arith, sym, ap, subst}
use Rattle.std.proofs.lemmas.Bool.{ne_eqb, eqb-true}
use Rattle.std.proofs.lemmas.Option.{same_Some, none-some}
use Rattle.zm_logic.specs.Tree.{Binder}
use Rattle.zm_logic.specs.Typing.{nth, symbol_at}
use Rattle.zm_logic.proofs.Opened.{itself}
use Rattle.tptp_reader.specs.Raw.{Name}
use Rattle.tff_typing.specs.Scope.{Scope, Variable, Bound, look_up, binder_of}
use Rattle.tff_typing.specs.Table.{Table, Entry, Numbered, symbols_of, first_from}

-- a number with a binder is below the length of the scope
pub binder_below : (s : Scope) (n : ℕ) (b : Binder) → binder_of s n ≡ Some b → n < length s
binder_below [] n b h = absurd (none-some b h)
binder_below (v ∷ vs) n b h = go (n == length vs) refl (λ i. binder_below vs n b i) h
  where
    go : (q : Bool) → (n == length vs) ≡ q → (binder_of vs n ≡ Some b → n < length vs)
        → (if q then Some v.binder else binder_of vs n) ≡ Some b → n < suc (length vs)
    go true e below h = let i : n ≡ length vs = eqb-true n (length vs) e in omega arith
    go false e below h = let l : n < length vs = below h in omega arith

-- a binder below stays what it is under one more
pub binder_kept : (v : Variable) (s : Scope) (n : ℕ) (b : Binder) → binder_of s n ≡ Some b
    → binder_of (v ∷ s) n ≡ Some b
binder_kept v s n b h =
    let l : n < length s = binder_below s n b h in
    let e : (n == length s) ≡ false = ne_eqb n (length s) (λ i. omega arith) in
    rw e h

pub binder_here : (v : Variable) (s : Scope) → binder_of (v ∷ s) (length s) ≡ Some v.binder
binder_here v s = rw (itself (length s))

abbrev here_bound : Variable → Scope → Bound
here_bound v s = record { number = length s; binder = v.binder }

-- what a name finds is the binder of its number
pub looked_up : (s : Scope) (x : Name) (b : Bound) → look_up s x ≡ Some b → binder_of s b.number ≡ Some b.binder
looked_up [] x b h = absurd (none-some b h)
looked_up (v ∷ vs) x b h = go (bytes_eq v.name x) (λ i. looked_up vs x b i) h
  where
    go : (q : Bool) → (look_up vs x ≡ Some b → binder_of vs b.number ≡ Some b.binder)
        → (if q then Some (record { number = length vs; binder = v.binder }) else look_up vs x) ≡ Some b
        → binder_of (v ∷ vs) b.number ≡ Some b.binder
    go true later h =
        let e = same_Some (here_bound v vs) b h in
        subst (λ (y : Bound). binder_of (v ∷ vs) y.number ≡ Some y.binder) e (binder_here v vs)
    go false later h = binder_kept v vs b.number b.binder (later h)

-- the symbol found stands at its number and passes the test
pub record Stands (k : ℕ) (test : Entry → Bool) (table : Table) (d : Numbered) : Type 0 where
  pub at : ℕ
  pub number : d.number ≡ at + k
  pub symbol : nth (symbols_of table) at ≡ Some d.symbol
  pub entry : Entry
  pub passes : test entry ≡ true
  pub same : entry.symbol ≡ d.symbol

abbrev here_numbered : ℕ → Entry → Numbered
here_numbered k e = record { number = k; symbol = e.symbol }

pub first_found : (k : ℕ) (test : Entry → Bool) (table : Table) (d : Numbered) → first_from k test table ≡ Some d
    → Stands k test table d
first_found k test [] d h = absurd (none-some d h)
first_found k test (e ∷ es) d h = go (test e) refl (λ i. first_found (suc k) test es d i) h
  where
    go : (q : Bool) → test e ≡ q → (first_from (suc k) test es ≡ Some d → Stands (suc k) test es d)
        → (if q then Some (record { number = k; symbol = e.symbol }) else first_from (suc k) test es) ≡ Some d
        → Stands k test (e ∷ es) d
    go true t later h =
        let i = same_Some (here_numbered k e) d h in
        record {
          at = 0;
          number = (let j : d.number ≡ k = ap (λ (y : Numbered). y.number) (sym i) in omega arith);
          symbol = ap (λ (y : Numbered). Some y.symbol) i;
          entry = e;
          passes = t;
          same = ap (λ (y : Numbered). y.symbol) i;
        }
    go false t later h =
        let r = later h in
        record {
          at = suc r.at;
          number = omega (arith, r.number);
          symbol = r.symbol;
          entry = r.entry;
          passes = r.passes;
          same = r.same;
        }

-- the symbol found in a table is that of its number
pub found_at : (test : Entry → Bool) (table : Table) (d : Numbered) → first_from 1 test table ≡ Some d
    → symbol_at (symbols_of table) d.number ≡ Some d.symbol
found_at test table d h =
    let r = first_found 1 test table d h in
    let e : d.number ≡ suc r.at = omega (arith, r.number) in
    rw e r.symbol
