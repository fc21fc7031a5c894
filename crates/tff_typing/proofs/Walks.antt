-- What the look-ups of the code find, and lists one element further.
use Rattle.std.proofs.Common.{◌≡◌, ℕ, zero, suc, ◌+◌, ◌<◌, ◌==◌, ◌&&◌, ◌||◌, is_some, Bool, true, false, not, if◌then◌else◌, bytes_eq, Option, Some, None, option_map, List, [], ◌∷◌, ◌++◌, map, length, slice_get, position, cond, Result, Ok, Err, IsOk, IfOk, Bor, nat_lt, nat_eq, refl, ap, sym, arith, ◌∙◌}
use Rattle.std.specs.Map.{keys_of}
use Rattle.std.specs.List.{position_or_len, list_any}
use Rattle.std.specs.Option.{option_eq}
use Rattle.std.proofs.lemmas.Slice.Eq.{bytes_eq-Decides}
use Rattle.std.proofs.lemmas.List.Quantifiers.{position-Some}
use Rattle.std.proofs.lemmas.Map.Entries.{length-keys_of}
use Rattle.indexmap.specs.IndexMap.{insert_entry}
use Rattle.indexmap.specs.IndexSet.{insert_key}
use Rattle.std.proofs.lemmas.List.Folds.{list_any-append}
use Rattle.std.proofs.lemmas.Option.{none-some}
use Rattle.std.proofs.Math.Bool.{or-false, and-true}
use Rattle.std.proofs.lemmas.Bool.{true≢false, and_right}
use Rattle.std.proofs.lemmas.Cmp.{nat_list_eq_equiv}
use Rattle.indexmap.proofs.MapLemmas.{Missing-position, insert_entry-absent}
use Rattle.zm_logic.specs.Typing.{how_many}
use Rattle.zm_logic.specs.declared.tree.Ty.{Ty}
use Rattle.zm_logic.specs.View.{types_tree}
use Rattle.tff_typing.specs.declared.symbols.Key.{Key}
use Rattle.tff_typing.specs.declared.symbols.Declaration.{Declaration}
use Rattle.tff_typing.specs.Table as table
use Rattle.tff_typing.specs.View.{entry_tree, numbered_at, was_declared, symbol_of, found_as}

lt_suc : (k n : ℕ) → nat_lt (1 + k) (suc n) ≡ nat_lt k n
lt_suc k n = grind arith

lt_first : (n : ℕ) → nat_lt 0 (suc n) ≡ true
lt_first n = grind arith

position_miss : {X : Type 0} (p : X → Bool) (xs : List X) → (b : Bool) → nat_lt (position_or_len p xs) (length xs) ≡ b
    → cond b (Some (1 + position_or_len p xs)) None ≡ option_map suc (position p xs)
position_miss p xs true h =
    let k : 1 + position_or_len p xs ≡ suc (position_or_len p xs) = omega arith in rw h (ap Some k)
position_miss p xs false h = rw h refl

pub position_cons : {X : Type 0} (p : X → Bool) (x : X) (xs : List X)
    → position p (x ∷ xs) ≡ (if p x then Some 0 else option_map suc (position p xs))
position_cons p x xs = go (p x) refl
  where
    go : (b : Bool) → p x ≡ b → position p (x ∷ xs) ≡ (if b then Some 0 else option_map suc (position p xs))
    go true h = rw (h, lt_first (length xs)) refl
    go false h =
        rw (h, lt_suc (position_or_len p xs) (length xs))
        (position_miss p xs (nat_lt (position_or_len p xs) (length xs)) refl)

-- the entry at the place, the places beginning at n
abbrev pub placed : ℕ → List (Key × Declaration) → Option ℕ → Option table.Numbered
placed n es None = None
placed n es (Some i) = option_map (numbered_at (n + i)) (slice_get es i)

placed_more : (n : ℕ) (e : Key × Declaration) (es : List (Key × Declaration)) (o : Option ℕ)
    → placed n (e ∷ es) (option_map suc o) ≡ placed (suc n) es o
placed_more n e es None = refl
placed_more n e es (Some i) = let k : n + suc i ≡ suc n + i = omega arith in rw k refl

-- the first key that passes a test is that of the first entry that does
pub first_placed : (test : Key → Bool) (check : table.Entry → Bool)
    → ((e : Key × Declaration) → test e.0 ≡ check (entry_tree e))
    → (n : ℕ) (es : List (Key × Declaration))
    → table.first_from (suc n) check (map entry_tree es) ≡ placed n es (position test (keys_of es))
first_placed test check h n [] = refl
first_placed test check h n (e ∷ es) =
    rw (position_cons test e.0 (keys_of es), h e) (go (check (entry_tree e)) (first_placed test check h (suc n) es))
  where
    here : n + 0 ≡ n
    here = omega arith

    go : (b : Bool)
        → table.first_from (suc (suc n)) check (map entry_tree es) ≡ placed (suc n) es (position test (keys_of es))
        → (if b then Some (numbered_at n e) else table.first_from (suc (suc n)) check (map entry_tree es))
        ≡ placed n (e ∷ es) (if b then Some 0 else option_map suc (position test (keys_of es)))
    go true i = rw here refl
    go false i = i ∙ sym (placed_more n e es (position test (keys_of es)))

pub how_many_individuals : (n : ℕ) → how_many (table.individuals_of n) ≡ n
how_many_individuals zero = refl
how_many_individuals (suc n) = let h = how_many_individuals n in omega arith

same_number : (n m : ℕ) → nat_eq n m ≡ (0 + how_many (table.individuals_of m) == n)
same_number n m =
    let e : 0 + how_many (table.individuals_of m) ≡ m = omega (arith, how_many_individuals m) in rw e (grind arith)

-- a key without a number of arguments is that of a declared symbol
pub declared_key : (x : List ℕ) (e : Key × Declaration)
    → (bytes_eq x e.0.name.now && option_eq nat_eq None e.0.parts) ≡ table.declared_as x (entry_tree e)
declared_key x e = go e.0.parts
  where
    go : (o : Option ℕ)
        → (bytes_eq x e.0.name.now && option_eq nat_eq None o) ≡ (was_declared o && bytes_eq e.0.name.now x)
    go None = and-true (bytes_eq x e.0.name.now) ∙ (nat_list_eq_equiv.symm x e.0.name.now)
    go (Some n) = and_right (bytes_eq x e.0.name.now) false refl

-- a key with a number of arguments is that of a symbol that was used with so many
pub used_key : (x : List ℕ) (n : ℕ) (e : Key × Declaration)
    → (bytes_eq x e.0.name.now && option_eq nat_eq (Some n) e.0.parts) ≡ table.used_as x n (entry_tree e)
used_key x n e = go e.0.parts
  where
    swapped : (b : Bool) → (bytes_eq x e.0.name.now && b) ≡ (bytes_eq e.0.name.now x && b)
    swapped b = ap (λ (y : Bool). y && b) (nat_list_eq_equiv.symm x e.0.name.now)

    go : (o : Option ℕ) → (bytes_eq x e.0.name.now && option_eq nat_eq (Some n) o)
        ≡ (not (was_declared o) && (bytes_eq e.0.name.now x && (table.arity (symbol_of e.0.name.now o e.1) == n)))
    go None = and_right (bytes_eq x e.0.name.now) false refl
    go (Some m) = swapped (nat_eq n m) ∙ ap (λ (b : Bool). bytes_eq e.0.name.now x && b) (same_number n m)

-- the entry that a key finds is that of its symbol
pub found_placed : (x : List ℕ) (o : Option ℕ) (es : List (Key × Declaration))
    → found_as x o (map entry_tree es)
    ≡ placed 0 es (position (λ k. bytes_eq x k.name.now && option_eq nat_eq o k.parts) (keys_of es))
found_placed x None es = first_placed _ (table.declared_as x) (declared_key x) 0 es
found_placed x (Some n) es = first_placed _ (table.used_as x n) (used_key x n) 0 es

pub placed_at : (es : List (Key × Declaration)) (i : ℕ) (e : Key × Declaration) → slice_get es i ≡ Some e
    → placed 0 es (Some i) ≡ Some (numbered_at i e)
placed_at es i e h = let k : 0 + i ≡ i = omega arith in rw (k, h) refl

-- a name is known where an entry has it
pub known_any : (x : List ℕ) (n : ℕ) (es : List (Key × Declaration))
    → list_any (λ e. bytes_eq x e.0.name.now) es
    ≡ is_some (table.first_from n (λ e. bytes_eq e.symbol.name x) (map entry_tree es))
known_any x n [] = refl
known_any x n (e ∷ es) = rw (nat_list_eq_equiv.symm x e.0.name.now) (go (bytes_eq e.0.name.now x) (known_any x (suc n) es))
  where
    go : (b : Bool)
        → list_any (λ e. bytes_eq x e.0.name.now) es
        ≡ is_some (table.first_from (suc n) (λ e. bytes_eq e.symbol.name x) (map entry_tree es))
        → (b || list_any (λ e. bytes_eq x e.0.name.now) es)
        ≡ is_some
        (if b then Some (record { number = n; symbol = symbol_of e.0.name.now e.0.parts e.1 }) else table.first_from
        (suc n) (λ e. bytes_eq e.symbol.name x) (map entry_tree es))
    go true h = refl
    go false h = h

there : (n : ℕ) (es : List (Key × Declaration)) (i : ℕ) → i < length es
    → option_map (numbered_at n) (slice_get es i) ≡ None → ⊥
there n [] i l h = absurd (omega arith)
there n (e ∷ es) zero l h = none-some (numbered_at n e) (sym h)
there n (e ∷ es) (suc i) l h = there n es i (omega arith) h

-- a symbol that isn't found has a new key, which goes last
abbrev key_test : List ℕ → Option ℕ → Key → Bool
key_test x o k = bytes_eq x k.name.now && option_eq nat_eq o k.parts

pub not_found : (x : List ℕ) (o : Option ℕ) (es : List (Key × Declaration)) → found_as x o (map entry_tree es) ≡ None
    → position (key_test x o) (keys_of es) ≡ None
not_found x o es h = go (position (key_test x o) (keys_of es)) refl
  where
    go : (r : Option ℕ) → position (key_test x o) (keys_of es) ≡ r → r ≡ None
    go None e = refl
    go (Some i) e =
        let d : Key = record { name = record { ref_ptr = (0, 0); now = [] }; parts = None } in
        let p = position-Some (key_test x o) (keys_of es) i d e in
        let l : i < length es = omega (arith, p.0, length-keys_of es) in
        absurd (there (0 + i) es i l (sym (found_placed x o es ∙ ap (placed 0 es) e) ∙ h))

pub entry_last : (eq : Key → Key → Bool) (k : Key) (d : Declaration) (es : List (Key × Declaration))
    → position (eq k) (keys_of es) ≡ None
    → insert_entry eq es k d ≡ es ++ (k, d) ∷ []
entry_last eq k d es h = insert_entry-absent eq k d es (Missing-position (eq k) es h).absent

pub entries_more : (es : List (Key × Declaration)) (e : Key × Declaration)
    → map entry_tree (es ++ e ∷ []) ≡ map entry_tree es ++ entry_tree e ∷ []
entries_more [] e = refl
entries_more (x ∷ xs) e = ap (λ l. entry_tree x ∷ l) (entries_more xs e)

-- one more name
abbrev has_name : List ℕ → Bor (List ℕ) → Bool
has_name x k = bytes_eq x k.now

any_same : (x y : List ℕ) (ks : List (Bor (List ℕ))) → bytes_eq x y ≡ true
    → list_any (has_name x) ks ≡ list_any (has_name y) ks
any_same x y ks h = let e : x ≡ y = (bytes_eq-Decides x y).0 h in rw e refl

pub one_more_name : (x : List ℕ) (ks : List (Bor (List ℕ))) (k : Bor (List ℕ))
    → list_any (has_name x) (insert_key (λ a b. bytes_eq a.now b.now) ks k)
    ≡ (list_any (has_name x) ks || bytes_eq x k.now)
one_more_name x ks k = go (list_any (has_name k.now) ks) refl (bytes_eq x k.now) refl
  where
    last : list_any (has_name x) (ks ++ k ∷ []) ≡ (list_any (has_name x) ks || (bytes_eq x k.now || false))
    last = list_any-append (has_name x) ks (k ∷ [])

    go : (b : Bool) → list_any (has_name k.now) ks ≡ b → (e : Bool) → bytes_eq x k.now ≡ e
        → list_any (has_name x) (if b then ks else ks ++ k ∷ []) ≡ (list_any (has_name x) ks || e)
    go true h true i = let s = any_same x k.now ks i in rw (s, h) refl
    go true h false i = sym (or-false (list_any (has_name x) ks))
    go false h true i = last ∙ rw i refl
    go false h false i = last ∙ rw i refl

pub one_more_entry : (x : List ℕ) (es : List (Key × Declaration)) (e : Key × Declaration)
    → list_any (λ e. bytes_eq x e.0.name.now) (es ++ e ∷ [])
    ≡ (list_any (λ e. bytes_eq x e.0.name.now) es || bytes_eq x e.0.name.now)
one_more_entry x es e =
    list_any-append (λ (y : Key × Declaration). bytes_eq x y.0.name.now) es (e ∷ [])
    ∙ ap (λ (b : Bool). list_any (λ (y : Key × Declaration). bytes_eq x y.0.name.now) es || b)
    (or-false (bytes_eq x e.0.name.now))

pub of_ok : {A E : Type 0} (r : Result A E) (P : Type 0) → IsOk r → IfOk r (λ x. P) → P
of_ok (Ok x) P i h = h
of_ok (Err e) P i h = absurd (true≢false (sym i))

pub length_table : (es : List (Key × Declaration)) → length (map entry_tree es) ≡ length es
length_table [] = refl
length_table (e ∷ es) = ap suc (length_table es)

-- the names stay those of the entries where both grow
pub names_follow : (x : List ℕ) (old kept new : List (Bor (List ℕ))) (es all : List (Key × Declaration)) (k : Key)
    (d : Declaration)
    → list_any (has_name x) new ≡ (list_any (has_name x) kept || bytes_eq x k.name.now) → kept ≡ old
    → list_any (has_name x) old ≡ list_any (λ e. bytes_eq x e.0.name.now) es → all ≡ es ++ (k, d) ∷ []
    → list_any (has_name x) new ≡ list_any (λ e. bytes_eq x e.0.name.now) all
names_follow x old kept new es all k d h i j e =
    h
    ∙ ap (λ (l : List (Bor (List ℕ))). list_any (has_name x) l || bytes_eq x k.name.now) i
    ∙ ap (λ (b : Bool). b || bytes_eq x k.name.now) j
    ∙ sym (ap (list_any (λ (y : Key × Declaration). bytes_eq x y.0.name.now)) e ∙ one_more_entry x es (k, d))

pub how_many_types : (ts : List Ty) → how_many (types_tree ts) ≡ length ts
how_many_types [] = refl
how_many_types (t ∷ ts) = omega (arith, how_many_types ts)
