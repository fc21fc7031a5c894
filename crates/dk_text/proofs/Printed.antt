-- The printed text of a term reads as that term.
use Rattle.std.proofs.Common.{◌≡◌, ℕ, zero, suc, ◌+◌, ◌-◌, ◌^◌, ◌<◌, max, Bool, true, false, cond, ◌||◌, List, [], ◌∷◌, ◌++◌, length, Some, None, refl, ◌∙◌, ap, arith}
use Rattle.std.specs.Fmt.{decimal}
use Rattle.std.proofs.lemmas.Bool.{both_ways, eq-eqb}
use Rattle.lp_terms.specs.Term.{Lp}
use Rattle.lp_terms.specs.Names.{is_among, is_variable, IsIdentifier, identifier}
use Rattle.lp_terms.specs.Measure.{binder_depth}
use Rattle.lp_terms.specs.File.{IsTermOf, occurs}
use Rattle.dk_text.specs.Tokens.{Token, id, type_word, colon, arrow, fat_arrow, open_round, close_round, starts_with, here, over, EntryTokens, more}
use Rattle.dk_text.specs.Grammar.{Raw, word, universe, bracket, apply, product, abstraction, IsAtom, name, sort, bracketed, IsApplication, head, applied, IsTerm, application, named_product, plain_product, function}
use Rattle.dk_text.specs.Names.{Scope, Resolved, known, and_then, resolved, resolved_word, constant_or_unknown, index_of}
use Rattle.dk_text.specs.Text.{variable, is_binder, is_compound}
use Rattle.dk_text.proofs.Bytes.{stops, word_lexes, spaced, start_no_semicolon, decimal_inside, or_left, or_right, identifier_token}
use Rattle.dk_text.proofs.Scopes.{IsNumbered, unnamed, named, binder_at, index_of_variable, index_of_constant}

-- the text of a term before other bytes
abbrev pub variable_onto : ℕ → List ℕ → List ℕ
variable_onto n tail = 120 ∷ (decimal n ++ tail)

abbrev pub bracketed_onto : Bool → (List ℕ → List ℕ) → List ℕ → List ℕ
bracketed_onto true text tail = 40 ∷ text (41 ∷ tail)
bracketed_onto false text tail = text tail

abbrev pub term_onto : ℕ → Lp → List ℕ → List ℕ
term_onto d Lp.sort tail = 84 ∷ 121 ∷ 112 ∷ 101 ∷ tail
term_onto d (Lp.const c) tail = c ++ tail
term_onto d (Lp.free n) tail = variable_onto n tail
term_onto d (Lp.index i) tail = variable_onto (d - suc i) tail
term_onto d (Lp.app f a) tail = bracketed_onto (is_binder f) (term_onto d f) (32 ∷ bracketed_onto (is_compound a) (term_onto d a) tail)
term_onto d (Lp.abs a b) tail = variable_onto d (32 ∷ 58 ∷ 32 ∷ bracketed_onto (is_binder a) (term_onto d a) (32 ∷ 61 ∷ 62 ∷ 32 ∷ term_onto (suc d) b tail))
term_onto d (Lp.prod a b) tail =
    let rest = bracketed_onto (is_binder a) (term_onto d a) (32 ∷ 45 ∷ 62 ∷ 32 ∷ term_onto (suc d) b tail) in
    cond (occurs 0 b) (variable_onto d (32 ∷ 58 ∷ 32 ∷ rest)) rest

-- what a constant's name is
pub record AreNames (declared : List (List ℕ)) : Type 0 where
  pub identifiers : (c : List ℕ) → is_among c declared ≡ true → IsIdentifier c
  pub no_variables : (c : List ℕ) → is_among c declared ≡ true → is_variable c ≡ false

-- A term in a scope that names each binder whose variable occurs.
pub record Fits (declared : List (List ℕ)) (scope : Scope) (t : Lp) : Type 0 where
  pub names : AreNames declared
  pub numbered : IsNumbered scope
  pub bound : (i k : ℕ) → k + suc i ≡ length scope → occurs i t ≡ true → binder_at i scope ≡ Some (variable k)
  pub term : IsTermOf declared (length scope) t
  pub small : length scope + binder_depth t < 2 ^ 64

-- The bytes begin with a phrase for the term, before these tokens.
pub record Reading (declared : List (List ℕ)) (scope : Scope) (P : List Token → List Token → Raw → Type 0) (bytes : List ℕ) (after : List Token) (to : List ℕ) (t : Lp) : Type 0 where
  pub tokens : List Token
  pub raw : Raw
  pub lexes : EntryTokens bytes tokens to
  pub parses : P tokens after raw
  pub resolves : resolved declared scope raw ≡ known t
  pub first : starts_with 59 bytes ≡ false

pub record Written (declared : List (List ℕ)) (t : Lp) : Type 0 where
  pub whole : (scope : Scope) (tail : List ℕ) (after : List Token) (to : List ℕ) → Fits declared scope t → EntryTokens tail after to → stops tail ≡ true →
      Reading declared scope IsTerm (term_onto (length scope) t tail) after to t
  pub as_function : is_binder t ≡ false → (scope : Scope) (tail : List ℕ) (after : List Token) (to : List ℕ) → Fits declared scope t → EntryTokens tail after to → stops tail ≡ true →
      Reading declared scope IsApplication (term_onto (length scope) t tail) after to t
  pub as_argument : is_compound t ≡ false → (scope : Scope) (tail : List ℕ) (after : List Token) (to : List ℕ) → Fits declared scope t → EntryTokens tail after to → stops tail ≡ true →
      Reading declared scope IsAtom (term_onto (length scope) t tail) after to t

to_application : (declared : List (List ℕ)) (scope : Scope) (bytes : List ℕ) (after : List Token) (to : List ℕ) (t : Lp) →
    Reading declared scope IsAtom bytes after to t → Reading declared scope IsApplication bytes after to t
to_application declared scope bytes after to t r = record {
  tokens = r.tokens;
  raw = r.raw;
  lexes = r.lexes;
  parses = head r.parses;
  resolves = r.resolves;
  first = r.first;
}

to_term : (declared : List (List ℕ)) (scope : Scope) (bytes : List ℕ) (after : List Token) (to : List ℕ) (t : Lp) →
    Reading declared scope IsApplication bytes after to t → Reading declared scope IsTerm bytes after to t
to_term declared scope bytes after to t r = record {
  tokens = r.tokens;
  raw = r.raw;
  lexes = r.lexes;
  parses = application r.parses;
  resolves = r.resolves;
  first = r.first;
}

-- a name alone
pub written_name : (declared : List (List ℕ)) (t : Lp) →
    ((scope : Scope) (tail : List ℕ) (after : List Token) (to : List ℕ) → Fits declared scope t → EntryTokens tail after to → stops tail ≡ true →
    Reading declared scope IsAtom (term_onto (length scope) t tail) after to t) → Written declared t
written_name declared t r = record {
  whole = λ scope tail after to f e s. to_term declared scope _ after to t (to_application declared scope _ after to t (r scope tail after to f e s));
  as_function = λ h scope tail after to f e s. to_application declared scope _ after to t (r scope tail after to f e s);
  as_argument = λ h scope tail after to f e s. r scope tail after to f e s;
}

-- a term in brackets
in_brackets : (declared : List (List ℕ)) (scope : Scope) (bytes : List ℕ) (after : List Token) (to : List ℕ) (t : Lp) →
    Reading declared scope IsTerm bytes (close_round ∷ after) to t → Reading declared scope IsAtom (40 ∷ bytes) after to t
in_brackets declared scope bytes after to t r = record {
  tokens = open_round ∷ r.tokens;
  raw = bracket r.raw;
  lexes = more (here (rw (r.first) refl)) (rw (r.first) refl) refl r.lexes;
  parses = bracketed r.parses;
  resolves = r.resolves;
  first = refl;
}

close_lexes : (tail : List ℕ) (after : List Token) (to : List ℕ) → EntryTokens tail after to → EntryTokens (41 ∷ tail) (close_round ∷ after) to
close_lexes tail after to e = more (here refl) refl refl e

pub as_domain : (declared : List (List ℕ)) (t : Lp) → Written declared t → (scope : Scope) (tail : List ℕ) (after : List Token) (to : List ℕ) → Fits declared scope t →
    EntryTokens tail after to → stops tail ≡ true → (b : Bool) → is_binder t ≡ b →
    Reading declared scope IsApplication (bracketed_onto b (term_onto (length scope) t) tail) after to t
as_domain declared t w scope tail after to f e s false h = w.as_function h scope tail after to f e s
as_domain declared t w scope tail after to f e s true h =
    to_application declared scope _ after to t (in_brackets declared scope _ after to t (w.whole scope (41 ∷ tail) (close_round ∷ after) to f (close_lexes tail after to e) refl))

pub in_argument : (declared : List (List ℕ)) (t : Lp) → Written declared t → (scope : Scope) (tail : List ℕ) (after : List Token) (to : List ℕ) → Fits declared scope t →
    EntryTokens tail after to → stops tail ≡ true → (b : Bool) → is_compound t ≡ b →
    Reading declared scope IsAtom (bracketed_onto b (term_onto (length scope) t) tail) after to t
in_argument declared t w scope tail after to f e s false h = w.as_argument h scope tail after to f e s
in_argument declared t w scope tail after to f e s true h =
    in_brackets declared scope _ after to t (w.whole scope (41 ∷ tail) (close_round ∷ after) to f (close_lexes tail after to e) refl)

-- a variable's name in bytes
pub variable_lexes : (n : ℕ) (tail : List ℕ) (after : List Token) (to : List ℕ) → n < 2 ^ 64 → EntryTokens tail after to → stops tail ≡ true →
    EntryTokens (variable_onto n tail) (id (variable n) (length (variable_onto n tail)) ∷ after) to
variable_lexes n tail after to small e s =
    word_lexes 120 (decimal n) tail (id (variable n) (length (variable_onto n tail))) after to refl (decimal_inside n small) s refl refl e

written_sort : (declared : List (List ℕ)) → Written declared Lp.sort
written_sort declared = written_name declared Lp.sort (λ scope tail after to f e s. record {
  tokens = type_word ∷ after;
  raw = universe;
  lexes = word_lexes 84 (121 ∷ 112 ∷ 101 ∷ []) tail type_word after to refl refl s refl refl e;
  parses = sort;
  resolves = refl;
  first = refl;
})

within : (declared : List (List ℕ)) (k i : ℕ) → IsTermOf declared k (Lp.index i) → i < k
within declared k i (IsTermOf.index h) = h

among : (declared : List (List ℕ)) (k : ℕ) (c : List ℕ) → IsTermOf declared k (Lp.const c) → is_among c declared ≡ true
among declared k c (IsTermOf.const h) = h

same_index : (i : ℕ) → occurs i (Lp.index i) ≡ true
same_index i = eq-eqb i i refl

written_index : (declared : List (List ℕ)) (i : ℕ) → Written declared (Lp.index i)
written_index declared i = written_name declared (Lp.index i) (λ scope tail after to f e s.
    let h : i < length scope = within declared (length scope) i f.term in
    let sum : length scope - suc i + suc i ≡ length scope = omega arith in
    let small : length scope < 2 ^ 64 = omega (arith, f.small) in
    let k = length scope - suc i in
    record {
      tokens = id (variable k) (length (variable_onto k tail)) ∷ after;
      raw = word (variable k) (length (variable_onto k tail));
      lexes = variable_lexes k tail after to (omega arith) e s;
      parses = name;
      resolves = ap (λ o. resolved_word declared o (variable k) (length (variable_onto k tail)))
          (index_of_variable scope f.numbered i k sum small (f.bound i k sum (same_index i)));
      first = refl;
    })

const_reading : (declared : List (List ℕ)) (scope : Scope) (c tail : List ℕ) (after : List Token) (to : List ℕ) → IsIdentifier c → is_among c declared ≡ true → index_of c scope ≡ None →
    EntryTokens tail after to → stops tail ≡ true → Reading declared scope IsAtom (c ++ tail) after to (Lp.const c)
const_reading declared scope [] tail after to x a n e stop = elim x [ ]
const_reading declared scope (b ∷ c) tail after to (identifier s inside w) a n e stop = record {
  tokens = id (b ∷ c) (length (b ∷ (c ++ tail))) ∷ after;
  raw = word (b ∷ c) (length (b ∷ (c ++ tail)));
  lexes = word_lexes b c tail (id (b ∷ c) (length (b ∷ (c ++ tail)))) after to s inside stop (identifier_token (b ∷ c) (length (b ∷ (c ++ tail))) w) refl e;
  parses = name;
  resolves = ap (λ o. resolved_word declared o (b ∷ c) (length (b ∷ (c ++ tail)))) n ∙ ap (λ t. constant_or_unknown t (b ∷ c) (length (b ∷ (c ++ tail)))) a;
  first = start_no_semicolon b (c ++ tail) s;
}

written_const : (declared : List (List ℕ)) (c : List ℕ) → Written declared (Lp.const c)
written_const declared c = written_name declared (Lp.const c) (λ scope tail after to f e s.
    let a = among declared (length scope) c f.term in
    let small : length scope < 2 ^ 64 = omega (arith, f.small) in
    const_reading declared scope c tail after to (f.names.identifiers c a) a (index_of_constant scope f.numbered c (f.names.no_variables c a) small) e s)

written_free : (declared : List (List ℕ)) (n : ℕ) → Written declared (Lp.free n)
written_free declared n = written_name declared (Lp.free n) (λ scope tail after to f e s. absurd (elim (f.term) [ ]))

-- two parts
pub two_known : (r s : Resolved Lp) (make : Lp → Lp → Lp) (t u : Lp) → r ≡ known t → s ≡ known u → and_then r (λ c. and_then s (λ d. known (make c d))) ≡ known (make t u)
two_known r s make t u p q =
    ap (λ o. and_then o (λ c. and_then s (λ d. known (make c d)))) p ∙ ap (λ o. and_then o (λ d. known (make t d))) q

fits_function : (declared : List (List ℕ)) (scope : Scope) (f a : Lp) → Fits declared scope (Lp.app f a) → Fits declared scope f
fits_function declared scope f a h = record {
  names = h.names;
  numbered = h.numbered;
  bound = λ i k e o. h.bound i k e (or_left (occurs i f) (occurs i a) o);
  term = elim (h.term) [ IsTermOf.app p q ↦ p ];
  small = omega (arith, h.small);
}

fits_argument : (declared : List (List ℕ)) (scope : Scope) (f a : Lp) → Fits declared scope (Lp.app f a) → Fits declared scope a
fits_argument declared scope f a h = record {
  names = h.names;
  numbered = h.numbered;
  bound = λ i k e o. h.bound i k e (or_right (occurs i f) (occurs i a) o);
  term = elim (h.term) [ IsTermOf.app p q ↦ q ];
  small = omega (arith, h.small);
}

application_reading : (declared : List (List ℕ)) (f a : Lp) → Written declared f → Written declared a → (scope : Scope) (tail : List ℕ) (after : List Token) (to : List ℕ) →
    Fits declared scope (Lp.app f a) → EntryTokens tail after to → stops tail ≡ true →
    Reading declared scope IsApplication (term_onto (length scope) (Lp.app f a) tail) after to (Lp.app f a)
application_reading declared f a v w scope tail after to h e s =
    let y = in_argument declared a w scope tail after to (fits_argument declared scope f a h) e s (is_compound a) refl in
    let x = as_domain declared f v scope (32 ∷ bracketed_onto (is_compound a) (term_onto (length scope) a) tail) y.tokens to (fits_function declared scope f a h) (spaced _ y.tokens to y.lexes) refl (is_binder f) refl in
    record {
      tokens = x.tokens;
      raw = apply x.raw y.raw;
      lexes = x.lexes;
      parses = applied x.parses y.parses;
      resolves = two_known (resolved declared scope x.raw) (resolved declared scope y.raw) Lp.app f a x.resolves y.resolves;
      first = x.first;
    }

written_application : (declared : List (List ℕ)) (f a : Lp) → Written declared f → Written declared a → Written declared (Lp.app f a)
written_application declared f a v w = record {
  whole = λ scope tail after to h e s. to_term declared scope _ after to (Lp.app f a) (application_reading declared f a v w scope tail after to h e s);
  as_function = λ never scope tail after to h e s. application_reading declared f a v w scope tail after to h e s;
  as_argument = λ never scope tail after to h e s. absurd (both_ways true never refl);
}

-- a domain and a body, as a product and an abstraction have them
record Binds (declared : List (List ℕ)) (scope : Scope) (a b : Lp) : Type 0 where
  names : AreNames declared
  numbered : IsNumbered scope
  bound : (i k : ℕ) → k + suc i ≡ length scope → (occurs i a || occurs (suc i) b) ≡ true → binder_at i scope ≡ Some (variable k)
  domain : IsTermOf declared (length scope) a
  body : IsTermOf declared (suc (length scope)) b
  small : length scope + max (binder_depth a) (suc (binder_depth b)) < 2 ^ 64

fits_domain : (declared : List (List ℕ)) (scope : Scope) (a b : Lp) → Binds declared scope a b → Fits declared scope a
fits_domain declared scope a b h = record {
  names = h.names;
  numbered = h.numbered;
  bound = λ i k e o. h.bound i k e (or_left (occurs i a) (occurs (suc i) b) o);
  term = h.domain;
  small = omega (arith, h.small);
}

bound_named : (declared : List (List ℕ)) (scope : Scope) (a b : Lp) → Binds declared scope a b → (i k : ℕ) → k + suc i ≡ suc (length scope) → occurs i b ≡ true →
    binder_at i (Some (variable (length scope)) ∷ scope) ≡ Some (variable k)
bound_named declared scope a b h zero k e o = let same : length scope ≡ k = omega arith in ap (λ n. Some (variable n)) same
bound_named declared scope a b h (suc i) k e o = h.bound i k (omega arith) (or_right (occurs i a) (occurs (suc i) b) o)

bound_unnamed : (declared : List (List ℕ)) (scope : Scope) (a b : Lp) → Binds declared scope a b → occurs 0 b ≡ false → (i k : ℕ) → k + suc i ≡ suc (length scope) → occurs i b ≡ true →
    binder_at i (None ∷ scope) ≡ Some (variable k)
bound_unnamed declared scope a b h never zero k e o = absurd (both_ways (occurs 0 b) never o)
bound_unnamed declared scope a b h never (suc i) k e o = h.bound i k (omega arith) (or_right (occurs i a) (occurs (suc i) b) o)

fits_named : (declared : List (List ℕ)) (scope : Scope) (a b : Lp) → Binds declared scope a b → Fits declared (Some (variable (length scope)) ∷ scope) b
fits_named declared scope a b h = record {
  names = h.names;
  numbered = named h.numbered;
  bound = bound_named declared scope a b h;
  term = h.body;
  small = omega (arith, h.small);
}

fits_unnamed : (declared : List (List ℕ)) (scope : Scope) (a b : Lp) → Binds declared scope a b → occurs 0 b ≡ false → Fits declared (None ∷ scope) b
fits_unnamed declared scope a b h never = record {
  names = h.names;
  numbered = unnamed h.numbered;
  bound = bound_unnamed declared scope a b h never;
  term = h.body;
  small = omega (arith, h.small);
}

-- a binder's name and its colon
pub binder_lexes : (n : ℕ) (bytes : List ℕ) (tokens : List Token) (to : List ℕ) → n < 2 ^ 64 → EntryTokens bytes tokens to →
    EntryTokens (variable_onto n (32 ∷ 58 ∷ 32 ∷ bytes)) (id (variable n) (length (variable_onto n (32 ∷ 58 ∷ 32 ∷ bytes))) ∷ colon ∷ tokens) to
binder_lexes n bytes tokens to small e =
    variable_lexes n (32 ∷ 58 ∷ 32 ∷ bytes) (colon ∷ tokens) to small (more (over refl (here refl)) refl refl (spaced bytes tokens to e)) refl

arrow_lexes : (bytes : List ℕ) (tokens : List Token) (to : List ℕ) → EntryTokens bytes tokens to → EntryTokens (32 ∷ 45 ∷ 62 ∷ 32 ∷ bytes) (arrow ∷ tokens) to
arrow_lexes bytes tokens to e = more (over refl (here refl)) refl refl (spaced bytes tokens to e)

fat_arrow_lexes : (bytes : List ℕ) (tokens : List Token) (to : List ℕ) → EntryTokens bytes tokens to → EntryTokens (32 ∷ 61 ∷ 62 ∷ 32 ∷ bytes) (fat_arrow ∷ tokens) to
fat_arrow_lexes bytes tokens to e = more (over refl (here refl)) refl refl (spaced bytes tokens to e)

abstraction_reading : (declared : List (List ℕ)) (a b : Lp) → Written declared a → Written declared b → (scope : Scope) (tail : List ℕ) (after : List Token) (to : List ℕ) →
    Binds declared scope a b → EntryTokens tail after to → stops tail ≡ true →
    Reading declared scope IsTerm (term_onto (length scope) (Lp.abs a b) tail) after to (Lp.abs a b)
abstraction_reading declared a b v w scope tail after to h e s =
    let d = length scope in
    let y = w.whole (Some (variable d) ∷ scope) tail after to (fits_named declared scope a b h) e s in
    let x = as_domain declared a v scope (32 ∷ 61 ∷ 62 ∷ 32 ∷ term_onto (suc d) b tail) (fat_arrow ∷ y.tokens) to (fits_domain declared scope a b h) (fat_arrow_lexes _ y.tokens to y.lexes) refl (is_binder a) refl in
    let bytes = bracketed_onto (is_binder a) (term_onto d a) (32 ∷ 61 ∷ 62 ∷ 32 ∷ term_onto (suc d) b tail) in
    record {
      tokens = id (variable d) (length (variable_onto d (32 ∷ 58 ∷ 32 ∷ bytes))) ∷ colon ∷ x.tokens;
      raw = abstraction (variable d) x.raw y.raw;
      lexes = binder_lexes d bytes x.tokens to (omega (arith, h.small)) x.lexes;
      parses = function x.parses y.parses;
      resolves = two_known (resolved declared scope x.raw) (resolved declared (Some (variable d) ∷ scope) y.raw) Lp.abs a b x.resolves y.resolves;
      first = refl;
    }

product_reading : (declared : List (List ℕ)) (a b : Lp) → Written declared a → Written declared b → (scope : Scope) (tail : List ℕ) (after : List Token) (to : List ℕ) →
    Binds declared scope a b → EntryTokens tail after to → stops tail ≡ true → (o : Bool) → occurs 0 b ≡ o →
    (let rest = bracketed_onto (is_binder a) (term_onto (length scope) a) (32 ∷ 45 ∷ 62 ∷ 32 ∷ term_onto (suc (length scope)) b tail) in
    Reading declared scope IsTerm (cond o (variable_onto (length scope) (32 ∷ 58 ∷ 32 ∷ rest)) rest) after to (Lp.prod a b))
product_reading declared a b v w scope tail after to h e s true o =
    let d = length scope in
    let y = w.whole (Some (variable d) ∷ scope) tail after to (fits_named declared scope a b h) e s in
    let x = as_domain declared a v scope (32 ∷ 45 ∷ 62 ∷ 32 ∷ term_onto (suc d) b tail) (arrow ∷ y.tokens) to (fits_domain declared scope a b h) (arrow_lexes _ y.tokens to y.lexes) refl (is_binder a) refl in
    let bytes = bracketed_onto (is_binder a) (term_onto d a) (32 ∷ 45 ∷ 62 ∷ 32 ∷ term_onto (suc d) b tail) in
    record {
      tokens = id (variable d) (length (variable_onto d (32 ∷ 58 ∷ 32 ∷ bytes))) ∷ colon ∷ x.tokens;
      raw = product (Some (variable d)) x.raw y.raw;
      lexes = binder_lexes d bytes x.tokens to (omega (arith, h.small)) x.lexes;
      parses = named_product x.parses y.parses;
      resolves = two_known (resolved declared scope x.raw) (resolved declared (Some (variable d) ∷ scope) y.raw) Lp.prod a b x.resolves y.resolves;
      first = refl;
    }
product_reading declared a b v w scope tail after to h e s false o =
    let d = length scope in
    let y = w.whole (None ∷ scope) tail after to (fits_unnamed declared scope a b h o) e s in
    let x = as_domain declared a v scope (32 ∷ 45 ∷ 62 ∷ 32 ∷ term_onto (suc d) b tail) (arrow ∷ y.tokens) to (fits_domain declared scope a b h) (arrow_lexes _ y.tokens to y.lexes) refl (is_binder a) refl in
    record {
      tokens = x.tokens;
      raw = product None x.raw y.raw;
      lexes = x.lexes;
      parses = plain_product x.parses y.parses;
      resolves = two_known (resolved declared scope x.raw) (resolved declared (None ∷ scope) y.raw) Lp.prod a b x.resolves y.resolves;
      first = x.first;
    }

binds_abs : (declared : List (List ℕ)) (scope : Scope) (a b : Lp) → Fits declared scope (Lp.abs a b) → Binds declared scope a b
binds_abs declared scope a b h = record {
  names = h.names;
  numbered = h.numbered;
  bound = h.bound;
  small = h.small;
  domain = elim (h.term) [ IsTermOf.abs p q ↦ p ];
  body = elim (h.term) [ IsTermOf.abs p q ↦ q ];
}

binds_prod : (declared : List (List ℕ)) (scope : Scope) (a b : Lp) → Fits declared scope (Lp.prod a b) → Binds declared scope a b
binds_prod declared scope a b h = record {
  names = h.names;
  numbered = h.numbered;
  bound = h.bound;
  small = h.small;
  domain = elim (h.term) [ IsTermOf.prod p q ↦ p ];
  body = elim (h.term) [ IsTermOf.prod p q ↦ q ];
}

-- each term is written so that it reads as itself
pub written : (declared : List (List ℕ)) (t : Lp) → Written declared t
written declared Lp.sort = written_sort declared
written declared (Lp.const c) = written_const declared c
written declared (Lp.free n) = written_free declared n
written declared (Lp.index i) = written_index declared i
written declared (Lp.app f a) = written_application declared f a (written declared f) (written declared a)
written declared (Lp.abs a b) = record {
  whole = λ scope tail after to h e s. abstraction_reading declared a b (written declared a) (written declared b) scope tail after to (binds_abs declared scope a b h) e s;
  as_function = λ never scope tail after to h e s. absurd (both_ways true never refl);
  as_argument = λ never scope tail after to h e s. absurd (both_ways true never refl);
}
written declared (Lp.prod a b) = record {
  whole = λ scope tail after to h e s. product_reading declared a b (written declared a) (written declared b) scope tail after to (binds_prod declared scope a b h) e s (occurs 0 b) refl;
  as_function = λ never scope tail after to h e s. absurd (both_ways true never refl);
  as_argument = λ never scope tail after to h e s. absurd (both_ways true never refl);
}
