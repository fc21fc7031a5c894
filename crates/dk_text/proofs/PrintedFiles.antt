-- The printed text of a file reads as that file.
use Rattle.std.proofs.Common.{◌≡◌, ℕ, zero, suc, ◌+◌, ◌^◌, ◌<◌, max, true, false, List, [], ◌∷◌, ◌++◌, length, Some, refl, sym, ◌∙◌, ap, subst, arith, inl, inr}
use Rattle.std.specs.Str.{bytes_eq}
use Rattle.std.proofs.lemmas.Bool.{or_cases}
use Rattle.lp_terms.specs.Term.{Lp}
use Rattle.lp_terms.specs.Signature.{Entry}
use Rattle.lp_terms.specs.Names.{is_among, is_variable, IsIdentifier, identifier}
use Rattle.lp_terms.specs.Measure.{binder_depth, context_depth, entry_depth, entries_depth}
use Rattle.lp_terms.specs.File.{declared_after, IsNewName, IsTermOf, IsContextOf, bind, IsEntryOf, AreEntriesOf, done, next}
use Rattle.dk_text.specs.Tokens.{Token, id, colon, becomes, long_arrow, point, comma, def_word, open_square, close_square, here, over, EntryTokens, last, more, cut}
use Rattle.dk_text.specs.Grammar.{IsTerm, Binding, binding, IsContext, single, several, RawEntry, declaration, definition, rewriting, IsEntry, declared, definable, defined, closed_rule, open_rule}
use Rattle.dk_text.specs.Names.{Scope, Resolved, known, and_then, resolved, resolved_context, resolved_entry, Reads, end, entry}
use Rattle.dk_text.specs.Text.{variable}
use Rattle.dk_text.proofs.Bytes.{stops, word_lexes, spaced, bytes_are_same, identifier_token}
use Rattle.dk_text.proofs.Scopes.{IsNumbered, start, named, binder_at}
use Rattle.dk_text.proofs.Printed.{variable_onto, term_onto, AreNames, Fits, Reading, written, binder_lexes}

abbrev pub bindings_onto : ℕ → List Lp → List ℕ → List ℕ
bindings_onto d [] tail = tail
bindings_onto d (a ∷ []) tail = variable_onto d (32 ∷ 58 ∷ 32 ∷ term_onto d a tail)
bindings_onto d (a ∷ c ∷ rest) tail = variable_onto d (32 ∷ 58 ∷ 32 ∷ term_onto d a (44 ∷ 32 ∷ bindings_onto (suc d) (c ∷ rest) tail))

-- behind a name: its type and what follows
abbrev pub typed_onto : List ℕ → Lp → List ℕ → List ℕ
typed_onto name a tail = name ++ (32 ∷ 58 ∷ 32 ∷ term_onto 0 a tail)

abbrev pub entry_onto : Entry → List ℕ → List ℕ
entry_onto (Entry.declare name true a) tail = 100 ∷ 101 ∷ 102 ∷ 32 ∷ typed_onto name a (46 ∷ tail)
entry_onto (Entry.declare name false a) tail = typed_onto name a (46 ∷ tail)
entry_onto (Entry.define name a b) tail = 100 ∷ 101 ∷ 102 ∷ 32 ∷ typed_onto name a (32 ∷ 58 ∷ 61 ∷ 32 ∷ term_onto 0 b (46 ∷ tail))
entry_onto (Entry.rule context a b) tail =
    91 ∷ bindings_onto 0 context (93 ∷ 32 ∷ term_onto (length context) a (32 ∷ 45 ∷ 45 ∷ 62 ∷ 32 ∷ term_onto (length context) b (46 ∷ tail)))

abbrev pub file_onto : List Entry → List ℕ
file_onto [] = []
file_onto (e ∷ es) = entry_onto e (10 ∷ file_onto es)

record EntryReading (names : List (List ℕ)) (bytes rest : List ℕ) (e : Entry) : Type 0 where
  tokens : List Token
  raw : RawEntry
  lexes : EntryTokens bytes tokens rest
  parses : IsEntry tokens raw
  resolves : resolved_entry names raw ≡ known e

name_lexes : (c tail : List ℕ) (tokens : List Token) (to : List ℕ) → IsIdentifier c → stops tail ≡ true → EntryTokens tail tokens to →
    EntryTokens (c ++ tail) (id c (length (c ++ tail)) ∷ tokens) to
name_lexes [] tail tokens to x s e = elim x [ ]
name_lexes (b ∷ c) tail tokens to (identifier i inside w) s e = word_lexes b c tail (id (b ∷ c) (length (b ∷ (c ++ tail)))) tokens to i inside s (identifier_token (b ∷ c) (length (b ∷ (c ++ tail))) w) refl e

typed_lexes : (c tail : List ℕ) (tokens : List Token) (to : List ℕ) → IsIdentifier c → EntryTokens tail tokens to →
    EntryTokens (c ++ (32 ∷ 58 ∷ 32 ∷ tail)) (id c (length (c ++ (32 ∷ 58 ∷ 32 ∷ tail))) ∷ colon ∷ tokens) to
typed_lexes c tail tokens to i e = name_lexes c (32 ∷ 58 ∷ 32 ∷ tail) (colon ∷ tokens) to i refl (more (over refl (here refl)) refl refl (spaced tail tokens to e))

def_lexes : (tail : List ℕ) (tokens : List Token) (to : List ℕ) → EntryTokens tail tokens to → EntryTokens (100 ∷ 101 ∷ 102 ∷ 32 ∷ tail) (def_word ∷ tokens) to
def_lexes tail tokens to e = word_lexes 100 (101 ∷ 102 ∷ []) (32 ∷ tail) def_word tokens to refl refl refl refl refl (spaced tail tokens to e)

point_lexes : (tail : List ℕ) → EntryTokens (46 ∷ tail) (point ∷ []) tail
point_lexes tail = last (here refl) refl

-- a term outside of all binders
fits_alone : (names : List (List ℕ)) (t : Lp) → AreNames names → IsTermOf names 0 t → binder_depth t < 2 ^ 64 → Fits names [] t
fits_alone names t n i h = record {
  names = n;
  numbered = start;
  bound = λ i k e o. absurd (omega arith);
  term = i;
  small = omega arith;
}

alone : (names : List (List ℕ)) (t : Lp) (tail : List ℕ) (after : List Token) (to : List ℕ) → AreNames names → IsTermOf names 0 t → binder_depth t < 2 ^ 64 → EntryTokens tail after to → stops tail ≡ true →
    Reading names [] IsTerm (term_onto 0 t tail) after to t
alone names t tail after to n i h e s = (written names t).whole [] tail after to (fits_alone names t n i h) e s

one_known : (r : Resolved Lp) (make : Lp → Entry) (t : Lp) → r ≡ known t → and_then r (λ c. known (make c)) ≡ known (make t)
one_known r make t p = ap (λ o. and_then o (λ c. known (make c))) p

both_known : (r s : Resolved Lp) (make : Lp → Lp → Entry) (t u : Lp) → r ≡ known t → s ≡ known u → and_then r (λ c. and_then s (λ d. known (make c d))) ≡ known (make t u)
both_known r s make t u p q =
    ap (λ o. and_then o (λ c. and_then s (λ d. known (make c d)))) p ∙ ap (λ o. and_then o (λ d. known (make t d))) q

declare_reading : (names : List (List ℕ)) (c : List ℕ) (a : Lp) (rest : List ℕ) → AreNames names → IsNewName names c → IsTermOf names 0 a → binder_depth a < 2 ^ 64 →
    EntryReading names (entry_onto (Entry.declare c false a) rest) rest (Entry.declare c false a)
declare_reading names c a rest n new i h =
    let x = alone names a (46 ∷ rest) (point ∷ []) rest n i h (point_lexes rest) refl in
    record {
      tokens = id c (length (typed_onto c a (46 ∷ rest))) ∷ colon ∷ x.tokens;
      raw = declaration c false x.raw;
      lexes = typed_lexes c (term_onto 0 a (46 ∷ rest)) x.tokens rest new.identifier x.lexes;
      parses = declared x.parses;
      resolves = one_known (resolved names [] x.raw) (λ t. Entry.declare c false t) a x.resolves;
    }

definable_reading : (names : List (List ℕ)) (c : List ℕ) (a : Lp) (rest : List ℕ) → AreNames names → IsNewName names c → IsTermOf names 0 a → binder_depth a < 2 ^ 64 →
    EntryReading names (entry_onto (Entry.declare c true a) rest) rest (Entry.declare c true a)
definable_reading names c a rest n new i h =
    let x = alone names a (46 ∷ rest) (point ∷ []) rest n i h (point_lexes rest) refl in
    record {
      tokens = def_word ∷ id c (length (typed_onto c a (46 ∷ rest))) ∷ colon ∷ x.tokens;
      raw = declaration c true x.raw;
      lexes = def_lexes (typed_onto c a (46 ∷ rest)) _ rest (typed_lexes c (term_onto 0 a (46 ∷ rest)) x.tokens rest new.identifier x.lexes);
      parses = definable x.parses;
      resolves = one_known (resolved names [] x.raw) (λ t. Entry.declare c true t) a x.resolves;
    }

define_reading : (names : List (List ℕ)) (c : List ℕ) (a b : Lp) (rest : List ℕ) → AreNames names → IsNewName names c → IsTermOf names 0 a → IsTermOf names 0 b → max (binder_depth a) (binder_depth b) < 2 ^ 64 →
    EntryReading names (entry_onto (Entry.define c a b) rest) rest (Entry.define c a b)
define_reading names c a b rest n new i j h =
    let y = alone names b (46 ∷ rest) (point ∷ []) rest n j (omega arith) (point_lexes rest) refl in
    let body = term_onto 0 b (46 ∷ rest) in
    let mid : EntryTokens (32 ∷ 58 ∷ 61 ∷ 32 ∷ body) (becomes ∷ y.tokens) rest = more (over refl (here refl)) refl refl (spaced body y.tokens rest y.lexes) in
    let x = alone names a (32 ∷ 58 ∷ 61 ∷ 32 ∷ body) (becomes ∷ y.tokens) rest n i (omega arith) mid refl in
    record {
      tokens = def_word ∷ id c (length (typed_onto c a (32 ∷ 58 ∷ 61 ∷ 32 ∷ body))) ∷ colon ∷ x.tokens;
      raw = definition c x.raw y.raw;
      lexes = def_lexes (typed_onto c a (32 ∷ 58 ∷ 61 ∷ 32 ∷ body)) _ rest (typed_lexes c (term_onto 0 a (32 ∷ 58 ∷ 61 ∷ 32 ∷ body)) x.tokens rest new.identifier x.lexes);
      parses = defined x.parses y.parses;
      resolves = both_known (resolved names [] x.raw) (resolved names [] y.raw) (λ t u. Entry.define c t u) a b x.resolves y.resolves;
    }

-- Rules

-- the scope inside a context
abbrev inside : List Lp → Scope → Scope
inside [] scope = scope
inside (a ∷ rest) scope = inside rest (Some (variable (length scope)) ∷ scope)

length-inside : (context : List Lp) (scope : Scope) → length (inside context scope) ≡ length context + length scope
length-inside [] scope = omega arith
length-inside (a ∷ rest) scope = length-inside rest (Some (variable (length scope)) ∷ scope) ∙ omega arith

-- each binder of the scope is named by its number
record AllNamed (scope : Scope) : Type 0 where
  numbered : IsNumbered scope
  bound : (i k : ℕ) → k + suc i ≡ length scope → binder_at i scope ≡ Some (variable k)

bound_more : (scope : Scope) → AllNamed scope → (i k : ℕ) → k + suc i ≡ suc (length scope) → binder_at i (Some (variable (length scope)) ∷ scope) ≡ Some (variable k)
bound_more scope n zero k e = let same : length scope ≡ k = omega arith in ap (λ n. Some (variable n)) same
bound_more scope n (suc i) k e = n.bound i k (omega arith)

one_more : (scope : Scope) → AllNamed scope → AllNamed (Some (variable (length scope)) ∷ scope)
one_more scope n = record { numbered = named n.numbered; bound = bound_more scope n }

none_named : AllNamed []
none_named = record { numbered = start; bound = λ i k e. absurd (omega arith) }

inside_named : (context : List Lp) (scope : Scope) → AllNamed scope → AllNamed (inside context scope)
inside_named [] scope n = n
inside_named (a ∷ rest) scope n = inside_named rest (Some (variable (length scope)) ∷ scope) (one_more scope n)

in_scope : (names : List (List ℕ)) (scope : Scope) (t : Lp) (tail : List ℕ) (after : List Token) (to : List ℕ) → AreNames names → AllNamed scope → IsTermOf names (length scope) t → length scope + binder_depth t < 2 ^ 64 →
    EntryTokens tail after to → stops tail ≡ true → Reading names scope IsTerm (term_onto (length scope) t tail) after to t
in_scope names scope t tail after to n s i h e stop = (written names t).whole scope tail after to (record { names = n; numbered = s.numbered; bound = λ i k e o. s.bound i k e; term = i; small = h }) e stop

record ContextReading (names : List (List ℕ)) (scope : Scope) (bytes : List ℕ) (after : List Token) (to : List ℕ) (context : List Lp) : Type 0 where
  tokens : List Token
  bindings : List Binding
  lexes : EntryTokens bytes tokens to
  parses : IsContext tokens after bindings
  resolves : (step : Scope → List Lp → Resolved Entry) → resolved_context names scope bindings step ≡ step (inside context scope) context

context_reading : (names : List (List ℕ)) (scope : Scope) (a : Lp) (rest : List Lp) (tail : List ℕ) (after : List Token) (to : List ℕ) → AreNames names → AllNamed scope →
    IsContextOf names (length scope) (a ∷ rest) → context_depth (length scope) (a ∷ rest) < 2 ^ 64 → EntryTokens tail after to →
    ContextReading names scope (bindings_onto (length scope) (a ∷ rest) (93 ∷ tail)) after to (a ∷ rest)
context_reading names scope a [] tail after to n s (bind i is) h e =
    let d = length scope in
    let x = in_scope names scope a (93 ∷ tail) (close_square ∷ after) to n s i (omega arith) (more (here refl) refl refl e) refl in
    record {
      tokens = id (variable d) (length (variable_onto d (32 ∷ 58 ∷ 32 ∷ term_onto d a (93 ∷ tail)))) ∷ colon ∷ x.tokens;
      bindings = binding (variable d) x.raw ∷ [];
      lexes = binder_lexes d (term_onto d a (93 ∷ tail)) x.tokens to (omega arith) x.lexes;
      parses = single x.parses;
      resolves = λ step. ap (λ r. and_then r (λ c. step (Some (variable d) ∷ scope) (c ∷ []))) x.resolves;
    }
context_reading names scope a (c ∷ rest) tail after to n s (bind i is) h e =
    let d = length scope in
    let y = context_reading names (Some (variable d) ∷ scope) c rest tail after to n (one_more scope s) is (omega arith) e in
    let more_bytes = bindings_onto (suc d) (c ∷ rest) (93 ∷ tail) in
    let x = in_scope names scope a (44 ∷ 32 ∷ more_bytes) (comma ∷ y.tokens) to n s i (omega arith) (more (here refl) refl refl (spaced more_bytes y.tokens to y.lexes)) refl in
    record {
      tokens = id (variable d) (length (variable_onto d (32 ∷ 58 ∷ 32 ∷ term_onto d a (44 ∷ 32 ∷ more_bytes)))) ∷ colon ∷ x.tokens;
      bindings = binding (variable d) x.raw ∷ y.bindings;
      lexes = binder_lexes d (term_onto d a (44 ∷ 32 ∷ more_bytes)) x.tokens to (omega arith) x.lexes;
      parses = several x.parses y.parses;
      resolves = λ step. ap (λ r. and_then r (λ c. resolved_context names (Some (variable d) ∷ scope) y.bindings (λ inner cs. step inner (c ∷ cs)))) x.resolves ∙ y.resolves (λ inner cs. step inner (a ∷ cs));
    }

-- both sides of a rule, the left one read before the arrow and the right one
record Sides (names : List (List ℕ)) (scope : Scope) (bytes rest : List ℕ) (a b : Lp) : Type 0 where
  middle : List Token
  right : Reading names scope IsTerm (term_onto (length scope) b (46 ∷ rest)) (point ∷ []) rest b
  left : Reading names scope IsTerm bytes (long_arrow ∷ right.tokens) rest a

sides_reading : (names : List (List ℕ)) (scope : Scope) (a b : Lp) (rest : List ℕ) → AreNames names → AllNamed scope → IsTermOf names (length scope) a → IsTermOf names (length scope) b →
    length scope + max (binder_depth a) (binder_depth b) < 2 ^ 64 →
    Sides names scope (term_onto (length scope) a (32 ∷ 45 ∷ 45 ∷ 62 ∷ 32 ∷ term_onto (length scope) b (46 ∷ rest))) rest a b
sides_reading names scope a b rest n s i j h =
    let y = in_scope names scope b (46 ∷ rest) (point ∷ []) rest n s j (omega arith) (point_lexes rest) refl in
    let bytes = term_onto (length scope) b (46 ∷ rest) in
    let mid : EntryTokens (32 ∷ 45 ∷ 45 ∷ 62 ∷ 32 ∷ bytes) (long_arrow ∷ y.tokens) rest = more (over refl (here refl)) refl refl (spaced bytes y.tokens rest y.lexes) in
    record {
      middle = [];
      right = y;
      left = in_scope names scope a (32 ∷ 45 ∷ 45 ∷ 62 ∷ 32 ∷ bytes) (long_arrow ∷ y.tokens) rest n s i (omega arith) mid refl;
    }

sides : (names : List (List ℕ)) (context : List Lp) (a b : Lp) (rest : List ℕ) → AreNames names → IsTermOf names (length context) a → IsTermOf names (length context) b →
    length context + max (binder_depth a) (binder_depth b) < 2 ^ 64 →
    Sides names (inside context []) (term_onto (length (inside context [])) a (32 ∷ 45 ∷ 45 ∷ 62 ∷ 32 ∷ term_onto (length (inside context [])) b (46 ∷ rest))) rest a b
sides names context a b rest n i j h =
    let same : length context ≡ length (inside context []) = omega (arith, length-inside context []) in
    sides_reading names (inside context []) a b rest n (inside_named context [] none_named)
    (subst (λ (k : ℕ). IsTermOf names k a) same i) (subst (λ (k : ℕ). IsTermOf names k b) same j) (omega arith)

side_bytes : ℕ → Lp → Lp → List ℕ → List ℕ
side_bytes d a b rest = term_onto d a (32 ∷ 45 ∷ 45 ∷ 62 ∷ 32 ∷ term_onto d b (46 ∷ rest))

rule_reading : (names : List (List ℕ)) (context : List Lp) (a b : Lp) (rest : List ℕ) → AreNames names → IsContextOf names 0 context → IsTermOf names (length context) a → IsTermOf names (length context) b →
    max (context_depth 0 context) (length context + max (binder_depth a) (binder_depth b)) < 2 ^ 64 →
    EntryReading names (91 ∷ bindings_onto 0 context (93 ∷ 32 ∷ side_bytes (length (inside context [])) a b rest)) rest (Entry.rule context a b)
unfolding side_bytes
rule_reading names [] a b rest n c i j h =
    let x = sides names [] a b rest n i j (omega arith) in
    record {
      tokens = open_square ∷ close_square ∷ x.left.tokens;
      raw = rewriting [] x.left.raw x.right.raw;
      lexes = more (here refl) refl refl (more (here refl) refl refl (spaced _ x.left.tokens rest x.left.lexes));
      parses = closed_rule x.left.parses x.right.parses;
      resolves = both_known (resolved names [] x.left.raw) (resolved names [] x.right.raw) (λ t u. Entry.rule [] t u) a b x.left.resolves x.right.resolves;
    }
rule_reading names (c ∷ cs) a b rest n is i j h =
    let context = c ∷ cs in
    let scope = inside context [] in
    let x = sides names context a b rest n i j (omega arith) in
    let bytes = side_bytes (length scope) a b rest in
    let y = context_reading names [] c cs (32 ∷ bytes) x.left.tokens rest n none_named is (omega arith) (spaced bytes x.left.tokens rest x.left.lexes) in
    record {
      tokens = open_square ∷ y.tokens;
      raw = rewriting y.bindings x.left.raw x.right.raw;
      lexes = more (here refl) refl refl y.lexes;
      parses = open_rule y.parses x.left.parses x.right.parses;
      resolves = y.resolves (λ s ts. and_then (resolved names s x.left.raw) (λ t. and_then (resolved names s x.right.raw) (λ u. known (Entry.rule ts t u))))
          ∙ both_known (resolved names scope x.left.raw) (resolved names scope x.right.raw) (λ t u. Entry.rule context t u) a b x.left.resolves x.right.resolves;
    }

entry_reading : (names : List (List ℕ)) (e : Entry) (rest : List ℕ) → AreNames names → IsEntryOf names e → entry_depth e < 2 ^ 64 → EntryReading names (entry_onto e rest) rest e
unfolding side_bytes
entry_reading names (Entry.declare c true a) rest n (IsEntryOf.declare new i) h = definable_reading names c a rest n new i h
entry_reading names (Entry.declare c false a) rest n (IsEntryOf.declare new i) h = declare_reading names c a rest n new i h
entry_reading names (Entry.define c a b) rest n (IsEntryOf.define new i j) h = define_reading names c a b rest n new i j h
entry_reading names (Entry.rule context a b) rest n (IsEntryOf.rule cs i j p o) h =
    let same : length (inside context []) ≡ length context = omega (arith, length-inside context []) in
    subst (λ (k : ℕ). EntryReading names (91 ∷ bindings_onto 0 context (93 ∷ 32 ∷ side_bytes k a b rest)) rest (Entry.rule context a b)) same (rule_reading names context a b rest n cs i j h)

-- names stay names
names_with : (names : List (List ℕ)) (c : List ℕ) → AreNames names → IsNewName names c → AreNames (c ∷ names)
names_with names c n new = record {
  identifiers = λ x e. elim (or_cases (bytes_eq c x) (is_among x names) e) [
    | inl h ↦ subst (λ (y : List ℕ). IsIdentifier y) (bytes_are_same c x h) new.identifier
    | inr h ↦ n.identifiers x h
  ];
  no_variables = λ x e. elim (or_cases (bytes_eq c x) (is_among x names) e) [
    | inl h ↦ ap is_variable (sym (bytes_are_same c x h)) ∙ new.no_variable
    | inr h ↦ n.no_variables x h
  ];
}

names_after : (names : List (List ℕ)) (e : Entry) → AreNames names → IsEntryOf names e → AreNames (declared_after names e)
names_after names (Entry.declare c f a) n (IsEntryOf.declare new i) = names_with names c n new
names_after names (Entry.define c a b) n (IsEntryOf.define new i j) = names_with names c n new
names_after names (Entry.rule cs a b) n (IsEntryOf.rule i j k p o) = n

lined : (bytes : List ℕ) (tokens : List Token) (to : List ℕ) → EntryTokens bytes tokens to → EntryTokens (10 ∷ bytes) tokens to
lined bytes tokens to (last s e) = last (over refl s) e
lined bytes tokens to (more s e p d) = more (over refl s) e p d
lined bytes tokens to (cut s e) = cut (over refl s) e

reads_line : (names : List (List ℕ)) (bytes : List ℕ) (es : List Entry) → Reads names bytes es → Reads names (10 ∷ bytes) es
reads_line names bytes es (end s) = end (over refl s)
reads_line names bytes es (entry {rest = rest} {tokens = tokens} l p r d) = entry (lined bytes tokens rest l) p r d

-- what is printed is read
pub printed_reads : (names : List (List ℕ)) (es : List Entry) → AreNames names → AreEntriesOf names es → entries_depth es < 2 ^ 64 → Reads names (file_onto es) es
printed_reads names [] n done h = end (here refl)
printed_reads names (e ∷ es) n (next i is) h =
    let x = entry_reading names e (10 ∷ file_onto es) n i (omega arith) in
    entry x.lexes x.parses x.resolves (reads_line (declared_after names e) (file_onto es) es (printed_reads (declared_after names e) es (names_after names e n i) is (omega arith)))
