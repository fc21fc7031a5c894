-- The bytes that are meant in a text are a text.
use Rattle.std.proofs.Common.{◌≡◌, ◌==◌, ◌+◌, ◌/◌, ◌<◌, ◌≤◌, ◌⊎◌, inl, inr, ℕ, Bool, true, false, cond, List, [], ◌∷◌, ◌++◌, refl, sym, ◌∙◌, ap, subst, arith}
use Rattle.std.specs.Prelude.{nat_lt}
use Rattle.std.specs.Str.{IsUtf8}
use Rattle.std.proofs.lemmas.Bool.Decides.{nat_tests}
use Rattle.std.proofs.Math.Utf8.{encode, encodes, next, scalar, scalars}
use Rattle.std.proofs.lemmas.Str.{encode_ascii}
use Rattle.std.proofs.lemmas.Bool.{and_from, and_parts}
use Rattle.tptp_reader.specs.Grammar.{unescaped}

-- bytes beyond ASCII
abbrev High : List ℕ → Type 0
High [] = Unit {0}
High (x ∷ xs) = (128 ≤ x) × High xs

no_backslash : (x : ℕ) → 128 ≤ x → (x == 92) ≡ false
no_backslash x h = grind (arith, nat_tests)

past : (x : ℕ) (rest : List ℕ) → (x == 92) ≡ false → unescaped (x ∷ rest) ≡ x ∷ unescaped rest
past x [] e = refl
past x (y ∷ rest) e = ap (λ (b : Bool). cond b (y ∷ unescaped rest) (x ∷ unescaped (y ∷ rest))) e

past_high : (xs rest : List ℕ) → High xs → unescaped (xs ++ rest) ≡ xs ++ unescaped rest
past_high [] rest h = refl
past_high (x ∷ xs) rest h = past x (xs ++ rest) (no_backslash x h.0) ∙ ap (λ ys. x ∷ ys) (past_high xs rest h.1)

-- one byte or more, all beyond ASCII
abbrev Long : List ℕ → Type 0
Long [] = ⊥
Long (x ∷ xs) = (128 ≤ x) × High xs

long_high : (xs : List ℕ) → Long xs → High xs
long_high [] h = absurd h
long_high (x ∷ xs) h = h

long_by : (c : ℕ) (b2 b3 : Bool) → Long (cond b2 ((192 + c / 64) ∷ next c ∷ []) (cond b3 ((224 + c / 4096) ∷ next (c / 64) ∷ next c ∷ []) ((240 + c / 262144) ∷ next (c / 4096) ∷ next (c / 64) ∷ next c ∷ [])))
long_by c true b3 = (omega arith, (omega arith, tt))
long_by c false true = (omega arith, (omega arith, (omega arith, tt)))
long_by c false false = (omega arith, (omega arith, (omega arith, (omega arith, tt))))

not_below : (c : ℕ) → 128 ≤ c → nat_lt c 128 ≡ false
not_below c h = grind (arith, nat_tests, h)

long : (c : ℕ) → 128 ≤ c → Long (encode c)
unfolding encode
long c h =
    subst (λ (b : Bool). Long (cond b (c ∷ []) (cond (nat_lt c 2048) ((192 + c / 64) ∷ next c ∷ []) (cond (nat_lt c 65536) ((224 + c / 4096) ∷ next (c / 64) ∷ next c ∷ []) ((240 + c / 262144) ∷ next (c / 4096) ∷ next (c / 64) ∷ next c ∷ [])))))
    (sym (not_below c h)) (long_by c (nat_lt c 2048) (nat_lt c 65536))

-- a number is in ASCII or beyond
order_by : (c : ℕ) (b : Bool) → nat_lt c 128 ≡ b → (c < 128) ⊎ (128 ≤ c)
order_by c true e = inl (grind (arith, nat_tests, e))
order_by c false e = inr (grind (arith, nat_tests, e))

order : (c : ℕ) → (c < 128) ⊎ (128 ≤ c)
order c = order_by c (nat_lt c 128) refl

meant_long : (xs rest : List ℕ) → Long xs → unescaped (92 ∷ xs ++ rest) ≡ xs ++ unescaped rest
meant_long [] rest h = absurd h
meant_long (x ∷ xs) rest h = ap (λ ys. x ∷ ys) (past_high xs rest h.1)

-- a character that no backslash is
plain_char : (c : ℕ) (rest : List ℕ) → (c == 92) ≡ false → (c < 128) ⊎ (128 ≤ c) → unescaped (encode c ++ rest) ≡ encode c ++ unescaped rest
plain_char c rest e (inl h) = ap (λ xs. unescaped (xs ++ rest)) (encode_ascii c h) ∙ past c rest e ∙ sym (ap (λ xs. xs ++ unescaped rest) (encode_ascii c h))
plain_char c rest e (inr h) = past_high (encode c) rest (long_high (encode c) (long c h))

-- a character behind a backslash
meant_char : (c : ℕ) (rest : List ℕ) → (c < 128) ⊎ (128 ≤ c) → unescaped (92 ∷ encode c ++ rest) ≡ encode c ++ unescaped rest
meant_char c rest (inl h) = ap (λ xs. unescaped (92 ∷ xs ++ rest)) (encode_ascii c h) ∙ sym (ap (λ xs. xs ++ unescaped rest) (encode_ascii c h))
meant_char c rest (inr h) = meant_long (encode c) rest (long c h)

backslash : (c : ℕ) → (c == 92) ≡ true → c ≡ 92
backslash c e = grind (arith, nat_tests)

only_char : (c : ℕ) (b : Bool) → (c == 92) ≡ b → unescaped (encode c ++ []) ≡ encode c ++ []
only_char c true e = let is = backslash c e in ap (λ xs. unescaped (xs ++ [])) (encode_ascii c (omega arith)) ∙ sym (ap (λ xs. xs ++ []) (encode_ascii c (omega arith)))
only_char c false e = plain_char c [] e (order c)

two_characters : (c d : ℕ) (cs : List ℕ) (b : Bool) → (c == 92) ≡ b → unescaped (encodes cs) ≡ encodes (unescaped cs) → unescaped (encodes (d ∷ cs)) ≡ encodes (unescaped (d ∷ cs)) → unescaped (encode c ++ (encode d ++ encodes cs)) ≡ encodes (cond b (d ∷ unescaped cs) (c ∷ unescaped (d ∷ cs)))
two_characters c d cs true e later next =
    let is = backslash c e in
    ap (λ xs. unescaped (xs ++ (encode d ++ encodes cs))) (encode_ascii c (omega arith) ∙ ap (λ x. x ∷ []) is)
    ∙ meant_char d (encodes cs) (order d) ∙ ap (λ ys. encode d ++ ys) later
two_characters c d cs false e later next = plain_char c (encode d ++ encodes cs) e (order c) ∙ ap (λ ys. encode c ++ ys) next

characters : (cs : List ℕ) → unescaped (encodes cs) ≡ encodes (unescaped cs)
characters [] = refl
characters (c ∷ []) = only_char c (c == 92) refl
characters (c ∷ d ∷ cs) = two_characters c d cs (c == 92) refl (characters cs) (characters (d ∷ cs))

two_scalars : (c d : ℕ) (cs : List ℕ) (b : Bool) → scalar c ≡ true → scalar d ≡ true → scalars (unescaped cs) ≡ true → scalars (unescaped (d ∷ cs)) ≡ true → scalars (cond b (d ∷ unescaped cs) (c ∷ unescaped (d ∷ cs))) ≡ true
two_scalars c d cs true h k later next = and_from (scalar d) (scalars (unescaped cs)) k later
two_scalars c d cs false h k later next = and_from (scalar c) (scalars (unescaped (d ∷ cs))) h next

scalars_meant : (cs : List ℕ) → scalars cs ≡ true → scalars (unescaped cs) ≡ true
scalars_meant [] h = refl
scalars_meant (c ∷ []) h = h
scalars_meant (c ∷ d ∷ cs) h =
    let after = (and_parts (scalar c) (scalars (d ∷ cs)) h).1 in
    two_scalars c d cs (c == 92) ((and_parts (scalar c) (scalars (d ∷ cs)) h).0) ((and_parts (scalar d) (scalars cs) after).0)
    (scalars_meant cs ((and_parts (scalar d) (scalars cs) after).1)) (scalars_meant (d ∷ cs) after)

pub unescaped_text : (bytes : List ℕ) → IsUtf8 bytes → IsUtf8 (unescaped bytes)
unescaped_text bytes u = (unescaped u.0, (scalars_meant u.0 u.1.0, sym (characters u.0) ∙ ap unescaped u.1.1))
