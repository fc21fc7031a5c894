-- The constants of symbols and premises: what they are made of, and that they differ.
use Rattle.std.proofs.Common.{ℕ, zero, suc, ◌==◌, ◌≡◌, ◌≢◌, ◌+◌, ◌/◌, ◌%◌, ◌<◌, ◌≤◌, ◌^◌, ◌↔◌, Bool, true, false, ◌&&◌, ◌||◌, cond, Some, List, [], ◌∷◌, ◌++◌, refl, sym, ◌∙◌, subst, append_assoc, arith, All}
use Rattle.std.specs.Prelude.{nat_le}
use Rattle.std.specs.Fmt.{decimal}
use Rattle.std.proofs.lemmas.Fmt.{decimal_by_steps, decimal_injective}
use Rattle.std.proofs.lemmas.List.Elements.{All-head, All-tail}
use Rattle.lp_terms.specs.Names.{is_start, is_digit, is_inside, all_bytes}
use Rattle.lp_terms.specs.Names as names
use Rattle.lp_terms.specs.File.{IsNewName}
use Rattle.zm_logic.specs.Tree.{Sense, Symbol}
use Rattle.zm_logic.specs.Typing.{nth, how_many}
use Rattle.zm_logic.specs.Problem.{IsSameName}
use Rattle.lp_signature.specs.Prelude.{prelude}
use Rattle.lp_signature.specs.Names.{is_plain, hexadecimal, coded, kind_prefix, symbol_name}
use Rattle.lp_signature.specs.Declarable.{AreBytes, IsDeclarable, declared_by}
use Rattle.lp_signature.specs.Laws as laws

pub never : false ≡ true → ⊥
never h = grind arith

pub both_true : (a b : Bool) → (a && b) ≡ true → (a ≡ true) × (b ≡ true)
both_true true b h = (refl, h)
both_true false b h = absurd (never h)

pub true_both : (a b : Bool) → a ≡ true → b ≡ true → (a && b) ≡ true
true_both true b h g = g
true_both false b h g = absurd (never h)

pub same_head : {x y : ℕ} {xs ys : List ℕ} → x ∷ xs ≡ y ∷ ys → x ≡ y
same_head e = cc (e)

same_tail : {x y : ℕ} {xs ys : List ℕ} → x ∷ xs ≡ y ∷ ys → xs ≡ ys
same_tail e = cc (e)

same_cons : {x y : ℕ} {xs ys : List ℕ} → x ≡ y → xs ≡ ys → x ∷ xs ≡ y ∷ ys
same_cons e g = cc (e, g)

all_joined : (test : ℕ → Bool) (xs ys : List ℕ) → all_bytes test xs ≡ true → all_bytes test ys ≡ true → all_bytes test (xs ++ ys) ≡ true
all_joined test [] ys h g = g
all_joined test (x ∷ xs) ys h g = true_both _ _ (both_true _ _ h).0 (all_joined test xs ys (both_true _ _ h).1 g)

-- Decimals.

is_between : (low high b : ℕ) → low ≤ b → b ≤ high → names.between low high b ≡ true
is_between low high b h g = grind arith

digit_below : (n : ℕ) → n < 10 → is_digit (48 + n) ≡ true
digit_below n h = is_between 48 57 (48 + n) (omega arith) (omega arith)

decimal_digits : (n : ℕ) → n < 2 ^ 64 → all_bytes is_digit (decimal n) ≡ true
decimal_digits n h =
    decimal_by_steps (λ m ds. all_bytes is_digit ds ≡ true) (λ m l. true_both _ _ (digit_below m l) refl)
    (λ m ds l e. all_joined is_digit ds ((48 + m % 10) ∷ []) e (true_both _ _ (digit_below (m % 10) (omega arith)) refl)) n h

-- digits have no underscore, so what stands before the last underscore is determined
no_underscore : (xs ys : List ℕ) → all_bytes is_digit (xs ++ 95 ∷ ys) ≡ true → ⊥
no_underscore [] ys h = never (both_true (is_digit 95) (all_bytes is_digit ys) h).0
no_underscore (x ∷ xs) ys h = no_underscore xs ys (both_true _ _ h).1

parts_agree : (xs ys ds es : List ℕ) → all_bytes is_digit ds ≡ true → all_bytes is_digit es ≡ true → xs ++ 95 ∷ ds ≡ ys ++ 95 ∷ es
    → (xs ≡ ys) × (ds ≡ es)
parts_agree [] [] ds es p q e = (refl, same_tail e)
parts_agree [] (y ∷ ys) ds es p q e = absurd (no_underscore ys es (subst (λ l. all_bytes is_digit l ≡ true) (same_tail e) p))
parts_agree (x ∷ xs) [] ds es p q e = absurd (no_underscore xs ds (subst (λ l. all_bytes is_digit l ≡ true) (sym (same_tail e)) q))
parts_agree (x ∷ xs) (y ∷ ys) ds es p q e = let ih = parts_agree xs ys ds es p q (same_tail e) in (same_cons (same_head e) ih.0, ih.1)

-- Escaped names.

digit_agrees : (m n : ℕ) → hexadecimal m ≡ hexadecimal n → m ≡ n
digit_agrees m n e = go (nat_le m 9) refl (nat_le n 9) refl e
  where
    go : (a : Bool) → nat_le m 9 ≡ a → (b : Bool) → nat_le n 9 ≡ b → cond a (48 + m) (87 + m) ≡ cond b (48 + n) (87 + n) → m ≡ n
    go true p true q e = omega (arith, e)
    go false p false q e = omega (arith, e)
    go true p false q e = grind (arith, e)
    go false p true q e = grind (arith, e)

byte_agrees : (m n : ℕ) → m / 16 ≡ n / 16 → m % 16 ≡ n % 16 → m ≡ n
byte_agrees m n e g = omega (arith, e, g)

pub escaped_names_differ : laws.EscapedNamesDiffer
escaped_names_differ [] [] e = refl
escaped_names_differ [] (y ∷ ys) e = go (is_plain y) e
  where
    go : (b : Bool) → [] ≡ cond b (y ∷ coded ys) (33 ∷ hexadecimal (y / 16) ∷ hexadecimal (y % 16) ∷ coded ys) → [] ≡ y ∷ ys
    go true e = absurd (cc (e))
    go false e = absurd (cc (e))
escaped_names_differ (x ∷ xs) [] e = go (is_plain x) e
  where
    go : (b : Bool) → cond b (x ∷ coded xs) (33 ∷ hexadecimal (x / 16) ∷ hexadecimal (x % 16) ∷ coded xs) ≡ [] → x ∷ xs ≡ []
    go true e = absurd (cc (e))
    go false e = absurd (cc (e))
escaped_names_differ (x ∷ xs) (y ∷ ys) e = go (is_plain x) refl (is_plain y) refl e (escaped_names_differ xs ys)
  where
    go : (a : Bool) → is_plain x ≡ a → (b : Bool) → is_plain y ≡ b
        → cond a (x ∷ coded xs) (33 ∷ hexadecimal (x / 16) ∷ hexadecimal (x % 16) ∷ coded xs)
        ≡ cond b (y ∷ coded ys) (33 ∷ hexadecimal (y / 16) ∷ hexadecimal (y % 16) ∷ coded ys)
        → (coded xs ≡ coded ys → xs ≡ ys) → x ∷ xs ≡ y ∷ ys
    go true p true q e ih = same_cons (same_head e) (ih (same_tail e))
    go true p false q e ih = absurd (never (subst (λ n. is_plain n ≡ true) (same_head e) p))
    go false p true q e ih = absurd (never (subst (λ n. is_plain n ≡ true) (sym (same_head e)) q))
    go false p false q e ih =
        let first = digit_agrees (x / 16) (y / 16) (same_head (same_tail e)) in
        let second = digit_agrees (x % 16) (y % 16) (same_head (same_tail (same_tail e))) in
        same_cons (byte_agrees x y first second) (ih (same_tail (same_tail (same_tail e))))

inside_plain : (a c d : Bool) → (a || c) ≡ true → (a || c || d) ≡ true
inside_plain true c d h = refl
inside_plain false true d h = refl
inside_plain false false d h = absurd (never h)

inside_digit : (a c d : Bool) → c ≡ true → (a || c || d) ≡ true
inside_digit true c d h = refl
inside_digit false true d h = refl
inside_digit false false d h = absurd (never h)

small_letter : (b : ℕ) → 97 ≤ b → b ≤ 122 → is_inside b ≡ true
small_letter b h g = go (names.between 97 122 b) (is_between 97 122 b h g)
  where
    go : (a : Bool) → a ≡ true → ((a || names.between 65 90 b || b == 95) || is_digit b || b == 33) ≡ true
    go true h = refl
    go false h = absurd (never h)

hexadecimal_inside : (n : ℕ) → n < 16 → is_inside (hexadecimal n) ≡ true
hexadecimal_inside n h = go (nat_le n 9) refl
  where
    go : (a : Bool) → nat_le n 9 ≡ a → is_inside (cond a (48 + n) (87 + n)) ≡ true
    go true e = let x : n ≤ 9 = grind arith in inside_digit (is_start (48 + n)) (is_digit (48 + n)) ((48 + n) == 33) (digit_below n (omega arith))
    go false e = let x : 9 < n = grind arith in small_letter (87 + n) (omega arith) (omega arith)

coded_inside : (bs : List ℕ) → AreBytes bs → all_bytes is_inside (coded bs) ≡ true
coded_inside [] h = refl
coded_inside (b ∷ bs) h = go (is_plain b) refl (coded_inside bs (All-tail (λ b. b < 256) b bs h)) (All-head (λ b. b < 256) b bs h)
  where
    go : (a : Bool) → is_plain b ≡ a → all_bytes is_inside (coded bs) ≡ true → b < 256
        → all_bytes is_inside (cond a (b ∷ coded bs) (33 ∷ hexadecimal (b / 16) ∷ hexadecimal (b % 16) ∷ coded bs)) ≡ true
    go true e rest l = true_both _ _ (inside_plain (is_start b) (is_digit b) (b == 33) e) rest
    go false e rest l =
        true_both _ _ (hexadecimal_inside (b / 16) (omega arith)) (true_both _ _ (hexadecimal_inside (b % 16) (omega arith)) rest)

-- Symbols.

same_kind : (r s : Sense) (xs ys : List ℕ) → kind_prefix r ++ xs ≡ kind_prefix s ++ ys
    → ((r ≡ Sense.constructor) ↔ (s ≡ Sense.constructor)) × (xs ≡ ys)
same_kind Sense.constructor Sense.constructor xs ys e = ((λ h. refl, λ h. refl), same_tail (same_tail e))
same_kind Sense.constructor Sense.predicate xs ys e = absurd (omega (arith, same_head e))
same_kind Sense.constructor (Sense.function t) xs ys e = absurd (omega (arith, same_head e))
same_kind Sense.predicate Sense.constructor xs ys e = absurd (omega (arith, same_head e))
same_kind Sense.predicate Sense.predicate xs ys e = ((λ h. h, λ h. h), same_tail (same_tail e))
same_kind Sense.predicate (Sense.function t) xs ys e = ((λ h. absurd (cc (h)), λ h. absurd (cc (h))), same_tail (same_tail e))
same_kind (Sense.function t) Sense.constructor xs ys e = absurd (omega (arith, same_head e))
same_kind (Sense.function t) Sense.predicate xs ys e = ((λ h. absurd (cc (h)), λ h. absurd (cc (h))), same_tail (same_tail e))
same_kind (Sense.function t) (Sense.function u) xs ys e = ((λ h. absurd (cc (h)), λ h. absurd (cc (h))), same_tail (same_tail e))

-- the front of a symbol's constant, and the rest
in_parts : (d : Symbol) → symbol_name d ≡ kind_prefix d.sense ++ (coded d.name ++ 95 ∷ decimal (d.types + how_many d.arguments))
in_parts d = append_assoc (kind_prefix d.sense) (coded d.name) (95 ∷ decimal (d.types + how_many d.arguments))

pub same_symbol_names : (d e : Symbol) → IsDeclarable d → IsDeclarable e → symbol_name d ≡ symbol_name e → IsSameName d e
same_symbol_names d e x y h =
    let m = d.types + how_many d.arguments in
    let n = e.types + how_many e.arguments in
    let l : m < 2 ^ 64 = omega (arith, x.arguments) in
    let k : n < 2 ^ 64 = omega (arith, y.arguments) in
    let kind = same_kind d.sense e.sense (coded d.name ++ 95 ∷ decimal m) (coded e.name ++ 95 ∷ decimal n) (sym (in_parts d) ∙ h ∙ in_parts e) in
    let parts = parts_agree (coded d.name) (coded e.name) (decimal m) (decimal n) (decimal_digits m l) (decimal_digits n k) kind.1 in
    record {
      kind = kind.0;
      name = escaped_names_differ d.name e.name parts.0;
      arguments = decimal_injective m n l k parts.1;
    }

-- P of each symbol of a list
pub symbol_of : (P : Symbol → Type 0) (ss : List Symbol) (n : ℕ) (d : Symbol) → All P ss → nth ss n ≡ Some d → P d
symbol_of P [] n d a e = absurd (cc (e))
symbol_of P (s ∷ ss) zero d a e = let x : s ≡ d = cc (e) in subst P x (All-head P s ss a)
symbol_of P (s ∷ ss) (suc n) d a e = symbol_of P ss n d (All-tail P s ss a) e

pub symbol_names_differ : laws.SymbolNamesDiffer
symbol_names_differ p m n d e typed writable x y h =
    typed.names m n d e x y
    (same_symbol_names d e (symbol_of IsDeclarable p.symbols m d writable.symbols x) (symbol_of IsDeclarable p.symbols n e writable.symbols y) h)

kind_is_new : (r : Sense) (rest : List ℕ) → all_bytes is_inside rest ≡ true → IsNewName (declared_by [] prelude) (kind_prefix r ++ rest)
kind_is_new Sense.constructor rest h = record { identifier = names.IsIdentifier.identifier refl h refl; no_variable = refl; first = refl }
kind_is_new Sense.predicate rest h = record { identifier = names.IsIdentifier.identifier refl h refl; no_variable = refl; first = refl }
kind_is_new (Sense.function t) rest h = record { identifier = names.IsIdentifier.identifier refl h refl; no_variable = refl; first = refl }

digits_inside : (ds : List ℕ) → all_bytes is_digit ds ≡ true → all_bytes is_inside ds ≡ true
digits_inside [] h = refl
digits_inside (b ∷ bs) h =
    true_both _ _ (inside_digit (is_start b) (is_digit b) (b == 33) (both_true _ _ h).0) (digits_inside bs (both_true _ _ h).1)

pub symbol_names_are_new : laws.SymbolNamesAreNew
symbol_names_are_new d h =
    let n = d.types + how_many d.arguments in
    let l : n < 2 ^ 64 = omega (arith, h.arguments) in
    subst (IsNewName (declared_by [] prelude)) (sym (in_parts d))
    (kind_is_new d.sense (coded d.name ++ 95 ∷ decimal n)
    (all_joined is_inside (coded d.name) (95 ∷ decimal n) (coded_inside d.name h.name) (digits_inside (decimal n) (decimal_digits n l))))

-- the first two bytes tell a symbol's constant from others
pub begins_otherwise : (r : Sense) (xs : List ℕ) (b c : ℕ) (ys : List ℕ) → c ≢ 95 → kind_prefix r ++ xs ≢ b ∷ c ∷ ys
begins_otherwise Sense.constructor xs b c ys h e = h (sym (same_head (same_tail e)))
begins_otherwise Sense.predicate xs b c ys h e = h (sym (same_head (same_tail e)))
begins_otherwise (Sense.function t) xs b c ys h e = h (sym (same_head (same_tail e)))

pub symbol_names_are_their_own : laws.SymbolNamesAreTheirOwn
symbol_names_are_their_own d k =
    let rest = coded d.name ++ 95 ∷ decimal (d.types + how_many d.arguments) in (
      (λ e. begins_otherwise d.sense rest 97 120 (95 ∷ decimal k) (λ x. omega (arith, x)) (sym (in_parts d) ∙ e)),
      (λ e. begins_otherwise d.sense rest 103 111 (97 ∷ 108 ∷ []) (λ x. omega (arith, x)) (sym (in_parts d) ∙ e)),
      (λ e. begins_otherwise d.sense rest 115 104 (95 ∷ decimal k) (λ x. omega (arith, x)) (sym (in_parts d) ∙ e)),
    )

-- Premises.

pub premise_names_differ : laws.PremiseNamesDiffer
premise_names_differ j k h g e = decimal_injective j k h g (same_tail (same_tail (same_tail e)))

pub premise_names_are_new : laws.PremiseNamesAreNew
premise_names_are_new k h =
    record { identifier = names.IsIdentifier.identifier refl (digits_inside (decimal k) (decimal_digits k h)) refl; no_variable = refl; first = refl }
