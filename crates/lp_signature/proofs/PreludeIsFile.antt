-- The prelude's entries are those of a file: a test of what a file keeps, and what the test shows.
use Rattle.std.proofs.Common.{ℕ, zero, suc, ◌≡◌, ◌<◌, Bool, true, false, ◌&&◌, cond, ◌==◌, nat_lt, List, [], ◌∷◌, length, refl, subst, arith}
use Rattle.lp_terms.specs.Term.{Lp}
use Rattle.lp_terms.specs.Signature.{Entry}
use Rattle.lp_terms.specs.Names.{is_start, is_inside, all_bytes, is_reserved, is_variable, is_among}
use Rattle.lp_terms.specs.Names as names
use Rattle.lp_terms.specs.File.{IsNewName, IsTermOf, IsContextOf, IsPattern, IsConstantApplied, IsEntryOf, AreEntriesOf, declared_after, occurs}
use Rattle.lp_terms.specs.File as file
use Rattle.lp_signature.specs.Prelude.{prelude}
use Rattle.lp_signature.specs.Laws.{PreludeIsFile}

both : (a b : Bool) → (a && b) ≡ true → (a ≡ true) × (b ≡ true)
both true b h = (refl, h)
both false b h = grind arith

refuted : (a : Bool) → cond a false true ≡ true → a ≡ false
refuted true h = grind arith
refuted false h = refl

abbrev is_new : List (List ℕ) → List ℕ → Bool
is_new declared [] = false
is_new declared (b ∷ bytes) =
    (is_start b && (all_bytes is_inside bytes && cond (is_reserved (b ∷ bytes)) false true))
    && (cond (is_variable (b ∷ bytes)) false true && cond (is_among (b ∷ bytes) declared) false true)

new_name : (declared : List (List ℕ)) (name : List ℕ) → is_new declared name ≡ true → IsNewName declared name
new_name declared [] h = grind arith
new_name declared (b ∷ bytes) h =
    let split = both _ _ h in
    let front = both _ _ split.0 in
    let inside = both _ _ front.1 in
    let rest = both _ _ split.1 in record {
      identifier = names.IsIdentifier.identifier front.0 inside.0 (refuted _ inside.1);
      no_variable = refuted _ rest.0;
      first = refuted _ rest.1;
    }

abbrev is_term : List (List ℕ) → ℕ → Lp → Bool
is_term declared k Lp.sort = true
is_term declared k (Lp.const name) = is_among name declared
is_term declared k (Lp.free n) = false
is_term declared k (Lp.index i) = nat_lt i k
is_term declared k (Lp.app f a) = is_term declared k f && is_term declared k a
is_term declared k (Lp.abs a b) = is_term declared k a && is_term declared (suc k) b
is_term declared k (Lp.prod a b) = is_term declared k a && is_term declared (suc k) b

below : (i k : ℕ) → nat_lt i k ≡ true → i < k
below i k h = grind arith

term_shown : (declared : List (List ℕ)) (k : ℕ) (t : Lp) → is_term declared k t ≡ true → IsTermOf declared k t
term_shown declared k Lp.sort h = file.IsTermOf.sort
term_shown declared k (Lp.const name) h = file.IsTermOf.const h
term_shown declared k (Lp.free n) h = grind arith
term_shown declared k (Lp.index i) h = file.IsTermOf.index (below i k h)
term_shown declared k (Lp.app f a) h = file.IsTermOf.app (term_shown declared k f (both _ _ h).0) (term_shown declared k a (both _ _ h).1)
term_shown declared k (Lp.abs a b) h = file.IsTermOf.abs (term_shown declared k a (both _ _ h).0) (term_shown declared (suc k) b (both _ _ h).1)
term_shown declared k (Lp.prod a b) h = file.IsTermOf.prod (term_shown declared k a (both _ _ h).0) (term_shown declared (suc k) b (both _ _ h).1)

abbrev is_context : List (List ℕ) → ℕ → List Lp → Bool
is_context declared k [] = true
is_context declared k (t ∷ ts) = is_term declared k t && is_context declared (suc k) ts

context_shown : (declared : List (List ℕ)) (k : ℕ) (ts : List Lp) → is_context declared k ts ≡ true → IsContextOf declared k ts
context_shown declared k [] h = file.IsContextOf.empty
context_shown declared k (t ∷ ts) h = file.IsContextOf.bind (term_shown declared k t (both _ _ h).0) (context_shown declared (suc k) ts (both _ _ h).1)

-- a constant applied to patterns, and with the flag a variable too
abbrev is_pattern : Bool → Lp → Bool
is_pattern variable Lp.sort = false
is_pattern variable (Lp.const name) = true
is_pattern variable (Lp.free n) = false
is_pattern variable (Lp.index i) = variable
is_pattern variable (Lp.app f a) = is_pattern false f && is_pattern true a
is_pattern variable (Lp.abs a b) = false
is_pattern variable (Lp.prod a b) = false

mutual
  applied_shown : (t : Lp) → is_pattern false t ≡ true → IsConstantApplied t
  applied_shown Lp.sort h = grind arith
  applied_shown (Lp.const name) h = file.IsConstantApplied.constant
  applied_shown (Lp.free n) h = grind arith
  applied_shown (Lp.index i) h = grind arith
  applied_shown (Lp.app f a) h = file.IsConstantApplied.applied (applied_shown f (both _ _ h).0) (pattern_shown a (both _ _ h).1)
  applied_shown (Lp.abs a b) h = grind arith
  applied_shown (Lp.prod a b) h = grind arith

  pattern_shown : (t : Lp) → is_pattern true t ≡ true → IsPattern t
  pattern_shown Lp.sort h = grind arith
  pattern_shown (Lp.const name) h = file.IsPattern.instance file.IsConstantApplied.constant
  pattern_shown (Lp.free n) h = grind arith
  pattern_shown (Lp.index i) h = file.IsPattern.variable
  pattern_shown (Lp.app f a) h = file.IsPattern.instance (file.IsConstantApplied.applied (applied_shown f (both _ _ h).0) (pattern_shown a (both _ _ h).1))
  pattern_shown (Lp.abs a b) h = grind arith
  pattern_shown (Lp.prod a b) h = grind arith

-- each number below n passes
abbrev all_below : ℕ → (ℕ → Bool) → Bool
all_below zero test = true
all_below (suc n) test = test n && all_below n test

same : (n i : ℕ) → (i == n) ≡ true → n ≡ i
same n i e = grind arith

less : (n i : ℕ) → i < suc n → (i == n) ≡ false → i < n
less n i h e = grind arith

last_or_less : (n i : ℕ) (b : Bool) (test : ℕ → Bool) → (i == n) ≡ b → i < suc n → test n ≡ true → (i < n → test i ≡ true) → test i ≡ true
last_or_less n i true test e h last before = subst (λ m. test m ≡ true) (same n i e) last
last_or_less n i false test e h last before = before (less n i h e)

below_shown : (n : ℕ) (test : ℕ → Bool) → all_below n test ≡ true → (i : ℕ) → i < n → test i ≡ true
below_shown zero test h i lt = absurd (omega arith)
below_shown (suc n) test h i lt = last_or_less n i (i == n) test refl lt (both _ _ h).0 (below_shown n test (both _ _ h).1 i)

abbrev is_entry : List (List ℕ) → Entry → Bool
is_entry declared (Entry.declare name definable type) = is_new declared name && is_term declared 0 type
is_entry declared (Entry.define name type body) = is_new declared name && (is_term declared 0 type && is_term declared 0 body)
is_entry declared (Entry.rule context left right) =
    (is_context declared 0 context && (is_term declared (length context) left && is_term declared (length context) right))
    && (is_pattern false left && all_below (length context) (λ i. occurs i left))

entry_shown : (declared : List (List ℕ)) (e : Entry) → is_entry declared e ≡ true → IsEntryOf declared e
entry_shown declared (Entry.declare name definable type) h =
    file.IsEntryOf.declare (new_name declared name (both _ _ h).0) (term_shown declared 0 type (both _ _ h).1)
entry_shown declared (Entry.define name type body) h =
    file.IsEntryOf.define (new_name declared name (both _ _ h).0)
    (term_shown declared 0 type (both _ _ (both _ _ h).1).0) (term_shown declared 0 body (both _ _ (both _ _ h).1).1)
entry_shown declared (Entry.rule context left right) h =
    file.IsEntryOf.rule
    (context_shown declared 0 context (both _ _ (both _ _ h).0).0)
    (term_shown declared (length context) left (both _ _ (both _ _ (both _ _ h).0).1).0)
    (term_shown declared (length context) right (both _ _ (both _ _ (both _ _ h).0).1).1)
    (applied_shown left (both _ _ (both _ _ h).1).0)
    (below_shown (length context) (λ i. occurs i left) (both _ _ (both _ _ h).1).1)

abbrev are_entries : List (List ℕ) → List Entry → Bool
are_entries declared [] = true
are_entries declared (e ∷ es) = is_entry declared e && are_entries (declared_after declared e) es

entries_shown : (declared : List (List ℕ)) (es : List Entry) → are_entries declared es ≡ true → AreEntriesOf declared es
entries_shown declared [] h = file.AreEntriesOf.done
entries_shown declared (e ∷ es) h =
    file.AreEntriesOf.next (entry_shown declared e (both _ _ h).0) (entries_shown (declared_after declared e) es (both _ _ h).1)

pub prelude_is_file : PreludeIsFile
prelude_is_file = record {
  in_order = entries_shown [] prelude refl;
  bounded = omega arith;
}
