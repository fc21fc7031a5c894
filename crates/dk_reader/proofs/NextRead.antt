-- One entry of a text, as the code answers it.
use Rattle.std.proofs.Common.{◌≡◌, ℕ, ◌+◌, ◌-◌, ◌≤◌, Bool, true, false, List, [], ◌∷◌, length, Option, Some, None, refl, sym, ◌∙◌, ap, subst, arith}
use Rattle.std.proofs.lemmas.Bool.{both_ways}
use Rattle.std.specs.Prelude.{◌≢◌, ◌==◌, Result, Ok, Err, IfOk, IfErr, IfSome}
use Rattle.lp_terms.specs.Signature as signature
use Rattle.lp_terms.specs.View.{entry_of}
use Rattle.dk_text.specs.Tokens.{Token, Skips, EntryTokens}
use Rattle.dk_text.specs.Refusals as plain
use Rattle.dk_text.specs.Refusals.{refused, Answers}
use Rattle.dk_reader.specs.declared.judge.Refusal.{Refusal}
use Rattle.dk_reader.specs.declared.read.Next.{Next}
use Rattle.dk_reader.specs.Judged.{refusal_seen}
use Rattle.dk_reader.specs.Told.{Refuses, told_of}
use Rattle.dk_reader.specs.Advance.{Accepts, Advances, Stops}
use Rattle.dk_reader.proofs.Advancing.{advances_of}
use Rattle.dk_reader.proofs.Files.{SoFar, stopped_here}

pub next_advances : (r : Result Next Refusal) (names inner : List (List ℕ)) (here rest : List ℕ) (tokens : List Token) → EntryTokens here tokens rest → length rest + length tokens ≤ length here →
    IfOk r (λ n. Accepts names inner tokens (entry_of n.entry)) → IfOk r (λ n. n.rest.now ≡ rest) → IfOk r (λ n. Advances names inner here (entry_of n.entry) n.rest.now)
next_advances (Ok n) names inner here rest tokens lexes size accepts same =
    subst (λ (z : List ℕ). Advances names inner here (entry_of n.entry) z) (sym same) (advances_of names inner here rest tokens (entry_of n.entry) lexes size accepts)
next_advances (Err e) names inner here rest tokens lexes size accepts same = tt

stops_of : (o : Option plain.Refusal) (names : List (List ℕ)) (here rest : List ℕ) (tokens : List Token) → EntryTokens here tokens rest →
    IfSome o (λ s. Answers names tokens (refused s)) → IfSome o (λ s. Stops names here s)
stops_of None names here rest tokens lexes h = tt
stops_of (Some s) names here rest tokens lexes h = record { tokens = tokens; rest = rest; lexes = lexes; refuses = h }

pub next_stops : (r : Result Next Refusal) (names : List (List ℕ)) (here rest : List ℕ) (tokens : List Token) → EntryTokens here tokens rest →
    IfErr r (λ e. IfSome (refusal_seen e) (λ s. Answers names tokens (refused s))) → IfErr r (λ e. IfSome (refusal_seen e) (λ s. Stops names here s))
next_stops (Ok n) names here rest tokens lexes h = tt
next_stops (Err e) names here rest tokens lexes h = stops_of (refusal_seen e) names here rest tokens lexes h

pub told_refuses : (bytes rest here : List ℕ) (names : List (List ℕ)) (es : List signature.Entry) (o : Option plain.Refusal) → SoFar bytes rest names es → Skips rest here → here ≢ [] →
    IfSome o (λ s. Stops names here s) → Refuses bytes (told_of (length bytes) (length bytes - length here) o)
told_refuses bytes rest here names es None s skips some h = Refuses.memory
told_refuses bytes rest here names es (Some r) s skips some h = stopped_here bytes rest here names es r s skips some h

equal_of_test : (i k : ℕ) → (i == k) ≡ true → i ≡ k
equal_of_test i k h = grind arith

-- whether a text is empty
pub is_nothing : (bytes : List ℕ) (b : Bool) → b ≡ (length bytes == 0) → b ≡ true → bytes ≡ []
is_nothing [] b e h = refl
is_nothing (x ∷ bytes) b e h = absurd (let z = equal_of_test (length (x ∷ bytes)) 0 (sym e ∙ h) in cc)

pub is_something : (bytes : List ℕ) (b : Bool) → b ≡ (length bytes == 0) → b ≡ false → bytes ≢ []
is_something bytes b e h none = both_ways b h (e ∙ ap (λ z. length z == 0) none)
