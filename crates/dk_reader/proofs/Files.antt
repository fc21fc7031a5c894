-- A text, entry by entry.
use Rattle.std.proofs.Common.{◌≡◌, ℕ, ◌-◌, ◌<◌, ◌≤◌, max, List, [], ◌∷◌, ◌++◌, length, append_assoc, refl, sym, ap, subst, arith}
use Rattle.std.specs.Prelude.{◌≢◌}
use Rattle.std.proofs.lemmas.List.{append-nil}
use Rattle.lp_terms.specs.Signature.{Entry}
use Rattle.lp_terms.specs.Measure.{entry_depth, entries_depth, limit}
use Rattle.lp_terms.specs.File as kept
use Rattle.lp_terms.specs.File.{IsEntryOf, AreEntriesOf, IsFile, declared_after}
use Rattle.dk_text.specs.Tokens as tokens
use Rattle.dk_text.specs.Tokens.{Token, Skips, EntryTokens}
use Rattle.dk_text.specs.Names as names_
use Rattle.dk_text.specs.Names.{known, Reads}
use Rattle.dk_text.specs.Refusals as plain
use Rattle.dk_text.specs.Refusals.{Refusal, Answer, accepted, refused, Answers, FileAnswer, file, refusal, behind, FileAnswers}
use Rattle.dk_text.specs.Grammar.{RawEntry, IsEntry}
use Rattle.dk_reader.specs.Advance.{Advances, Stops}
use Rattle.dk_reader.specs.Told.{Refuses, refusal_told}
use Rattle.dk_reader.proofs.Kept.{accepted_of}

-- Blanks

skips_on : (bytes at to : List ℕ) → Skips bytes at → Skips at to → Skips bytes to
skips_on bytes at to (tokens.Skips.here e) s = s
skips_on bytes at to (tokens.Skips.over {after = after} e r) s = tokens.Skips.over e (skips_on after at to r s)

-- the tokens of an entry are those behind the blanks before it
pub tokens_behind : (bytes at to : List ℕ) (ts : List Token) → Skips bytes at → EntryTokens at ts to → EntryTokens bytes ts to
tokens_behind bytes at to ts s (tokens.EntryTokens.last {at = x} r e) = tokens.EntryTokens.last (skips_on bytes at x s r) e
tokens_behind bytes at to ts s (tokens.EntryTokens.more {at = x} r e p d) = tokens.EntryTokens.more (skips_on bytes at x s r) e p d
tokens_behind bytes at to ts s (tokens.EntryTokens.cut {at = x} r e) = tokens.EntryTokens.cut (skips_on bytes at x s r) e

-- Readings

record Reading (names : List (List ℕ)) (ts : List Token) (e : Entry) : Type 0 where
  raw : RawEntry
  spelled : IsEntry ts raw
  resolves : names_.resolved_entry names raw ≡ known e

refused_accepted : (r : Refusal) (e : Entry) → refused r ≡ accepted e → ⊥
refused_accepted r e h = cc

reading_of : (names : List (List ℕ)) (ts : List Token) (answer : Answer) (e : Entry) → Answers names ts answer → answer ≡ accepted e → Reading names ts e
reading_of names ts answer e (plain.Answers.left_out {r = r} f) h = absurd (refused_accepted r e h)
reading_of names ts answer e (plain.Answers.no_entry f n) h = absurd (refused_accepted plain.Refusal.syntax e h)
reading_of names ts answer e (plain.Answers.read {raw = raw} f d) h = record { raw = raw; spelled = d; resolves = (accepted_of names raw e h).resolves }

same_file : (ds es : List Entry) → file ds ≡ file es → ds ≡ es
same_file ds es e = cc

refusal_file : (r : Refusal) (left : ℕ) (es : List Entry) → refusal r left ≡ file es → ⊥
refusal_file r left es e = cc

-- an answer of entries that are read
ReadsAnswer : List (List ℕ) → List ℕ → FileAnswer → Type 0
ReadsAnswer names bytes answer = (es : List Entry) → answer ≡ file es → Reads names bytes es

reads_behind : (names : List (List ℕ)) (bytes rest : List ℕ) (ts : List Token) (e : Entry) (answer : FileAnswer) → EntryTokens bytes ts rest → Reading names ts e →
    ReadsAnswer (declared_after names e) rest answer → ReadsAnswer names bytes (behind e answer)
unfolding ReadsAnswer
reads_behind names bytes rest ts e (file ds) l r next es h =
    subst (λ (z : List Entry). Reads names bytes z) (same_file (e ∷ ds) es h) (names_.Reads.entry l r.spelled r.resolves (next ds refl))
reads_behind names bytes rest ts e (refusal r left) l d next es h = absurd (refusal_file r left es h)

answer_read : (names : List (List ℕ)) (bytes : List ℕ) (answer : FileAnswer) → FileAnswers names bytes answer → ReadsAnswer names bytes answer
unfolding ReadsAnswer
answer_read names bytes answer (plain.FileAnswers.end s) es h = subst (λ (z : List Entry). Reads names bytes z) (same_file [] es h) (names_.Reads.end s)
answer_read names bytes answer (plain.FileAnswers.entry {rest = rest} {tokens = ts} {e = e} {answer = others} s n l p more) es h =
    reads_behind names bytes rest ts e others l (reading_of names ts (accepted e) e p refl) (λ ds k. answer_read (declared_after names e) rest others more ds k) es h
answer_read names bytes answer (plain.FileAnswers.stop {at = at} {r = r} s n l p) es h = absurd (refusal_file r (length at) es h)

-- the entries that are answered are those that are read
pub answered_read : (bytes : List ℕ) (es : List Entry) → FileAnswers [] bytes (file es) → Reads [] bytes es
unfolding ReadsAnswer
answered_read bytes es h = answer_read [] bytes (file es) h es refl

-- The entries read so far

-- an answer behind these entries
abbrev pub behind_all : List Entry → FileAnswer → FileAnswer
behind_all [] answer = answer
behind_all (e ∷ es) answer = behind e (behind_all es answer)

behind_more : (es : List Entry) (e : Entry) (answer : FileAnswer) → behind_all (es ++ e ∷ []) answer ≡ behind_all es (behind e answer)
behind_more [] e answer = refl
behind_more (d ∷ es) e answer = ap (λ a. behind d a) (behind_more es e answer)

behind_file : (es : List Entry) → behind_all es (file []) ≡ file es
behind_file [] = refl
behind_file (e ∷ es) = ap (λ a. behind e a) (behind_file es)

behind_refusal : (es : List Entry) (r : Refusal) (left : ℕ) → behind_all es (refusal r left) ≡ refusal r left
behind_refusal [] r left = refl
behind_refusal (e ∷ es) r left = ap (λ a. behind e a) (behind_refusal es r left)

depth_more : (es : List Entry) (e : Entry) → entries_depth (es ++ e ∷ []) ≡ max (entries_depth es) (entry_depth e)
depth_more [] e = omega arith
depth_more (d ∷ es) e = let rest = depth_more es e in omega arith

pub record SoFar (bytes rest : List ℕ) (names : List (List ℕ)) (es : List Entry) : Type 0 where
  pub answers : (answer : FileAnswer) → FileAnswers names rest answer → FileAnswers [] bytes (behind_all es answer)
  pub in_order : (ds : List Entry) → AreEntriesOf names ds → AreEntriesOf [] (es ++ ds)
  pub bounded : entries_depth es < limit
  pub within : length rest ≤ length bytes

pub none_so_far : (bytes : List ℕ) → SoFar bytes bytes [] []
none_so_far bytes = record { answers = λ answer h. h; in_order = λ ds h. h; bounded = omega arith; within = omega arith }

pub one_so_far : (bytes rest here next : List ℕ) (names inner : List (List ℕ)) (es : List Entry) (e : Entry) → SoFar bytes rest names es → Skips rest here → here ≢ [] → length here ≤ length rest →
    Advances names inner here e next → SoFar bytes next inner (es ++ e ∷ [])
one_so_far bytes rest here next names inner es e s skips some within a =
    let accepts = a.accepts in
    record {
      answers = λ answer h.
          (let there : FileAnswers (declared_after names e) next answer = subst (λ (z : List (List ℕ)). FileAnswers z next answer) accepts.declares h in
          subst (λ (z : FileAnswer). FileAnswers [] bytes z) (sym (behind_more es e answer))
          (s.answers (behind e answer) (plain.FileAnswers.entry skips some (tokens_behind rest here next a.tokens skips a.lexes) accepts.answer there)));
      in_order = λ ds h.
          (let there : AreEntriesOf (declared_after names e) ds = subst (λ (z : List (List ℕ)). AreEntriesOf z ds) accepts.declares h in
          subst (λ (z : List Entry). AreEntriesOf [] z) (sym (append_assoc es (e ∷ []) ds)) (s.in_order (e ∷ ds) (kept.AreEntriesOf.next accepts.in_order there)));
      bounded = let d = depth_more es e in let p = accepts.bounded in let q = s.bounded in omega arith;
      within = let p = a.shrinks in let q = s.within in omega arith;
    }

pub all_answered : (bytes rest here : List ℕ) (names : List (List ℕ)) (es : List Entry) → SoFar bytes rest names es → Skips rest here → here ≡ [] → FileAnswers [] bytes (file es)
all_answered bytes rest here names es s skips e =
    subst (λ (z : FileAnswer). FileAnswers [] bytes z) (behind_file es) (s.answers (file []) (plain.FileAnswers.end (subst (λ (z : List ℕ). Skips rest z) e skips)))

pub all_in_order : (bytes rest : List ℕ) (names : List (List ℕ)) (es : List Entry) → SoFar bytes rest names es → IsFile es
all_in_order bytes rest names es s = record {
  in_order = subst (λ (z : List Entry). AreEntriesOf [] z) (append-nil es) (s.in_order [] kept.AreEntriesOf.done);
  bounded = s.bounded;
}

pub stopped_here : (bytes rest here : List ℕ) (names : List (List ℕ)) (es : List Entry) (r : Refusal) → SoFar bytes rest names es → Skips rest here → here ≢ [] → Stops names here r →
    Refuses bytes (refusal_told (length bytes) (length bytes - length here) r)
stopped_here bytes rest here names es r s skips some stops =
    Refuses.refused (subst (λ (z : FileAnswer). FileAnswers [] bytes z) (behind_refusal es r (length here))
    (s.answers (refusal r (length here)) (plain.FileAnswers.stop skips some (tokens_behind rest here stops.rest stops.tokens skips stops.lexes) stops.refuses)))
