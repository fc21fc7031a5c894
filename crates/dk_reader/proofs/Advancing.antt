-- What reading one entry comes to, from its tokens and their answer.
use Rattle.std.proofs.Common.{◌≡◌, ℕ, ◌+◌, ◌<◌, ◌≤◌, false, List, length, refl, sym, ◌∙◌, arith}
use Rattle.std.specs.Prelude.{IfSome}
use Rattle.lp_terms.specs.Signature.{Entry}
use Rattle.lp_terms.specs.Names.{is_among}
use Rattle.dk_text.specs.Tokens.{Token, EntryTokens}
use Rattle.dk_text.specs.Grammar as grammar
use Rattle.dk_text.specs.Grammar.{RawEntry, IsEntry}
use Rattle.dk_text.specs.Refusals as plain
use Rattle.dk_text.specs.Refusals.{Refusal, Answer, accepted, refused, Answers}
use Rattle.dk_reader.specs.Binders.{most_binders}
use Rattle.dk_reader.specs.Proper.{AreProper}
use Rattle.dk_reader.specs.Judged.{context_size, name_at, with_name}
use Rattle.dk_reader.specs.Advance.{Accepts, Advances}
use Rattle.dk_reader.proofs.Kept.{accepted_kept}

pub accepts_of : (names inner : List (List ℕ)) (tokens : List Token) (e : Entry) → AreProper tokens → Answers names tokens (accepted e) → context_size e ≤ most_binders →
    inner ≡ with_name (name_at tokens) names → Accepts names inner tokens e
accepts_of names inner tokens e proper answer few declares =
    let kept = accepted_kept names tokens e proper answer in
    let bounded = kept.bounded in
    record { answer = answer; in_order = kept.in_order; bounded = omega arith; declares = declares ∙ sym kept.declares }

-- the declared name is new
pub new_name : (names : List (List ℕ)) (tokens : List Token) (e : Entry) → AreProper tokens → Answers names tokens (accepted e) → IfSome (name_at tokens) (λ x. is_among x names ≡ false)
new_name names tokens e proper answer = (accepted_kept names tokens e proper answer).new

entry_has_tokens : (tokens : List Token) (raw : RawEntry) → IsEntry tokens raw → 0 < length tokens
entry_has_tokens tokens raw (grammar.IsEntry.declared d) = omega arith
entry_has_tokens tokens raw (grammar.IsEntry.definable d) = omega arith
entry_has_tokens tokens raw (grammar.IsEntry.defined d e) = omega arith
entry_has_tokens tokens raw (grammar.IsEntry.closed_rule d e) = omega arith
entry_has_tokens tokens raw (grammar.IsEntry.open_rule c d e) = omega arith

refused_accepted : (r : Refusal) (e : Entry) → refused r ≡ accepted e → ⊥
refused_accepted r e h = cc

some_tokens : (names : List (List ℕ)) (tokens : List Token) (answer : Answer) (e : Entry) → Answers names tokens answer → answer ≡ accepted e → 0 < length tokens
some_tokens names tokens answer e (plain.Answers.left_out {r = r} f) h = absurd (refused_accepted r e h)
some_tokens names tokens answer e (plain.Answers.no_entry f n) h = absurd (refused_accepted plain.Refusal.syntax e h)
some_tokens names tokens answer e (plain.Answers.read {raw = raw} f d) h = entry_has_tokens tokens raw d

pub advances_of : (names inner : List (List ℕ)) (here rest : List ℕ) (tokens : List Token) (e : Entry) → EntryTokens here tokens rest → length rest + length tokens ≤ length here →
    Accepts names inner tokens e → Advances names inner here e rest
advances_of names inner here rest tokens e lexes size accepts =
    let some = some_tokens names tokens (accepted e) e accepts.answer refl in
    record { tokens = tokens; lexes = lexes; accepts = accepts; shrinks = omega arith }
