-- A text has at most one answer.
use Rattle.std.proofs.Common.{◌≡◌, ℕ, List, [], length, Option, Some, None, refl, sym, ◌∙◌, ap, subst}
use Rattle.lp_terms.specs.Signature.{Entry}
use Rattle.lp_terms.specs.File.{declared_after}
use Rattle.dk_text.specs.Tokens.{Token, EntryTokens}
use Rattle.dk_text.specs.Refusals.{Refusal, Answer, accepted, refused, judged, Answers, left_out, no_entry, read, FileAnswer, refusal, behind, FileAnswers, end, entry, stop}
use Rattle.dk_text.proofs.Unique.{skips_same, tokens_same, entry_unique}

some_refusal : (r s : Refusal) → ◌≡◌ {A = Option Refusal} (Some r) (Some s) → r ≡ s
some_refusal r s e = cc

none_refusal : (r : Refusal) → ◌≡◌ {A = Option Refusal} None (Some r) → ⊥
none_refusal r e = cc

pub one_answer : (names : List (List ℕ)) (tokens : List Token) (a b : Answer) → Answers names tokens a → Answers names tokens b → a ≡ b
one_answer names tokens a b (left_out {r = r} e) (left_out {r = s} f) = ap refused (some_refusal r s (sym e ∙ f))
one_answer names tokens a b (left_out {r = r} e) (no_entry f n) = absurd (none_refusal r (sym f ∙ e))
one_answer names tokens a b (left_out {r = r} e) (read f d) = absurd (none_refusal r (sym f ∙ e))
one_answer names tokens a b (no_entry e n) (left_out {r = s} f) = absurd (none_refusal s (sym e ∙ f))
one_answer names tokens a b (no_entry e n) (no_entry f m) = refl
one_answer names tokens a b (no_entry e n) (read {raw = raw} f d) = absurd (n raw d)
one_answer names tokens a b (read e d) (left_out {r = s} f) = absurd (none_refusal s (sym e ∙ f))
one_answer names tokens a b (read {raw = raw} e d) (no_entry f n) = absurd (n raw d)
one_answer names tokens a b (read {raw = raw} e d) (read {raw = war} f c) = ap (judged names) (entry_unique tokens raw war d c)

accepted_refused : (e : Entry) (r : Refusal) → accepted e ≡ refused r → ⊥
accepted_refused e r h = cc

same_accepted : (d e : Entry) → accepted d ≡ accepted e → d ≡ e
same_accepted d e h = cc

same_refused : (r s : Refusal) → refused r ≡ refused s → r ≡ s
same_refused r s h = cc

at_tokens : (names : List (List ℕ)) (bytes rest other : List ℕ) (ts us : List Token) (a b : Answer) → EntryTokens bytes ts rest → Answers names ts a → EntryTokens bytes us other → Answers names us b → a ≡ b
at_tokens names bytes rest other ts us a b l p k q =
    one_answer names ts a b p (subst (λ (z : List Token). Answers names z b) (sym (tokens_same bytes ts us rest other l k).0) q)

pub one_file_answer : (names : List (List ℕ)) (bytes : List ℕ) (a b : FileAnswer) → FileAnswers names bytes a → FileAnswers names bytes b → a ≡ b
one_file_answer names bytes a b (end s) (end r) = refl
one_file_answer names bytes a b (end s) (entry {at = at} r n l p m) = absurd (n (skips_same bytes at [] r s))
one_file_answer names bytes a b (end s) (stop {at = at} r n l p) = absurd (n (skips_same bytes at [] r s))
one_file_answer names bytes a b (entry {at = at} r n l p m) (end s) = absurd (n (skips_same bytes at [] r s))
one_file_answer names bytes a b (stop {at = at} r n l p) (end s) = absurd (n (skips_same bytes at [] r s))
one_file_answer names bytes a b (entry {rest = rest} {tokens = ts} {e = e} s n l p m) (stop {rest = other} {tokens = us} {r = r} t o k q) =
    absurd (accepted_refused e r (at_tokens names bytes rest other ts us (accepted e) (refused r) l p k q))
one_file_answer names bytes a b (stop {rest = other} {tokens = us} {r = r} t o k q) (entry {rest = rest} {tokens = ts} {e = e} s n l p m) =
    absurd (accepted_refused e r (at_tokens names bytes rest other ts us (accepted e) (refused r) l p k q))
one_file_answer names bytes a b (stop {at = x} {rest = rest} {tokens = ts} {r = r} s n l p) (stop {at = y} {rest = other} {tokens = us} {r = t} v o k q) =
    ap (λ z. refusal z (length x)) (same_refused r t (at_tokens names bytes rest other ts us (refused r) (refused t) l p k q))
    ∙ ap (λ (z : List ℕ). refusal t (length z)) (skips_same bytes x y s v)
one_file_answer names bytes a b (entry {rest = rest} {tokens = ts} {e = d} {answer = aa} s n l p m) (entry {rest = other} {tokens = us} {e = e} {answer = bb} v o k q w) =
    let same : d ≡ e = same_accepted d e (at_tokens names bytes rest other ts us (accepted d) (accepted e) l p k q) in
    let there : FileAnswers (declared_after names d) rest bb =
    subst (λ (z : List ℕ). FileAnswers (declared_after names d) z bb) (sym (tokens_same bytes ts us rest other l k).1) (subst (λ (z : Entry). FileAnswers (declared_after names z) other bb) (sym same) w) in
    ap (λ z. behind z aa) same ∙ ap (λ z. behind e z) (one_file_answer (declared_after names d) rest aa bb m there)
