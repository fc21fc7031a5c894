-- The answer on an entry's tokens, from the answer on its parts.
use Rattle.std.proofs.Common.{◌≡◌, ℕ, ◌≤◌, List, Option, Some, None, refl, sym, ◌∙◌, ap, subst, arith}
use Rattle.std.specs.Prelude.{IfSome}
use Rattle.std.specs.Option.{option_map}
use Rattle.lp_terms.specs.Signature.{Entry}
use Rattle.dk_text.specs.Tokens.{Token}
use Rattle.dk_text.specs.Refusals as plain
use Rattle.dk_text.specs.Refusals.{Refusal, Answer, accepted, refused, first_foreign, judged, Answers}
use Rattle.dk_reader.specs.Binders.{most_binders}
use Rattle.dk_reader.specs.Parts.{Parts, judged_parts}
use Rattle.dk_reader.specs.Entries.{SpellsEntry}
use Rattle.dk_reader.specs.Judged.{context_size}
use Rattle.dk_reader.proofs.Judgement.{judged_as_parts}
use Rattle.dk_reader.proofs.Kept.{accepted_of, size_of}

pub none_left_out : (o : Option Refusal) → ◌≡◌ {A = Option (Option Refusal)} None (option_map Some o) → o ≡ None
none_left_out None e = refl
none_left_out (Some r) e = absurd (none_some (Some r) e)
  where
    none_some : (x : Option Refusal) → ◌≡◌ {A = Option (Option Refusal)} None (Some x) → ⊥
    none_some x e = cc

pub told_left_out : (names : List (List ℕ)) (tokens : List Token) (o x : Option Refusal) → first_foreign tokens ≡ o → ◌≡◌ {A = Option (Option Refusal)} (Some x) (option_map Some o) →
    IfSome x (λ s. Answers names tokens (refused s))
told_left_out names tokens None x h e = absurd (none_some x e)
  where
    none_some : (x : Option Refusal) → ◌≡◌ {A = Option (Option Refusal)} (Some x) None → ⊥
    none_some x e = cc
told_left_out names tokens (Some r) x h e =
    let same : Some r ≡ x = same_some (Some r) x (sym e) in
    subst (λ (z : Option Refusal). IfSome z (λ s. Answers names tokens (refused s))) same (plain.Answers.left_out h)
  where
    same_some : (x y : Option Refusal) → ◌≡◌ {A = Option (Option Refusal)} (Some x) (Some y) → x ≡ y
    same_some x y e = cc

judged_whole : (names : List (List ℕ)) (tokens : List Token) (parts : Parts) (answer : Answer) → (s : SpellsEntry names tokens parts) → judged_parts names parts ≡ answer → judged names s.raw ≡ answer
judged_whole names tokens parts answer s h = sym (judged_as_parts names s.raw) ∙ ap (judged_parts names) (sym s.known) ∙ h

-- what is said of the parts is answered
pub answered_whole : (names : List (List ℕ)) (tokens : List Token) (parts : Parts) (answer : Answer) → first_foreign tokens ≡ None → SpellsEntry names tokens parts → judged_parts names parts ≡ answer →
    Answers names tokens answer
answered_whole names tokens parts answer f s h = subst (λ (z : Answer). Answers names tokens z) (judged_whole names tokens parts answer s h) (plain.Answers.read f s.spelled)

pub few_variables : (names : List (List ℕ)) (tokens : List Token) (parts : Parts) (e : Entry) → SpellsEntry names tokens parts → judged_parts names parts ≡ accepted e → context_size e ≤ most_binders
few_variables names tokens parts e s h =
    let size = size_of names s.raw e (accepted_of names s.raw e (judged_whole names tokens parts (accepted e) s h)) in
    let few = s.few in
    omega arith
