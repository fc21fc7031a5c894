-- What the code answers of an entry's parts is answered of its tokens.
use Rattle.std.proofs.Common.{◌≡◌, ℕ, ◌≤◌, List, Option, Some, None}
use Rattle.std.specs.Prelude.{Result, Ok, Err, IfOk, IfErr, IfSome}
use Rattle.lp_terms.specs.View.{entry_of}
use Rattle.lp_terms.specs.declared.file.Entry.{Entry}
use Rattle.dk_text.specs.Tokens.{Token}
use Rattle.dk_text.specs.Refusals as plain
use Rattle.dk_text.specs.Refusals.{accepted, refused, first_foreign, Answers}
use Rattle.dk_reader.specs.declared.judge.Refusal.{Refusal}
use Rattle.dk_reader.specs.Binders.{most_binders}
use Rattle.dk_reader.specs.Parts.{Parts, judged_parts}
use Rattle.dk_reader.specs.Entries.{SpellsEntry}
use Rattle.dk_reader.specs.Judged.{refusal_seen, Tells, context_size}
use Rattle.dk_reader.proofs.Judging.{answered_whole, few_variables}

pub tells_accepted : (r : Result Entry Refusal) (names : List (List ℕ)) (tokens : List Token) (parts : Parts) → first_foreign tokens ≡ None → SpellsEntry names tokens parts →
    Tells r (judged_parts names parts) → IfOk r (λ e. Answers names tokens (accepted (entry_of e)))
tells_accepted (Ok e) names tokens parts f s h = answered_whole names tokens parts (accepted (entry_of e)) f s h
tells_accepted (Err e) names tokens parts f s h = tt

pub tells_few : (r : Result Entry Refusal) (names : List (List ℕ)) (tokens : List Token) (parts : Parts) → SpellsEntry names tokens parts →
    Tells r (judged_parts names parts) → IfOk r (λ e. context_size (entry_of e) ≤ most_binders)
tells_few (Ok e) names tokens parts s h = few_variables names tokens parts (entry_of e) s h
tells_few (Err e) names tokens parts s h = tt

some_same : (o : Option plain.Refusal) (P Q : plain.Refusal → Type 0) → ((s : plain.Refusal) → P s → Q s) → IfSome o P → IfSome o Q
some_same None P Q f h = tt
some_same (Some s) P Q f h = f s h

pub tells_refused : (r : Result Entry Refusal) (names : List (List ℕ)) (tokens : List Token) (parts : Parts) → first_foreign tokens ≡ None → SpellsEntry names tokens parts →
    Tells r (judged_parts names parts) → IfErr r (λ e. IfSome (refusal_seen e) (λ s. Answers names tokens (refused s)))
tells_refused (Ok e) names tokens parts f s h = tt
tells_refused (Err e) names tokens parts f s h =
    some_same (refusal_seen e) (λ t. judged_parts names parts ≡ refused t) (λ t. Answers names tokens (refused t)) (λ t k. answered_whole names tokens parts (refused t) f s k) h
