-- The parts of an entry are judged as the entry is.
use Rattle.std.proofs.Common.{◌≡◌, ℕ, max, Bool, true, false, cond, List, [], refl, sym, ◌∙◌, ap}
use Rattle.std.specs.Prelude.{nat_lt, ◌||◌}
use Rattle.lp_terms.specs.Term.{Lp}
use Rattle.lp_terms.specs.Signature.{Entry}
use Rattle.dk_text.specs.Grammar as grammar
use Rattle.dk_text.specs.Grammar.{Raw, Binding, RawEntry}
use Rattle.dk_text.specs.Names.{Scope, Resolved, known, and_then, resolved, resolved_context}
use Rattle.dk_text.specs.Refusals.{refused, too_deep, nesting, context_nesting, judged, judged_names}
use Rattle.dk_reader.specs.Pieces.{deep, shallow, piece_of}
use Rattle.dk_reader.specs.Parts.{deep_context, shallow_context, scope_behind, parts_of, judged_name, judged_declaration, judged_definition, judged_rule, judged_parts, defined_as, rule_between}
use Rattle.dk_reader.proofs.Contexts.{context_is, context_then, deeper_of_two}

one_part : (names : List (List ℕ)) (x : List ℕ) (f : Bool) (n : ℕ) (v : Resolved Lp) (b : Bool) →
    judged_declaration names x f (cond b deep (shallow n v)) ≡ cond b (refused too_deep) (judged_name names x (and_then v (λ c. known (Entry.declare x f c))))
one_part names x f n v true = refl
one_part names x f n v false = refl

two_parts : (names : List (List ℕ)) (x : List ℕ) (n m : ℕ) (v w : Resolved Lp) (d e : Bool) →
    judged_definition names x (cond d deep (shallow n v)) (cond e deep (shallow m w)) ≡ cond (d || e) (refused too_deep) (judged_name names x (defined_as x v w))
two_parts names x n m v w true true = refl
two_parts names x n m v w true false = refl
two_parts names x n m v w false true = refl
two_parts names x n m v w false false = refl

three_parts : (n m : ℕ) (ts : Resolved (List Lp)) (v w : Resolved Lp) (b d e : Bool) →
    judged_rule (cond b deep_context (shallow_context ts)) (cond d deep (shallow n v)) (cond e deep (shallow m w)) ≡ cond (b || (d || e)) (refused too_deep) (judged_names (rule_between ts v w))
three_parts n m ts v w true true e = refl
three_parts n m ts v w true false true = refl
three_parts n m ts v w true false false = refl
three_parts n m ts v w false true e = refl
three_parts n m ts v w false false true = refl
three_parts n m ts v w false false false = refl

-- the rule of an entry as it is written
pub written_rule : (names : List (List ℕ)) (bs : List Binding) (a b : Raw) →
    resolved_context names [] bs (λ scope cs. and_then (resolved names scope a) (λ c. and_then (resolved names scope b) (λ d. known (Entry.rule cs c d))))
    ≡ rule_between (resolved_context names [] bs (λ scope cs. known cs)) (resolved names (scope_behind [] bs) a) (resolved names (scope_behind [] bs) b)
written_rule names bs a b =
    context_then names [] bs (λ cs. cs) (λ scope cs. and_then (resolved names scope a) (λ c. and_then (resolved names scope b) (λ d. known (Entry.rule cs c d))))

pub judged_as_parts : (names : List (List ℕ)) (raw : RawEntry) → judged_parts names (parts_of names raw) ≡ judged names raw
judged_as_parts names (grammar.RawEntry.declaration x f a) = one_part names x f (nesting a) (resolved names [] a) (nat_lt 8000 (nesting a))
judged_as_parts names (grammar.RawEntry.definition x a b) =
    two_parts names x (nesting a) (nesting b) (resolved names [] a) (resolved names [] b) (nat_lt 8000 (nesting a)) (nat_lt 8000 (nesting b))
    ∙ ap (λ t. cond t (refused too_deep) (judged_name names x (defined_as x (resolved names [] a) (resolved names [] b)))) (sym (deeper_of_two (nesting a) (nesting b)))
judged_as_parts names (grammar.RawEntry.rewriting bs a b) =
    let scope : Scope = scope_behind [] bs in
    let ts : Resolved (List Lp) = resolved_context names [] bs (λ inner cs. known cs) in
    let v : Resolved Lp = resolved names scope a in
    let w : Resolved Lp = resolved names scope b in
    let n : ℕ = nesting a in
    let m : ℕ = nesting b in
    let k : ℕ = context_nesting bs in
    ap (λ c. judged_rule c (piece_of names scope a) (piece_of names scope b)) (context_is names bs)
    ∙ three_parts n m ts v w (nat_lt 8000 k) (nat_lt 8000 n) (nat_lt 8000 m)
    ∙ ap (λ t. cond (nat_lt 8000 k || t) (refused too_deep) (judged_names (rule_between ts v w))) (sym (deeper_of_two n m))
    ∙ ap (λ t. cond t (refused too_deep) (judged_names (rule_between ts v w))) (sym (deeper_of_two k (max n m)))
    ∙ ap (λ r. cond (nat_lt 8000 (max k (max n m))) (refused too_deep) (judged_names r)) (sym (written_rule names bs a b))
