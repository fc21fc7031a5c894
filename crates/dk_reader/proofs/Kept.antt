-- What is accepted keeps what a file's entries keep.
use Rattle.std.proofs.Common.{◌≡◌, ℕ, suc, ◌+◌, ◌≤◌, Bool, true, false, cond, List, [], ◌∷◌, length, Option, Some, None, refl, sym, ◌∙◌, ap, subst, arith}
use Rattle.std.specs.Prelude.{nat_lt, IfSome}
use Rattle.std.proofs.lemmas.Bool.{and_parts, ltb-false}
use Rattle.lp_terms.specs.Term.{Lp}
use Rattle.lp_terms.specs.Signature.{Entry}
use Rattle.lp_terms.specs.Names.{IsIdentifier, is_among}
use Rattle.lp_terms.specs.Measure.{context_depth, entry_depth}
use Rattle.lp_terms.specs.File as file
use Rattle.lp_terms.specs.File.{IsTermOf, IsContextOf, IsNewName, IsEntryOf, declared_after}
use Rattle.dk_text.specs.Tokens.{Token}
use Rattle.dk_text.specs.Grammar as grammar
use Rattle.dk_text.specs.Grammar.{Raw, Binding, binding, RawEntry, IsEntry}
use Rattle.dk_text.specs.Names.{Scope, Resolved, known, unknown, and_then, resolved, resolved_context, resolved_entry}
use Rattle.dk_text.specs.Refusals as plain
use Rattle.dk_text.specs.Refusals.{Answer, accepted, refused, nesting, context_nesting, entry_nesting, is_declared, declares_variable, is_applied_constant, all_occur, is_rule, judged_names, judged, Answers}
use Rattle.dk_reader.specs.Judged.{context_size, name_at, with_name}
use Rattle.dk_reader.specs.Parts.{scope_behind}
use Rattle.dk_reader.specs.Entries.{variables}
use Rattle.dk_reader.proofs.Contexts.{context_then}
use Rattle.dk_reader.proofs.Judgement.{written_rule}
use Rattle.dk_reader.proofs.KnownTerms.{known_same, known_of, term_in_order, binders_nest, constant_applied, each_occurs}
use Rattle.dk_reader.specs.Proper.{AreProper}

-- Contexts

pub record Types (names : List (List ℕ)) (scope : Scope) (bs : List Binding) (types : List Lp) : Type 0 where
  pub in_order : IsContextOf names (length scope) types
  pub same_length : length types ≡ length bs
  pub bounded : context_depth (length scope) types ≤ length scope + length bs + context_nesting bs

pub types_kept : (names : List (List ℕ)) (scope : Scope) (bs : List Binding) (types : List Lp) → resolved_context names scope bs (λ inner cs. known cs) ≡ known types → Types names scope bs types
types_kept names scope [] types e =
    subst (λ (ts : List Lp). Types names scope [] ts) (known_same [] types e) (record { in_order = file.IsContextOf.empty; same_length = refl; bounded = omega arith })
types_kept names scope (binding x a ∷ bs) types e =
    let inner : Scope = Some x ∷ scope in
    let c = known_of (resolved names scope a) (λ c. resolved_context names inner bs (λ i cs. known (c ∷ cs))) types e in
    let split = sym (context_then names inner bs (λ cs. cs) (λ i cs. known (c.value ∷ cs))) ∙ c.second in
    let cs = known_of (resolved_context names inner bs (λ i cs. known cs)) (λ cs. known (c.value ∷ cs)) types split in
    let rest = types_kept names inner bs cs.value cs.first in
    let depth = binders_nest names scope a c.value c.first in
    let same_length = rest.same_length in
    let bounded = rest.bounded in
    subst (λ (ts : List Lp). Types names scope (binding x a ∷ bs) ts) (known_same (c.value ∷ cs.value) types cs.second) (record {
      in_order = file.IsContextOf.bind (term_in_order names scope a c.value c.first) rest.in_order;
      same_length = ap (λ n. suc n) rest.same_length;
      bounded = omega arith;
    })

pub length_behind : (scope : Scope) (bs : List Binding) → length (scope_behind scope bs) ≡ length scope + length bs
length_behind scope [] = omega arith
length_behind scope (binding x a ∷ bs) = let rest = length_behind (Some x ∷ scope) bs in omega arith

-- Entries

-- what is accepted
pub record Accepted (names : List (List ℕ)) (raw : RawEntry) (e : Entry) : Type 0 where
  pub shallow : entry_nesting raw ≤ 8000
  pub first : is_declared names raw ≡ false
  pub no_variable : declares_variable raw ≡ false
  pub resolves : resolved_entry names raw ≡ known e
  pub rule : is_rule e ≡ true

refused_accepted : (r : plain.Refusal) (e : Entry) → refused r ≡ accepted e → ⊥
refused_accepted r e h = cc

accepted_same : (d e : Entry) → accepted d ≡ accepted e → d ≡ e
accepted_same d e h = cc

rule_of : (d e : Entry) (b : Bool) → is_rule d ≡ b → cond b (accepted d) (refused plain.Refusal.bad_rule) ≡ accepted e → (d ≡ e) × (is_rule e ≡ true)
rule_of d e true h k = let same = accepted_same d e k in (same, sym (ap is_rule same) ∙ h)
rule_of d e false h k = absurd (refused_accepted plain.Refusal.bad_rule e k)

accepted_in : (names : List (List ℕ)) (raw : RawEntry) (e : Entry) (a b c : Bool) (r : Resolved Entry) →
    nat_lt 8000 (entry_nesting raw) ≡ a → is_declared names raw ≡ b → declares_variable raw ≡ c → resolved_entry names raw ≡ r →
    cond a (refused plain.Refusal.too_deep) (cond b (refused plain.Refusal.duplicate) (cond c (refused plain.Refusal.variable_name) (judged_names r))) ≡ accepted e → Accepted names raw e
accepted_in names raw e true b c r p q s t h = absurd (refused_accepted plain.Refusal.too_deep e h)
accepted_in names raw e false true c r p q s t h = absurd (refused_accepted plain.Refusal.duplicate e h)
accepted_in names raw e false false true r p q s t h = absurd (refused_accepted plain.Refusal.variable_name e h)
accepted_in names raw e false false false (unknown left) p q s t h = absurd (refused_accepted (plain.Refusal.unknown_name left) e h)
accepted_in names raw e false false false (known d) p q s t h =
    let rule = rule_of d e (is_rule d) refl h in
    record { shallow = ltb-false 8000 (entry_nesting raw) p; first = q; no_variable = s; resolves = t ∙ ap known rule.0; rule = rule.1 }

pub accepted_of : (names : List (List ℕ)) (raw : RawEntry) (e : Entry) → judged names raw ≡ accepted e → Accepted names raw e
accepted_of names raw e h = accepted_in names raw e (nat_lt 8000 (entry_nesting raw)) (is_declared names raw) (declares_variable raw) (resolved_entry names raw) refl refl refl refl h

pub record Kept (names : List (List ℕ)) (tokens : List Token) (e : Entry) : Type 0 where
  pub in_order : IsEntryOf names e
  pub bounded : entry_depth e ≤ 8000 + context_size e
  pub declares : declared_after names e ≡ with_name (name_at tokens) names
  pub new : IfSome (name_at tokens) (λ x. is_among x names ≡ false)

-- the same without the tokens
record Entered (names : List (List ℕ)) (e : Entry) (declared : Option (List ℕ)) : Type 0 where
  in_order : IsEntryOf names e
  bounded : entry_depth e ≤ 8000 + context_size e
  declares : declared_after names e ≡ with_name declared names
  new : IfSome declared (λ x. is_among x names ≡ false)

declaration_kept : (names : List (List ℕ)) (x : List ℕ) (f : Bool) (a : Raw) (e : Entry) → IsIdentifier x → Accepted names (grammar.RawEntry.declaration x f a) e → Entered names e (Some x)
declaration_kept names x f a e proper h =
    let c = known_of (resolved names [] a) (λ c. known (Entry.declare x f c)) e h.resolves in
    let depth = binders_nest names [] a c.value c.first in
    let shallow = h.shallow in
    subst (λ (d : Entry). Entered names d (Some x)) (known_same (Entry.declare x f c.value) e c.second) (record {
      in_order = file.IsEntryOf.declare (record { identifier = proper; no_variable = h.no_variable; first = h.first }) (term_in_order names [] a c.value c.first);
      bounded = omega arith;
      declares = refl;
      new = h.first;
    })

definition_kept : (names : List (List ℕ)) (x : List ℕ) (a b : Raw) (e : Entry) → IsIdentifier x → Accepted names (grammar.RawEntry.definition x a b) e → Entered names e (Some x)
definition_kept names x a b e proper h =
    let c = known_of (resolved names [] a) (λ c. and_then (resolved names [] b) (λ d. known (Entry.define x c d))) e h.resolves in
    let d = known_of (resolved names [] b) (λ d. known (Entry.define x c.value d)) e c.second in
    let first = binders_nest names [] a c.value c.first in
    let second = binders_nest names [] b d.value d.first in
    let shallow = h.shallow in
    subst (λ (d : Entry). Entered names d (Some x)) (known_same (Entry.define x c.value d.value) e d.second) (record {
      in_order = file.IsEntryOf.define (record { identifier = proper; no_variable = h.no_variable; first = h.first })
          (term_in_order names [] a c.value c.first) (term_in_order names [] b d.value d.first);
      bounded = omega arith;
      declares = refl;
      new = h.first;
    })

rule_kept : (names : List (List ℕ)) (bs : List Binding) (a b : Raw) (e : Entry) → Accepted names (grammar.RawEntry.rewriting bs a b) e → Entered names e None
rule_kept names bs a b e h =
    let scope : Scope = scope_behind [] bs in
    let types = known_of (resolved_context names [] bs (λ inner cs. known cs)) (λ ts. and_then (resolved names scope a) (λ c. and_then (resolved names scope b) (λ d. known (Entry.rule ts c d)))) e
    (sym (written_rule names bs a b) ∙ h.resolves) in
    let c = known_of (resolved names scope a) (λ c. and_then (resolved names scope b) (λ d. known (Entry.rule types.value c d))) e types.second in
    let d = known_of (resolved names scope b) (λ d. known (Entry.rule types.value c.value d)) e c.second in
    let same : Entry.rule types.value c.value d.value ≡ e = known_same (Entry.rule types.value c.value d.value) e d.second in
    let kept = types_kept names [] bs types.value types.first in
    let size : length scope ≡ length types.value = (let n = length_behind [] bs in let m = kept.same_length in omega arith) in
    let parts = and_parts (is_applied_constant c.value) (all_occur (length types.value) c.value) (ap is_rule same ∙ h.rule) in
    let first = binders_nest names scope a c.value c.first in
    let second = binders_nest names scope b d.value d.first in
    let shallow = h.shallow in
    let bounded = kept.bounded in
    let same_length = kept.same_length in
    subst (λ (d : Entry). Entered names d None) same (record {
      in_order = file.IsEntryOf.rule kept.in_order
          (subst (λ (n : ℕ). IsTermOf names n c.value) size (term_in_order names scope a c.value c.first))
          (subst (λ (n : ℕ). IsTermOf names n d.value) size (term_in_order names scope b d.value d.first))
          (constant_applied c.value parts.0) (each_occurs (length types.value) c.value parts.1);
      bounded = omega arith;
      declares = refl;
      new = tt;
    })

entry_kept : (names : List (List ℕ)) (tokens : List Token) (raw : RawEntry) (e : Entry) → AreProper tokens → IsEntry tokens raw → Accepted names raw e → Entered names e (name_at tokens)
entry_kept names tokens raw e proper (grammar.IsEntry.declared {x = x} {a = a} t) h = declaration_kept names x false a e proper.0 h
entry_kept names tokens raw e proper (grammar.IsEntry.definable {x = x} {a = a} t) h = declaration_kept names x true a e proper.1.0 h
entry_kept names tokens raw e proper (grammar.IsEntry.defined {x = x} {a = a} {b = b} t u) h = definition_kept names x a b e proper.1.0 h
entry_kept names tokens raw e proper (grammar.IsEntry.closed_rule {a = a} {b = b} t u) h = rule_kept names [] a b e h
entry_kept names tokens raw e proper (grammar.IsEntry.open_rule {bs = bs} {a = a} {b = b} c t u) h = rule_kept names bs a b e h

kept_of : (names : List (List ℕ)) (tokens : List Token) (e : Entry) → Entered names e (name_at tokens) → Kept names tokens e
kept_of names tokens e h = record { in_order = h.in_order; bounded = h.bounded; declares = h.declares; new = h.new }

answer_kept : (names : List (List ℕ)) (tokens : List Token) (answer : Answer) (e : Entry) → AreProper tokens → Answers names tokens answer → answer ≡ accepted e → Kept names tokens e
answer_kept names tokens answer e proper (plain.Answers.left_out {r = r} f) h = absurd (refused_accepted r e h)
answer_kept names tokens answer e proper (plain.Answers.no_entry f n) h = absurd (refused_accepted plain.Refusal.syntax e h)
answer_kept names tokens answer e proper (plain.Answers.read {raw = raw} f d) h = kept_of names tokens e (entry_kept names tokens raw e proper d (accepted_of names raw e h))

-- what is accepted is in order behind the names declared before
pub accepted_kept : (names : List (List ℕ)) (tokens : List Token) (e : Entry) → AreProper tokens → Answers names tokens (accepted e) → Kept names tokens e
accepted_kept names tokens e proper h = answer_kept names tokens (accepted e) e proper h refl

-- an entry has as many context variables as are written
pub size_of : (names : List (List ℕ)) (raw : RawEntry) (e : Entry) → Accepted names raw e → context_size e ≡ variables raw
size_of names (grammar.RawEntry.declaration x f a) e h =
    let c = known_of (resolved names [] a) (λ c. known (Entry.declare x f c)) e h.resolves in
    sym (ap context_size (known_same (Entry.declare x f c.value) e c.second))
size_of names (grammar.RawEntry.definition x a b) e h =
    let c = known_of (resolved names [] a) (λ c. and_then (resolved names [] b) (λ d. known (Entry.define x c d))) e h.resolves in
    let d = known_of (resolved names [] b) (λ d. known (Entry.define x c.value d)) e c.second in
    sym (ap context_size (known_same (Entry.define x c.value d.value) e d.second))
size_of names (grammar.RawEntry.rewriting bs a b) e h =
    let scope : Scope = scope_behind [] bs in
    let types = known_of (resolved_context names [] bs (λ inner cs. known cs)) (λ ts. and_then (resolved names scope a) (λ c. and_then (resolved names scope b) (λ d. known (Entry.rule ts c d)))) e
    (sym (written_rule names bs a b) ∙ h.resolves) in
    let c = known_of (resolved names scope a) (λ c. and_then (resolved names scope b) (λ d. known (Entry.rule types.value c d))) e types.second in
    let d = known_of (resolved names scope b) (λ d. known (Entry.rule types.value c.value d)) e c.second in
    sym (ap context_size (known_same (Entry.rule types.value c.value d.value) e d.second)) ∙ (types_kept names [] bs types.value types.first).same_length
