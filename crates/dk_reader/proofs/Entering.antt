-- Contexts and entries, a part at a time.
use Rattle.std.proofs.Common.{◌≡◌, ℕ, Bool, true, false, List, [], ◌∷◌, ◌++◌, length, append_assoc, Option, Some, None, refl, sym, ◌∙◌, ap, subst, arith}
use Rattle.std.specs.Prelude.{Result, Ok, Err, IfOk, MatchOption}
use Rattle.std.proofs.lemmas.Bool.{both_ways}
use Rattle.dk_text.specs.Tokens.{Token, id, colon, becomes, long_arrow, point, comma, open_square, close_square, def_word}
use Rattle.dk_text.specs.Grammar as grammar
use Rattle.dk_text.specs.Grammar.{Raw, IsTerm, Binding, binding, IsContext, RawEntry, IsEntry}
use Rattle.dk_text.specs.Names.{Scope, known}
use Rattle.dk_text.proofs.Complete.{ends_part, part_unique}
use Rattle.dk_reader.specs.Pieces.{Piece, piece_of}
use Rattle.dk_reader.specs.Spelled.{ends_term, SpellsTerm, SpellsNoTerm}
use Rattle.dk_reader.specs.Parts.{Context, shallow_context, extended, scope_behind, context_of, Parts, parts_of}
use Rattle.dk_reader.specs.Parts as parts
use Rattle.dk_reader.specs.Before.{Before, GoesOn, end_of}
use Rattle.dk_reader.specs.Entries.{SpellsEntry, SpellsNoEntry, SpellsContext, SpellsNoContext, SpellsBinding, SpellsNoBinding, SpellsNoLast, SpellsBody, SpellsRight, SpellsSides, SpellsNoSides, typed}
use Rattle.dk_reader.proofs.Contexts.{scope_more, context_more}
use Rattle.dk_reader.proofs.Kept.{length_behind}

ends_same : (rest : List Token) → ends_term rest ≡ true → ends_part rest ≡ true
ends_same (becomes ∷ rest) h = refl
ends_same (long_arrow ∷ rest) h = refl
ends_same (point ∷ rest) h = refl
ends_same (comma ∷ rest) h = refl
ends_same (close_square ∷ rest) h = refl
ends_same [] h = absurd (both_ways false refl h)
ends_same (token ∷ rest) h = absurd (both_ways false refl h)

-- a term that was read is the one that the tokens spell before a token that ends it
rest_same : (names : List (List ℕ)) (scope : Scope) (tokens rest other : List Token) (piece : Piece) (raw : Raw) → SpellsTerm names scope tokens rest piece →
    IsTerm tokens other raw → ends_term other ≡ true → rest ≡ other
rest_same names scope tokens rest other piece raw t d e = (part_unique tokens rest other t.raw raw t.spelled (ends_same rest t.ended) d (ends_same other e)).1

-- Contexts

pub nothing_before : (names : List (List ℕ)) (tokens : List Token) (scope : Scope) → scope ≡ [] → Before names tokens tokens (shallow_context (known [])) scope
nothing_before names tokens scope e = record {
  bindings = [];
  onwards = λ to bs c. c;
  back = λ to all c. (all, c);
  known = refl;
  scoped = e;
  few = let none : length scope ≡ 0 = ap length e in omega arith;
}

tail_of : (x y : List ℕ) (l m : ℕ) (ts us : List Token) → id x l ∷ colon ∷ ts ≡ id y m ∷ colon ∷ us → (x ≡ y) × (ts ≡ us)
tail_of x y l m ts us e = (cc, cc)

square_comma : (xs ys : List Token) → close_square ∷ xs ≡ comma ∷ ys → ⊥
square_comma xs ys e = cc

same_tail : (t : Token) (xs ys : List Token) → t ∷ xs ≡ t ∷ ys → xs ≡ ys
same_tail t xs ys e = cc

-- what is behind the first binding of a context
record First (rest to behind : List Token) : Type 0 where
  spelled_end : (middle : List Token) → behind ≡ comma ∷ middle → (bs : List Binding) × IsContext middle to bs
  square : (more : List Token) → behind ≡ close_square ∷ more → more ≡ to
  either : ((more : List Token) → behind ≡ close_square ∷ more → ⊥) → ((middle : List Token) → behind ≡ comma ∷ middle → ⊥) → ⊥

first_of : (names : List (List ℕ)) (scope inner : Scope) (rest to behind : List Token) (piece : Piece) (bs : List Binding) → SpellsBinding names scope inner rest behind piece →
    IsContext rest to bs → First rest to behind
first_of names scope inner rest to behind piece bs s (grammar.IsContext.single {tokens = ts} {x = x} {left = l} {a = a} d) =
    let same : ts ≡ s.behind = (tail_of x s.name l s.left ts s.behind s.begins).1 in
    let there : IsTerm s.behind (close_square ∷ to) a = subst (λ (z : List Token). IsTerm z (close_square ∷ to) a) same d in
    let rests : behind ≡ close_square ∷ to = rest_same names scope s.behind behind (close_square ∷ to) piece a s.term there refl in
    record {
      spelled_end = λ middle e. absurd (square_comma to middle (sym rests ∙ e));
      square = λ more e. same_tail close_square more to (sym e ∙ rests);
      either = λ f g. f to rests;
    }
first_of names scope inner rest to behind piece bs s (grammar.IsContext.several {tokens = ts} {middle = middle} {x = x} {left = l} {a = a} {bs = others} d c) =
    let same : ts ≡ s.behind = (tail_of x s.name l s.left ts s.behind s.begins).1 in
    let there : IsTerm s.behind (comma ∷ middle) a = subst (λ (z : List Token). IsTerm z (comma ∷ middle) a) same d in
    let rests : behind ≡ comma ∷ middle = rest_same names scope s.behind behind (comma ∷ middle) piece a s.term there refl in
    record {
      spelled_end = λ m e. (others, subst (λ (z : List Token). IsContext z to others) (same_tail comma middle m (sym rests ∙ e)) c);
      square = λ more e. absurd (square_comma more middle (sym e ∙ rests));
      either = λ f g. g middle rests;
    }

-- one more binding, and a comma
pub one_more : (names : List (List ℕ)) (tokens rest behind middle : List Token) (context : Context) (scope inner : Scope) (piece : Piece) → Before names tokens rest context scope →
    SpellsBinding names scope inner rest behind piece → behind ≡ comma ∷ middle → Before names tokens middle (extended context piece) inner
one_more names tokens rest behind middle context scope inner piece b s e =
    let a : Raw = s.term.raw in
    let spelled : IsTerm s.behind (comma ∷ middle) a = subst (λ (z : List Token). IsTerm s.behind z a) e s.term.spelled in
    record {
      bindings = b.bindings ++ binding s.name a ∷ [];
      onwards = λ to bs c.
          (let here : IsContext rest to (binding s.name a ∷ bs) = subst (λ (z : List Token). IsContext z to (binding s.name a ∷ bs)) (sym s.begins) (grammar.IsContext.several {left = s.left} spelled c) in
          subst (λ (z : List Binding). IsContext tokens to z) (sym (append_assoc b.bindings (binding s.name a ∷ []) bs)) (b.onwards to (binding s.name a ∷ bs) here));
      back = λ to all c. (let there = b.back to all c in (first_of names scope inner rest to behind piece there.0 s there.1).spelled_end middle e);
      known = ap (λ c. extended c piece) b.known ∙ ap (λ p. extended (context_of names b.bindings) p) (s.term.known ∙ ap (λ z. piece_of names z a) b.scoped)
          ∙ sym (context_more names [] (shallow_context (known [])) b.bindings s.name a);
      scoped = s.enters ∙ ap (λ z. Some s.name ∷ z) b.scoped ∙ sym (scope_more [] b.bindings s.name a);
      few = s.few;
    }

-- the last binding, and a closing bracket
pub last_one : (names : List (List ℕ)) (tokens rest behind to : List Token) (context : Context) (scope inner : Scope) (piece : Piece) → Before names tokens rest context scope →
    SpellsBinding names scope inner rest behind piece → behind ≡ close_square ∷ to → SpellsContext names inner tokens to (extended context piece)
last_one names tokens rest behind to context scope inner piece b s e =
    let a : Raw = s.term.raw in
    let spelled : IsTerm s.behind (close_square ∷ to) a = subst (λ (z : List Token). IsTerm s.behind z a) e s.term.spelled in
    let here : IsContext rest to (binding s.name a ∷ []) = subst (λ (z : List Token). IsContext z to (binding s.name a ∷ [])) (sym s.begins) (grammar.IsContext.single {left = s.left} spelled) in
    let scoped : inner ≡ scope_behind [] (b.bindings ++ binding s.name a ∷ []) = s.enters ∙ ap (λ z. Some s.name ∷ z) b.scoped ∙ sym (scope_more [] b.bindings s.name a) in
    let size : length inner ≡ length (scope_behind [] (b.bindings ++ binding s.name a ∷ [])) = ap length scoped in
    let few = s.few in
    record {
      bindings = b.bindings ++ binding s.name a ∷ [];
      spelled = b.onwards to (binding s.name a ∷ []) here;
      known = ap (λ c. extended c piece) b.known ∙ ap (λ p. extended (context_of names b.bindings) p) (s.term.known ∙ ap (λ z. piece_of names z a) b.scoped)
          ∙ sym (context_more names [] (shallow_context (known [])) b.bindings s.name a);
      scoped = scoped;
      few = let same = length_behind [] (b.bindings ++ binding s.name a ∷ []) in omega arith;
    }

-- neither a comma nor a closing bracket
pub no_end : (names : List (List ℕ)) (tokens rest behind : List Token) (context : Context) (scope inner : Scope) (piece : Piece) → Before names tokens rest context scope →
    SpellsBinding names scope inner rest behind piece → ((more : List Token) → behind ≡ close_square ∷ more → ⊥) → ((middle : List Token) → behind ≡ comma ∷ middle → ⊥) → SpellsNoContext tokens
no_end names tokens rest behind context scope inner piece b s f g =
    λ to all c. (let there = b.back to all c in (first_of names scope inner rest to behind piece there.0 s there.1).either f g)

-- one more binding, and what stands behind it
pub goes_on : (names : List (List ℕ)) (tokens rest behind more : List Token) (context : Context) (scope inner : Scope) (piece : Piece) (closed : Bool) → Before names tokens rest context scope →
    SpellsBinding names scope inner rest behind piece → behind ≡ end_of closed ∷ more → GoesOn closed names tokens more (extended context piece) inner
goes_on names tokens rest behind more context scope inner piece true b s e = last_one names tokens rest behind more context scope inner piece b s e
goes_on names tokens rest behind more context scope inner piece false b s e = one_more names tokens rest behind more context scope inner piece b s e

binding_first : (rest to : List Token) (bs : List Binding) → SpellsNoBinding rest → IsContext rest to bs → ⊥
binding_first rest to bs n (grammar.IsContext.single {tokens = ts} {x = x} {left = l} {a = a} d) = n x l ts (close_square ∷ to) a refl d refl
binding_first rest to bs n (grammar.IsContext.several {tokens = ts} {middle = middle} {x = x} {left = l} {a = a} d c) = n x l ts (comma ∷ middle) a refl d refl

pub no_binding : (names : List (List ℕ)) (tokens rest : List Token) (context : Context) (scope : Scope) → Before names tokens rest context scope → SpellsNoBinding rest → SpellsNoContext tokens
no_binding names tokens rest context scope b n = λ to all c. (let there = b.back to all c in binding_first rest to there.0 n there.1)

-- The last term of an entry

pub last_read : (names : List (List ℕ)) (scope : Scope) (tokens rest : List Token) (piece : Piece) → SpellsTerm names scope tokens rest piece → rest ≡ point ∷ [] → SpellsTerm names scope tokens (point ∷ []) piece
last_read names scope tokens rest piece t e = subst (λ (z : List Token). SpellsTerm names scope tokens z piece) e t

pub not_last : (names : List (List ℕ)) (scope : Scope) (tokens rest : List Token) (piece : Piece) → SpellsTerm names scope tokens rest piece → (rest ≡ point ∷ [] → ⊥) → SpellsNoLast tokens
not_last names scope tokens rest piece t n = λ raw d. n (rest_same names scope tokens rest (point ∷ []) piece raw t d refl)

pub no_last : (tokens : List Token) → SpellsNoTerm tokens → SpellsNoLast tokens
no_last tokens n = λ raw d. n (point ∷ []) raw d refl

-- what is said of the answer that a call gave is said of the same answer
pub answered : {A E : Type 0} {P R : Type 0} {Q S : A → Type 0} (r : Result (Option A) E) → (P → R) → ((x : A) → Q x → S x) → IfOk r (λ o. MatchOption o P Q) → IfOk r (λ o. MatchOption o R S)
answered (Ok None) f g h = f h
answered (Ok (Some x)) f g h = g x h
answered (Err e) f g h = tt

pub at_front : (names : List (List ℕ)) (scope : Scope) (tokens rest : List Token) (piece : Piece) → scope ≡ [] → SpellsTerm names scope tokens rest piece → SpellsTerm names [] tokens rest piece
at_front names scope tokens rest piece e t = subst (λ (z : Scope). SpellsTerm names z tokens rest piece) e t

-- Declarations and definitions

-- what stands behind the colon of an entry that declares a name
record TypedParts (definable : Bool) (tokens : List Token) : Type 0 where
  parts : ((raw : Raw) → IsTerm tokens (point ∷ []) raw → ⊥) → ((middle : List Token) (a b : Raw) → definable ≡ true → IsTerm tokens (becomes ∷ middle) a → IsTerm middle (point ∷ []) b → ⊥) → ⊥

typed_parts : (definable : Bool) (x : List ℕ) (left : ℕ) (tokens : List Token) (raw : RawEntry) → IsEntry (typed definable x left tokens) raw → TypedParts definable tokens
typed_parts false x left tokens raw (grammar.IsEntry.declared {a = a} d) = record { parts = λ f g. f a d }
typed_parts true x left tokens raw (grammar.IsEntry.definable {a = a} d) = record { parts = λ f g. f a d }
typed_parts true x left tokens raw (grammar.IsEntry.defined {middle = middle} {a = a} {b = b} d e) = record { parts = λ f g. g middle a b refl d e }

pub no_typed : (definable : Bool) (x : List ℕ) (left : ℕ) (tokens : List Token) → ((raw : Raw) → IsTerm tokens (point ∷ []) raw → ⊥) →
    ((middle : List Token) (a b : Raw) → definable ≡ true → IsTerm tokens (becomes ∷ middle) a → IsTerm middle (point ∷ []) b → ⊥) → SpellsNoEntry (typed definable x left tokens)
no_typed definable x left tokens f g = λ raw d. (typed_parts definable x left tokens raw d).parts f g

declared_as : (definable : Bool) (x : List ℕ) (left : ℕ) (tokens : List Token) (a : Raw) → IsTerm tokens (point ∷ []) a → IsEntry (typed definable x left tokens) (grammar.RawEntry.declaration x definable a)
declared_as true x left tokens a d = grammar.IsEntry.definable d
declared_as false x left tokens a d = grammar.IsEntry.declared d

pub declaration_read : (names : List (List ℕ)) (definable : Bool) (x : List ℕ) (left : ℕ) (tokens rest : List Token) (piece : Piece) → SpellsTerm names [] tokens rest piece → rest ≡ point ∷ [] →
    SpellsEntry names (typed definable x left tokens) (parts.Parts.declaration x definable piece)
declaration_read names definable x left tokens rest piece t e = record {
  raw = grammar.RawEntry.declaration x definable t.raw;
  spelled = declared_as definable x left tokens t.raw (subst (λ (z : List Token). IsTerm tokens z t.raw) e t.spelled);
  known = ap (λ p. parts.Parts.declaration x definable p) t.known;
  few = omega arith;
}

pub definition_read : (names : List (List ℕ)) (x : List ℕ) (left : ℕ) (tokens rest middle : List Token) (piece : Piece) (p : Parts) → SpellsTerm names [] tokens rest piece → rest ≡ becomes ∷ middle →
    SpellsBody names [] middle x piece p → SpellsEntry names (typed true x left tokens) p
definition_read names x left tokens rest middle piece p t e b = record {
  raw = grammar.RawEntry.definition x t.raw b.term.raw;
  spelled = grammar.IsEntry.defined (subst (λ (z : List Token). IsTerm tokens z t.raw) e t.spelled) b.term.spelled;
  known = b.known ∙ ap (λ q. parts.Parts.definition x q b.body) t.known ∙ ap (λ q. parts.Parts.definition x (piece_of names [] t.raw) q) b.term.known;
  few = omega arith;
}

point_becomes : (middle : List Token) → point ∷ [] ≡ becomes ∷ middle → ⊥
point_becomes middle e = cc

-- a term that neither a point alone nor a body follows
pub no_typed_behind : (names : List (List ℕ)) (definable : Bool) (x : List ℕ) (left : ℕ) (tokens rest : List Token) (piece : Piece) → SpellsTerm names [] tokens rest piece → (rest ≡ point ∷ [] → ⊥) →
    ((middle : List Token) → definable ≡ true → rest ≡ becomes ∷ middle → SpellsNoLast middle) → SpellsNoEntry (typed definable x left tokens)
no_typed_behind names definable x left tokens rest piece t f g = no_typed definable x left tokens
    (λ raw d. f (rest_same names [] tokens rest (point ∷ []) piece raw t d refl))
    (λ middle a b e d c. g middle e (rest_same names [] tokens rest (becomes ∷ middle) piece a t d refl) b c)

pub no_body_behind : (names : List (List ℕ)) (x : List ℕ) (left : ℕ) (tokens rest body : List Token) (piece : Piece) → SpellsTerm names [] tokens rest piece → rest ≡ becomes ∷ body → SpellsNoLast body →
    SpellsNoEntry (typed true x left tokens)
no_body_behind names x left tokens rest body piece t e n = no_typed_behind names true x left tokens rest piece t (λ h. point_becomes body (sym h ∙ e))
    (λ middle h k. subst (λ (z : List Token). SpellsNoLast z) (same_tail becomes body middle (sym e ∙ k)) n)

-- Rules

pub sides_read : (names : List (List ℕ)) (scope : Scope) (tokens rest middle : List Token) (context : Context) (left : Piece) (p : Parts) → SpellsTerm names scope tokens rest left → rest ≡ long_arrow ∷ middle →
    SpellsRight names scope middle context left p → SpellsSides names scope tokens context p
sides_read names scope tokens rest middle context left p t e r = record {
  middle = middle;
  left = left;
  right = r.right;
  first = subst (λ (z : List Token). SpellsTerm names scope tokens z left) e t;
  second = r.term;
  known = r.known;
}

pub no_sides : (names : List (List ℕ)) (scope : Scope) (tokens rest : List Token) (left : Piece) → SpellsTerm names scope tokens rest left →
    ((middle : List Token) → rest ≡ long_arrow ∷ middle → SpellsNoLast middle) → SpellsNoSides tokens
no_sides names scope tokens rest left t f = λ middle a b d e. f middle (rest_same names scope tokens rest (long_arrow ∷ middle) left a t d refl) b e

pub no_right : (names : List (List ℕ)) (scope : Scope) (tokens rest right : List Token) (left : Piece) → SpellsTerm names scope tokens rest left → rest ≡ long_arrow ∷ right → SpellsNoLast right → SpellsNoSides tokens
no_right names scope tokens rest right left t e n = no_sides names scope tokens rest left t (λ middle h. subst (λ (z : List Token). SpellsNoLast z) (same_tail long_arrow right middle (sym e ∙ h)) n)

pub closed_rule_read : (names : List (List ℕ)) (tokens sides : List Token) (p : Parts) → tokens ≡ close_square ∷ sides → SpellsSides names [] sides (shallow_context (known [])) p → SpellsEntry names (open_square ∷ tokens) p
closed_rule_read names tokens sides p e s =
    let here : IsEntry (open_square ∷ close_square ∷ sides) (grammar.RawEntry.rewriting [] s.first.raw s.second.raw) = grammar.IsEntry.closed_rule s.first.spelled s.second.spelled in
    record {
      raw = grammar.RawEntry.rewriting [] s.first.raw s.second.raw;
      spelled = subst (λ (z : List Token). IsEntry (open_square ∷ z) (grammar.RawEntry.rewriting [] s.first.raw s.second.raw)) (sym e) here;
      known = s.known ∙ ap (λ q. parts.Parts.rewriting (shallow_context (known [])) q s.right) s.first.known
          ∙ ap (λ q. parts.Parts.rewriting (shallow_context (known [])) (piece_of names [] s.first.raw) q) s.second.known;
      few = omega arith;
    }

pub open_rule_read : (names : List (List ℕ)) (scope : Scope) (tokens sides : List Token) (context : Context) (p : Parts) → SpellsContext names scope tokens sides context → SpellsSides names scope sides context p →
    SpellsEntry names (open_square ∷ tokens) p
open_rule_read names scope tokens sides context p c s = record {
  raw = grammar.RawEntry.rewriting c.bindings s.first.raw s.second.raw;
  spelled = grammar.IsEntry.open_rule c.spelled s.first.spelled s.second.spelled;
  known = s.known ∙ ap (λ d. parts.Parts.rewriting d s.left s.right) c.known
      ∙ ap (λ q. parts.Parts.rewriting (context_of names c.bindings) q s.right) (s.first.known ∙ ap (λ z. piece_of names z s.first.raw) c.scoped)
      ∙ ap (λ q. parts.Parts.rewriting (context_of names c.bindings) (piece_of names (scope_behind [] c.bindings) s.first.raw) q) (s.second.known ∙ ap (λ z. piece_of names z s.second.raw) c.scoped);
  few = c.few;
}

no_square_context : (sides to : List Token) (bs : List Binding) → IsContext (close_square ∷ sides) to bs → ⊥
no_square_context sides to bs c = elim c [ ]

-- what stands behind the opening bracket of a rule
rule_parts : (tokens : List Token) (raw : RawEntry) → IsEntry (open_square ∷ tokens) raw → ((sides : List Token) → tokens ≡ close_square ∷ sides → SpellsNoSides sides) →
    ((sides : List Token) (bs : List Binding) → IsContext tokens sides bs → SpellsNoSides sides) → ⊥
rule_parts tokens raw (grammar.IsEntry.closed_rule {tokens = sides} {middle = middle} {a = a} {b = b} d e) f g = f sides refl middle a b d e
rule_parts tokens raw (grammar.IsEntry.open_rule {left_side = sides} {right_side = middle} {bs = bs} {a = a} {b = b} c d e) f g = g sides bs c middle a b d e

pub no_closed_rule : (tokens sides : List Token) → tokens ≡ close_square ∷ sides → SpellsNoSides sides → SpellsNoEntry (open_square ∷ tokens)
no_closed_rule tokens sides e n = λ raw d. rule_parts tokens raw d
    (λ other h. subst (λ (z : List Token). SpellsNoSides z) (same_tail close_square sides other (sym e ∙ h)) n)
    (λ other bs c. absurd (no_square_context sides other bs (subst (λ (z : List Token). IsContext z other bs) e c)))

pub no_context_rule : (tokens : List Token) → ((sides : List Token) → tokens ≡ close_square ∷ sides → ⊥) → SpellsNoContext tokens → SpellsNoEntry (open_square ∷ tokens)
no_context_rule tokens f n = λ raw d. rule_parts tokens raw d (λ sides e. absurd (f sides e)) (λ sides bs c. absurd (n sides bs c))

context_end_same : (tokens to other : List Token) (bs cs : List Binding) → IsContext tokens to bs → IsContext tokens other cs → to ≡ other
context_end_same tokens to other bs cs (grammar.IsContext.single {tokens = inner} {a = a} d) (grammar.IsContext.single {a = b} e) =
    same_tail close_square to other (part_unique inner (close_square ∷ to) (close_square ∷ other) a b d refl e refl).1
context_end_same tokens to other bs cs (grammar.IsContext.single {tokens = inner} {a = a} d) (grammar.IsContext.several {middle = middle} {a = b} e more) =
    absurd (square_comma to middle (part_unique inner (close_square ∷ to) (comma ∷ middle) a b d refl e refl).1)
context_end_same tokens to other bs cs (grammar.IsContext.several {tokens = inner} {middle = middle} {a = a} d more) (grammar.IsContext.single {a = b} e) =
    absurd (square_comma other middle (part_unique inner (close_square ∷ other) (comma ∷ middle) b a e refl d refl).1)
context_end_same tokens to other bs cs (grammar.IsContext.several {tokens = inner} {middle = middle} {a = a} {bs = ds} d more) (grammar.IsContext.several {middle = second} {a = b} {bs = es} e again) =
    let same = part_unique inner (comma ∷ middle) (comma ∷ second) a b d refl e refl in
    context_end_same middle to other ds es more (subst (λ (z : List Token). IsContext z other es) (sym (same_tail comma middle second same.1)) again)

pub no_open_rule : (names : List (List ℕ)) (scope : Scope) (tokens sides : List Token) (context : Context) → ((sides : List Token) → tokens ≡ close_square ∷ sides → ⊥) →
    SpellsContext names scope tokens sides context → SpellsNoSides sides → SpellsNoEntry (open_square ∷ tokens)
no_open_rule names scope tokens sides context f c n = λ raw d. rule_parts tokens raw d (λ other e. absurd (f other e))
    (λ other bs k. subst (λ (z : List Token). SpellsNoSides z) (context_end_same tokens sides other c.bindings bs c.spelled k) n)

-- Entries

entry_begins : (tokens : List Token) (raw : RawEntry) → IsEntry tokens raw → ((x : List ℕ) (left : ℕ) (rest : List Token) → tokens ≡ id x left ∷ colon ∷ rest → ⊥) →
    ((rest : List Token) → tokens ≡ open_square ∷ rest → ⊥) → ((x : List ℕ) (left : ℕ) (rest : List Token) → tokens ≡ def_word ∷ id x left ∷ colon ∷ rest → ⊥) → ⊥
entry_begins tokens raw (grammar.IsEntry.declared {tokens = rest} {x = x} {left = left} d) f g h = f x left rest refl
entry_begins tokens raw (grammar.IsEntry.definable {tokens = rest} {x = x} {left = left} d) f g h = h x left rest refl
entry_begins tokens raw (grammar.IsEntry.defined {tokens = rest} {x = x} {left = left} d e) f g h = h x left rest refl
entry_begins tokens raw (grammar.IsEntry.closed_rule {tokens = rest} d e) f g h = g (close_square ∷ rest) refl
entry_begins tokens raw (grammar.IsEntry.open_rule {tokens = rest} c d e) f g h = g rest refl

-- the tokens begin neither with a name and a colon nor with a bracket nor with a definition
pub no_beginning : (tokens : List Token) → ((x : List ℕ) (left : ℕ) (rest : List Token) → tokens ≡ id x left ∷ colon ∷ rest → ⊥) →
    ((rest : List Token) → tokens ≡ open_square ∷ rest → ⊥) → ((x : List ℕ) (left : ℕ) (rest : List Token) → tokens ≡ def_word ∷ id x left ∷ colon ∷ rest → ⊥) → SpellsNoEntry tokens
no_beginning tokens f g h = λ raw d. entry_begins tokens raw d f g h

def_tail : (xs ys : List Token) → def_word ∷ xs ≡ def_word ∷ ys → xs ≡ ys
def_tail xs ys e = cc
