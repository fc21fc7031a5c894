-- What stands at a place of a text has one answer.
use Rattle.std.proofs.Common.{◌≡◌, ℕ, ◌<◌, ◌≤◌, true, List, [], ◌∷◌, length, Option, Some, None, refl, sym, ◌∙◌, ap, subst, arith}
use Rattle.std.specs.Prelude.{◌≢◌, slice_index, slice_range}
use Rattle.std.proofs.lemmas.Option.{same_Some}
use Rattle.std.proofs.lemmas.Bool.{false≢true}
use Rattle.tptp_lex.specs.declared.lexer.Token as lex
use Rattle.tptp_lex.specs.declared.token.TokenKind.TheVariants.{End}
use Rattle.tptp_lex.specs.Lexing.{IsNext, IsFault, OnlyBlank}
use Rattle.tptp_lex.proofs.Laws.{one_next_token, next_not_fault, one_fault_place, blank_ends, blank_not_fault}
use Rattle.tptp_lex.proofs.Shrinks.{next_has_byte}
use Rattle.tptp_reader.specs.Raw.{RawStatement}
use Rattle.tptp_reader.specs.Tokens.{Token, lower, upper, defined, quoted, distinct, number, sign, Tokens, none, one_more}
use Rattle.tptp_reader.specs.Brackets.{Bracket, behind_closing, is_point, is_wide}
use Rattle.tptp_reader.specs.Opened.{bracketed}
use Rattle.tptp_reader.specs.Parsing.{then}
use Rattle.tptp_reader.specs.Rows.{Fault, early_fault}
use Rattle.tptp_reader.specs.Grammar.{IsStatement}
use Rattle.tptp_reader.specs.Answers.{Answer, Refusal, IsWide, refusal_at, formula_depth, Judges, faulty, ungrammatical, deeper, spelled, Answers, at_end, at_fault, not_wide, wide}
use Rattle.tptp_reader.specs.Scanning.{opens, closes, nothing}
use Rattle.tptp_reader.proofs.Innermost.{token_behind}
use Rattle.tptp_reader.proofs.Awaited.{same_first, lower_opens, open_wanted, point_wanted, point_last, ended}

record Same (ts : List Token) (ps : List ℕ) (a : ℕ) (us : List Token) (qs : List ℕ) (b : ℕ) : Type 0 where
  tokens : ts ≡ us
  places : ps ≡ qs
  after : a ≡ b

same_more : (t u : lex.Token) (token other : Token) (ts us : List Token) (ps qs : List ℕ) (a b : ℕ) → t ≡ u → token ≡ other → Same ts ps a us qs b → Same (token ∷ ts) (t.start ∷ ps) a (other ∷ us) (u.start ∷ qs) b
same_more t u token other ts us ps qs a b e f s = record {
  tokens = ap (λ x. x ∷ ts) f ∙ ap (λ xs. other ∷ xs) s.tokens;
  places = ap (λ (v : lex.Token). v.start ∷ ps) e ∙ ap (λ ns. u.start ∷ ns) s.places;
  after = s.after;
}

-- the point comes last
one_last : (text : List ℕ) (from : ℕ) (ts us : List Token) (ps qs : List ℕ) (a b : ℕ) → Tokens text from ts ps a → nothing ts ≡ true → Tokens text from us qs b → nothing us ≡ true → Same ts ps a us qs b
one_last text from ts us ps qs a b none h none k = record { tokens = refl; places = refl; after = refl }
one_last text from ts us ps qs a b none h (one_more n e r) k = absurd (false≢true k)
one_last text from ts us ps qs a b (one_more n e r) h q k = absurd (false≢true h)

last_behind : (token : Token) (ts : List Token) → closes [] (token ∷ ts) ≡ true → nothing ts ≡ true
last_behind token ts h = sym (point_last ts) ∙ ap (λ (x : Token). closes [] (x ∷ ts)) (sym (point_wanted token ts h)) ∙ h

none_closed : (opened : List Bracket) → closes opened [] ≡ true → ⊥
none_closed [] h = false≢true h
none_closed (b ∷ opened) h = false≢true h

one_behind : (o : Option (List Bracket)) (ts us : List Token) (ps qs : List ℕ) (a b : ℕ) → is_point (then o (λ left. behind_closing left ts)) ≡ true → is_point (then o (λ left. behind_closing left us)) ≡ true →
    ((left : List Bracket) → closes left ts ≡ true → closes left us ≡ true → Same ts ps a us qs b) → Same ts ps a us qs b
one_behind None ts us ps qs a b h k go = absurd (false≢true h)
one_behind (Some left) ts us ps qs a b h k go = go left h k

at_place : (text : List ℕ) (t u : lex.Token) (us : List Token) (qs : List ℕ) (b : ℕ) → t ≡ u → Tokens text u.end us qs b → Tokens text t.end us qs b
at_place text t u us qs b e q = subst (λ (v : lex.Token). Tokens text v.end us qs b) (sym e) q

one_closing : (text : List ℕ) (from : ℕ) (opened : List Bracket) (ts us : List Token) (ps qs : List ℕ) (a b : ℕ) → Tokens text from ts ps a → Tokens text from us qs b → closes opened ts ≡ true → closes opened us ≡ true → Same ts ps a us qs b
one_closing text from opened ts us ps qs a b none q h k = absurd (none_closed opened h)
one_closing text from opened ts us ps qs a b (one_more n e r) none h k = absurd (none_closed opened k)
one_closing text from [] ts us ps qs a b (one_more {t = t} {token = token} {tokens = more} {places = marks} n e r) (one_more {t = u} {token = other} {tokens = rest} {places = others} m f q) h k =
    let both = same_first text from t u token other n e m f in
    same_more t u token other more rest marks others a b both.0 both.1
    (one_last text t.end more rest marks others a b r (last_behind token more h) (at_place text t u rest others b both.0 q) (last_behind other rest k))
one_closing text from (c ∷ opened) ts us ps qs a b (one_more {t = t} {token = token} {tokens = more} {places = marks} n e r) (one_more {t = u} {token = other} {tokens = rest} {places = others} m f q) h k =
    let both = same_first text from t u token other n e m f in
    let there : closes (c ∷ opened) (token ∷ rest) ≡ true = ap (λ (x : Token). closes (c ∷ opened) (x ∷ rest)) both.1 ∙ k in
    same_more t u token other more rest marks others a b both.0 both.1
    (one_behind (bracketed (c ∷ opened) token) more rest marks others a b
    (sym (ap is_point (token_behind c opened token more)) ∙ h) (sym (ap is_point (token_behind c opened token rest)) ∙ there)
    (λ left x y. one_closing text t.end left more rest marks others a b r (at_place text t u rest others b both.0 q) x y))

opened_behind : (token : Token) (ts : List Token) → opens (token ∷ ts) ≡ true → closes (Bracket.round ∷ []) ts ≡ true
opened_behind token ts h = ap (λ (x : Token). opens (x ∷ ts)) (sym (open_wanted token ts h)) ∙ h

one_opening : (text : List ℕ) (from : ℕ) (ts us : List Token) (ps qs : List ℕ) (a b : ℕ) → Tokens text from ts ps a → Tokens text from us qs b → opens ts ≡ true → opens us ≡ true → Same ts ps a us qs b
one_opening text from ts us ps qs a b none q h k = absurd (false≢true h)
one_opening text from ts us ps qs a b (one_more n e r) none h k = absurd (false≢true k)
one_opening text from ts us ps qs a b (one_more {t = t} {token = token} {tokens = more} {places = marks} n e r) (one_more {t = u} {token = other} {tokens = rest} {places = others} m f q) h k =
    let both = same_first text from t u token other n e m f in
    same_more t u token other more rest marks others a b both.0 both.1
    (one_closing text t.end (Bracket.round ∷ []) more rest marks others a b r (at_place text t u rest others b both.0 q) (opened_behind token more h) (opened_behind other rest k))

lower_behind : (token : Token) (ts : List Token) → is_wide (token ∷ ts) ≡ true → opens ts ≡ true
lower_behind (lower text) ts h = sym (lower_opens text ts) ∙ h
lower_behind (upper text) ts h = absurd (false≢true h)
lower_behind (defined word) ts h = absurd (false≢true h)
lower_behind (quoted text) ts h = absurd (false≢true h)
lower_behind distinct ts h = absurd (false≢true h)
lower_behind (number text) ts h = absurd (false≢true h)
lower_behind (sign s) ts h = absurd (false≢true h)

-- one wide statement begins at a place
one_statement_tokens : (text : List ℕ) (from : ℕ) (ts us : List Token) (ps qs : List ℕ) (a b : ℕ) → Tokens text from ts ps a → Tokens text from us qs b → is_wide ts ≡ true → is_wide us ≡ true → Same ts ps a us qs b
one_statement_tokens text from ts us ps qs a b none q h k = absurd (false≢true h)
one_statement_tokens text from ts us ps qs a b (one_more n e r) none h k = absurd (false≢true k)
one_statement_tokens text from ts us ps qs a b (one_more {t = t} {token = token} {tokens = more} {places = marks} n e r) (one_more {t = u} {token = other} {tokens = rest} {places = others} m f q) h k =
    let both = same_first text from t u token other n e m f in
    same_more t u token other more rest marks others a b both.0 both.1
    (one_opening text t.end more rest marks others a b r (at_place text t u rest others b both.0 q) (lower_behind token more h) (lower_behind other rest k))

one_wide : (text : List ℕ) (from : ℕ) (ts us : List Token) (ps qs : List ℕ) (a b : ℕ) → IsWide text from ts ps a → IsWide text from us qs b → Same ts ps a us qs b
one_wide text from ts us ps qs a b v w = one_statement_tokens text from ts us ps qs a b v.spelled w.spelled v.wide w.wide

-- the statement of a wide statement's tokens
abbrev pub OneStatement : Type 0
OneStatement = (tokens : List Token) (s t : RawStatement) → early_fault tokens ≡ None → IsStatement tokens s → IsStatement tokens t → s ≡ t

none_fault : (o : Option Fault) (x : Fault) → o ≡ None → o ≡ Some x → ⊥
none_fault o x e f = cc

not_deeper : (s t : RawStatement) → s ≡ t → 1000 < formula_depth s → formula_depth t ≤ 1000 → ⊥
not_deeper s t e lt le = let same : formula_depth s ≡ formula_depth t = ap formula_depth e in absurd (omega arith)

one_judged : OneStatement → (tokens : List Token) (places : List ℕ) (after : ℕ) (a b : Answer) → Judges tokens places after a → Judges tokens places after b → a ≡ b
one_judged one tokens places after a b (faulty {fault = x} e) (faulty {fault = y} f) =
    ap (λ (z : Fault). Answer.refuses (refusal_at places z)) (same_Some x y (sym e ∙ f))
one_judged one tokens places after a b (faulty {fault = x} e) (ungrammatical f absent) = absurd (none_fault (early_fault tokens) x f e)
one_judged one tokens places after a b (faulty {fault = x} e) (deeper f s lt) = absurd (none_fault (early_fault tokens) x f e)
one_judged one tokens places after a b (faulty {fault = x} e) (spelled f s le) = absurd (none_fault (early_fault tokens) x f e)
one_judged one tokens places after a b (ungrammatical e absent) (faulty {fault = y} f) = absurd (none_fault (early_fault tokens) y e f)
one_judged one tokens places after a b (ungrammatical e absent) (ungrammatical f other) = refl
one_judged one tokens places after a b (ungrammatical e absent) (deeper {s = t} f s lt) = absurd (absent t s)
one_judged one tokens places after a b (ungrammatical e absent) (spelled {s = t} f s le) = absurd (absent t s)
one_judged one tokens places after a b (deeper e s lt) (faulty {fault = y} f) = absurd (none_fault (early_fault tokens) y e f)
one_judged one tokens places after a b (deeper {s = t} e s lt) (ungrammatical f absent) = absurd (absent t s)
one_judged one tokens places after a b (deeper e s lt) (deeper f t gt) = refl
one_judged one tokens places after a b (deeper {s = x} e s lt) (spelled {s = y} f t le) = absurd (not_deeper x y (one tokens x y e s t) lt le)
one_judged one tokens places after a b (spelled e s le) (faulty {fault = y} f) = absurd (none_fault (early_fault tokens) y e f)
one_judged one tokens places after a b (spelled {s = t} e s le) (ungrammatical f absent) = absurd (absent t s)
one_judged one tokens places after a b (spelled {s = x} e s le) (deeper {s = y} f t lt) = absurd (not_deeper y x (one tokens y x e t s) lt le)
one_judged one tokens places after a b (spelled {s = x} e s le) (spelled {s = y} f t ge) = ap (λ (z : RawStatement). Answer.reads (slice_index places 0) z after) (one tokens x y e s t)

-- what a wide statement begins with
wide_first : (text : List ℕ) (from : ℕ) (ts : List Token) (ps : List ℕ) (a : ℕ) → Tokens text from ts ps a → is_wide ts ≡ true → ((t : lex.Token) → IsNext text from t → t.kind ≢ End → ⊥) → ⊥
wide_first text from ts ps a none h absent = false≢true h
wide_first text from ts ps a (one_more {t = t} {token = token} n e r) h absent = absent t n (ended t.kind (slice_range text t.start t.end) token e)

end_not_next : (text : List ℕ) (from : ℕ) → OnlyBlank text from → (t : lex.Token) → IsNext text from t → t.kind ≢ End → ⊥
end_not_next text from blank t n more = more (blank_ends text from t blank n)

fault_not_next : (text : List ℕ) (from at : ℕ) → IsFault text from at → (t : lex.Token) → IsNext text from t → t.kind ≢ End → ⊥
fault_not_next text from at f t n more = next_not_fault text from at t n f

wide_judged : OneStatement → (text : List ℕ) (from : ℕ) (ts us : List Token) (ps qs : List ℕ) (m n : ℕ) (a b : Answer) → Same ts ps m us qs n → Judges ts ps m a → Judges us qs n b → a ≡ b
wide_judged one text from ts us ps qs m n a b same p q =
    one_judged one us qs n a b
    (subst (λ (k : ℕ). Judges us qs k a) same.after (subst (λ (xs : List ℕ). Judges us xs m a) same.places (subst (λ (xs : List Token). Judges xs ps m a) same.tokens p))) q

pub one_answer : OneStatement → (text : List ℕ) (from : ℕ) (a b : Answer) → Answers text from a → Answers text from b → a ≡ b
one_answer one text from a b (at_end blank) (at_end other) = refl
one_answer one text from a b (at_end blank) (at_fault {at = at} f) = absurd (blank_not_fault text from at blank f)
one_answer one text from a b (at_end blank) (not_wide {t = t} n more absent) = absurd (end_not_next text from blank t n more)
one_answer one text from a b (at_end blank) (wide {tokens = ts} {places = ps} {after = m} w j) = absurd (wide_first text from ts ps m w.spelled w.wide (end_not_next text from blank))
one_answer one text from a b (at_fault {at = at} f) (at_end blank) = absurd (blank_not_fault text from at blank f)
one_answer one text from a b (at_fault {at = i} f) (at_fault {at = j} g) = ap (λ (k : ℕ). Answer.refuses (Refusal.syntax k)) (one_fault_place text from i j f g)
one_answer one text from a b (at_fault {at = at} f) (not_wide {t = t} n more absent) = absurd (next_not_fault text from at t n f)
one_answer one text from a b (at_fault {at = at} f) (wide {tokens = ts} {places = ps} {after = m} w j) = absurd (wide_first text from ts ps m w.spelled w.wide (fault_not_next text from at f))
one_answer one text from a b (not_wide {t = t} n more absent) (at_end blank) = absurd (end_not_next text from blank t n more)
one_answer one text from a b (not_wide {t = t} n more absent) (at_fault {at = at} f) = absurd (next_not_fault text from at t n f)
one_answer one text from a b (not_wide {t = t} n more absent) (not_wide {t = u} m rest other) = ap (λ (x : lex.Token). Answer.refuses (Refusal.syntax x.start)) (one_next_token text from t u n m)
one_answer one text from a b (not_wide {t = t} n more absent) (wide {tokens = ts} {places = ps} {after = m} w j) = absurd (absent ts ps m w)
one_answer one text from a b (wide {tokens = ts} {places = ps} {after = m} w j) (at_end blank) = absurd (wide_first text from ts ps m w.spelled w.wide (end_not_next text from blank))
one_answer one text from a b (wide {tokens = ts} {places = ps} {after = m} w j) (at_fault {at = at} f) = absurd (wide_first text from ts ps m w.spelled w.wide (fault_not_next text from at f))
one_answer one text from a b (wide {tokens = ts} {places = ps} {after = m} w j) (not_wide {t = t} n more absent) = absurd (absent ts ps m w)
one_answer one text from a b (wide {tokens = ts} {places = ps} {after = m} v j) (wide {tokens = us} {places = qs} {after = k} w l) =
    wide_judged one text from ts us ps qs m k a b (one_wide text from ts us ps qs m k v w) j l

-- the places of a statement's tokens are in order
tokens_order : (text : List ℕ) (from : ℕ) (ts : List Token) (ps : List ℕ) (a : ℕ) → from ≤ length text → Tokens text from ts ps a → (from ≤ a) × (a ≤ length text)
tokens_order text from ts ps a le none = (omega arith, le)
tokens_order text from ts ps a le (one_more {t = t} {tokens = more} {places = marks} n e r) =
    let first = n.after in let order = n.order in let within = n.within in
    let rest = tokens_order text t.end more marks a within r in
    let behind = rest.0 in
    (omega arith, rest.1)

first_order : (text : List ℕ) (from : ℕ) (ts : List Token) (ps : List ℕ) (a : ℕ) → Tokens text from ts ps a → is_wide ts ≡ true →
    (from ≤ slice_index ps 0) × ((slice_index ps 0 < a) × (a ≤ length text))
first_order text from ts ps a none h = absurd (false≢true h)
first_order text from ts ps a (one_more {t = t} {token = token} {tokens = more} {places = marks} n e r) h =
    let first = n.after in let within = n.within in
    let lt = next_has_byte text from t n (ended t.kind (slice_range text t.start t.end) token e) in
    let rest = tokens_order text t.end more marks a within r in
    let behind = rest.0 in
    (first, (omega arith, rest.1))

pub wide_order : (text : List ℕ) (from : ℕ) (ts : List Token) (ps : List ℕ) (a : ℕ) → IsWide text from ts ps a → (from ≤ slice_index ps 0) × ((slice_index ps 0 < a) × (a ≤ length text))
wide_order text from ts ps a w = first_order text from ts ps a w.spelled w.wide
