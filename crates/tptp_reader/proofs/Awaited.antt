-- One more token is taken.
use Rattle.std.proofs.Common.{◌≡◌, ℕ, ◌-◌, ◌<◌, ◌≤◌, Bool, true, false, List, [], ◌∷◌, ◌++◌, length, Option, Some, None, append-nil, append_assoc, refl, sym, ◌∙◌, ap, subst, arith}
use Rattle.std.specs.Prelude.{◌≢◌, IfSome, slice_range}
use Rattle.std.proofs.lemmas.Option.{same_Some, none-some}
use Rattle.std.proofs.lemmas.Bool.{false≢true}
use Rattle.tptp_lex.specs.declared.lexer.Token as lex
use Rattle.tptp_lex.specs.declared.token.TokenKind.{TokenKind}
use Rattle.tptp_lex.specs.declared.token.TokenKind.TheVariants.{End}
use Rattle.tptp_lex.specs.declared.signs.Sign.{Sign}
use Rattle.tptp_lex.specs.declared.signs.Sign.TheVariants.{Open, Close, OpenList, CloseList, Comma, Stop, Colon, And, Or, Not, Implies, If, Iff, Xor, NotAnd, NotOr, Equal, NotEqual, All, Exists, AllTypes, Arrow, Star, At, Caret, Plus, Minus}
use Rattle.tptp_lex.specs.Lexing.{IsNext, IsFault}
use Rattle.tptp_lex.proofs.Laws.{one_next_token}
use Rattle.tptp_lex.proofs.Shrinks.{next_has_byte}
use Rattle.tptp_reader.specs.Tokens.{Token, lower, upper, defined, quoted, distinct, number, sign, token_of, Tokens, none, one_more}
use Rattle.tptp_reader.specs.Brackets.{Bracket, behind_closing, is_point, is_wide}
use Rattle.tptp_reader.specs.Opened.{is_closed, bracketed}
use Rattle.tptp_reader.specs.declared.lexeme.Lexeme.{Lexeme}
use Rattle.tptp_reader.specs.Parsing.{then, seen}
use Rattle.tptp_reader.proofs.Innermost.{token_behind}
use Rattle.tptp_reader.specs.Answers.{IsWide, Answer, Refusal, Answers, at_fault, not_wide}
use Rattle.tptp_reader.specs.Scanning.{NoToken, Taken, Takes, NotNext, NotWide, Awaits, Moves, is_lower, opens, closes, nothing}

-- the first of some tokens is the one that comes next
pub same_first : (text : List ℕ) (from : ℕ) (t u : lex.Token) (token other : Token) →
    IsNext text from t → token_of t.kind (slice_range text t.start t.end) ≡ Some token →
    IsNext text from u → token_of u.kind (slice_range text u.start u.end) ≡ Some other → (t ≡ u) × (token ≡ other)
same_first text from t u token other n e m f =
    let same = one_next_token text from t u n m in
    (same, same_Some token other (sym e ∙ ap (λ v. token_of v.kind (slice_range text v.start v.end)) same ∙ f))

pub at_front : (text : List ℕ) (from : ℕ) → Awaits from record { text = text; tokens = []; places = []; reached = from } is_wide
at_front text from = record {
  fits = λ rest places after ts h. record { spelled = ts; wide = h };
  only = λ absent tokens places after w. absent tokens places after w.spelled w.wide;
}

pub at_last : (from : ℕ) (s : Taken) → Awaits from s nothing → IsWide s.text from s.tokens s.places s.reached
at_last from s a =
    subst (λ (ts : List Token). IsWide s.text from ts s.places s.reached) (append-nil s.tokens)
    (subst (λ (ps : List ℕ). IsWide s.text from (s.tokens ++ []) ps s.reached) (append-nil s.places) (a.fits [] [] s.reached none refl))

-- what follows the token passes the next test, and nothing else follows that passes the test before
fits_next : (from : ℕ) (s : Taken) (left next : List Token → Bool) (token : Token) (t : lex.Token) →
    Awaits from s left → IsNext s.text s.reached t → token_of t.kind (slice_range s.text t.start t.end) ≡ Some token →
    ((rest : List Token) → left (token ∷ rest) ≡ next rest) →
    (rest : List Token) (places : List ℕ) (after : ℕ) → Tokens s.text t.end rest places after → next rest ≡ true →
    IsWide s.text from ((s.tokens ++ token ∷ []) ++ rest) ((s.places ++ t.start ∷ []) ++ places) after
fits_next from s left next token t a n e same rest places after ts h =
    let whole = a.fits (token ∷ rest) (t.start ∷ places) after (one_more n e ts) (same rest ∙ h) in
    subst (λ (xs : List Token). IsWide s.text from xs ((s.places ++ t.start ∷ []) ++ places) after) (sym (append_assoc s.tokens (token ∷ []) rest))
    (subst (λ (ps : List ℕ). IsWide s.text from (s.tokens ++ token ∷ rest) ps after) (sym (append_assoc s.places (t.start ∷ []) places)) whole)

-- tokens that pass a test go on behind the first
none_behind : (text : List ℕ) (from : ℕ) (left next : List Token → Bool) (token : Token) (t : lex.Token) →
    IsNext text from t → token_of t.kind (slice_range text t.start t.end) ≡ Some token → left [] ≡ false →
    ((rest : List Token) → left (token ∷ rest) ≡ next rest) →
    ((rest : List Token) (places : List ℕ) (after : ℕ) → Tokens text t.end rest places after → next rest ≡ true → ⊥) →
    (rest : List Token) (places : List ℕ) (after : ℕ) → Tokens text from rest places after → left rest ≡ true → ⊥
none_behind text from left next token t n e empty same absent rest places after none h = false≢true (sym empty ∙ h)
none_behind text from left next token t n e empty same absent rest places after (one_more {t = u} {token = other} {tokens = others} {places = more} m f ts) h =
    let both = same_first text from t u token other n e m f in
    absent others more after (subst (λ (v : lex.Token). Tokens text v.end others more after) (sym both.0) ts)
    (sym (same others) ∙ ap (λ (x : Token). left (x ∷ others)) both.1 ∙ h)

pub awaits_next : (from : ℕ) (s after : Taken) (left next : List Token → Bool) (token : Token) →
    Takes s after token → left [] ≡ false → ((rest : List Token) → left (token ∷ rest) ≡ next rest) → Awaits from s left → Awaits from after next
awaits_next from s after left next token takes empty same a =
    subst (λ (x : Taken). Awaits from x next) (sym takes.same) record {
      fits = fits_next from s left next token takes.t a takes.next takes.spelled same;
      only = λ absent. a.only (none_behind s.text s.reached left next token takes.t takes.next takes.spelled empty same absent);
    }

pub awaits_other : (from : ℕ) (s after : Taken) (left : List Token → Bool) (token : Token) →
    Takes s after token → left [] ≡ false → ((rest : List Token) → left (token ∷ rest) ≡ false) → Awaits from s left → NotWide s.text from
awaits_other from s after left token takes empty same a =
    a.only (none_behind s.text s.reached left (λ rest. false) token takes.t takes.next takes.spelled empty same (λ rest places behind ts h. false≢true h))

no_token : (text : List ℕ) (from : ℕ) (left : List Token → Bool) → NoToken text from → left [] ≡ false →
    (rest : List Token) (places : List ℕ) (after : ℕ) → Tokens text from rest places after → left rest ≡ true → ⊥
no_token text from left absent empty rest places after none h = false≢true (sym empty ∙ h)
no_token text from left absent empty rest places after (one_more {t = u} {token = other} m f ts) h =
    none-some other (sym (ap (λ k. token_of k (slice_range text u.start u.end)) (absent u m)) ∙ f)

pub awaits_none : (from : ℕ) (s : Taken) (left : List Token → Bool) → NoToken s.text s.reached → left [] ≡ false → Awaits from s left → NotWide s.text from
awaits_none from s left absent empty a = a.only (no_token s.text s.reached left absent empty)

-- what is taken is one token
pub one_taken : (s after behind : Taken) (token other : Token) → Takes s after token → Takes s behind other → token ≡ other
one_taken s after behind token other p q = (same_first s.text s.reached p.t q.t token other p.next p.spelled q.next q.spelled).1

pub none_taken : (s after : Taken) (token : Token) → NoToken s.text s.reached → Takes s after token → ⊥
none_taken s after token absent p = none-some token (sym (ap (λ k. token_of k (slice_range s.text p.t.start p.t.end)) (absent p.t p.next)) ∙ p.spelled)

one_wanted : (s : Taken) (left : List Token → Bool) (wanted : Token) → left [] ≡ false →
    ((token : Token) (rest : List Token) → left (token ∷ rest) ≡ true → token ≡ wanted) → NotNext s wanted →
    (rest : List Token) (places : List ℕ) (after : ℕ) → Tokens s.text s.reached rest places after → left rest ≡ true → ⊥
one_wanted s left wanted empty only other rest places after none h = false≢true (sym empty ∙ h)
one_wanted s left wanted empty only other rest places after (one_more {t = u} {token = token} {tokens = others} m f ts) h =
    let same : token ≡ wanted = only token others h in
    other _ record { t = u; next = m; spelled = f ∙ ap Some same; same = refl }

-- where the token that is wanted doesn't come next, no wide statement begins
pub awaits_wanted : (from : ℕ) (s : Taken) (left : List Token → Bool) (wanted : Token) → left [] ≡ false →
    ((token : Token) (rest : List Token) → left (token ∷ rest) ≡ true → token ≡ wanted) → NotNext s wanted → Awaits from s left → NotWide s.text from
awaits_wanted from s left wanted empty only other a = a.only (one_wanted s left wanted empty only other)

-- what follows a lower
sign_opens : (text : List ℕ) (s : Sign) (rest : List Token) → is_wide (lower text ∷ sign s ∷ rest) ≡ opens (sign s ∷ rest)
sign_opens text Open rest = refl
sign_opens text OpenList rest = refl
sign_opens text Close rest = refl
sign_opens text CloseList rest = refl
sign_opens text Comma rest = refl
sign_opens text Stop rest = refl
sign_opens text Colon rest = refl
sign_opens text And rest = refl
sign_opens text Or rest = refl
sign_opens text Not rest = refl
sign_opens text Implies rest = refl
sign_opens text If rest = refl
sign_opens text Iff rest = refl
sign_opens text Xor rest = refl
sign_opens text NotAnd rest = refl
sign_opens text NotOr rest = refl
sign_opens text Equal rest = refl
sign_opens text NotEqual rest = refl
sign_opens text All rest = refl
sign_opens text Exists rest = refl
sign_opens text AllTypes rest = refl
sign_opens text Arrow rest = refl
sign_opens text Star rest = refl
sign_opens text At rest = refl
sign_opens text Caret rest = refl
sign_opens text Plus rest = refl
sign_opens text Minus rest = refl

pub lower_opens : (text : List ℕ) (rest : List Token) → is_wide (lower text ∷ rest) ≡ opens rest
lower_opens text [] = refl
lower_opens text (lower word ∷ rest) = refl
lower_opens text (upper word ∷ rest) = refl
lower_opens text (defined word ∷ rest) = refl
lower_opens text (quoted word ∷ rest) = refl
lower_opens text (distinct ∷ rest) = refl
lower_opens text (number word ∷ rest) = refl
lower_opens text (sign s ∷ rest) = sign_opens text s rest

pub lower_moves : (r : Bool) (s after : Taken) (token : Token) → Takes s after token → r ≡ is_lower token → Moves r s after is_wide opens
lower_moves true s after (lower text) takes e = (ap (λ (x : Taken). x.text) takes.same, λ from a. awaits_next from s after is_wide opens (lower text) takes refl (lower_opens text) a)
lower_moves true s after (upper text) takes e = absurd (false≢true (sym e))
lower_moves true s after (defined word) takes e = absurd (false≢true (sym e))
lower_moves true s after (quoted text) takes e = absurd (false≢true (sym e))
lower_moves true s after distinct takes e = absurd (false≢true (sym e))
lower_moves true s after (number text) takes e = absurd (false≢true (sym e))
lower_moves true s after (sign x) takes e = absurd (false≢true (sym e))
lower_moves false s after (lower text) takes e = absurd (false≢true e)
lower_moves false s after (upper text) takes e = λ from a. awaits_other from s after is_wide (upper text) takes refl (λ rest. refl) a
lower_moves false s after (defined word) takes e = λ from a. awaits_other from s after is_wide (defined word) takes refl (λ rest. refl) a
lower_moves false s after (quoted text) takes e = λ from a. awaits_other from s after is_wide (quoted text) takes refl (λ rest. refl) a
lower_moves false s after distinct takes e = λ from a. awaits_other from s after is_wide distinct takes refl (λ rest. refl) a
lower_moves false s after (number text) takes e = λ from a. awaits_other from s after is_wide (number text) takes refl (λ rest. refl) a
lower_moves false s after (sign x) takes e = λ from a. awaits_other from s after is_wide (sign x) takes refl (λ rest. refl) a

-- the open bracket
sign_wanted : (s : Sign) (rest : List Token) → opens (sign s ∷ rest) ≡ true → sign s ≡ sign Open
sign_wanted Open rest h = refl
sign_wanted OpenList rest h = absurd (false≢true h)
sign_wanted Close rest h = absurd (false≢true h)
sign_wanted CloseList rest h = absurd (false≢true h)
sign_wanted Comma rest h = absurd (false≢true h)
sign_wanted Stop rest h = absurd (false≢true h)
sign_wanted Colon rest h = absurd (false≢true h)
sign_wanted And rest h = absurd (false≢true h)
sign_wanted Or rest h = absurd (false≢true h)
sign_wanted Not rest h = absurd (false≢true h)
sign_wanted Implies rest h = absurd (false≢true h)
sign_wanted If rest h = absurd (false≢true h)
sign_wanted Iff rest h = absurd (false≢true h)
sign_wanted Xor rest h = absurd (false≢true h)
sign_wanted NotAnd rest h = absurd (false≢true h)
sign_wanted NotOr rest h = absurd (false≢true h)
sign_wanted Equal rest h = absurd (false≢true h)
sign_wanted NotEqual rest h = absurd (false≢true h)
sign_wanted All rest h = absurd (false≢true h)
sign_wanted Exists rest h = absurd (false≢true h)
sign_wanted AllTypes rest h = absurd (false≢true h)
sign_wanted Arrow rest h = absurd (false≢true h)
sign_wanted Star rest h = absurd (false≢true h)
sign_wanted At rest h = absurd (false≢true h)
sign_wanted Caret rest h = absurd (false≢true h)
sign_wanted Plus rest h = absurd (false≢true h)
sign_wanted Minus rest h = absurd (false≢true h)

pub open_wanted : (token : Token) (rest : List Token) → opens (token ∷ rest) ≡ true → token ≡ sign Open
open_wanted (lower word) rest h = absurd (false≢true h)
open_wanted (upper word) rest h = absurd (false≢true h)
open_wanted (defined word) rest h = absurd (false≢true h)
open_wanted (quoted word) rest h = absurd (false≢true h)
open_wanted distinct rest h = absurd (false≢true h)
open_wanted (number word) rest h = absurd (false≢true h)
open_wanted (sign s) rest h = sign_wanted s rest h

abbrev round : List Bracket
round = Bracket.round ∷ []

pub open_awaited : (from : ℕ) (s after : Taken) → Takes s after (sign Open) → Awaits from s opens → Awaits from after (closes round)
open_awaited from s after takes a = awaits_next from s after opens (closes round) (sign Open) takes refl (λ rest. refl) a

pub open_missing : (from : ℕ) (s : Taken) → NotNext s (sign Open) → Awaits from s opens → NotWide s.text from
open_missing from s other a = awaits_wanted from s opens (sign Open) refl open_wanted other a

-- the point
sign_point : (s : Sign) (rest : List Token) → closes [] (sign s ∷ rest) ≡ true → sign s ≡ sign Stop
sign_point Stop rest h = refl
sign_point Open rest h = absurd (false≢true h)
sign_point OpenList rest h = absurd (false≢true h)
sign_point Close rest h = absurd (false≢true h)
sign_point CloseList rest h = absurd (false≢true h)
sign_point Comma rest h = absurd (false≢true h)
sign_point Colon rest h = absurd (false≢true h)
sign_point And rest h = absurd (false≢true h)
sign_point Or rest h = absurd (false≢true h)
sign_point Not rest h = absurd (false≢true h)
sign_point Implies rest h = absurd (false≢true h)
sign_point If rest h = absurd (false≢true h)
sign_point Iff rest h = absurd (false≢true h)
sign_point Xor rest h = absurd (false≢true h)
sign_point NotAnd rest h = absurd (false≢true h)
sign_point NotOr rest h = absurd (false≢true h)
sign_point Equal rest h = absurd (false≢true h)
sign_point NotEqual rest h = absurd (false≢true h)
sign_point All rest h = absurd (false≢true h)
sign_point Exists rest h = absurd (false≢true h)
sign_point AllTypes rest h = absurd (false≢true h)
sign_point Arrow rest h = absurd (false≢true h)
sign_point Star rest h = absurd (false≢true h)
sign_point At rest h = absurd (false≢true h)
sign_point Caret rest h = absurd (false≢true h)
sign_point Plus rest h = absurd (false≢true h)
sign_point Minus rest h = absurd (false≢true h)

pub point_wanted : (token : Token) (rest : List Token) → closes [] (token ∷ rest) ≡ true → token ≡ sign Stop
point_wanted (lower word) rest h = absurd (false≢true h)
point_wanted (upper word) rest h = absurd (false≢true h)
point_wanted (defined word) rest h = absurd (false≢true h)
point_wanted (quoted word) rest h = absurd (false≢true h)
point_wanted distinct rest h = absurd (false≢true h)
point_wanted (number word) rest h = absurd (false≢true h)
point_wanted (sign s) rest h = sign_point s rest h

pub point_last : (rest : List Token) → closes [] (sign Stop ∷ rest) ≡ nothing rest
point_last [] = refl
point_last (token ∷ rest) = refl

pub point_awaited : (from : ℕ) (s after : Taken) → Takes s after (sign Stop) → Awaits from s (closes []) → Awaits from after nothing
point_awaited from s after takes a = awaits_next from s after (closes []) nothing (sign Stop) takes refl point_last a

pub point_missing : (from : ℕ) (s : Taken) → NotNext s (sign Stop) → Awaits from s (closes []) → NotWide s.text from
point_missing from s other a = awaits_wanted from s (closes []) (sign Stop) refl point_wanted other a

-- one more token where brackets are open
pub brackets_awaited : (from : ℕ) (s after : Taken) (opened left : List Bracket) (token : Token) → is_closed opened ≡ false → Takes s after token →
    bracketed opened token ≡ Some left → Awaits from s (closes opened) → Awaits from after (closes left)
brackets_awaited from s after [] left token waiting takes e a = absurd (false≢true (sym waiting))
brackets_awaited from s after (b ∷ opened) left token waiting takes e a =
    awaits_next from s after (closes (b ∷ opened)) (closes left) token takes refl
    (λ rest. ap is_point (token_behind b opened token rest ∙ ap (λ o. then o (λ bs. behind_closing bs rest)) e)) a

pub brackets_crossed : (from : ℕ) (s after : Taken) (opened : List Bracket) (token : Token) → is_closed opened ≡ false → Takes s after token →
    bracketed opened token ≡ None → Awaits from s (closes opened) → NotWide s.text from
brackets_crossed from s after [] token waiting takes e a = absurd (false≢true (sym waiting))
brackets_crossed from s after (b ∷ opened) token waiting takes e a =
    awaits_other from s after (closes (b ∷ opened)) token takes refl
    (λ rest. ap is_point (token_behind b opened token rest ∙ ap (λ o. then o (λ bs. behind_closing bs rest)) e)) a

pub brackets_missing : (from : ℕ) (s : Taken) (opened : List Bracket) → is_closed opened ≡ false → NoToken s.text s.reached → Awaits from s (closes opened) → NotWide s.text from
brackets_missing from s [] waiting absent a = absurd (false≢true (sym waiting))
brackets_missing from s (b ∷ opened) waiting absent a = awaits_none from s (closes (b ∷ opened)) absent refl a

pub brackets_closed : (from : ℕ) (s : Taken) (opened : List Bracket) → is_closed opened ≡ true → Awaits from s (closes opened) → Awaits from s (closes [])
brackets_closed from s [] closed a = a
brackets_closed from s (b ∷ opened) closed a = absurd (false≢true closed)

pub ended : (k : TokenKind) (text : List ℕ) (token : Token) → token_of k text ≡ Some token → k ≢ End
ended k text token e h = none-some token (sym (ap (λ k. token_of k text) h) ∙ e)

-- a token leads further on in the text
pub takes_further : (s after : Taken) (token : Token) → Takes s after token → (after.text ≡ s.text) × ((s.reached < after.reached) × (after.reached ≤ length s.text))
takes_further s after token takes =
    let n = takes.next in let first = n.after in let within = n.within in
    let lt = next_has_byte s.text s.reached takes.t n (ended takes.t.kind (slice_range s.text takes.t.start takes.t.end) token takes.spelled) in
    let place : after.reached ≡ takes.t.end = ap (λ (x : Taken). x.reached) takes.same in
    (ap (λ (x : Taken). x.text) takes.same, (omega arith, omega arith))

pub further : (s after : Taken) (token : Token) (text : List ℕ) → Takes s after token → s.text ≡ text → length after.text - after.reached < length s.text - s.reached
further s after token text takes e =
    let far = takes_further s after token takes in
    let lt = far.1.0 in let le = far.1.1 in
    let long : length after.text ≡ length s.text = ap length far.0 in
    omega arith

-- what a call of the parser gave
pub some_takes : (s after : Taken) (r : Option Lexeme) (l : Lexeme) → r ≡ Some l → IfSome r (λ l. Takes s after (seen l)) → Takes s after (seen l)
some_takes s after r l e h = subst (λ (o : Option Lexeme). IfSome o (λ l. Takes s after (seen l))) e h

-- one step, and a second one
pub moves_then : (r : Bool) (s middle after : Taken) (left between next : List Token → Bool) → Moves true s middle left between → Moves r middle after between next → Moves r s after left next
moves_then true s middle after left between next p q = (q.0 ∙ p.0, λ from a. q.1 from (p.1 from a))
moves_then false s middle after left between next p q = λ from a. subst (λ (text : List ℕ). NotWide text from) p.0 (q from (p.1 from a))

pub moves_as : (r t : Bool) (s after : Taken) (left next : List Token → Bool) → Moves r s after left next → r ≡ t → Moves t s after left next
moves_as r t s after left next p e = subst (λ (b : Bool). Moves b s after left next) e p

pub open_moves : (r : Bool) (s after : Taken) → (r ≡ true → Takes s after (sign Open)) → (r ≡ false → NotNext s (sign Open)) → Moves r s after opens (closes round)
open_moves true s after found other = ((takes_further s after (sign Open) (found refl)).0, λ from a. open_awaited from s after (found refl) a)
open_moves false s after found other = λ from a. open_missing from s (other refl) a

pub point_moves : (r : Bool) (s after : Taken) → (r ≡ true → Takes s after (sign Stop)) → (r ≡ false → NotNext s (sign Stop)) → Moves r s after (closes []) nothing
point_moves true s after found other = ((takes_further s after (sign Stop) (found refl)).0, λ from a. point_awaited from s after (found refl) a)
point_moves false s after found other = λ from a. point_missing from s (other refl) a

-- a whole statement, from its place on
pub whole_wide : (text : List ℕ) (from : ℕ) (s after : Taken) (tokens : List Token) (places : List ℕ) (reached : ℕ) →
    s ≡ record { text = text; tokens = []; places = []; reached = from } → Moves true s after is_wide nothing →
    tokens ≡ after.tokens → places ≡ after.places → reached ≡ after.reached → IsWide text from tokens places reached
whole_wide text from s after tokens places reached e m p q r =
    let start : Awaits from s is_wide = subst (λ (x : Taken). Awaits from x is_wide) (sym e) (at_front text from) in
    let same : after.text ≡ text = m.0 ∙ ap (λ (x : Taken). x.text) e in
    let w : IsWide after.text from after.tokens after.places after.reached = at_last from after (m.1 from start) in
    subst (λ (xs : List ℕ). IsWide xs from tokens places reached) same
    (subst (λ (ts : List Token). IsWide after.text from ts places reached) (sym p)
    (subst (λ (ps : List ℕ). IsWide after.text from after.tokens ps reached) (sym q)
    (subst (λ (n : ℕ). IsWide after.text from after.tokens after.places n) (sym r) w)))

pub whole_refused : (text : List ℕ) (from : ℕ) (s after : Taken) → s ≡ record { text = text; tokens = []; places = []; reached = from } → Moves false s after is_wide nothing → NotWide text from
whole_refused text from s after e m =
    subst (λ (xs : List ℕ). NotWide xs from) (ap (λ (x : Taken). x.text) e) (m from (subst (λ (x : Taken). Awaits from x is_wide) (sym e) (at_front text from)))

pub fault_answer : (bytes text : List ℕ) (from reached at : ℕ) → text ≡ bytes → reached ≡ from → IsFault text reached at → Answers bytes from (Answer.refuses (Refusal.syntax at))
fault_answer bytes text from reached at e f fault =
    at_fault (subst (λ (xs : List ℕ). IsFault xs from at) e (subst (λ (n : ℕ). IsFault text n at) f fault))

pub refused_answer : (bytes text : List ℕ) (from reached : ℕ) (t : lex.Token) → text ≡ bytes → reached ≡ from → IsNext text reached t → t.kind ≢ End → NotWide bytes from →
    Answers bytes from (Answer.refuses (Refusal.syntax t.start))
refused_answer bytes text from reached t e f next more absent =
    not_wide (subst (λ (xs : List ℕ). IsNext xs from t) e (subst (λ (n : ℕ). IsNext text n t) f next)) more absent
