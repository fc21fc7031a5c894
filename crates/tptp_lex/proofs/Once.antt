-- From one place on there is one next token, or one fault.
use Rattle.std.proofs.Common.{◌≡◌, ℕ, ◌+◌, ◌-◌, ◌≤◌, Bool, true, false, cond, List, [], ◌∷◌, length, drop, length-drop, Option, Some, None, refl, sym, ◌∙◌, ap, subst, arith}
use Rattle.tptp_lex.specs.declared.lexer.Token.{Token}
use Rattle.tptp_lex.specs.declared.token.TokenKind.{TokenKind}
use Rattle.std.specs.Prelude.{IfSome, ◌==◌, ◌≢◌}
use Rattle.std.specs.Option.{option_map}
use Rattle.std.specs.List.{find}
use Rattle.std.proofs.Math.Seq.{drop-length}
use Rattle.tptp_lex.specs.declared.lexer.LexFault.{LexFault}
use Rattle.tptp_lex.specs.declared.signs.Sign.{Sign}
use Rattle.tptp_lex.specs.declared.signs.TheConstants.{SIGNS}
use Rattle.tptp_lex.specs.declared.token.TokenKind.TheVariants as kinds
use Rattle.tptp_lex.specs.Blank.{Skips}
use Rattle.tptp_lex.specs.Words.{is_small, is_capital}
use Rattle.tptp_lex.specs.Signs.{begins}
use Rattle.tptp_lex.specs.Numbers.{number_length}
use Rattle.tptp_lex.specs.Tokens.{token_at, dollar_length, marked_length, sign_token, number_or}
use Rattle.tptp_lex.specs.Lexing.{Reading, IsToken, at_end, in_table, IsNext, IsFault, OnlyBlank, end_of}
use Rattle.tptp_lex.specs.Found.{Finds, FindsNone}
use Rattle.tptp_lex.specs.Rows.{NoRow}
use Rattle.std.proofs.lemmas.List.{drop-drop}
use Rattle.std.proofs.lemmas.Option.{same_Some, none-some}
use Rattle.std.proofs.lemmas.Bool.{true≢false}
use Rattle.tptp_lex.proofs.Suffix.{one_end}
use Rattle.tptp_lex.proofs.RowsReach.{is_longest, no_row, empty_row, same_longest}

-- an end of the text has one place
pub same_place : (bytes : List ℕ) (i j : ℕ) → i ≤ length bytes → j ≤ length bytes → drop i bytes ≡ drop j bytes → i ≡ j
same_place bytes i j p q e =
    let lengths : length bytes - i ≡ length bytes - j = sym (length-drop i bytes) ∙ ap length e ∙ length-drop j bytes in
    omega arith

pub same_token : (t u : Token) → t.kind ≡ u.kind → t.start ≡ u.start → t.end ≡ u.end → t ≡ u
same_token t u p q r =
    ap (λ k. record { kind = k; start = t.start; end = t.end }) p
    ∙ ap (λ s. record { kind = u.kind; start = s; end = t.end }) q
    ∙ ap (λ e. record { kind = u.kind; start = u.start; end = e }) r

-- what is found is a token
token_is : (bytes : List ℕ) (kind : TokenKind) (n : ℕ) → token_at bytes ≡ Some (kind, n) → IsToken bytes kind (drop n bytes)
token_is [] kind n e = subst (λ (p : TokenKind × ℕ). IsToken [] p.0 (drop p.1 [])) (same_Some (kinds.End, 0) (kind, n) e) at_end
token_is (b ∷ bytes) kind n e = in_table (is_longest b bytes kind n e)

next_of : (text : List ℕ) (from : ℕ) (t : Token) → Finds text from t → IsNext text from t
next_of text from t n =
    let order = n.order in
    let behind : t.start + (t.end - t.start) ≡ t.end = omega arith in
    let here : drop (t.end - t.start) (drop t.start text) ≡ drop t.end text = drop-drop (t.end - t.start) t.start text ∙ ap (λ (m : ℕ). drop m text) behind in
    record {
      skips = n.skips;
      token = subst (λ (r : List ℕ). IsToken (drop t.start text) t.kind r) here (token_is (drop t.start text) t.kind (t.end - t.start) n.row);
      after = n.after;
      order = n.order;
      within = n.within;
    }

fault_is : (text : List ℕ) (from at : ℕ) → FindsNone text from at → IsFault text from at
fault_is text from at f = record {
  skips = f.skips;
  more = λ h. none-some (kinds.End, 0) (sym f.none ∙ ap token_at h);
  none = no_row (drop at text) f.none;
  after = f.after;
  within = f.within;
}

-- and it is the only one
pub token_same : (bytes : List ℕ) (kind : TokenKind) (rest : List ℕ) (k : TokenKind) (n : ℕ) → IsToken bytes kind rest → token_at bytes ≡ Some (k, n) → n ≤ length bytes → (k ≡ kind) × (length rest + n ≡ length bytes)
token_same bytes kind rest k n at_end e le =
    let pair = same_Some (kinds.End, 0) (k, n) e in
    let count : 0 ≡ n = ap (λ (p : TokenKind × ℕ). p.1) pair in
    (sym (ap (λ (p : TokenKind × ℕ). p.0) pair), omega arith)
token_same [] kind rest k n (in_table l) e le = absurd (empty_row kind rest l.row)
token_same (b ∷ bytes) kind rest k n (in_table l) e le = same_longest b bytes kind k n rest e le l

one_next : (text : List ℕ) (from : ℕ) (u t : Token) → Finds text from u → IsNext text from t → u ≡ t
one_next text from u t n m =
    let rest = one_end (drop from text) (drop u.start text) (drop t.start text) n.skips m.skips in
    let u_order = n.order in let t_order = m.order in let u_in = n.within in let t_in = m.within in
    let start : u.start ≡ t.start = same_place text u.start t.start (omega arith) (omega arith) rest in
    let long : length (drop t.start text) ≡ length text - t.start = length-drop t.start text in
    let left : length (drop t.end text) ≡ length text - t.end = length-drop t.end text in
    let same = token_same (drop t.start text) t.kind (drop t.end text) u.kind (u.end - u.start) m.token (ap token_at (sym rest) ∙ n.row) (omega arith) in
    let sum = same.1 in
    same_token u t same.0 start (omega arith)

some_row : (bytes : List ℕ) (k : TokenKind) (n : ℕ) → token_at bytes ≡ Some (k, n) → bytes ≢ [] → NoRow bytes → ⊥
some_row [] k n e more none = more refl
some_row (b ∷ bytes) k n e more none = none k (drop n (b ∷ bytes)) (is_longest b bytes k n e).row

no_fault : (text : List ℕ) (from at : ℕ) (t : Token) → Finds text from t → IsFault text from at → ⊥
no_fault text from at t n f =
    let rest = one_end (drop from text) (drop t.start text) (drop at text) n.skips f.skips in
    some_row (drop at text) t.kind (t.end - t.start) (ap token_at (sym rest) ∙ n.row) f.more f.none

pub no_token : (bytes : List ℕ) (kind : TokenKind) (rest : List ℕ) → IsToken bytes kind rest → token_at bytes ≡ None → ⊥
no_token bytes kind rest at_end e = none-some (kinds.End, 0) (sym e)
no_token bytes kind rest (in_table l) e = no_row bytes e kind rest l.row

no_next : (text : List ℕ) (from at : ℕ) (t : Token) → FindsNone text from at → IsNext text from t → ⊥
no_next text from at t f m =
    let rest = one_end (drop from text) (drop at text) (drop t.start text) f.skips m.skips in
    no_token (drop t.start text) t.kind (drop t.end text) m.token (ap token_at (sym rest) ∙ f.none)

one_fault : (text : List ℕ) (from i j : ℕ) → FindsNone text from i → IsFault text from j → i ≡ j
one_fault text from i j f g = same_place text i j f.within g.within (one_end (drop from text) (drop i text) (drop j text) f.skips g.skips)

-- the end is no row of the table
abbrev ends : Option (TokenKind × ℕ) → Bool
ends None = false
ends (Some (kinds.End, n)) = true
ends (Some (k, n)) = false

either : (t : Bool) (x y : Option (TokenKind × ℕ)) → ends x ≡ false → ends y ≡ false → ends (cond t x y) ≡ false
either true x y p q = p
either false x y p q = q

dollar_row : (o : Option ℕ) → ends (option_map (λ n. (kinds.Dollar, 1 + n)) o) ≡ false
dollar_row None = refl
dollar_row (Some n) = refl

quoted_row : (o : Option ℕ) → ends (option_map (λ n. (kinds.Quoted, 1 + n)) o) ≡ false
quoted_row None = refl
quoted_row (Some n) = refl

distinct_row : (o : Option ℕ) → ends (option_map (λ n. (kinds.Distinct, 1 + n)) o) ≡ false
distinct_row None = refl
distinct_row (Some n) = refl

sign_row : (o : Option Sign) → ends (sign_token o) ≡ false
sign_row None = refl
sign_row (Some s) = refl

number_row : (o : Option ℕ) (p : Option Sign) → ends (number_or o (sign_token p)) ≡ false
number_row None p = sign_row p
number_row (Some n) p = refl

no_end : (b : ℕ) (bytes : List ℕ) → ends (token_at (b ∷ bytes)) ≡ false
no_end b bytes =
    either (is_small b) _ _ refl
    (either (is_capital b) _ _ refl
    (either (b == 36) _ _ (dollar_row (dollar_length bytes))
    (either (b == 39) _ _ (quoted_row (marked_length 39 bytes))
    (either (b == 34) _ _ (distinct_row (marked_length 34 bytes))
    (number_row (number_length (b ∷ bytes)) (find (begins (b ∷ bytes)) SIGNS))))))

is_end : (rest : List ℕ) (n : ℕ) → token_at rest ≡ Some (kinds.End, n) → rest ≡ []
is_end [] n e = refl
is_end (b ∷ bytes) n e = absurd (true≢false (sym (ap ends e) ∙ no_end b bytes))

blank_end : (text : List ℕ) (from : ℕ) (t : Token) → Finds text from t → t.kind ≡ kinds.End → OnlyBlank text from
blank_end text from t n e =
    subst (λ (r : List ℕ). Skips (drop from text) r) (is_end (drop t.start text) (t.end - t.start) (n.row ∙ ap (λ (k : TokenKind). Some (k, t.end - t.start)) e)) n.skips

next_end : (text : List ℕ) (from : ℕ) → from ≤ length text → OnlyBlank text from → IsNext text from (end_of text)
next_end text from le blank =
    let none : [] ≡ drop (length text) text = sym (drop-length text) in
    record {
      skips = subst (λ (r : List ℕ). Skips (drop from text) r) none blank;
      token = subst (λ (r : List ℕ). IsToken r kinds.End r) none at_end;
      after = le;
      order = omega arith;
      within = omega arith;
    }

-- what a lexer's call answers, from what is found: v is what its fields say, r what a caller sees
pub token_here : (v r : Reading) (t : Token) → v ≡ r → Finds v.text v.reached t → IsNext r.text r.reached t
token_here v r t e n = next_of r.text r.reached t (subst (λ (u : Reading). Finds u.text u.reached t) e n)

pub each_token_here : (v r : Reading) (u : Token) → v ≡ r → Finds v.text v.reached u → (t : Token) → IsNext r.text r.reached t → u ≡ t
each_token_here v r u e n t m = one_next r.text r.reached u t (subst (λ (s : Reading). Finds s.text s.reached u) e n) m

pub no_fault_here : (v r : Reading) (u : Token) → v ≡ r → Finds v.text v.reached u → (at : ℕ) → IsFault r.text r.reached at → ⊥
no_fault_here v r u e n at f = no_fault r.text r.reached at u (subst (λ (s : Reading). Finds s.text s.reached u) e n) f

pub end_here : (v r : Reading) (t : Token) → v ≡ r → Finds v.text v.reached t → t.kind ≡ kinds.End → OnlyBlank r.text r.reached
end_here v r t e n = blank_end r.text r.reached t (subst (λ (u : Reading). Finds u.text u.reached t) e n)

pub each_end_here : (v r : Reading) (u : Token) → v ≡ r → Finds v.text v.reached u → v.reached ≤ length v.text → OnlyBlank r.text r.reached → u ≡ end_of r.text
each_end_here v r u e n le blank =
    each_token_here v r u e n (end_of r.text) (next_end r.text r.reached (subst (λ (s : Reading). s.reached ≤ length s.text) e le) blank)

pub fault_here : (v r : Reading) (f : LexFault) → v ≡ r → FindsNone v.text v.reached f.at → IsFault r.text r.reached f.at
fault_here v r f e n = fault_is r.text r.reached f.at (subst (λ (u : Reading). FindsNone u.text u.reached f.at) e n)

pub no_token_here : (v r : Reading) (f : LexFault) → v ≡ r → FindsNone v.text v.reached f.at → (t : Token) → IsNext r.text r.reached t → ⊥
no_token_here v r f e n t m = no_next r.text r.reached f.at t (subst (λ (u : Reading). FindsNone u.text u.reached f.at) e n) m

pub each_fault_here : (v r : Reading) (f : LexFault) → v ≡ r → FindsNone v.text v.reached f.at → (at : ℕ) → IsFault r.text r.reached at → f ≡ record { at = at }
each_fault_here v r f e n at g = ap (λ (i : ℕ). record { at = i }) (one_fault r.text r.reached f.at at (subst (λ (u : Reading). FindsNone u.text u.reached f.at) e n) g)

pub no_end_here : (v r : Reading) (f : LexFault) → v ≡ r → FindsNone v.text v.reached f.at → v.reached ≤ length v.text → OnlyBlank r.text r.reached → ⊥
no_end_here v r f e n le blank =
    no_token_here v r f e n (end_of r.text) (next_end r.text r.reached (subst (λ (s : Reading). s.reached ≤ length s.text) e le) blank)

pub held : (v : Reading) (f : LexFault) → v.stopped ≡ Some f → IfSome v.stopped (λ f. FindsNone v.text v.reached f.at) → FindsNone v.text v.reached f.at
held v f is h = subst (λ (o : Option LexFault). IfSome o (λ f. FindsNone v.text v.reached f.at)) is h
