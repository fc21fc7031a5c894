-- What stands at a place of a text is determined: one next token, or one fault, or nothing more.
use Rattle.std.proofs.Common.{◌≡◌, ℕ, ◌-◌, List, [], length, drop, length-drop, Option, Some, None, refl, sym, ◌∙◌, subst, arith}
use Rattle.std.specs.Prelude.{◌≢◌}
use Rattle.tptp_lex.specs.declared.lexer.Token.{Token}
use Rattle.tptp_lex.specs.declared.token.TokenKind.{TokenKind}
use Rattle.tptp_lex.specs.declared.token.TokenKind.TheVariants as kinds
use Rattle.tptp_lex.specs.Lexing.{IsToken, at_end, in_table, IsNext, IsFault, OnlyBlank}
use Rattle.tptp_lex.specs.Rows.{Row, NoRow}
use Rattle.tptp_lex.specs.Tokens.{token_at}
use Rattle.tptp_lex.proofs.Suffix.{one_end}
use Rattle.tptp_lex.proofs.RowsReach.{empty_row}
use Rattle.tptp_lex.proofs.RowsWithin.{found_within}
use Rattle.tptp_lex.proofs.Once.{same_place, same_token, token_same, no_token}

-- two tokens at one place
both_found : (bytes rest other : List ℕ) (kind also : TokenKind) (o : Option (TokenKind × ℕ)) → token_at bytes ≡ o → IsToken bytes kind rest → IsToken bytes also other → (kind ≡ also) × (length rest ≡ length other)
both_found bytes rest other kind also None e t u = absurd (no_token bytes kind rest t e)
both_found bytes rest other kind also (Some found) e t u =
    let le = found_within bytes found.0 found.1 e in
    let p = token_same bytes kind rest found.0 found.1 t e le in
    let q = token_same bytes also other found.0 found.1 u e le in
    let left = p.1 in let right = q.1 in
    (sym p.0 ∙ q.0, omega arith)

pub one_next_token : (text : List ℕ) (from : ℕ) (t u : Token) → IsNext text from t → IsNext text from u → t ≡ u
one_next_token text from t u n m =
    let t_order = n.order in let t_in = n.within in let u_order = m.order in let u_in = m.within in
    let rest = one_end (drop from text) (drop t.start text) (drop u.start text) n.skips m.skips in
    let start : t.start ≡ u.start = same_place text t.start u.start (omega arith) (omega arith) rest in
    let here : IsToken (drop t.start text) u.kind (drop u.end text) = subst (λ (bytes : List ℕ). IsToken bytes u.kind (drop u.end text)) (sym rest) m.token in
    let both = both_found (drop t.start text) (drop t.end text) (drop u.end text) t.kind u.kind (token_at (drop t.start text)) refl n.token here in
    let t_left : length (drop t.end text) ≡ length text - t.end = length-drop t.end text in
    let u_left : length (drop u.end text) ≡ length text - u.end = length-drop u.end text in
    let left = both.1 in
    same_token t u both.0 start (omega arith)

token_not_fault : (bytes rest : List ℕ) (kind : TokenKind) → IsToken bytes kind rest → bytes ≢ [] → NoRow bytes → ⊥
token_not_fault bytes rest kind at_end more none = more refl
token_not_fault bytes rest kind (in_table l) more none = none kind rest l.row

pub next_not_fault : (text : List ℕ) (from at : ℕ) (t : Token) → IsNext text from t → IsFault text from at → ⊥
next_not_fault text from at t n f =
    let rest = one_end (drop from text) (drop t.start text) (drop at text) n.skips f.skips in
    token_not_fault (drop at text) (drop t.end text) t.kind (subst (λ (bytes : List ℕ). IsToken bytes t.kind (drop t.end text)) rest n.token) f.more f.none

pub one_fault_place : (text : List ℕ) (from i j : ℕ) → IsFault text from i → IsFault text from j → i ≡ j
one_fault_place text from i j f g = same_place text i j f.within g.within (one_end (drop from text) (drop i text) (drop j text) f.skips g.skips)

empty_end : (bytes rest : List ℕ) (kind : TokenKind) → IsToken bytes kind rest → bytes ≡ [] → kind ≡ kinds.End
empty_end bytes rest kind at_end e = refl
empty_end bytes rest kind (in_table l) e = absurd (empty_row kind rest (subst (λ (xs : List ℕ). Row kind xs rest) e l.row))

pub blank_ends : (text : List ℕ) (from : ℕ) (t : Token) → OnlyBlank text from → IsNext text from t → t.kind ≡ kinds.End
blank_ends text from t blank n = empty_end (drop t.start text) (drop t.end text) t.kind n.token (one_end (drop from text) (drop t.start text) [] n.skips blank)

pub blank_not_fault : (text : List ℕ) (from at : ℕ) → OnlyBlank text from → IsFault text from at → ⊥
blank_not_fault text from at blank f = f.more (one_end (drop from text) (drop at text) [] f.skips blank)
