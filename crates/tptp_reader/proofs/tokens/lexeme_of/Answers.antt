use Rattle.std.proofs.Common.{◌≡◌, ◌≤◌, ℕ, ◌-◌, List, length, take, drop, length-take, length-drop, ap, subst, sym, arith}
use Rattle.std.specs.Prelude.{slice_range}
use Rattle.std.specs.Str.{IsAscii}
use Rattle.std.proofs.lemmas.Str.{IsAscii-take, IsAscii-drop}
use Rattle.tptp_lex.specs.declared.token.TokenKind.{TokenKind}
use Rattle.tptp_lex.specs.declared.token.TokenKind.TheVariants as kinds
use Rattle.tptp_lex.specs.Lexing.{IsToken}
use Rattle.tptp_lex.proofs.Ascii.{has_text, text_ascii, two_marks}
use Rattle.tptp_reader.specs.Tokens.{unmarked}
use Rattle.tptp_reader.proofs.tokens.lexeme_of.Goals as goal

marked_length : (text : List ℕ) (kind : TokenKind) (start end : ℕ) → kind ≡ kinds.Quoted → IsToken (drop start text) kind (drop end text) → start ≤ end → end ≤ length text → 2 ≤ length (slice_range text start end)
marked_length text kind start end e t order within =
    let le = two_marks text start end (subst (λ (k : TokenKind). IsToken (drop start text) k (drop end text)) e t) order within in
    let long : length (take (end - start) (drop start text)) ≡ _ = length-take (end - start) (drop start text) in
    let first : length (drop start text) ≡ length text - start = length-drop start text in
    omega arith

unmarked_ascii : (bytes : List ℕ) → IsAscii bytes → IsAscii (unmarked bytes)
unmarked_ascii bytes low = IsAscii-take (drop 1 bytes) (length bytes - 1 - 1) (IsAscii-drop bytes 1 low)

pub text_of-requires : goal.text_of-requires
text_of-requires c = text_ascii c.args.bytes.now c.args.token.kind _ _ (ap has_text c.in-Lower.is) c.requires.token c.requires.order c.requires.within

pub text_of-requires-in-Upper : goal.text_of-requires-in-Upper
text_of-requires-in-Upper c = text_ascii c.args.bytes.now c.args.token.kind _ _ (ap has_text c.in-Upper.is) c.requires.token c.requires.order c.requires.within

pub text_of-requires-in-Dollar : goal.text_of-requires-in-Dollar
text_of-requires-in-Dollar c = text_ascii c.args.bytes.now c.args.token.kind _ _ (ap has_text c.in-Dollar.is) c.requires.token c.requires.order c.requires.within

pub unmarked-requires : goal.unmarked-requires
unmarked-requires c = marked_length c.args.bytes.now c.args.token.kind _ _ c.in-Quoted.is c.requires.token c.requires.order c.requires.within

pub text_of-requires-in-Quoted : goal.text_of-requires-in-Quoted
text_of-requires-in-Quoted c =
    subst (λ (xs : List ℕ). IsAscii xs) (sym c.unmarked.ensures)
    (unmarked_ascii (slice_range c.args.bytes.now c.args.token.start c.args.token.end)
    (text_ascii c.args.bytes.now c.args.token.kind _ _ (ap has_text c.in-Quoted.is) c.requires.token c.requires.order c.requires.within))

pub text_of-requires-in-Number : goal.text_of-requires-in-Number
text_of-requires-in-Number c = text_ascii c.args.bytes.now c.args.token.kind _ _ (ap has_text c.in-Number.is) c.requires.token c.requires.order c.requires.within
