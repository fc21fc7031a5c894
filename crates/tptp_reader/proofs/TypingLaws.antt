-- The slow reader of declarations, against the grammar.
use Rattle.std.proofs.Common.{◌≡◌, ◌<◌, ◌≤◌, ◌+◌, ◌-◌, ℕ, zero, suc, true, List, ◌∷◌, length, Option, Some, None, refl, sym, ◌∙◌, ap, subst, arith}
use Rattle.std.proofs.lemmas.Option.{some_pair_parts, none-some}
use Rattle.tptp_lex.specs.declared.signs.Sign.TheVariants.{Open, Close, Colon, Arrow}
use Rattle.tptp_reader.specs.Raw.{Name, RawTop}
use Rattle.tptp_reader.specs.Tokens.{Token, sign}
use Rattle.tptp_reader.specs.Rows.{Nesting, deeper}
use Rattle.tptp_reader.specs.Grammar.{word_of, IsTyping, declares, bracketed_typing}
use Rattle.tptp_reader.specs.Within.{within}
use Rattle.tptp_reader.specs.Parsing.{behind, then}
use Rattle.tptp_reader.specs.SlowLists.{goes_on, made, ended_by}
use Rattle.tptp_reader.specs.SlowWords.{word_in}
use Rattle.tptp_reader.specs.SlowTops.{top_in, declaration, declaration_in, no_typing, typing_in}
use Rattle.tptp_reader.proofs.Behind.{behind_back}
use Rattle.tptp_reader.proofs.ReadLaws.{then_back, made_back, made_goes, ended_back, ended_goes}
use Rattle.tptp_reader.proofs.Opens.{opens, inside}
use Rattle.tptp_reader.proofs.WordLaws.{word_passes, word_is_no_sign, word_sound}
use Rattle.tptp_reader.proofs.TopLaws.{IsShallowTop, top_sound, top_fewer, top_depth, top_read}
use Rattle.tptp_reader.proofs.TopSteps.{typing_step, typing_plain, bracketed_typing_step}

-- what reads only declarations of the grammar
abbrev SoundTyping : (List Token → Option ((Name × RawTop) × List Token)) → List Token → List Token → Type 0
SoundTyping item tokens front = (typing : Name × RawTop) (rest : List Token) → item tokens ≡ Some (typing, rest) → IsTyping front rest typing.0 typing.1

declaration_sound : (room : ℕ) (tokens : List Token) → SoundTyping (declaration_in room) tokens tokens
unfolding declaration_in
declaration_sound room tokens typing rest e =
    let x = then_back (ended_by Colon (word_in tokens)) (λ x. made (declaration x.0) (top_in room x.1)) (typing, rest) e in
    let word = word_sound tokens x.middle.0 (sign Colon ∷ x.middle.1) (ended_back Colon (word_in tokens) x.middle.0 x.middle.1 x.first) in
    let m = made_back (declaration x.middle.0) (top_in room x.middle.1) typing rest x.second in
    subst (λ (y : Name × RawTop). IsTyping tokens rest y.0 y.1) m.makes
    (subst (λ (ts : List Token). IsTyping ts rest x.middle.0 m.from) (sym word.begins) (declares word.is_word (top_sound room x.middle.1 m.from rest m.reads)))

by_sound : (bracketed : List Token → Option ((Name × RawTop) × List Token)) → ((tokens : List Token) → SoundTyping bracketed tokens (sign Open ∷ tokens)) → (room : ℕ) (tokens : List Token) (typing : Name × RawTop) (rest : List Token) (r : Option (List Token)) → behind Open tokens ≡ r →
    goes_on r bracketed (declaration_in room tokens) ≡ Some (typing, rest) → IsTyping tokens rest typing.0 typing.1
by_sound bracketed s room tokens typing rest None b e = declaration_sound room tokens typing rest e
by_sound bracketed s room tokens typing rest (Some inner) b e =
    subst (λ (ts : List Token). IsTyping ts rest typing.0 typing.1) (sym (behind_back Open tokens inner b)) (s inner typing rest e)

-- what is read as a declaration is one
pub typing_sound : (room : ℕ) (tokens : List Token) (typing : Name × RawTop) (rest : List Token) → typing_in room tokens ≡ Some (typing, rest) → IsTyping tokens rest typing.0 typing.1
unfolding typing_in
typing_sound zero tokens typing rest e = by_sound no_typing (λ ts x xs h. absurd (none-some (x, xs) h)) zero tokens typing rest (behind Open tokens) refl e
typing_sound (suc room) tokens typing rest e =
    by_sound (λ ts. ended_by Close (typing_in room ts)) (λ ts x xs h. bracketed_typing (typing_sound room ts x (sign Close ∷ xs) (ended_back Close (typing_in room ts) x xs h)))
    (suc room) tokens typing rest (behind Open tokens) refl e

-- a declaration takes at least one token
pub typing_fewer : (tokens rest : List Token) (f : Name) (top : RawTop) → IsTyping tokens rest f top → length rest < length tokens
typing_fewer _ rest f top (declares {tokens = inner} w d) = let h = top_fewer inner rest top d in omega arith
typing_fewer _ rest f top (bracketed_typing {tokens = inner} d) = let h = typing_fewer inner (sign Close ∷ rest) f top d in omega arith

-- its result is no deeper than the scan of the nesting lets it be
pub typing_depth : (s : Nesting) (tokens rest : List Token) (f : Name) (top : RawTop) → IsTyping tokens rest f top → within s tokens ≡ true → s.count ≤ 200 → IsShallowTop top
typing_depth s _ rest f top (declares {t = t} {tokens = inner} w d) h le = top_depth s inner rest top d (word_passes t f w s (sign Colon ∷ inner) h) le
typing_depth s _ rest f top (bracketed_typing {tokens = inner} d) h le =
    let open_left = opens s inner h in
    typing_depth (deeper s) inner (sign Close ∷ rest) f top d (inside s inner h) (omega arith)

declared_read : (room : ℕ) (t : Token) (f : Name) (inner rest : List Token) (top : RawTop) → word_of t ≡ Some f → top_in room inner ≡ Some (top, rest) → declaration_in room (t ∷ sign Colon ∷ inner) ≡ Some (declaration f top, rest)
unfolding declaration_in
declared_read room t f inner rest top w e =
    let word = ap (λ (r : Option Name). then {B = Name × List Token} r (λ g. Some (g, sign Colon ∷ inner))) w in
    ap (λ r. then r (λ x. made (declaration x.0) (top_in room x.1))) (ended_goes Colon (word_in (t ∷ sign Colon ∷ inner)) f inner word)
    ∙ made_goes (declaration f) (top_in room inner) top rest e

-- where the scan of the nesting lets a declaration through, and neither a bracket nor an arrow follows it, it is read
pub typing_read : (room : ℕ) (s : Nesting) (tokens rest : List Token) (f : Name) (top : RawTop) → IsTyping tokens rest f top → within s tokens ≡ true → 200 ≤ room + s.count → behind Open rest ≡ None → behind Arrow rest ≡ None →
    typing_in room tokens ≡ Some (declaration f top, rest)
typing_read room s _ rest f top (declares {t = t} {tokens = inner} w d) h le ends arrow =
    typing_plain room (t ∷ sign Colon ∷ inner) (λ e. none-some Open (sym (word_is_no_sign t f w (sign Colon ∷ inner)) ∙ e))
    ∙ declared_read room t f inner rest top w (top_read room s inner rest top d (word_passes t f w s (sign Colon ∷ inner) h) le ends arrow)
typing_read room s _ rest f top (bracketed_typing {tokens = inner} d) h le ends arrow =
    let open_left = opens s inner h in
    let some_room : 0 < room = omega arith in
    let room_left : 200 ≤ (room - 1) + suc s.count = omega arith in
    typing_step room (sign Open ∷ inner)
    ∙ bracketed_typing_step room inner some_room
    ∙ ended_goes Close (typing_in (room - 1) inner) (declaration f top) rest (typing_read (room - 1) (deeper s) inner (sign Close ∷ rest) f top d (inside s inner h) room_left refl refl)

-- one front of the tokens at most spells a declaration, where neither a bracket nor an arrow follows, and it spells one
pub one_typing : (s : Nesting) (tokens xs ys : List Token) (f g : Name) (top other : RawTop) → within s tokens ≡ true → IsTyping tokens xs f top → IsTyping tokens ys g other → behind Open xs ≡ None → behind Arrow xs ≡ None → behind Open ys ≡ None → behind Arrow ys ≡ None →
    (f ≡ g) × (top ≡ other) × (xs ≡ ys)
one_typing s tokens xs ys f g top other h d e p q u v =
    let same = some_pair_parts (declaration f top) (declaration g other) xs ys (sym (typing_read 200 s tokens xs f top d h (omega arith) p q) ∙ typing_read 200 s tokens ys g other e h (omega arith) u v) in
    (ap (λ (x : Name × RawTop). x.0) same.0, ap (λ (x : Name × RawTop). x.1) same.0, same.1)
