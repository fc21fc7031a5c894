-- Tokens of Dedukti text.
use Rattle.std.specs.Prelude.{◌≡◌, ℕ, Bool, true, false, cond, ◌||◌, ◌&&◌, ◌==◌, List, [], ◌∷◌, length, drop, Option, Some, None, codes}
use Rattle.std.specs.Str.{bytes_eq}
use Rattle.lp_terms.specs.Names.{is_start, is_inside}

-- what this reader leaves out
pub data Foreign : Type 0 where
  command : Foreign
  quoted : Foreign
  pattern : Foreign

-- An identifier, and a token that is left out, carry the number of bytes from their first one to the end of the text.
pub data Token : Type 0 where
  id : (text : List ℕ) (left : ℕ) → Token
  type_word : Token
  def_word : Token
  colon : Token
  becomes : Token
  arrow : Token
  fat_arrow : Token
  long_arrow : Token
  point : Token
  comma : Token
  open_round : Token
  close_round : Token
  open_square : Token
  close_square : Token
  foreign : (form : Foreign) (left : ℕ) → Token

-- the token at the front and what follows it, if one begins there
pub data Front : Type 0 where
  nothing : Front
  found : (token : Token) (rest : List ℕ) → Front

-- the bytes at the front that stand inside an identifier
abbrev pub word_of : List ℕ → List ℕ
word_of [] = []
word_of (b ∷ bytes) = cond (is_inside b) (b ∷ word_of bytes) []

abbrev pub after_word : List ℕ → List ℕ
after_word [] = []
after_word (b ∷ bytes) = cond (is_inside b) (after_word bytes) (b ∷ bytes)

-- the token that a word is
abbrev pub word_token : List ℕ → ℕ → Token
word_token word left =
    cond (bytes_eq word (codes "Type")) type_word (
    cond (bytes_eq word (codes "def")) def_word (
    cond (bytes_eq word (codes "thm")) (foreign command left) (
    cond (bytes_eq word (codes "_")) (foreign pattern left) (
    id word left))))

abbrev pub starts_with : ℕ → List ℕ → Bool
starts_with c [] = false
starts_with c (b ∷ bytes) = b == c

-- the sign that begins with a byte, before these bytes
abbrev pub sign_at : ℕ → List ℕ → Front
sign_at b bytes =
    cond (b == 58) (cond (starts_with 61 bytes) (found becomes (drop 1 bytes)) (found colon bytes)) (
    cond (b == 45) (cond (starts_with 62 bytes) (found arrow (drop 1 bytes)) (cond (starts_with 45 bytes && starts_with 62 (drop 1 bytes)) (found long_arrow (drop 2 bytes)) nothing)) (
    cond (b == 61) (cond (starts_with 62 bytes) (found fat_arrow (drop 1 bytes)) nothing) (
    cond (b == 46) (found point bytes) (
    cond (b == 44) (found comma bytes) (
    cond (b == 40) (cond (starts_with 59 bytes) nothing (found open_round bytes)) (
    cond (b == 41) (found close_round bytes) (
    cond (b == 91) (found open_square bytes) (
    cond (b == 93) (found close_square bytes) (
    cond (b == 35) (found (foreign command (length (b ∷ bytes))) bytes) (
    cond (b == 123 && starts_with 124 bytes) (found (foreign quoted (length (b ∷ bytes))) (drop 1 bytes)) nothing))))))))))

-- the longest token at the front
abbrev pub token_at : List ℕ → Front
token_at [] = nothing
token_at (b ∷ bytes) = cond (is_start b) (found (word_token (b ∷ word_of bytes) (length (b ∷ bytes))) (after_word bytes)) (sign_at b bytes)

-- space, tab, carriage return, newline
abbrev pub is_white : ℕ → Bool
is_white b = b == 32 || b == 9 || b == 13 || b == 10

-- what follows the next ;), if there is one
abbrev pub after_comment : List ℕ → Option (List ℕ)
after_comment [] = None
after_comment (b ∷ bytes) = cond (b == 59 && starts_with 41 bytes) (Some (drop 1 bytes)) (after_comment bytes)

-- what follows the white space or the comment at the front, if there is one
abbrev pub one_blank : List ℕ → Option (List ℕ)
one_blank [] = None
one_blank (b ∷ bytes) = cond (is_white b) (Some bytes) (cond (b == 40 && starts_with 59 bytes) (after_comment (drop 1 bytes)) None)

-- White space and comments are passed one after another, up to the first byte that is neither.
pub data Skips : List ℕ → List ℕ → Type 0 where
  here : {bytes : List ℕ} → one_blank bytes ≡ None → Skips bytes bytes
  over : {bytes after rest : List ℕ} → one_blank bytes ≡ Some after → Skips after rest → Skips bytes rest

abbrev pub is_point : Token → Bool
is_point point = true
is_point token = false

-- The tokens up to and with the next point, or to where no token begins, and what follows them.
pub data EntryTokens : List ℕ → List Token → List ℕ → Type 0 where
  last : {bytes at rest : List ℕ} → Skips bytes at → token_at at ≡ found point rest → EntryTokens bytes (point ∷ []) rest
  more : {bytes at rest to : List ℕ} {token : Token} {tokens : List Token} → Skips bytes at → token_at at ≡ found token rest → is_point token ≡ false →
      EntryTokens rest tokens to → EntryTokens bytes (token ∷ tokens) to
  cut : {bytes at : List ℕ} → Skips bytes at → token_at at ≡ nothing → EntryTokens bytes [] at
