-- Words and names as tokens.
use Rattle.std.proofs.Common.{◌≡◌, ◌≤◌, true, refl, sym, ◌∙◌, ap, subst, length, Option, Some, None, List, [], ◌∷◌, arith}
use Rattle.std.proofs.lemmas.Option.{some_pair_parts, none-some}
use Rattle.tptp_reader.specs.Raw.{Name}
use Rattle.tptp_reader.specs.Tokens.{Token, lower, upper, defined, quoted, distinct, number, sign}
use Rattle.tptp_reader.specs.Rows.{Nesting}
use Rattle.tptp_reader.specs.Grammar.{word_of, name_of}
use Rattle.tptp_reader.specs.Within.{within}
use Rattle.tptp_reader.specs.Parsing.{first_sign, then}
use Rattle.tptp_reader.specs.SlowWords.{word_in, name_in}
use Rattle.tptp_reader.proofs.Lists.{Shrinks}

-- a word leaves the nesting as it is
pub word_passes : (t : Token) (f : Name) → word_of t ≡ Some f → (s : Nesting) (rest : List Token) → within s (t ∷ rest) ≡ true → within s rest ≡ true
word_passes (lower text) f e s rest h = h
word_passes (quoted text) f e s rest h = h
word_passes (upper text) f e s rest h = absurd (none-some f e)
word_passes (defined word) f e s rest h = absurd (none-some f e)
word_passes distinct f e s rest h = absurd (none-some f e)
word_passes (number text) f e s rest h = absurd (none-some f e)
word_passes (sign x) f e s rest h = absurd (none-some f e)

-- a word is no sign
pub word_is_no_sign : (t : Token) (f : Name) → word_of t ≡ Some f → (rest : List Token) → first_sign (t ∷ rest) ≡ None
word_is_no_sign (lower text) f e rest = refl
word_is_no_sign (quoted text) f e rest = refl
word_is_no_sign (upper text) f e rest = refl
word_is_no_sign (defined word) f e rest = refl
word_is_no_sign distinct f e rest = refl
word_is_no_sign (number text) f e rest = refl
word_is_no_sign (sign x) f e rest = absurd (none-some f e)

-- what was read as a word
pub record IsWord (tokens : List Token) (f : Name) (rest : List Token) : Type 0 where
  pub token : Token
  pub begins : tokens ≡ token ∷ rest
  pub is_word : word_of token ≡ Some f

token_sound : (t : Token) (tokens : List Token) (f : Name) (rest : List Token) (w : Option Name) → word_of t ≡ w → then {B = Name × List Token} w (λ f. Some (f, tokens)) ≡ Some (f, rest) → IsWord (t ∷ tokens) f rest
token_sound t tokens f rest None e h = absurd (none-some (f, rest) h)
token_sound t tokens f rest (Some g) e h =
    let same = some_pair_parts g f tokens rest h in
    record { token = t; begins = ap (λ (ts : List Token). t ∷ ts) same.1; is_word = e ∙ ap Some same.0 }

pub word_sound : (tokens : List Token) (f : Name) (rest : List Token) → word_in tokens ≡ Some (f, rest) → IsWord tokens f rest
word_sound [] f rest e = absurd (none-some (f, rest) e)
word_sound (t ∷ tokens) f rest e = token_sound t tokens f rest (word_of t) refl e

-- what was read as a name
pub record IsName (tokens : List Token) (f : Name) (rest : List Token) : Type 0 where
  pub token : Token
  pub begins : tokens ≡ token ∷ rest
  pub is_name : name_of token ≡ Some f

named_sound : (t : Token) (tokens : List Token) (f : Name) (rest : List Token) (w : Option Name) → name_of t ≡ w → then {B = Name × List Token} w (λ f. Some (f, tokens)) ≡ Some (f, rest) → IsName (t ∷ tokens) f rest
named_sound t tokens f rest None e h = absurd (none-some (f, rest) h)
named_sound t tokens f rest (Some g) e h =
    let same = some_pair_parts g f tokens rest h in
    record { token = t; begins = ap (λ (ts : List Token). t ∷ ts) same.1; is_name = e ∙ ap Some same.0 }

pub name_sound : (tokens : List Token) (f : Name) (rest : List Token) → name_in tokens ≡ Some (f, rest) → IsName tokens f rest
name_sound [] f rest e = absurd (none-some (f, rest) e)
name_sound (t ∷ tokens) f rest e = named_sound t tokens f rest (name_of t) refl e

-- a word and a name are read
pub word_read : (t : Token) (f : Name) (rest : List Token) → word_of t ≡ Some f → word_in (t ∷ rest) ≡ Some (f, rest)
word_read t f rest e = ap (λ (r : Option Name). then {B = Name × List Token} r (λ g. Some (g, rest))) e

pub name_read : (t : Token) (f : Name) (rest : List Token) → name_of t ≡ Some f → name_in (t ∷ rest) ≡ Some (f, rest)
name_read t f rest e = ap (λ (r : Option Name). then {B = Name × List Token} r (λ g. Some (g, rest))) e

pub name_shrinks : Shrinks name_in
name_shrinks = record { fewer = λ tokens f rest e. (let n = name_sound tokens f rest e in subst (λ (ts : List Token). length rest ≤ length ts) (sym n.begins) (omega arith)) }
