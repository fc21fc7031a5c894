-- The grammar of Dedukti text. IsTerm tokens rest term: a front of the tokens spells the term, and the rest follows it.
use Rattle.std.specs.Prelude.{ℕ, Bool, true, false, List, [], ◌∷◌, Option, Some, None}
use Rattle.dk_text.specs.Tokens.{Token, id, type_word, def_word, colon, becomes, arrow, fat_arrow, long_arrow, point, comma, open_round, close_round, open_square, close_square}

-- A term as it is written: names not resolved, each with the number of bytes from its first one to the end of the text.
pub data Raw : Type 0 where
  word : (text : List ℕ) (left : ℕ) → Raw
  universe : Raw
  bracket : Raw → Raw
  apply : (function argument : Raw) → Raw
  product : (binder : Option (List ℕ)) (domain codomain : Raw) → Raw
  abstraction : (binder : List ℕ) (domain body : Raw) → Raw

mutual
  pub data IsAtom : List Token → List Token → Raw → Type 0 where
    name : {rest : List Token} {x : List ℕ} {left : ℕ} → IsAtom (id x left ∷ rest) rest (word x left)
    sort : {rest : List Token} → IsAtom (type_word ∷ rest) rest universe
    bracketed : {tokens rest : List Token} {t : Raw} → IsTerm tokens (close_round ∷ rest) t → IsAtom (open_round ∷ tokens) rest (bracket t)

  pub data IsApplication : List Token → List Token → Raw → Type 0 where
    head : {tokens rest : List Token} {t : Raw} → IsAtom tokens rest t → IsApplication tokens rest t
    applied : {tokens middle rest : List Token} {f a : Raw} → IsApplication tokens middle f → IsAtom middle rest a → IsApplication tokens rest (apply f a)

  pub data IsTerm : List Token → List Token → Raw → Type 0 where
    application : {tokens rest : List Token} {t : Raw} → IsApplication tokens rest t → IsTerm tokens rest t
    named_product : {tokens middle rest : List Token} {x : List ℕ} {left : ℕ} {a b : Raw} → IsApplication tokens (arrow ∷ middle) a → IsTerm middle rest b →
        IsTerm (id x left ∷ colon ∷ tokens) rest (product (Some x) a b)
    plain_product : {tokens middle rest : List Token} {a b : Raw} → IsApplication tokens (arrow ∷ middle) a → IsTerm middle rest b →
        IsTerm tokens rest (product None a b)
    function : {tokens middle rest : List Token} {x : List ℕ} {left : ℕ} {a b : Raw} → IsApplication tokens (fat_arrow ∷ middle) a → IsTerm middle rest b →
        IsTerm (id x left ∷ colon ∷ tokens) rest (abstraction x a b)

pub data Binding : Type 0 where
  binding : (name : List ℕ) (type : Raw) → Binding

pub data IsContext : List Token → List Token → List Binding → Type 0 where
  single : {tokens rest : List Token} {x : List ℕ} {left : ℕ} {a : Raw} → IsTerm tokens (close_square ∷ rest) a →
      IsContext (id x left ∷ colon ∷ tokens) rest (binding x a ∷ [])
  several : {tokens middle rest : List Token} {x : List ℕ} {left : ℕ} {a : Raw} {bs : List Binding} → IsTerm tokens (comma ∷ middle) a → IsContext middle rest bs →
      IsContext (id x left ∷ colon ∷ tokens) rest (binding x a ∷ bs)

pub data RawEntry : Type 0 where
  declaration : (name : List ℕ) (definable : Bool) (type : Raw) → RawEntry
  definition : (name : List ℕ) (type body : Raw) → RawEntry
  rewriting : (context : List Binding) (left right : Raw) → RawEntry

-- all of the tokens spell the entry
pub data IsEntry : List Token → RawEntry → Type 0 where
  declared : {tokens : List Token} {x : List ℕ} {left : ℕ} {a : Raw} → IsTerm tokens (point ∷ []) a → IsEntry (id x left ∷ colon ∷ tokens) (declaration x false a)
  definable : {tokens : List Token} {x : List ℕ} {left : ℕ} {a : Raw} → IsTerm tokens (point ∷ []) a →
      IsEntry (def_word ∷ id x left ∷ colon ∷ tokens) (declaration x true a)
  defined : {tokens middle : List Token} {x : List ℕ} {left : ℕ} {a b : Raw} → IsTerm tokens (becomes ∷ middle) a → IsTerm middle (point ∷ []) b →
      IsEntry (def_word ∷ id x left ∷ colon ∷ tokens) (definition x a b)
  closed_rule : {tokens middle : List Token} {a b : Raw} → IsTerm tokens (long_arrow ∷ middle) a → IsTerm middle (point ∷ []) b →
      IsEntry (open_square ∷ close_square ∷ tokens) (rewriting [] a b)
  open_rule : {tokens left_side right_side : List Token} {bs : List Binding} {a b : Raw} → IsContext tokens left_side bs → IsTerm left_side (long_arrow ∷ right_side) a →
      IsTerm right_side (point ∷ []) b → IsEntry (open_square ∷ tokens) (rewriting bs a b)
