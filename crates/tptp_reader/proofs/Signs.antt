-- The signs are told apart by their numbers.
use Rattle.std.proofs.Common.{◌≡◌, ℕ, [], ◌∷◌, get_or, refl, sym, ◌∙◌, ap}
use Rattle.tptp_lex.specs.declared.signs.Sign.{Sign}
use Rattle.tptp_lex.specs.declared.signs.Sign.TheVariants.{Open, Close, OpenList, CloseList, Comma, Stop, Colon, And, Or, Not, Implies, If, Iff, Xor, NotAnd, NotOr, Equal, NotEqual, All, Exists, AllTypes, Arrow, Star, At, Caret, Plus, Minus}
use Rattle.tptp_reader.specs.Parsing.{sign_number}

-- the sign of a number
abbrev sign_numbered : ℕ → Sign
sign_numbered n = get_or (Open ∷ Close ∷ OpenList ∷ CloseList ∷ Comma ∷ Stop ∷ Colon ∷ And ∷ Or ∷ Not ∷ Implies ∷ If ∷ Iff ∷ Xor ∷ NotAnd ∷ NotOr ∷ Equal ∷ NotEqual ∷ All ∷ Exists ∷ AllTypes ∷ Arrow ∷ Star ∷ At ∷ Caret ∷ Plus ∷ Minus ∷ []) n Open

numbered_back : (s : Sign) → sign_numbered (sign_number s) ≡ s
numbered_back Open = refl
numbered_back Close = refl
numbered_back OpenList = refl
numbered_back CloseList = refl
numbered_back Comma = refl
numbered_back Stop = refl
numbered_back Colon = refl
numbered_back And = refl
numbered_back Or = refl
numbered_back Not = refl
numbered_back Implies = refl
numbered_back If = refl
numbered_back Iff = refl
numbered_back Xor = refl
numbered_back NotAnd = refl
numbered_back NotOr = refl
numbered_back Equal = refl
numbered_back NotEqual = refl
numbered_back All = refl
numbered_back Exists = refl
numbered_back AllTypes = refl
numbered_back Arrow = refl
numbered_back Star = refl
numbered_back At = refl
numbered_back Caret = refl
numbered_back Plus = refl
numbered_back Minus = refl

pub same_sign : (s t : Sign) → sign_number s ≡ sign_number t → s ≡ t
same_sign s t e = sym (numbered_back s) ∙ ap sign_numbered e ∙ numbered_back t
