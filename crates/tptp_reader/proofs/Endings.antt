-- The end of a statement, as it is read.
use Rattle.std.proofs.Common.{◌≡◌, Bool, true, false, cond, List, [], ◌∷◌, Option, Some, None, refl, sym, ◌∙◌, ap, subst}
use Rattle.std.proofs.lemmas.Bool.{false≢true}
use Rattle.std.proofs.lemmas.Option.{none-some, same_Some}
use Rattle.tptp_lex.specs.declared.signs.Sign.TheVariants.{Open, Close, Comma, Stop, Arrow}
use Rattle.tptp_reader.specs.Tokens.{Token, sign}
use Rattle.tptp_reader.specs.Brackets.{Bracket, behind_closing, is_point}
use Rattle.tptp_reader.specs.Parsing.{first_sign, behind}
use Rattle.tptp_reader.specs.Grammar.{IsEnding, plain_ending, with_notes}
use Rattle.tptp_reader.specs.SlowStatements.{is_last, is_ending, with_ending}
use Rattle.tptp_reader.proofs.FormsComplete.{ends_formula}

point_is : (o : Option (List Token)) → is_point o ≡ true → o ≡ Some (sign Stop ∷ [])
point_is (Some (sign Stop ∷ [])) e = refl
point_is o e = absurd (false≢true e)

pub last_is : (tokens : List Token) → is_last tokens ≡ true → tokens ≡ sign Close ∷ sign Stop ∷ []
last_is (sign Close ∷ rest) e = ap (λ (ts : List Token). sign Close ∷ ts) (same_Some rest (sign Stop ∷ []) (point_is (Some rest) e))
last_is tokens e = absurd (false≢true e)

pub ending_sound : (tokens : List Token) → is_ending tokens ≡ true → IsEnding tokens
ending_sound (sign Close ∷ rest) e = subst (λ (ts : List Token). IsEnding (sign Close ∷ ts)) (sym (same_Some rest (sign Stop ∷ []) (point_is (Some rest) e))) plain_ending
ending_sound (sign Comma ∷ rest) e = with_notes (point_is (behind_closing (Bracket.round ∷ []) rest) e)
ending_sound tokens e = absurd (false≢true e)

pub ending_read : (tokens : List Token) → IsEnding tokens → is_ending tokens ≡ true
ending_read _ plain_ending = refl
ending_read _ (with_notes {tokens = tokens} e) = ap is_point e

-- a formula or a declaration may end where its statement does
pub ending_follows : (tokens : List Token) → IsEnding tokens → (ends_formula (first_sign tokens) ≡ true) × (behind Open tokens ≡ None) × (behind Arrow tokens ≡ None)
ending_follows _ plain_ending = (refl, refl, refl)
ending_follows _ (with_notes e) = (refl, refl, refl)

-- what was read, with the end behind it
pub record Ended {A : Type 0} (read : Option (A × List Token)) (a : A) : Type 0 where
  pub ending : List Token
  pub reads : read ≡ Some (a, ending)
  pub ends : IsEnding ending

ended_by : {A : Type 0} (a b : A) (ending : List Token) (t : Bool) → is_ending ending ≡ t → cond t (Some a) None ≡ Some b → Ended (Some (a, ending)) b
ended_by a b ending true e h = record { ending = ending; reads = ap (λ x. Some (x, ending)) (same_Some a b h); ends = ending_sound ending e }
ended_by a b ending false e h = absurd (none-some b h)

pub ended_back : {A : Type 0} (read : Option (A × List Token)) (a : A) → with_ending read ≡ Some a → Ended read a
ended_back None a e = absurd (none-some a e)
ended_back (Some x) a e = ended_by x.0 a x.1 (is_ending x.1) refl e

pub ended_goes : {A : Type 0} (read : Option (A × List Token)) (a : A) (ending : List Token) → read ≡ Some (a, ending) → IsEnding ending → with_ending read ≡ Some a
ended_goes read a ending e d = ap with_ending e ∙ ap (λ (b : Bool). cond b (Some a) None) (ending_read ending d)
