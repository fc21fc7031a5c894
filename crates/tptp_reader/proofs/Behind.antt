-- What stands behind a sign.
use Rattle.std.proofs.Common.{◌≡◌, ◌==◌, ◌≤◌, ℕ, suc, true, false, Bool, cond, List, [], ◌∷◌, length, Option, Some, None, refl, sym, ◌∙◌, ap, subst, arith}
use Rattle.std.proofs.lemmas.Bool.Decides.{nat_tests}
use Rattle.std.proofs.lemmas.Option.{none-some, same_Some}
use Rattle.tptp_lex.specs.declared.signs.Sign.{Sign}
use Rattle.tptp_reader.specs.Tokens.{Token, sign}
use Rattle.tptp_reader.specs.Parsing.{sign_number, first_sign, behind}
use Rattle.tptp_reader.proofs.Signs.{same_sign}

number_itself : (n : ℕ) → (n == n) ≡ true
number_itself n = grind (arith, nat_tests)

-- the sign comes next
pub behind_sign : (wanted : Sign) (rest : List Token) → behind wanted (sign wanted ∷ rest) ≡ Some rest
behind_sign wanted rest = ap (λ (b : Bool). cond b (Some rest) None) (number_itself (sign_number wanted))

pub behind_taken : (wanted : Sign) (tokens rest : List Token) → tokens ≡ sign wanted ∷ rest → behind wanted tokens ≡ Some rest
behind_taken wanted tokens rest e = ap (behind wanted) e ∙ behind_sign wanted rest

behind_other : (wanted s : Sign) (rest : List Token) (b : Bool) → (◌≡◌ {A = Option Sign} (Some s) (Some wanted) → ⊥) → (sign_number s == sign_number wanted) ≡ b → ◌≡◌ {A = Option (List Token)} (cond b (Some rest) None) None
behind_other wanted s rest false differs e = refl
behind_other wanted s rest true differs e = absurd (differs (ap Some (same_sign s wanted (grind (arith, nat_tests, e)))))

-- another token comes next
pub behind_none : (wanted : Sign) (tokens : List Token) → (first_sign tokens ≡ Some wanted → ⊥) → behind wanted tokens ≡ None
behind_none wanted [] differs = refl
behind_none wanted (sign s ∷ tokens) differs = behind_other wanted s tokens (sign_number s == sign_number wanted) differs refl
behind_none wanted (token ∷ tokens) differs = refl

same_front : (wanted s : Sign) (tokens rest : List Token) (b : Bool) → (sign_number s == sign_number wanted) ≡ b → ◌≡◌ {A = Option (List Token)} (cond b (Some tokens) None) (Some rest) → sign s ∷ tokens ≡ sign wanted ∷ rest
same_front wanted s tokens rest false e h = absurd (none-some rest h)
same_front wanted s tokens rest true e h =
    ap (λ (x : Sign). sign x ∷ tokens) (same_sign s wanted (grind (arith, nat_tests, e))) ∙ ap (λ (ts : List Token). sign wanted ∷ ts) (same_Some tokens rest h)

-- the tokens that something stands behind begin with the sign
pub behind_back : (wanted : Sign) (tokens rest : List Token) → behind wanted tokens ≡ Some rest → tokens ≡ sign wanted ∷ rest
behind_back wanted [] rest e = absurd (none-some rest e)
behind_back wanted (sign s ∷ tokens) rest e = same_front wanted s tokens rest (sign_number s == sign_number wanted) refl e
behind_back wanted (token ∷ tokens) rest e = absurd (none-some rest e)

-- what stands behind a sign is shorter
pub behind_shorter : (wanted : Sign) (tokens rest : List Token) → behind wanted tokens ≡ Some rest → suc (length rest) ≤ length tokens
behind_shorter wanted tokens rest e =
    subst (λ (ts : List Token). suc (length rest) ≤ length ts) (sym (behind_back wanted tokens rest e)) (omega arith)

pub ruleset behind_steps = (behind_taken, behind_none)
