-- Chains of one connective, a turn at a time.
use Rattle.std.proofs.Common.{◌≡◌, ℕ, zero, suc, ◌<◌, ◌≤◌, List, ◌∷◌, length, Option, Some, None, refl, sym, ◌∙◌, ap, arith}
use Rattle.std.specs.Prelude.{Err}
use Rattle.tptp_lex.specs.declared.signs.Sign.{Sign}
use Rattle.tptp_reader.specs.declared.cursor.ParseStop.{ParseStop}
use Rattle.tptp_reader.specs.declared.cursor.ParseStop.TheVariants.{Syntax, Memory}
use Rattle.tptp_reader.specs.Tokens.{Token, sign}
use Rattle.tptp_reader.specs.Parsing.{first_sign, behind, then, Gives}
use Rattle.tptp_reader.specs.SlowLists.{goes_on}
use Rattle.tptp_reader.specs.SlowForms.{chain_in, chain_from}
use Rattle.tptp_reader.specs.Kept.{Kept, kept_tree}
use Rattle.tptp_reader.proofs.Behind.{behind_taken, behind_none, behind_shorter}
use Rattle.tptp_reader.proofs.Lists.{Shrinks}

same_after : {A : Type 0} (unit : List Token → Option (A × List Token)) (r : Option (A × List Token)) (tokens : List Token) (k l : A × List Token → Option (A × List Token)) → Shrinks unit → unit tokens ≡ r → ((a : A) (rest : List Token) → length rest ≤ length tokens → k (a, rest) ≡ l (a, rest)) → then r k ≡ then r l
same_after unit None tokens k l u e h = refl
same_after unit (Some x) tokens k l u e h = h x.0 x.1 (u.fewer tokens x.0 x.1 e)

same_behind : {A : Type 0} (s : Sign) (tokens : List Token) (r : Option (List Token)) (stop : Option A) (k l : List Token → Option A) → behind s tokens ≡ r → ((rest : List Token) → suc (length rest) ≤ length tokens → k rest ≡ l rest) → goes_on r k stop ≡ goes_on r l stop
same_behind s tokens None stop k l e h = refl
same_behind s tokens (Some rest) stop k l e h = h rest (behind_shorter s tokens rest e)

no_turn : {A : Type 0} (unit : List Token → Option (A × List Token)) (join : A → A → A) (s : Sign) (n : ℕ) (a : A) (tokens : List Token) (r : Option (List Token)) → ((rest : List Token) → r ≡ Some rest → ⊥) → ◌≡◌ {A = Option (A × List Token)} (goes_on r (λ rest. then (unit rest) (λ x. chain_in join s unit n (join a x.0) x.1)) (Some (a, tokens))) (Some (a, tokens))
no_turn unit join s n a tokens None h = refl
no_turn unit join s n a tokens (Some rest) h = absurd (h rest refl)

-- more turns than tokens change nothing
pub chain_enough : {A : Type 0} (unit : List Token → Option (A × List Token)) (join : A → A → A) (s : Sign) → Shrinks unit → (n m : ℕ) (a : A) (tokens : List Token) → length tokens ≤ n → length tokens ≤ m → chain_in join s unit n a tokens ≡ chain_in join s unit m a tokens
chain_enough unit join s u zero zero a tokens p q = refl
chain_enough unit join s u zero (suc m) a tokens p q = sym (no_turn unit join s m a tokens (behind s tokens) (λ rest is. (let h = behind_shorter s tokens rest is in omega arith)))
chain_enough unit join s u (suc n) zero a tokens p q = no_turn unit join s n a tokens (behind s tokens) (λ rest is. (let h = behind_shorter s tokens rest is in omega arith))
chain_enough unit join s u (suc n) (suc m) a tokens p q =
    same_behind s tokens (behind s tokens) (Some (a, tokens)) (λ rest. then (unit rest) (λ x. chain_in join s unit n (join a x.0) x.1)) (λ rest. then (unit rest) (λ x. chain_in join s unit m (join a x.0) x.1)) refl
    (λ rest short. same_after unit (unit rest) rest (λ x. chain_in join s unit n (join a x.0) x.1) (λ x. chain_in join s unit m (join a x.0) x.1) u refl
    (λ b more shorter. chain_enough unit join s u n m (join a b) more (omega arith) (omega arith)))

chain_turn : {A : Type 0} (unit : List Token → Option (A × List Token)) (join : A → A → A) (s : Sign) → Shrinks unit → (n : ℕ) (a b : A) (tokens second rest : List Token) → behind s tokens ≡ Some second → unit second ≡ Some (b, rest) → length tokens ≤ n → chain_in join s unit n a tokens ≡ chain_from join s unit (join a b) rest
chain_turn unit join s u zero a b tokens second rest e r le = let h = behind_shorter s tokens second e in absurd (omega arith)
chain_turn unit join s u (suc n) a b tokens second rest e r le =
    let h = behind_shorter s tokens second e in
    let shorter = u.fewer second b rest r in
    ap (λ r. goes_on r (λ more. then (unit more) (λ x. chain_in join s unit n (join a x.0) x.1)) (Some (a, tokens))) e
    ∙ ap (λ r. then r (λ x. chain_in join s unit n (join a x.0) x.1)) r
    ∙ chain_enough unit join s u n (length rest) (join a b) rest (omega arith) (omega arith)

-- one more turn, as the loop has it
pub chain_loop : {A : Type 0} (unit : List Token → Option (A × List Token)) (join : A → A → A) (s : Sign) → Shrinks unit → (start : Option (A × List Token)) (a b c : A) (tokens second rest : List Token) → c ≡ join a b → tokens ≡ sign s ∷ second → unit second ≡ Some (b, rest) → chain_from join s unit a tokens ≡ start → chain_from join s unit c rest ≡ start
chain_loop unit join s u start a b c tokens second rest w e r same =
    ap (λ x. chain_from join s unit x rest) w ∙ sym (chain_turn unit join s u (length tokens) a b tokens second rest (behind_taken s tokens second e) r (omega arith)) ∙ same

-- where its connective doesn't come next, a chain is at its end
pub chain_done : {A : Type 0} (unit : List Token → Option (A × List Token)) (join : A → A → A) (s : Sign) (n : ℕ) (a : A) (tokens : List Token) → behind s tokens ≡ None → chain_in join s unit n a tokens ≡ Some (a, tokens)
chain_done unit join s zero a tokens e = refl
chain_done unit join s (suc n) a tokens e = ap (λ r. goes_on r (λ more. then (unit more) (λ x. chain_in join s unit n (join a x.0) x.1)) (Some (a, tokens))) e

-- the same, as the loop has it
pub chain_ends : {A : Type 0} (unit : List Token → Option (A × List Token)) (join : A → A → A) (s : Sign) (a : A) (tokens : List Token) → (first_sign tokens ≡ Some s → ⊥) → chain_from join s unit a tokens ≡ Some (a, tokens)
chain_ends unit join s a tokens h = chain_done unit join s (length tokens) a tokens (behind_none s tokens h)

breaks : {A : Type 0} (unit : List Token → Option (A × List Token)) (join : A → A → A) (s : Sign) (n : ℕ) (a : A) (tokens second : List Token) → behind s tokens ≡ Some second → unit second ≡ None → length second < n → chain_in join s unit n a tokens ≡ None
breaks unit join s zero a tokens second e none lt = absurd (omega arith)
breaks unit join s (suc n) a tokens second e none lt =
    ap (λ r. goes_on r (λ more. then (unit more) (λ x. chain_in join s unit n (join a x.0) x.1)) (Some (a, tokens))) e
    ∙ ap (λ r. then r (λ x. chain_in join s unit n (join a x.0) x.1)) none

-- where what follows a connective is no unit, the chain is none
chain_breaks : {A : Type 0} (unit : List Token → Option (A × List Token)) (join : A → A → A) (s : Sign) (a : A) (tokens second : List Token) → behind s tokens ≡ Some second → unit second ≡ None → chain_from join s unit a tokens ≡ None
chain_breaks unit join s a tokens second e none = let h = behind_shorter s tokens second e in breaks unit join s (length tokens) a tokens second e none (omega arith)

-- where a unit of a chain is refused, so is the chain
pub chain_refused : (stop : ParseStop) (unit : List Token → Option (Kept × List Token)) (join : Kept → Kept → Kept) (s : Sign) (start : Option (Kept × List Token)) (a : Kept) (tokens second rest : List Token) → tokens ≡ sign s ∷ second → Gives kept_tree (Err stop) rest (unit second) → chain_from join s unit a tokens ≡ start → Gives kept_tree (Err stop) rest start
chain_refused Syntax unit join s start a tokens second rest e none same = sym same ∙ chain_breaks unit join s a tokens second (behind_taken s tokens second e) none
chain_refused Memory unit join s start a tokens second rest e none same = tt
