-- What the slow reader leaves is no longer than what it was given.
use Rattle.std.proofs.Common.{◌≡◌, ℕ, zero, suc, ◌≤◌, Bool, List, ◌∷◌, length, Option, Some, None, refl, ap, subst, arith}
use Rattle.tptp_lex.specs.declared.signs.Sign.{Sign}
use Rattle.tptp_lex.specs.declared.signs.Sign.TheVariants.{Open, Close, OpenList, CloseList, Colon, And, Or, Not, Equal, NotEqual}
use Rattle.tptp_reader.specs.declared.lexeme.Defined.TheVariants.{True, False}
use Rattle.tptp_reader.specs.declared.heads.Head.{Head}
use Rattle.tptp_reader.specs.declared.heads.Head.TheVariants as heads
use Rattle.tptp_reader.specs.declared.heads.Follow.{Follow}
use Rattle.tptp_reader.specs.declared.heads.Follow.TheVariants as follows
use Rattle.tptp_reader.specs.Raw.{RawTerm, Connective}
use Rattle.tptp_reader.specs.Tokens.{Token, defined}
use Rattle.tptp_reader.specs.Parsing.{first_sign, behind, then}
use Rattle.tptp_reader.specs.SlowLists.{goes_on}
use Rattle.tptp_reader.specs.SlowTerms.{term_in}
use Rattle.tptp_reader.specs.SlowTypes.{variables_in}
use Rattle.tptp_reader.specs.SlowForms.{Values, joins, head_of, follow_of, binder_sign, chain_in, truth_in, right_in, compared_in, atom_by, atom_in, prefix_in, completed_by, formula_by, unit_by, unit_in}
use Rattle.tptp_reader.proofs.Behind.{behind_shorter}
use Rattle.tptp_reader.proofs.Lists.{Shrinks}
use Rattle.tptp_reader.proofs.VariableLaws.{variables_sound, variables_fewer}
use Rattle.tptp_reader.proofs.TermLaws.{term_shrinks}

variables_shrink : (typed : Bool) (room : ℕ) → Shrinks (variables_in typed room)
variables_shrink typed room = record { fewer = λ tokens vs rest e. (let h = variables_fewer typed tokens rest vs (variables_sound typed room tokens vs rest e) in omega arith) }

-- no more tokens are left than so many
abbrev AtMost : {A : Type 0} → ℕ → Option (A × List Token) → Type 0
AtMost n None = Unit {0}
AtMost n (Some x) = length x.1 ≤ n

then_most : {A B : Type 0} (n : ℕ) (r : Option (A × List Token)) (k : A × List Token → Option (B × List Token)) → AtMost n r → ((a : A) (rest : List Token) → length rest ≤ n → AtMost n (k (a, rest))) → AtMost n (then r k)
then_most n None k le h = tt
then_most n (Some x) k le h = h x.0 x.1 le

by_fewer : {A : Type 0} (n : ℕ) (tokens : List Token) (r : Option (A × List Token)) → ((a : A) (rest : List Token) → r ≡ Some (a, rest) → length rest ≤ length tokens) → length tokens ≤ n → AtMost n r
by_fewer n tokens None h le = tt
by_fewer n tokens (Some x) h le = let short = h x.0 x.1 refl in omega arith

item_most : {A : Type 0} (item : List Token → Option (A × List Token)) → Shrinks item → (n : ℕ) (tokens : List Token) → length tokens ≤ n → AtMost n (item tokens)
item_most item s n tokens le = by_fewer n tokens (item tokens) (s.fewer tokens) le

behind_by : {B : Type 0} (n : ℕ) (s : Sign) (tokens : List Token) (r : Option (List Token)) (k : List Token → Option (B × List Token)) → behind s tokens ≡ r → length tokens ≤ n → ((rest : List Token) → length rest ≤ n → AtMost n (k rest)) → AtMost n (then r k)
behind_by n s tokens None k e le h = tt
behind_by n s tokens (Some rest) k e le h = let short = behind_shorter s tokens rest e in h rest (omega arith)

behind_most : {B : Type 0} (n : ℕ) (s : Sign) (tokens : List Token) (k : List Token → Option (B × List Token)) → length tokens ≤ n → ((rest : List Token) → length rest ≤ n → AtMost n (k rest)) → AtMost n (then (behind s tokens) k)
behind_most n s tokens k le h = behind_by n s tokens (behind s tokens) k refl le h

goes_by : {B : Type 0} (n : ℕ) (s : Sign) (tokens : List Token) (r : Option (List Token)) (k : List Token → Option (B × List Token)) (other : Option (B × List Token)) → behind s tokens ≡ r → length tokens ≤ n → ((rest : List Token) → length rest ≤ n → AtMost n (k rest)) → AtMost n other → AtMost n (goes_on r k other)
goes_by n s tokens None k other e le h o = o
goes_by n s tokens (Some rest) k other e le h o = let short = behind_shorter s tokens rest e in h rest (omega arith)

option_most : {A : Type 0} (n : ℕ) (o : Option A) (rest : List Token) → length rest ≤ n → AtMost n (then o (λ b. Some (b, rest)))
option_most n None rest le = tt
option_most n (Some b) rest le = le

chain_most : {A : Type 0} (n : ℕ) (join : A → A → A) (s : Sign) (unit : List Token → Option (A × List Token)) → Shrinks unit → (turns : ℕ) (a : A) (tokens : List Token) → length tokens ≤ n → AtMost n (chain_in join s unit turns a tokens)
chain_most n join s unit u zero a tokens le = le
chain_most n join s unit u (suc turns) a tokens le =
    goes_by n s tokens (behind s tokens) (λ rest. then (unit rest) (λ x. chain_in join s unit turns (join a x.0) x.1)) (Some (a, tokens)) refl le
    (λ rest short. then_most n (unit rest) (λ x. chain_in join s unit turns (join a x.0) x.1) (item_most unit u n rest short) (λ b more le. chain_most n join s unit u turns (join a b) more le))
    le

right_most : {A : Type 0} (n : ℕ) (make : RawTerm → A) (typed : Bool) (room : ℕ) (tokens : List Token) → length tokens ≤ n → AtMost n (right_in make typed room tokens)
right_most n make typed room tokens le =
    then_most n (term_in typed room tokens) (λ x. Some (make x.0, x.1)) (item_most (term_in typed room) (term_shrinks typed room) n tokens le) (λ a rest le. le)

compared_most : {A : Type 0} (v : Values A) (n : ℕ) (typed : Bool) (room : ℕ) (u : RawTerm) (tokens : List Token) → length tokens ≤ n → AtMost n (compared_in v typed room u tokens)
unfolding compared_in
compared_most v n typed room u tokens le =
    goes_by n Equal tokens (behind Equal tokens) (λ rest. right_in (λ t. v.of_equal u t) typed room rest) _ refl le
    (λ rest short. right_most n (λ t. v.of_equal u t) typed room rest short)
    (goes_by n NotEqual tokens (behind NotEqual tokens) (λ rest. right_in (λ t. v.of_not (v.of_equal u t)) typed room rest) (Some (v.of_plain u, tokens)) refl le
    (λ rest short. right_most n (λ t. v.of_not (v.of_equal u t)) typed room rest short)
    le)

truth_most : (n : ℕ) (tokens : List Token) → length tokens ≤ n → AtMost n (truth_in tokens)
truth_most n (defined True ∷ rest) le = omega arith
truth_most n (defined False ∷ rest) le = omega arith
truth_most n tokens le = tt

atom_by_most : {A : Type 0} (v : Values A) (n : ℕ) (typed : Bool) (room : ℕ) (tokens : List Token) (t : Option (Bool × List Token)) → AtMost n t → length tokens ≤ n → AtMost n (atom_by v typed room tokens t)
atom_by_most v n typed room tokens (Some x) m le = m
atom_by_most v n typed room tokens None m le =
    then_most n (term_in typed room tokens) (λ x. compared_in v typed room x.0 x.1) (item_most (term_in typed room) (term_shrinks typed room) n tokens le) (λ u rest le. compared_most v n typed room u rest le)

atom_most : {A : Type 0} (v : Values A) (n : ℕ) (typed : Bool) (room : ℕ) (tokens : List Token) → length tokens ≤ n → AtMost n (atom_in v typed room tokens)
unfolding atom_in
atom_most v n typed room tokens le = atom_by_most v n typed room tokens (truth_in tokens) (truth_most n tokens le) le

prefix_most : (n : ℕ) (typed : Bool) (room : ℕ) (s : Sign) (tokens : List Token) → length tokens ≤ n → AtMost n (prefix_in typed room s tokens)
unfolding prefix_in
prefix_most n typed room s tokens le =
    behind_most n s tokens _ le (λ opening short. behind_most n OpenList opening _ short (λ first shorter.
    then_most n (variables_in typed room first) _ (item_most (variables_in typed room) (variables_shrink typed room) n first shorter)
    (λ vs closing less. behind_most n CloseList closing _ less (λ colon fewer. behind_most n Colon colon _ fewer (λ rest left. left)))))

completed_most : {A : Type 0} (v : Values A) (n : ℕ) (unit : List Token → Option (A × List Token)) → Shrinks unit → (a : A) (tokens : List Token) (f : Follow) → length tokens ≤ n → AtMost n (completed_by v unit a tokens f)
completed_most v n unit u a tokens follows.Conjunction le = chain_most n (v.of_join Connective.conjunction) And unit u (length tokens) a tokens le
completed_most v n unit u a tokens follows.Disjunction le = chain_most n (v.of_join Connective.disjunction) Or unit u (length tokens) a tokens le
completed_most v n unit u a tokens (follows.Two s) le =
    behind_most n s tokens _ le (λ rest short. then_most n (unit rest) _ (item_most unit u n rest short) (λ b more less. option_most n (joins v s a b) more less))
completed_most v n unit u a tokens follows.Nothing le = le

formula_most : {A : Type 0} (v : Values A) (n : ℕ) (unit : List Token → Option (A × List Token)) → Shrinks unit → (tokens : List Token) → length tokens ≤ n → AtMost n (formula_by v unit tokens)
unfolding formula_by
formula_most v n unit u tokens le =
    then_most n (unit tokens) _ (item_most unit u n tokens le) (λ a rest less. completed_most v n unit u a rest (follow_of (first_sign rest)) less)

head_most : {A : Type 0} (v : Values A) (n : ℕ) (typed : Bool) (room : ℕ) (atom unit : List Token → Option (A × List Token)) → Shrinks unit → ((ts : List Token) → length ts ≤ n → AtMost n (atom ts)) → (tokens : List Token) (h : Head) → length tokens ≤ n → AtMost n (unit_by v typed room atom unit tokens h)
head_most v n typed room atom unit u m tokens heads.Negation le =
    behind_most n Not tokens _ le (λ rest short. then_most n (unit rest) _ (item_most unit u n rest short) (λ a more less. less))
head_most v n typed room atom unit u m tokens (heads.Quantified b) le =
    then_most n (prefix_in typed room (binder_sign b) tokens) _ (prefix_most n typed room (binder_sign b) tokens le)
    (λ vs rest short. then_most n (unit rest) _ (item_most unit u n rest short) (λ a more less. less))
head_most v n typed room atom unit u m tokens heads.Bracket le =
    behind_most n Open tokens _ le (λ inside short. then_most n (formula_by v unit inside) _ (formula_most v n unit u inside short)
    (λ a closing less. behind_most n Close closing _ less (λ rest left. left)))
head_most v n typed room atom unit u m tokens heads.Other le = m tokens le

most_fewer : {A : Type 0} (n : ℕ) (r : Option (A × List Token)) (a : A) (rest : List Token) → AtMost n r → r ≡ Some (a, rest) → length rest ≤ n
most_fewer n None a rest m e = cc
most_fewer {A} n (Some x) a rest m e = let same = ap (λ (o : Option (A × List Token)). AtMost n o) e in subst (λ (t : Type 0). t) same m

unit_most : {A : Type 0} (v : Values A) (typed : Bool) (room n : ℕ) (tokens : List Token) → length tokens ≤ n → AtMost n (unit_in v typed room tokens)
unfolding unit_in
unit_most v typed zero n tokens le = atom_most v n typed 0 tokens le
unit_most v typed (suc room) n tokens le =
    head_most v n typed room (atom_in v typed (suc room)) (unit_in v typed room)
    (record { fewer = λ ts a rest e. most_fewer (length ts) (unit_in v typed room ts) a rest (unit_most v typed room (length ts) ts (omega arith)) e })
    (λ ts short. atom_most v n typed (suc room) ts short) tokens (head_of (first_sign tokens)) le

-- a unit takes no token back, whatever it makes
pub units_shrink : {A : Type 0} (v : Values A) (typed : Bool) (room : ℕ) → Shrinks (unit_in v typed room)
units_shrink v typed room = record { fewer = λ tokens a rest e. most_fewer (length tokens) (unit_in v typed room tokens) a rest (unit_most v typed room (length tokens) tokens (omega arith)) e }
