-- Where the scan of the nesting lets a formula through, the slow reader reads it.
use Rattle.std.proofs.Common.{◌≡◌, ◌&&◌, ℕ, zero, suc, ◌+◌, ◌<◌, ◌≤◌, Bool, true, false, List, [], ◌∷◌, length, Option, Some, None, refl, sym, ◌∙◌, ap, subst, arith}
use Rattle.std.specs.Prelude.{nat_lt}
use Rattle.std.proofs.lemmas.Bool.Decides.{nat_tests}
use Rattle.std.proofs.lemmas.Bool.{false≢true, and_parts}
use Rattle.std.proofs.lemmas.Option.{none-some, same_Some}
use Rattle.tptp_lex.specs.declared.signs.Sign.{Sign}
use Rattle.tptp_lex.specs.declared.signs.Sign.TheVariants.{Open, Close, OpenList, CloseList, Colon, And, Or, Not, Implies, If, Iff, Xor, NotAnd, NotOr, Equal, NotEqual, All, Exists}
use Rattle.tptp_reader.specs.declared.lexeme.Defined.TheVariants.{True, False}
use Rattle.tptp_reader.specs.declared.heads.Binder.{Binder}
use Rattle.tptp_reader.specs.declared.heads.Binder.TheVariants as binders
use Rattle.tptp_reader.specs.declared.heads.Head.TheVariants as heads
use Rattle.tptp_reader.specs.declared.heads.Follow.TheVariants as follows
use Rattle.tptp_reader.specs.Raw.{Name, RawForm, RawTerm, RawVariable, Connective, Quantifier}
use Rattle.tptp_reader.specs.Limits.{IsNested}
use Rattle.tptp_reader.specs.Tokens.{Token, lower, upper, defined, quoted, distinct, number, sign}
use Rattle.tptp_reader.specs.Rows.{Nesting}
use Rattle.tptp_reader.specs.Within.{within}
use Rattle.tptp_reader.specs.Parsing.{first_sign, behind, then}
use Rattle.tptp_reader.specs.Grammar.{word_of, IsTerm, term_variable, term_individual, term_truth, constant, applied, IsVariables, quantify, quantifier_of, joined_by, chain_of, IsUnit, negated, quantified, bracketed, truth, falsity, atom, equation, inequation, IsFormula, single, joined, chained, IsChain, two, one_more}
use Rattle.tptp_reader.specs.SlowLists.{goes_on}
use Rattle.tptp_reader.specs.SlowTerms.{term_in}
use Rattle.tptp_reader.specs.SlowTypes.{variables_in}
use Rattle.tptp_reader.specs.SlowForms.{bound_all, joins, head_of, follow_of, binder_sign, binder_quantifier, chain_in, chain_from, truth_in, right_in, compared_in, atom_by, atom_in, prefix_in, completed_by, completed_in, formula_by, unit_by, unit_in, formula_in}
use Rattle.tptp_reader.specs.Kept.{forms}
use Rattle.tptp_reader.proofs.Behind.{behind_sign}
use Rattle.tptp_reader.proofs.Chains.{chain_done}
use Rattle.tptp_reader.proofs.Shorter.{units_shrink}
use Rattle.tptp_reader.proofs.FormsSound.{joins_is, bound_is}
use Rattle.tptp_reader.proofs.TermLaws.{term_read, term_passes, term_depth}
use Rattle.tptp_reader.proofs.VariableLaws.{variables_read, variables_pass, variables_depth, nested_under}

abbrev state : ℕ → ℕ → List (ℕ × ℕ) → Nesting
state count base outer = record { count = count; base = base; outer = outer }

below_limit : (count : ℕ) → nat_lt count 200 ≡ true → count < 200
below_limit count e = grind (arith, nat_tests, e)

-- a unit may end here: neither arguments nor the other side of an equation follow
abbrev pub ends_unit : Option Sign → Bool
ends_unit (Some Open) = false
ends_unit (Some Equal) = false
ends_unit (Some NotEqual) = false
ends_unit s = true

-- a formula may end here: no connective follows either
abbrev pub ends_formula : Option Sign → Bool
ends_formula (Some Open) = false
ends_formula (Some Equal) = false
ends_formula (Some NotEqual) = false
ends_formula (Some And) = false
ends_formula (Some Or) = false
ends_formula (Some Implies) = false
ends_formula (Some If) = false
ends_formula (Some Iff) = false
ends_formula (Some Xor) = false
ends_formula (Some NotAnd) = false
ends_formula (Some NotOr) = false
ends_formula s = true

unit_ends : (s : Option Sign) → ends_formula s ≡ true → ends_unit s ≡ true
unit_ends (Some Open) e = absurd (false≢true e)
unit_ends (Some Equal) e = absurd (false≢true e)
unit_ends (Some NotEqual) e = absurd (false≢true e)
unit_ends s e = refl

nothing_follows : (s : Option Sign) → ends_formula s ≡ true → follow_of s ≡ follows.Nothing
nothing_follows (Some And) e = absurd (false≢true e)
nothing_follows (Some Or) e = absurd (false≢true e)
nothing_follows (Some Implies) e = absurd (false≢true e)
nothing_follows (Some If) e = absurd (false≢true e)
nothing_follows (Some Iff) e = absurd (false≢true e)
nothing_follows (Some Xor) e = absurd (false≢true e)
nothing_follows (Some NotAnd) e = absurd (false≢true e)
nothing_follows (Some NotOr) e = absurd (false≢true e)
nothing_follows s e = refl

no_open : (tokens : List Token) → ends_unit (first_sign tokens) ≡ true → behind Open tokens ≡ None
no_open (sign Open ∷ tokens) e = absurd (false≢true e)
no_open (sign s ∷ tokens) e = refl
no_open tokens e = refl

no_equal : (tokens : List Token) → ends_unit (first_sign tokens) ≡ true → behind Equal tokens ≡ None
no_equal (sign Equal ∷ tokens) e = absurd (false≢true e)
no_equal (sign s ∷ tokens) e = refl
no_equal tokens e = refl

no_unequal : (tokens : List Token) → ends_unit (first_sign tokens) ≡ true → behind NotEqual tokens ≡ None
no_unequal (sign NotEqual ∷ tokens) e = absurd (false≢true e)
no_unequal (sign s ∷ tokens) e = refl
no_unequal tokens e = refl

no_and : (tokens : List Token) → ends_formula (first_sign tokens) ≡ true → behind And tokens ≡ None
no_and (sign And ∷ tokens) e = absurd (false≢true e)
no_and (sign s ∷ tokens) e = refl
no_and tokens e = refl

no_or : (tokens : List Token) → ends_formula (first_sign tokens) ≡ true → behind Or tokens ≡ None
no_or (sign Or ∷ tokens) e = absurd (false≢true e)
no_or (sign s ∷ tokens) e = refl
no_or tokens e = refl

no_chain : (s : Sign) (c : Connective) → chain_of s ≡ Some c → (tokens : List Token) → ends_formula (first_sign tokens) ≡ true → behind s tokens ≡ None
no_chain And c e tokens h = no_and tokens h
no_chain Or c e tokens h = no_or tokens h
no_chain s c e tokens h = absurd (none-some c e)

-- a connective that joins just two
chain_unit : (s : Sign) (c : Connective) → chain_of s ≡ Some c → ends_unit (Some s) ≡ true
chain_unit And c e = refl
chain_unit Or c e = refl
chain_unit s c e = absurd (none-some c e)

chain_settles : (s : Sign) (c : Connective) → chain_of s ≡ Some c → (count base : ℕ) (outer : List (ℕ × ℕ)) (tokens : List Token) → within (state count base outer) (sign s ∷ tokens) ≡ true → within (state base base outer) tokens ≡ true
chain_settles And c e count base outer tokens h = h
chain_settles Or c e count base outer tokens h = h
chain_settles s c e count base outer tokens h = absurd (none-some c e)

chain_completed : (s : Sign) (c : Connective) → chain_of s ≡ Some c → (unit : List Token → Option (RawForm × List Token)) (f : RawForm) (tokens : List Token) → completed_in forms unit f (sign s ∷ tokens) ≡ chain_from (RawForm.binary c) s unit f (sign s ∷ tokens)
chain_completed And c e unit f tokens = ap (λ (d : Connective). chain_from (RawForm.binary d) And unit f (sign And ∷ tokens)) (same_Some Connective.conjunction c e)
chain_completed Or c e unit f tokens = ap (λ (d : Connective). chain_from (RawForm.binary d) Or unit f (sign Or ∷ tokens)) (same_Some Connective.disjunction c e)
chain_completed s c e unit f tokens = absurd (none-some c e)

two_unit : (s : Sign) (f g h : RawForm) → joined_by s f g ≡ Some h → ends_unit (Some s) ≡ true
two_unit Implies f g h e = refl
two_unit If f g h e = refl
two_unit Iff f g h e = refl
two_unit Xor f g h e = refl
two_unit NotAnd f g h e = refl
two_unit NotOr f g h e = refl
two_unit s f g h e = absurd (none-some h e)

two_settles : (s : Sign) (f g h : RawForm) → joined_by s f g ≡ Some h → (count base : ℕ) (outer : List (ℕ × ℕ)) (tokens : List Token) → within (state count base outer) (sign s ∷ tokens) ≡ true → within (state base base outer) tokens ≡ true
two_settles Implies f g h e count base outer tokens w = w
two_settles If f g h e count base outer tokens w = w
two_settles Iff f g h e count base outer tokens w = w
two_settles Xor f g h e count base outer tokens w = w
two_settles NotAnd f g h e count base outer tokens w = w
two_settles NotOr f g h e count base outer tokens w = w
two_settles s f g h e count base outer tokens w = absurd (none-some h e)

two_follows : (s : Sign) (f g h : RawForm) → joined_by s f g ≡ Some h → follow_of (Some s) ≡ follows.Two s
two_follows Implies f g h e = refl
two_follows If f g h e = refl
two_follows Iff f g h e = refl
two_follows Xor f g h e = refl
two_follows NotAnd f g h e = refl
two_follows NotOr f g h e = refl
two_follows s f g h e = absurd (none-some h e)

two_nested : (s : Sign) (f g h : RawForm) → joined_by s f g ≡ Some h → IsNested f → IsNested g → IsNested h
two_nested Implies f g h e m n = subst IsNested (same_Some (RawForm.binary Connective.implication f g) h e) (m, n)
two_nested If f g h e m n = subst IsNested (same_Some (RawForm.binary Connective.implication g f) h e) (n, m)
two_nested Iff f g h e m n = subst IsNested (same_Some (RawForm.binary Connective.equivalence f g) h e) (m, n)
two_nested Xor f g h e m n = subst IsNested (same_Some (RawForm.negation (RawForm.binary Connective.equivalence f g)) h e) (m, n)
two_nested NotAnd f g h e m n = subst IsNested (same_Some (RawForm.negation (RawForm.binary Connective.conjunction f g)) h e) (m, n)
two_nested NotOr f g h e m n = subst IsNested (same_Some (RawForm.negation (RawForm.binary Connective.disjunction f g)) h e) (m, n)
two_nested s f g h e m n = absurd (none-some h e)

-- a term begins with no sign, and is neither $true nor $false
word_front : (t : Token) (f : Name) → word_of t ≡ Some f → (tokens : List Token) → (first_sign (t ∷ tokens) ≡ None) × (truth_in (t ∷ tokens) ≡ None)
word_front (lower text) f e tokens = (refl, refl)
word_front (quoted text) f e tokens = (refl, refl)
word_front (upper text) f e tokens = absurd (none-some f e)
word_front (defined word) f e tokens = absurd (none-some f e)
word_front distinct f e tokens = absurd (none-some f e)
word_front (number text) f e tokens = absurd (none-some f e)
word_front (sign x) f e tokens = absurd (none-some f e)

term_front : (typed : Bool) (tokens rest : List Token) (u : RawTerm) → IsTerm typed tokens rest u → (first_sign tokens ≡ None) × (truth_in tokens ≡ None)
term_front typed tokens rest u term_variable = (refl, refl)
term_front typed tokens rest u term_individual = (refl, refl)
term_front typed tokens rest u term_truth = (refl, refl)
term_front typed _ rest _ (constant {t = t} {f = f} w) = word_front t f w rest
term_front typed _ rest _ (applied {t = t} {tokens = inner} {f = f} w d) = word_front t f w (sign Open ∷ inner)

-- a unit that begins with no sign is an atom or an equation
as_atom : (typed : Bool) (room : ℕ) (tokens : List Token) → first_sign tokens ≡ None → unit_in forms typed room tokens ≡ atom_in forms typed room tokens
unfolding unit_in
as_atom typed zero tokens e = refl
as_atom typed (suc room) tokens e = ap (λ s. unit_by forms typed room (atom_in forms typed (suc room)) (unit_in forms typed room) tokens (head_of s)) e

as_term : (typed : Bool) (room : ℕ) (tokens rest : List Token) (u : RawTerm) → truth_in tokens ≡ None → term_in typed room tokens ≡ Some (u, rest) → atom_in forms typed room tokens ≡ compared_in forms typed room u rest
unfolding atom_in
as_term typed room tokens rest u e r =
    ap (atom_by forms typed room tokens) e ∙ ap (λ o. then o (λ x. compared_in forms typed room x.0 x.1)) r

plain_read : (typed : Bool) (room : ℕ) (u : RawTerm) (rest : List Token) → behind Equal rest ≡ None → behind NotEqual rest ≡ None → compared_in forms typed room u rest ≡ Some (RawForm.plain u, rest)
unfolding compared_in
plain_read typed room u rest e n =
    ap (λ r. goes_on r (λ more. right_in (λ t. RawForm.equal u t) typed room more) (goes_on (behind NotEqual rest) (λ more. right_in (λ t. RawForm.negation (RawForm.equal u t)) typed room more) (Some (RawForm.plain u, rest)))) e
    ∙ ap (λ r. goes_on r (λ more. right_in (λ t. RawForm.negation (RawForm.equal u t)) typed room more) (Some (RawForm.plain u, rest))) n

equal_read : (typed : Bool) (room : ℕ) (a b : RawTerm) (middle rest : List Token) → term_in typed room middle ≡ Some (b, rest) → compared_in forms typed room a (sign Equal ∷ middle) ≡ Some (RawForm.equal a b, rest)
unfolding compared_in
equal_read typed room a b middle rest e = ap (λ o. then o (λ x. Some (RawForm.equal a x.0, x.1))) e

unequal_read : (typed : Bool) (room : ℕ) (a b : RawTerm) (middle rest : List Token) → term_in typed room middle ≡ Some (b, rest) → compared_in forms typed room a (sign NotEqual ∷ middle) ≡ Some (RawForm.negation (RawForm.equal a b), rest)
unfolding compared_in
unequal_read typed room a b middle rest e = ap (λ o. then o (λ x. Some (RawForm.negation (RawForm.equal a x.0), x.1))) e

true_read : (typed : Bool) (room : ℕ) (rest : List Token) → atom_in forms typed room (defined True ∷ rest) ≡ Some (RawForm.truth, rest)
unfolding atom_in
true_read typed room rest = refl

false_read : (typed : Bool) (room : ℕ) (rest : List Token) → atom_in forms typed room (defined False ∷ rest) ≡ Some (RawForm.falsity, rest)
unfolding atom_in
false_read typed room rest = refl

-- what a unit that was let through is read as, and the scan behind it
record Read (unit : List Token → Option (RawForm × List Token)) (count base : ℕ) (outer : List (ℕ × ℕ)) (tokens rest : List Token) (f : RawForm) : Type 0 where
  reads : unit tokens ≡ Some (f, rest)
  after : ℕ
  no_less : count ≤ after
  goes : within (state after base outer) rest ≡ true
  nested : IsNested f

-- which quantifier a sign stands for
record Bound (s : Sign) (q : Quantifier) : Type 0 where
  binder : Binder
  sign_is : s ≡ binder_sign binder
  quantifier_is : binder_quantifier binder ≡ q

bound_by : (s : Sign) (q : Quantifier) → quantifier_of s ≡ Some q → Bound s q
bound_by All q e = record { binder = binders.All; sign_is = refl; quantifier_is = same_Some Quantifier.universal q e }
bound_by Exists q e = record { binder = binders.Ex; sign_is = refl; quantifier_is = same_Some Quantifier.existential q e }
bound_by s q e = absurd (none-some q e)

-- the scan at the head of a quantifier
record Heads (count base : ℕ) (outer : List (ℕ × ℕ)) (tokens : List Token) : Type 0 where
  room : suc count < 200
  inside : within (state (suc (suc count)) (suc (suc count)) ((suc count, base) ∷ outer)) tokens ≡ true

heads_in : (count base : ℕ) (outer : List (ℕ × ℕ)) (tokens : List Token) → (nat_lt count 200 && (nat_lt (suc count) 200 && within (state (suc (suc count)) (suc (suc count)) ((suc count, base) ∷ outer)) tokens)) ≡ true → Heads count base outer tokens
heads_in count base outer tokens h =
    let second = (and_parts (nat_lt count 200) (nat_lt (suc count) 200 && within (state (suc (suc count)) (suc (suc count)) ((suc count, base) ∷ outer)) tokens) h).1 in
    record {
      room = below_limit (suc count) ((and_parts (nat_lt (suc count) 200) (within (state (suc (suc count)) (suc (suc count)) ((suc count, base) ∷ outer)) tokens) second).0);
      inside = (and_parts (nat_lt (suc count) 200) (within (state (suc (suc count)) (suc (suc count)) ((suc count, base) ∷ outer)) tokens) second).1;
    }

heads_by : (b : Binder) (count base : ℕ) (outer : List (ℕ × ℕ)) (tokens : List Token) → within (state count base outer) (sign (binder_sign b) ∷ sign OpenList ∷ tokens) ≡ true → Heads count base outer tokens
heads_by binders.All count base outer tokens h = heads_in count base outer tokens h
heads_by binders.Ex count base outer tokens h = heads_in count base outer tokens h

binder_head : (b : Binder) → head_of (Some (binder_sign b)) ≡ heads.Quantified b
binder_head binders.All = refl
binder_head binders.Ex = refl

prefix_read : (typed : Bool) (room : ℕ) (s : Sign) (tokens middle : List Token) (vs : List RawVariable) → variables_in typed room tokens ≡ Some (vs, sign CloseList ∷ sign Colon ∷ middle) → prefix_in typed room s (sign s ∷ sign OpenList ∷ tokens) ≡ Some (vs, middle)
unfolding prefix_in
prefix_read typed room s tokens middle vs e =
    ap (λ r. then r (λ opening. then (behind OpenList opening) (λ first. then (variables_in typed room first) (λ x. then (behind CloseList x.1) (λ closing. then (behind Colon closing) (λ rest. Some (x.0, rest))))))) (behind_sign s (sign OpenList ∷ tokens))
    ∙ ap (λ r. then r (λ x. then (behind CloseList x.1) (λ closing. then (behind Colon closing) (λ rest. Some (x.0, rest))))) e

quantified_read : (typed : Bool) (room : ℕ) (b : Binder) (tokens middle rest : List Token) (vs : List RawVariable) (f : RawForm) → variables_in typed room tokens ≡ Some (vs, sign CloseList ∷ sign Colon ∷ middle) → unit_in forms typed room middle ≡ Some (f, rest) → unit_in forms typed (suc room) (sign (binder_sign b) ∷ sign OpenList ∷ tokens) ≡ Some (bound_all forms (binder_quantifier b) vs f, rest)
unfolding unit_in
quantified_read typed room b tokens middle rest vs f e u =
    ap (unit_by forms typed room (atom_in forms typed (suc room)) (unit_in forms typed room) (sign (binder_sign b) ∷ sign OpenList ∷ tokens)) (binder_head b)
    ∙ ap (λ r. then r (λ x. then (unit_in forms typed room x.1) (λ y. Some (bound_all forms (binder_quantifier b) x.0 y.0, y.1)))) (prefix_read typed room (binder_sign b) tokens middle vs e)
    ∙ ap (λ r. then r (λ y. Some (bound_all forms (binder_quantifier b) vs y.0, y.1))) u

negation_read : (typed : Bool) (room : ℕ) (tokens rest : List Token) (f : RawForm) → unit_in forms typed room tokens ≡ Some (f, rest) → unit_in forms typed (suc room) (sign Not ∷ tokens) ≡ Some (RawForm.negation f, rest)
unfolding unit_in
negation_read typed room tokens rest f e = ap (λ r. then r (λ x. Some (RawForm.negation x.0, x.1))) e

bracketed_read : (typed : Bool) (room : ℕ) (tokens rest : List Token) (f : RawForm) → formula_by forms (unit_in forms typed room) tokens ≡ Some (f, sign Close ∷ rest) → unit_in forms typed (suc room) (sign Open ∷ tokens) ≡ Some (f, rest)
unfolding unit_in
bracketed_read typed room tokens rest f e = ap (λ r. then r (λ x. then (behind Close x.1) (λ more. Some (x.0, more)))) e

single_read : (unit : List Token → Option (RawForm × List Token)) (tokens rest : List Token) (f : RawForm) → unit tokens ≡ Some (f, rest) → ends_formula (first_sign rest) ≡ true → formula_by forms unit tokens ≡ Some (f, rest)
unfolding formula_by
single_read unit tokens rest f e h = ap (λ r. then r (λ x. completed_in forms unit x.0 x.1)) e ∙ ap (completed_by forms unit f rest) (nothing_follows (first_sign rest) h)

joined_read : (unit : List Token → Option (RawForm × List Token)) (s : Sign) (tokens middle rest : List Token) (f g h : RawForm) → unit tokens ≡ Some (f, sign s ∷ middle) → unit middle ≡ Some (g, rest) → joined_by s f g ≡ Some h → formula_by forms unit tokens ≡ Some (h, rest)
unfolding formula_by
joined_read unit s tokens middle rest f g h d e j =
    ap (λ r. then r (λ x. completed_in forms unit x.0 x.1)) d
    ∙ ap (completed_by forms unit f (sign s ∷ middle)) (two_follows s f g h j)
    ∙ ap (λ r. then r (λ more. then (unit more) (λ x. then (joins forms s f x.0) (λ b. Some (b, x.1))))) (behind_sign s middle)
    ∙ ap (λ r. then r (λ x. then (joins forms s f x.0) (λ b. Some (b, x.1)))) e
    ∙ ap (λ o. then o (λ b. Some (b, rest))) (joins_is s f g ∙ j)

-- a chain begins with a unit, and going on from there reaches its end
record Reaches (unit : List Token → Option (RawForm × List Token)) (s : Sign) (c : Connective) (base : ℕ) (outer : List (ℕ × ℕ)) (tokens rest : List Token) (f : RawForm) : Type 0 where
  first : RawForm
  middle : List Token
  reads : unit tokens ≡ Some (first, sign s ∷ middle)
  reaches : (n : ℕ) → suc (length middle) ≤ n → (m : ℕ) × (length rest ≤ m) × (chain_in (RawForm.binary c) s unit n first (sign s ∷ middle) ≡ chain_in (RawForm.binary c) s unit m f rest)
  after : ℕ
  no_less : base ≤ after
  goes : within (state after base outer) rest ≡ true
  nested : IsNested f

chain_step : (unit : List Token → Option (RawForm × List Token)) (s : Sign) (c : Connective) (n : ℕ) (f g : RawForm) (middle rest : List Token) → unit middle ≡ Some (g, rest) → length rest ≤ length middle → suc (length middle) ≤ n → (m : ℕ) × (length rest ≤ m) × (chain_in (RawForm.binary c) s unit n f (sign s ∷ middle) ≡ chain_in (RawForm.binary c) s unit m (RawForm.binary c f g) rest)
chain_step unit s c zero f g middle rest e short le = absurd (omega arith)
chain_step unit s c (suc n) f g middle rest e short le = (
  n,
  omega arith,
  ap (λ r. goes_on r (λ more. then (unit more) (λ x. chain_in (RawForm.binary c) s unit n (RawForm.binary c f x.0) x.1)) (Some (f, sign s ∷ middle))) (behind_sign s middle)
      ∙ ap (λ r. then r (λ x. chain_in (RawForm.binary c) s unit n (RawForm.binary c f x.0) x.1)) e,
)

chained_read : (unit : List Token → Option (RawForm × List Token)) (s : Sign) (c : Connective) (base : ℕ) (outer : List (ℕ × ℕ)) (tokens rest : List Token) (f : RawForm) → chain_of s ≡ Some c → Reaches unit s c base outer tokens rest f → ends_formula (first_sign rest) ≡ true → formula_by forms unit tokens ≡ Some (f, rest)
unfolding formula_by
chained_read unit s c base outer tokens rest f e r h =
    let there = r.reaches (suc (length r.middle)) (omega arith) in
    ap (λ x. then x (λ y. completed_in forms unit y.0 y.1)) r.reads
    ∙ chain_completed s c e unit r.first r.middle
    ∙ there.2
    ∙ chain_done unit (RawForm.binary c) s there.0 f rest (no_chain s c e rest h)

-- a quantifier, where what follows its colon is read
quantifier_read : (typed : Bool) (room count base : ℕ) (outer : List (ℕ × ℕ)) (tokens middle rest : List Token) (s : Sign) (q : Quantifier) → (b : Bound s q) → (vs : List RawVariable) (f g : RawForm) → Heads count base outer tokens → IsVariables typed tokens (sign CloseList ∷ sign Colon ∷ middle) vs → ((r : ℕ) → within (state (suc count) base outer) middle ≡ true → 200 ≤ r + suc count → suc count ≤ 200 → Read (unit_in forms typed r) (suc count) base outer middle rest f) → g ≡ quantify q vs f → 200 ≤ room + count → Read (unit_in forms typed room) count base outer (sign s ∷ sign OpenList ∷ tokens) rest g
quantifier_read typed zero count base outer tokens middle rest s q b vs f g h v inner is le = let lt = h.room in absurd (omega arith)
quantifier_read typed (suc room) count base outer tokens middle rest s q b vs f g h v inner is le =
    let lt = h.room in
    let head = state (suc count) base outer in
    let behind_colon : within (state (suc count) base outer) middle ≡ true = variables_pass typed head tokens (sign CloseList ∷ sign Colon ∷ middle) vs v h.inside in
    let ih = inner room behind_colon (omega arith) (omega arith) in
    let written = variables_depth typed head tokens (sign CloseList ∷ sign Colon ∷ middle) vs v h.inside (omega arith) in
    let reads = quantified_read typed room b.binder tokens middle rest vs f (variables_read typed room head tokens (sign Colon ∷ middle) vs v h.inside (omega arith)) ih.reads in
    record {
      reads = ap (λ (t : Sign). unit_in forms typed (suc room) (sign t ∷ sign OpenList ∷ tokens)) b.sign_is ∙ reads
          ∙ ap (λ (h : RawForm). Some (h, rest)) (bound_is (binder_quantifier b.binder) vs f ∙ ap (λ (r : Quantifier). quantify r vs f) b.quantifier_is ∙ sym is);
      after = ih.after;
      no_less = (let more = ih.no_less in omega arith);
      goes = ih.goes;
      nested = subst IsNested (sym is) (nested_under q vs f written ih.nested);
    }

mutual
  unit_read : (typed : Bool) (room count base : ℕ) (outer : List (ℕ × ℕ)) (tokens rest : List Token) (f : RawForm) → IsUnit typed tokens rest f → within (state count base outer) tokens ≡ true → 200 ≤ room + count → count ≤ 200 → ends_unit (first_sign rest) ≡ true → Read (unit_in forms typed room) count base outer tokens rest f
  unit_read typed zero count base outer _ rest _ (negated {tokens = tokens} {f = f} d) w le small ends =
      let lt = below_limit count ((and_parts (nat_lt count 200) (within (state (suc count) base outer) tokens) w).0) in absurd (omega arith)
  unit_read typed (suc room) count base outer _ rest _ (negated {tokens = tokens} {f = f} d) w le small ends =
      let lt = below_limit count ((and_parts (nat_lt count 200) (within (state (suc count) base outer) tokens) w).0) in
      let ih = unit_read typed room (suc count) base outer tokens rest f d ((and_parts (nat_lt count 200) (within (state (suc count) base outer) tokens) w).1) (omega arith) (omega arith) ends in
      record { reads = negation_read typed room tokens rest f ih.reads; after = ih.after; no_less = (let h = ih.no_less in omega arith); goes = ih.goes; nested = ih.nested }
  unit_read typed room count base outer _ rest _ (quantified {s = s} {q = q} {tokens = tokens} {middle = middle} {vs = vs} {f = f} e v d is) w le small ends =
      let b = bound_by s q e in
      let h = heads_by b.binder count base outer tokens (subst (λ (t : Sign). within (state count base outer) (sign t ∷ sign OpenList ∷ tokens) ≡ true) b.sign_is w) in
      quantifier_read typed room count base outer tokens middle rest s q b vs f _ h v (λ r inside more few. unit_read typed r (suc count) base outer middle rest f d inside more few ends) is le
  unit_read typed zero count base outer _ rest f (bracketed {tokens = tokens} d) w le small ends =
      let lt = below_limit count ((and_parts (nat_lt count 200) (within (state (suc count) (suc count) ((count, base) ∷ outer)) tokens) w).0) in absurd (omega arith)
  unit_read typed (suc room) count base outer _ rest f (bracketed {tokens = tokens} d) w le small ends =
      let lt = below_limit count ((and_parts (nat_lt count 200) (within (state (suc count) (suc count) ((count, base) ∷ outer)) tokens) w).0) in
      let ih = formula_read typed room (suc count) ((count, base) ∷ outer) tokens (sign Close ∷ rest) f d ((and_parts (nat_lt count 200) (within (state (suc count) (suc count) ((count, base) ∷ outer)) tokens) w).1) (omega arith) (omega arith) refl in
      record { reads = bracketed_read typed room tokens rest f ih.reads; after = count; no_less = omega arith; goes = ih.goes; nested = ih.nested }
  unit_read typed room count base outer _ rest _ truth w le small ends =
      record { reads = as_atom typed room (defined True ∷ rest) refl ∙ true_read typed room rest; after = count; no_less = omega arith; goes = w; nested = tt }
  unit_read typed room count base outer _ rest _ falsity w le small ends =
      record { reads = as_atom typed room (defined False ∷ rest) refl ∙ false_read typed room rest; after = count; no_less = omega arith; goes = w; nested = tt }
  unit_read typed room count base outer tokens rest _ (atom {u = u} d) w le small ends =
      let front = term_front typed tokens rest u d in
      let deep = term_depth typed (state count base outer) tokens rest u d w small in
      record {
        reads = as_atom typed room tokens front.0 ∙ as_term typed room tokens rest u front.1 (term_read typed room (state count base outer) tokens rest u d w le (no_open rest ends)) ∙ plain_read typed room u rest (no_equal rest ends) (no_unequal rest ends);
        after = count;
        no_less = omega arith;
        goes = term_passes typed (state count base outer) tokens rest u d w;
        nested = omega arith;
      }
  unit_read typed room count base outer tokens rest _ (equation {middle = middle} {a = a} {b = b} d e) w le small ends =
      let front = term_front typed tokens (sign Equal ∷ middle) a d in
      let between : within (state count base outer) middle ≡ true = term_passes typed (state count base outer) tokens (sign Equal ∷ middle) a d w in
      let deep = term_depth typed (state count base outer) tokens (sign Equal ∷ middle) a d w small in
      let other = term_depth typed (state count base outer) middle rest b e between small in
      record {
        reads = as_atom typed room tokens front.0 ∙ as_term typed room tokens (sign Equal ∷ middle) a front.1 (term_read typed room (state count base outer) tokens (sign Equal ∷ middle) a d w le refl)
            ∙ equal_read typed room a b middle rest (term_read typed room (state count base outer) middle rest b e between le (no_open rest ends));
        after = count;
        no_less = omega arith;
        goes = term_passes typed (state count base outer) middle rest b e between;
        nested = (omega arith, omega arith);
      }
  unit_read typed room count base outer tokens rest _ (inequation {middle = middle} {a = a} {b = b} d e) w le small ends =
      let front = term_front typed tokens (sign NotEqual ∷ middle) a d in
      let between : within (state count base outer) middle ≡ true = term_passes typed (state count base outer) tokens (sign NotEqual ∷ middle) a d w in
      let deep = term_depth typed (state count base outer) tokens (sign NotEqual ∷ middle) a d w small in
      let other = term_depth typed (state count base outer) middle rest b e between small in
      record {
        reads = as_atom typed room tokens front.0 ∙ as_term typed room tokens (sign NotEqual ∷ middle) a front.1 (term_read typed room (state count base outer) tokens (sign NotEqual ∷ middle) a d w le refl)
            ∙ unequal_read typed room a b middle rest (term_read typed room (state count base outer) middle rest b e between le (no_open rest ends));
        after = count;
        no_less = omega arith;
        goes = term_passes typed (state count base outer) middle rest b e between;
        nested = (omega arith, omega arith);
      }

  formula_read : (typed : Bool) (room count : ℕ) (outer : List (ℕ × ℕ)) (tokens rest : List Token) (f : RawForm) → IsFormula typed tokens rest f → within (state count count outer) tokens ≡ true → 200 ≤ room + count → count ≤ 200 → ends_formula (first_sign rest) ≡ true → Read (formula_by forms (unit_in forms typed room)) count count outer tokens rest f
  formula_read typed room count outer tokens rest f (single d) w le small ends =
      let ih = unit_read typed room count count outer tokens rest f d w le small (unit_ends (first_sign rest) ends) in
      record { reads = single_read (unit_in forms typed room) tokens rest f ih.reads ends; after = ih.after; no_less = ih.no_less; goes = ih.goes; nested = ih.nested }
  formula_read typed room count outer tokens rest h (joined {s = s} {middle = middle} {f = f} {g = g} d e j) w le small ends =
      let ih = unit_read typed room count count outer tokens (sign s ∷ middle) f d w le small (two_unit s f g h j) in
      let jh = unit_read typed room count count outer middle rest g e (two_settles s f g h j ih.after count outer middle ih.goes) le small (unit_ends (first_sign rest) ends) in
      record { reads = joined_read (unit_in forms typed room) s tokens middle rest f g h ih.reads jh.reads j; after = jh.after; no_less = jh.no_less; goes = jh.goes; nested = two_nested s f g h j ih.nested jh.nested }
  formula_read typed room count outer tokens rest f (chained {s = s} {c = c} e d) w le small ends =
      let r = chain_read typed room count outer s c tokens rest f e d w le small (unit_ends (first_sign rest) ends) in
      record { reads = chained_read (unit_in forms typed room) s c count outer tokens rest f e r ends; after = r.after; no_less = r.no_less; goes = r.goes; nested = r.nested }

  chain_read : (typed : Bool) (room count : ℕ) (outer : List (ℕ × ℕ)) (s : Sign) (c : Connective) (tokens rest : List Token) (f : RawForm) → chain_of s ≡ Some c → IsChain s c typed tokens rest f → within (state count count outer) tokens ≡ true → 200 ≤ room + count → count ≤ 200 → ends_unit (first_sign rest) ≡ true → Reaches (unit_in forms typed room) s c count outer tokens rest f
  chain_read typed room count outer s c tokens rest _ e (two {middle = middle} {f = f} {g = g} d u) w le small ends =
      let ih = unit_read typed room count count outer tokens (sign s ∷ middle) f d w le small (chain_unit s c e) in
      let jh = unit_read typed room count count outer middle rest g u (chain_settles s c e ih.after count outer middle ih.goes) le small ends in
      let short = (units_shrink forms typed room).fewer middle g rest jh.reads in
      record {
        first = f;
        middle = middle;
        reads = ih.reads;
        reaches = λ n lt. chain_step (unit_in forms typed room) s c n f g middle rest jh.reads short lt;
        after = jh.after;
        no_less = jh.no_less;
        goes = jh.goes;
        nested = (ih.nested, jh.nested);
      }
  chain_read typed room count outer s c tokens rest _ e (one_more {middle = middle} {f = f} {g = g} d u) w le small ends =
      let before = chain_read typed room count outer s c tokens (sign s ∷ middle) f e d w le small (chain_unit s c e) in
      let jh = unit_read typed room count count outer middle rest g u (chain_settles s c e before.after count outer middle before.goes) le small ends in
      let short = (units_shrink forms typed room).fewer middle g rest jh.reads in
      record {
        first = before.first;
        middle = before.middle;
        reads = before.reads;
        reaches = λ n lt. (
            let there = before.reaches n lt in
            let step = chain_step (unit_in forms typed room) s c there.0 f g middle rest jh.reads short there.1 in
            (step.0, step.1, there.2 ∙ step.2));
        after = jh.after;
        no_less = jh.no_less;
        goes = jh.goes;
        nested = (before.nested, jh.nested);
      }

-- a formula part that the scan lets through is read, and none of its terms and types is deeper than the brackets allow
pub formula_complete : (typed : Bool) (tokens rest : List Token) (f : RawForm) → IsFormula typed tokens rest f → within (state 0 0 []) tokens ≡ true → ends_formula (first_sign rest) ≡ true → (formula_in forms typed 200 tokens ≡ Some (f, rest)) × IsNested f
formula_complete typed tokens rest f d w ends =
    let r = formula_read typed 200 0 [] tokens rest f d w (omega arith) (omega arith) ends in (r.reads, r.nested)
