-- What the slow reader of formulas reads is in the grammar.
use Rattle.std.proofs.Common.{◌≡◌, ℕ, zero, suc, ◌⊎◌, inl, inr, Bool, List, [], ◌∷◌, length, Option, Some, None, refl, sym, ◌∙◌, ap, subst}
use Rattle.std.proofs.lemmas.Option.{some_pair_parts}
use Rattle.tptp_lex.specs.declared.signs.Sign.{Sign}
use Rattle.tptp_lex.specs.declared.signs.Sign.TheVariants.{Open, Close, OpenList, CloseList, Colon, And, Or, Not, Implies, If, Iff, Xor, NotAnd, NotOr, Equal, NotEqual}
use Rattle.tptp_reader.specs.declared.lexeme.Defined.TheVariants.{True, False}
use Rattle.tptp_reader.specs.declared.heads.Binder.{Binder}
use Rattle.tptp_reader.specs.declared.heads.Binder.TheVariants as binders
use Rattle.tptp_reader.specs.declared.heads.Head.{Head}
use Rattle.tptp_reader.specs.declared.heads.Head.TheVariants as heads
use Rattle.tptp_reader.specs.declared.heads.Follow.{Follow}
use Rattle.tptp_reader.specs.declared.heads.Follow.TheVariants as follows
use Rattle.tptp_reader.specs.Raw.{RawForm, RawTerm, RawVariable, Connective, Quantifier}
use Rattle.tptp_reader.specs.Tokens.{Token, defined, sign}
use Rattle.tptp_reader.specs.Parsing.{first_sign, behind, then}
use Rattle.tptp_reader.specs.Grammar.{IsTerm, IsVariables, quantify, quantifier_of, joined_by, chain_of, IsUnit, negated, quantified, bracketed, truth, falsity, atom, equation, inequation, IsFormula, single, joined, chained, IsChain, two, one_more}
use Rattle.tptp_reader.specs.SlowLists.{goes_on}
use Rattle.tptp_reader.specs.SlowTerms.{term_in}
use Rattle.tptp_reader.specs.SlowTypes.{variables_in}
use Rattle.tptp_reader.specs.SlowForms.{bound_all, joins, head_of, follow_of, binder_sign, binder_quantifier, chain_in, right_in, compared_in, atom_in, prefix_in, joined_in, completed_by, completed_in, formula_by, unit_by, unit_in, formula_in}
use Rattle.tptp_reader.specs.Kept.{forms}
use Rattle.tptp_reader.proofs.Behind.{behind_back}
use Rattle.tptp_reader.proofs.ReadLaws.{same_read, then_back}
use Rattle.tptp_reader.proofs.TermLaws.{term_sound}
use Rattle.tptp_reader.proofs.VariableLaws.{variables_sound}

-- what reads only units of the grammar
abbrev pub SoundUnit : Bool → (List Token → Option (RawForm × List Token)) → Type 0
SoundUnit typed unit = (tokens : List Token) (f : RawForm) (rest : List Token) → unit tokens ≡ Some (f, rest) → IsUnit typed tokens rest f

pub joins_is : (s : Sign) (f g : RawForm) → joins forms s f g ≡ joined_by s f g
joins_is Implies f g = refl
joins_is If f g = refl
joins_is Iff f g = refl
joins_is Xor f g = refl
joins_is NotAnd f g = refl
joins_is NotOr f g = refl
joins_is s f g = refl

pub bound_is : (q : Quantifier) (vs : List RawVariable) (f : RawForm) → bound_all forms q vs f ≡ quantify q vs f
bound_is q [] f = refl
bound_is q (v ∷ vs) f = ap (RawForm.quantified q v) (bound_is q vs f)

-- what is a unit, or a chain that goes on
abbrev Goes : Sign → Connective → Bool → List Token → List Token → RawForm → Type 0
Goes s c typed tokens rest f = IsUnit typed tokens rest f ⊎ IsChain s c typed tokens rest f

goes_further : (s : Sign) (c : Connective) (typed : Bool) (tokens middle rest : List Token) (f g : RawForm) → Goes s c typed tokens (sign s ∷ middle) f → IsUnit typed middle rest g → Goes s c typed tokens rest (RawForm.binary c f g)
goes_further s c typed tokens middle rest f g (inl d) u = inr (two d u)
goes_further s c typed tokens middle rest f g (inr d) u = inr (one_more d u)

goes_whole : (s : Sign) (c : Connective) (typed : Bool) (tokens rest : List Token) (f : RawForm) → chain_of s ≡ Some c → Goes s c typed tokens rest f → IsFormula typed tokens rest f
goes_whole s c typed tokens rest f e (inl d) = single d
goes_whole s c typed tokens rest f e (inr d) = chained e d

turn_sound : (typed : Bool) (unit : List Token → Option (RawForm × List Token)) → SoundUnit typed unit → (s : Sign) (c : Connective) (n : ℕ) (all : List Token) (f : RawForm) (tokens : List Token) (g : RawForm) (rest : List Token) →
    ((h : RawForm) (ts : List Token) → Goes s c typed all ts h → chain_in (RawForm.binary c) s unit n h ts ≡ Some (g, rest) → Goes s c typed all rest g) →
    (r : Option (List Token)) → behind s tokens ≡ r → Goes s c typed all tokens f → goes_on r (λ second. then (unit second) (λ x. chain_in (RawForm.binary c) s unit n (RawForm.binary c f x.0) x.1)) (Some (f, tokens)) ≡ Some (g, rest) → Goes s c typed all rest g
turn_sound typed unit u s c n all f tokens g rest more None is p e = same_read (λ ts h. Goes s c typed all ts h) f g tokens rest e p
turn_sound typed unit u s c n all f tokens g rest more (Some second) is p e =
    let b = then_back (unit second) (λ x. chain_in (RawForm.binary c) s unit n (RawForm.binary c f x.0) x.1) (g, rest) e in
    let front = subst (λ (ts : List Token). Goes s c typed all ts f) (behind_back s tokens second is) p in
    more (RawForm.binary c f b.middle.0) b.middle.1 (goes_further s c typed all second b.middle.1 f b.middle.0 front (u second b.middle.0 b.middle.1 b.first)) b.second

chain_sound : (typed : Bool) (unit : List Token → Option (RawForm × List Token)) → SoundUnit typed unit → (s : Sign) (c : Connective) (n : ℕ) (all : List Token) (f : RawForm) (tokens : List Token) (g : RawForm) (rest : List Token) → Goes s c typed all tokens f → chain_in (RawForm.binary c) s unit n f tokens ≡ Some (g, rest) → Goes s c typed all rest g
chain_sound typed unit u s c zero all f tokens g rest p e = same_read (λ ts h. Goes s c typed all ts h) f g tokens rest e p
chain_sound typed unit u s c (suc n) all f tokens g rest p e =
    turn_sound typed unit u s c n all f tokens g rest (λ h ts q d. chain_sound typed unit u s c n all h ts g rest q d) (behind s tokens) refl p e

joined_sound : (typed : Bool) (unit : List Token → Option (RawForm × List Token)) → SoundUnit typed unit → (s : Sign) (all : List Token) (f : RawForm) (tokens : List Token) (g : RawForm) (rest : List Token) → IsUnit typed all tokens f → joined_in forms unit s f tokens ≡ Some (g, rest) → IsFormula typed all rest g
joined_sound typed unit u s all f tokens g rest d e =
    let a = then_back (behind s tokens) (λ second. then (unit second) (λ x. then (joins forms s f x.0) (λ b. Some (b, x.1)))) (g, rest) e in
    let b = then_back (unit a.middle) (λ x. then (joins forms s f x.0) (λ b. Some (b, x.1))) (g, rest) a.second in
    let c = then_back (joins forms s f b.middle.0) (λ h. Some (h, b.middle.1)) (g, rest) b.second in
    let first = subst (λ (ts : List Token). IsUnit typed all ts f) (behind_back s tokens a.middle a.first) d in
    same_read (λ ts h. IsFormula typed all ts h) c.middle g b.middle.1 rest c.second
    (joined first (u a.middle b.middle.0 b.middle.1 b.first) (sym (joins_is s f b.middle.0) ∙ c.first))

completed_sound : (typed : Bool) (unit : List Token → Option (RawForm × List Token)) → SoundUnit typed unit → (all : List Token) (f : RawForm) (tokens : List Token) (follow : Follow) (g : RawForm) (rest : List Token) → IsUnit typed all tokens f → completed_by forms unit f tokens follow ≡ Some (g, rest) → IsFormula typed all rest g
completed_sound typed unit u all f tokens follows.Conjunction g rest d e =
    goes_whole And Connective.conjunction typed all rest g refl (chain_sound typed unit u And Connective.conjunction (length tokens) all f tokens g rest (inl d) e)
completed_sound typed unit u all f tokens follows.Disjunction g rest d e =
    goes_whole Or Connective.disjunction typed all rest g refl (chain_sound typed unit u Or Connective.disjunction (length tokens) all f tokens g rest (inl d) e)
completed_sound typed unit u all f tokens (follows.Two s) g rest d e = joined_sound typed unit u s all f tokens g rest d e
completed_sound typed unit u all f tokens follows.Nothing g rest d e = same_read (λ ts h. IsFormula typed all ts h) f g tokens rest e (single d)

-- what is read as a formula is one
by_sound : (typed : Bool) (unit : List Token → Option (RawForm × List Token)) → SoundUnit typed unit → (tokens : List Token) (g : RawForm) (rest : List Token) → formula_by forms unit tokens ≡ Some (g, rest) → IsFormula typed tokens rest g
unfolding formula_by
by_sound typed unit u tokens g rest e =
    let b = then_back (unit tokens) (λ x. completed_in forms unit x.0 x.1) (g, rest) e in
    completed_sound typed unit u tokens b.middle.0 b.middle.1 (follow_of (first_sign b.middle.1)) g rest (u tokens b.middle.0 b.middle.1 b.first) b.second

-- the right side of an equation
record Right (typed : Bool) (room : ℕ) (make : RawTerm → RawForm) (tokens : List Token) (g : RawForm) (rest : List Token) : Type 0 where
  term : RawTerm
  is : IsTerm typed tokens rest term
  makes : make term ≡ g

right_sound : (typed : Bool) (room : ℕ) (make : RawTerm → RawForm) (tokens : List Token) (g : RawForm) (rest : List Token) → right_in make typed room tokens ≡ Some (g, rest) → Right typed room make tokens g rest
right_sound typed room make tokens g rest e =
    let b = then_back (term_in typed room tokens) (λ x. Some (make x.0, x.1)) (g, rest) e in
    let same = some_pair_parts (make b.middle.0) g b.middle.1 rest b.second in
    record {
      term = b.middle.0;
      is = term_sound typed room tokens b.middle.0 rest (b.first ∙ ap (λ (ts : List Token). Some (b.middle.0, ts)) same.1);
      makes = same.0;
    }

unequal_sound : (typed : Bool) (room : ℕ) (all : List Token) (u : RawTerm) (tokens : List Token) (r : Option (List Token)) → behind NotEqual tokens ≡ r → (g : RawForm) (rest : List Token) → IsTerm typed all tokens u → goes_on r (λ more. right_in (λ t. RawForm.negation (RawForm.equal u t)) typed room more) (Some (RawForm.plain u, tokens)) ≡ Some (g, rest) → IsUnit typed all rest g
unequal_sound typed room all u tokens None is g rest d e = same_read (λ ts h. IsUnit typed all ts h) (RawForm.plain u) g tokens rest e (atom d)
unequal_sound typed room all u tokens (Some more) is g rest d e =
    let r = right_sound typed room (λ t. RawForm.negation (RawForm.equal u t)) more g rest e in
    let left = subst (λ (ts : List Token). IsTerm typed all ts u) (behind_back NotEqual tokens more is) d in
    subst (IsUnit typed all rest) r.makes (inequation left r.is)

equal_sound : (typed : Bool) (room : ℕ) (all : List Token) (u : RawTerm) (tokens : List Token) (r : Option (List Token)) → behind Equal tokens ≡ r → (g : RawForm) (rest : List Token) → IsTerm typed all tokens u → goes_on r (λ more. right_in (λ t. RawForm.equal u t) typed room more) (goes_on (behind NotEqual tokens) (λ more. right_in (λ t. RawForm.negation (RawForm.equal u t)) typed room more) (Some (RawForm.plain u, tokens))) ≡ Some (g, rest) → IsUnit typed all rest g
equal_sound typed room all u tokens None is g rest d e = unequal_sound typed room all u tokens (behind NotEqual tokens) refl g rest d e
equal_sound typed room all u tokens (Some more) is g rest d e =
    let r = right_sound typed room (λ t. RawForm.equal u t) more g rest e in
    let left = subst (λ (ts : List Token). IsTerm typed all ts u) (behind_back Equal tokens more is) d in
    subst (IsUnit typed all rest) r.makes (equation left r.is)

compared_sound : (typed : Bool) (room : ℕ) (all : List Token) (u : RawTerm) (tokens : List Token) (g : RawForm) (rest : List Token) → IsTerm typed all tokens u → compared_in forms typed room u tokens ≡ Some (g, rest) → IsUnit typed all rest g
unfolding compared_in
compared_sound typed room all u tokens g rest d e = equal_sound typed room all u tokens (behind Equal tokens) refl g rest d e

term_unit : (typed : Bool) (room : ℕ) (tokens : List Token) (g : RawForm) (rest : List Token) → then (term_in typed room tokens) (λ x. compared_in forms typed room x.0 x.1) ≡ Some (g, rest) → IsUnit typed tokens rest g
term_unit typed room tokens g rest e =
    let b = then_back (term_in typed room tokens) (λ x. compared_in forms typed room x.0 x.1) (g, rest) e in
    compared_sound typed room tokens b.middle.0 b.middle.1 g rest (term_sound typed room tokens b.middle.0 b.middle.1 b.first) b.second

atom_sound : (typed : Bool) (room : ℕ) (tokens : List Token) (g : RawForm) (rest : List Token) → atom_in forms typed room tokens ≡ Some (g, rest) → IsUnit typed tokens rest g
unfolding atom_in
atom_sound typed room (defined True ∷ tokens) g rest e = same_read (λ ts h. IsUnit typed (defined True ∷ tokens) ts h) RawForm.truth g tokens rest e truth
atom_sound typed room (defined False ∷ tokens) g rest e = same_read (λ ts h. IsUnit typed (defined False ∷ tokens) ts h) RawForm.falsity g tokens rest e falsity
atom_sound typed room tokens g rest e = term_unit typed room tokens g rest e

-- the variables of a quantifier
record Prefix (typed : Bool) (s : Sign) (tokens : List Token) (vs : List RawVariable) (rest : List Token) : Type 0 where
  inside : List Token
  front : tokens ≡ sign s ∷ sign OpenList ∷ inside
  are : IsVariables typed inside (sign CloseList ∷ sign Colon ∷ rest) vs

prefix_sound : (typed : Bool) (room : ℕ) (s : Sign) (tokens : List Token) (vs : List RawVariable) (rest : List Token) → prefix_in typed room s tokens ≡ Some (vs, rest) → Prefix typed s tokens vs rest
unfolding prefix_in
prefix_sound typed room s tokens vs rest e =
    let a = then_back (behind s tokens) (λ opening. then (behind OpenList opening) (λ first. then (variables_in typed room first) (λ x. then (behind CloseList x.1) (λ closing. then (behind Colon closing) (λ rest. Some (x.0, rest)))))) (vs, rest) e in
    let b = then_back (behind OpenList a.middle) (λ first. then (variables_in typed room first) (λ x. then (behind CloseList x.1) (λ closing. then (behind Colon closing) (λ rest. Some (x.0, rest))))) (vs, rest) a.second in
    let c = then_back (variables_in typed room b.middle) (λ x. then (behind CloseList x.1) (λ closing. then (behind Colon closing) (λ rest. Some (x.0, rest)))) (vs, rest) b.second in
    let d = then_back (behind CloseList c.middle.1) (λ closing. then (behind Colon closing) (λ rest. Some (c.middle.0, rest))) (vs, rest) c.second in
    let k = then_back (behind Colon d.middle) (λ rest. Some (c.middle.0, rest)) (vs, rest) d.second in
    let same = some_pair_parts c.middle.0 vs k.middle rest k.second in
    let after = behind_back CloseList c.middle.1 d.middle d.first ∙ ap (λ (ts : List Token). sign CloseList ∷ ts) (behind_back Colon d.middle k.middle k.first ∙ ap (λ (ts : List Token). sign Colon ∷ ts) same.1) in
    record {
      inside = b.middle;
      front = behind_back s tokens a.middle a.first ∙ ap (λ (ts : List Token). sign s ∷ ts) (behind_back OpenList a.middle b.middle b.first);
      are = variables_sound typed room b.middle vs (sign CloseList ∷ sign Colon ∷ rest) (c.first ∙ ap (λ (ws : List RawVariable). Some (ws, c.middle.1)) same.0 ∙ ap (λ (ts : List Token). Some (vs, ts)) after);
    }

binder_is : (b : Binder) → quantifier_of (binder_sign b) ≡ Some (binder_quantifier b)
binder_is binders.All = refl
binder_is binders.Ex = refl

head_sound : (typed : Bool) (room : ℕ) (item unit : List Token → Option (RawForm × List Token)) → SoundUnit typed item → SoundUnit typed unit → (tokens : List Token) (head : Head) (g : RawForm) (rest : List Token) → unit_by forms typed room item unit tokens head ≡ Some (g, rest) → IsUnit typed tokens rest g
head_sound typed room item unit m u tokens heads.Negation g rest e =
    let a = then_back (behind Not tokens) (λ second. then (unit second) (λ x. Some (RawForm.negation x.0, x.1))) (g, rest) e in
    let b = then_back (unit a.middle) (λ x. Some (RawForm.negation x.0, x.1)) (g, rest) a.second in
    let is = negated (u a.middle b.middle.0 b.middle.1 b.first) in
    subst (λ (ts : List Token). IsUnit typed ts rest g) (sym (behind_back Not tokens a.middle a.first))
    (same_read (λ ts h. IsUnit typed (sign Not ∷ a.middle) ts h) (RawForm.negation b.middle.0) g b.middle.1 rest b.second is)
head_sound typed room item unit m u tokens (heads.Quantified b) g rest e =
    let p = then_back (prefix_in typed room (binder_sign b) tokens) (λ x. then (unit x.1) (λ y. Some (bound_all forms (binder_quantifier b) x.0 y.0, y.1))) (g, rest) e in
    let q = then_back (unit p.middle.1) (λ y. Some (bound_all forms (binder_quantifier b) p.middle.0 y.0, y.1)) (g, rest) p.second in
    let prefix = prefix_sound typed room (binder_sign b) tokens p.middle.0 p.middle.1 p.first in
    let is = quantified (binder_is b) prefix.are (u p.middle.1 q.middle.0 q.middle.1 q.first) (bound_is (binder_quantifier b) p.middle.0 q.middle.0) in
    subst (λ (ts : List Token). IsUnit typed ts rest g) (sym prefix.front)
    (same_read (λ ts h. IsUnit typed (sign (binder_sign b) ∷ sign OpenList ∷ prefix.inside) ts h) (bound_all forms (binder_quantifier b) p.middle.0 q.middle.0) g q.middle.1 rest q.second is)
head_sound typed room item unit m u tokens heads.Bracket g rest e =
    let a = then_back (behind Open tokens) (λ inside. then (formula_by forms unit inside) (λ x. then (behind Close x.1) (λ rest. Some (x.0, rest)))) (g, rest) e in
    let b = then_back (formula_by forms unit a.middle) (λ x. then (behind Close x.1) (λ rest. Some (x.0, rest))) (g, rest) a.second in
    let c = then_back (behind Close b.middle.1) (λ rest. Some (b.middle.0, rest)) (g, rest) b.second in
    let inner = subst (λ (ts : List Token). IsFormula typed a.middle ts b.middle.0) (behind_back Close b.middle.1 c.middle c.first) (by_sound typed unit u a.middle b.middle.0 b.middle.1 b.first) in
    subst (λ (ts : List Token). IsUnit typed ts rest g) (sym (behind_back Open tokens a.middle a.first))
    (same_read (λ ts h. IsUnit typed (sign Open ∷ a.middle) ts h) b.middle.0 g c.middle rest c.second (bracketed inner))
head_sound typed room item unit m u tokens heads.Other g rest e = m tokens g rest e

-- what is read as a unit is one
unit_sound : (typed : Bool) (room : ℕ) (tokens : List Token) (g : RawForm) (rest : List Token) → unit_in forms typed room tokens ≡ Some (g, rest) → IsUnit typed tokens rest g
unfolding unit_in
unit_sound typed zero tokens g rest e = atom_sound typed 0 tokens g rest e
unit_sound typed (suc room) tokens g rest e =
    head_sound typed room (atom_in forms typed (suc room)) (unit_in forms typed room) (λ ts f more h. atom_sound typed (suc room) ts f more h) (λ ts f more h. unit_sound typed room ts f more h) tokens (head_of (first_sign tokens)) g rest e

pub formula_sound : (typed : Bool) (room : ℕ) (tokens : List Token) (g : RawForm) (rest : List Token) → formula_in forms typed room tokens ≡ Some (g, rest) → IsFormula typed tokens rest g
formula_sound typed room tokens g rest e = by_sound typed (unit_in forms typed room) (λ ts f more h. unit_sound typed room ts f more h) tokens g rest e
