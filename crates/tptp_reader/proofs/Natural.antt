-- Reading into other values is reading formulas, and then making the value of each.
use Rattle.std.proofs.Common.{◌≡◌, ℕ, zero, suc, ◌+◌, max, cond, Bool, true, false, List, [], ◌∷◌, length, Option, Some, None, refl, sym, ◌∙◌, ap, arith}
use Rattle.std.specs.Prelude.{nat_le}
use Rattle.std.specs.Option.{option_map}
use Rattle.std.proofs.lemmas.Bool.Decides.{nat_tests}
use Rattle.tptp_lex.specs.declared.signs.Sign.{Sign}
use Rattle.tptp_lex.specs.declared.signs.Sign.TheVariants.{Open, Close, And, Or, Not, Implies, If, Iff, Xor, NotAnd, NotOr, Equal, NotEqual}
use Rattle.tptp_reader.specs.declared.heads.Head.{Head}
use Rattle.tptp_reader.specs.declared.heads.Head.TheVariants as heads
use Rattle.tptp_reader.specs.declared.heads.Follow.{Follow}
use Rattle.tptp_reader.specs.declared.heads.Follow.TheVariants as follows
use Rattle.tptp_reader.specs.Raw.{RawForm, RawTerm, RawVariable, Connective, Quantifier, raw_depth, written_depth}
use Rattle.tptp_reader.specs.Tokens.{Token}
use Rattle.tptp_reader.specs.Parsing.{first_sign, behind, then}
use Rattle.tptp_reader.specs.SlowLists.{goes_on}
use Rattle.tptp_reader.specs.SlowTerms.{term_in}
use Rattle.tptp_reader.specs.SlowForms.{Values, bound_all, joins, head_of, follow_of, binder_sign, binder_quantifier, chain_in, truth_in, truth_of, right_in, compared_in, atom_by, atom_in, prefix_in, joined_in, completed_by, completed_in, formula_by, unit_by, unit_in, formula_in}
use Rattle.tptp_reader.specs.Kept.{forms, whole, too_deep, kept_at, kept_one, kept_two, keeps, kept}

-- h takes what the one makes to what the other makes
pub record Carries {A B : Type 0} (v : Values A) (w : Values B) (h : A → B) : Type 0 where
  pub truth : w.of_truth ≡ h v.of_truth
  pub falsity : w.of_falsity ≡ h v.of_falsity
  pub plain : (u : RawTerm) → w.of_plain u ≡ h (v.of_plain u)
  pub equal : (t u : RawTerm) → w.of_equal t u ≡ h (v.of_equal t u)
  pub negated : (a : A) → w.of_not (h a) ≡ h (v.of_not a)
  pub joined : (c : Connective) (a b : A) → w.of_join c (h a) (h b) ≡ h (v.of_join c a b)
  pub bound : (q : Quantifier) (x : RawVariable) (a : A) → w.of_bound q x (h a) ≡ h (v.of_bound q x a)

abbrev pub carried : {A B : Type 0} → (A → B) → Option (A × List Token) → Option (B × List Token)
carried h None = None
carried h (Some x) = Some (h x.0, x.1)

then_carried : {A B : Type 0} (h : A → B) (r : Option (A × List Token)) (s : Option (B × List Token)) (k : A × List Token → Option (A × List Token)) (l : B × List Token → Option (B × List Token)) → s ≡ carried h r → ((a : A) (rest : List Token) → l (h a, rest) ≡ carried h (k (a, rest))) → then s l ≡ carried h (then r k)
then_carried h None s k l e f = ap (λ r. then r l) e
then_carried h (Some x) s k l e f = ap (λ r. then r l) e ∙ f x.0 x.1

-- what goes on from one thing read, that is the same for both
same_carried : {P A B : Type 0} (h : A → B) (r : Option P) (k : P → Option (A × List Token)) (l : P → Option (B × List Token)) → ((x : P) → l x ≡ carried h (k x)) → then r l ≡ carried h (then r k)
same_carried h None k l f = refl
same_carried h (Some x) k l f = f x

goes_carried : {A B : Type 0} (h : A → B) (r : Option (List Token)) (p : Option (A × List Token)) (q : Option (B × List Token)) (k : List Token → Option (A × List Token)) (l : List Token → Option (B × List Token)) → q ≡ carried h p → ((rest : List Token) → l rest ≡ carried h (k rest)) → goes_on r l q ≡ carried h (goes_on r k p)
goes_carried h None p q k l e f = e
goes_carried h (Some rest) p q k l e f = f rest

bound_carried : {A B : Type 0} (v : Values A) (w : Values B) (h : A → B) → Carries v w h → (q : Quantifier) (xs : List RawVariable) (a : A) → bound_all w q xs (h a) ≡ h (bound_all v q xs a)
bound_carried v w h c q [] a = refl
bound_carried v w h c q (x ∷ xs) a = ap (w.of_bound q x) (bound_carried v w h c q xs a) ∙ c.bound q x (bound_all v q xs a)

not_joined : {A B : Type 0} (v : Values A) (w : Values B) (h : A → B) → Carries v w h → (k : Connective) (a b : A) → w.of_not (w.of_join k (h a) (h b)) ≡ h (v.of_not (v.of_join k a b))
not_joined v w h c k a b = ap w.of_not (c.joined k a b) ∙ c.negated (v.of_join k a b)

joins_carried : {A B : Type 0} (v : Values A) (w : Values B) (h : A → B) → Carries v w h → (s : Sign) (a b : A) → joins w s (h a) (h b) ≡ option_map h (joins v s a b)
joins_carried v w h c Implies a b = ap Some (c.joined Connective.implication a b)
joins_carried v w h c If a b = ap Some (c.joined Connective.implication b a)
joins_carried v w h c Iff a b = ap Some (c.joined Connective.equivalence a b)
joins_carried v w h c Xor a b = ap Some (not_joined v w h c Connective.equivalence a b)
joins_carried v w h c NotAnd a b = ap Some (not_joined v w h c Connective.conjunction a b)
joins_carried v w h c NotOr a b = ap Some (not_joined v w h c Connective.disjunction a b)
joins_carried v w h c s a b = refl

paired : {A B : Type 0} (h : A → B) (o : Option A) (rest : List Token) → ◌≡◌ {A = Option (B × List Token)} (then (option_map h o) (λ b. Some (b, rest))) (carried h (then o (λ b. Some (b, rest))))
paired h None rest = refl
paired h (Some a) rest = refl

chain_carried : {A B : Type 0} (h : A → B) (join : A → A → A) (joined : B → B → B) → ((a b : A) → joined (h a) (h b) ≡ h (join a b)) → (s : Sign) (unit : List Token → Option (A × List Token)) (other : List Token → Option (B × List Token)) → ((tokens : List Token) → other tokens ≡ carried h (unit tokens)) → (n : ℕ) (a : A) (tokens : List Token) → chain_in joined s other n (h a) tokens ≡ carried h (chain_in join s unit n a tokens)
chain_carried h join joined c s unit other e zero a tokens = refl
chain_carried h join joined c s unit other e (suc n) a tokens =
    goes_carried h (behind s tokens) (Some (a, tokens)) (Some (h a, tokens))
    (λ rest. then (unit rest) (λ x. chain_in join s unit n (join a x.0) x.1))
    (λ rest. then (other rest) (λ x. chain_in joined s other n (joined (h a) x.0) x.1))
    refl
    (λ rest. then_carried h (unit rest) (other rest) (λ x. chain_in join s unit n (join a x.0) x.1) (λ x. chain_in joined s other n (joined (h a) x.0) x.1) (e rest)
    (λ b more. ap (λ v. chain_in joined s other n v more) (c a b) ∙ chain_carried h join joined c s unit other e n (join a b) more))

right_carried : {A B : Type 0} (h : A → B) (make : RawTerm → A) (made : RawTerm → B) → ((u : RawTerm) → made u ≡ h (make u)) → (typed : Bool) (room : ℕ) (tokens : List Token) → right_in made typed room tokens ≡ carried h (right_in make typed room tokens)
right_carried h make made e typed room tokens = same_carried h (term_in typed room tokens) (λ x. Some (make x.0, x.1)) (λ x. Some (made x.0, x.1)) (λ x. ap (λ y. Some (y, x.1)) (e x.0))

compared_carried : {A B : Type 0} (v : Values A) (w : Values B) (h : A → B) → Carries v w h → (typed : Bool) (room : ℕ) (u : RawTerm) (tokens : List Token) → compared_in w typed room u tokens ≡ carried h (compared_in v typed room u tokens)
unfolding compared_in
compared_carried v w h c typed room u tokens =
    goes_carried h (behind Equal tokens)
    (goes_on (behind NotEqual tokens) (λ rest. right_in (λ t. v.of_not (v.of_equal u t)) typed room rest) (Some (v.of_plain u, tokens)))
    (goes_on (behind NotEqual tokens) (λ rest. right_in (λ t. w.of_not (w.of_equal u t)) typed room rest) (Some (w.of_plain u, tokens)))
    (λ rest. right_in (λ t. v.of_equal u t) typed room rest)
    (λ rest. right_in (λ t. w.of_equal u t) typed room rest)
    (goes_carried h (behind NotEqual tokens) (Some (v.of_plain u, tokens)) (Some (w.of_plain u, tokens))
    (λ rest. right_in (λ t. v.of_not (v.of_equal u t)) typed room rest)
    (λ rest. right_in (λ t. w.of_not (w.of_equal u t)) typed room rest)
    (ap (λ y. Some (y, tokens)) (c.plain u))
    (λ rest. right_carried h (λ t. v.of_not (v.of_equal u t)) (λ t. w.of_not (w.of_equal u t)) (λ t. ap w.of_not (c.equal u t) ∙ c.negated (v.of_equal u t)) typed room rest))
    (λ rest. right_carried h (λ t. v.of_equal u t) (λ t. w.of_equal u t) (c.equal u) typed room rest)

truth_carried : {A B : Type 0} (v : Values A) (w : Values B) (h : A → B) → Carries v w h → (b : Bool) → truth_of w b ≡ h (truth_of v b)
truth_carried v w h c true = c.truth
truth_carried v w h c false = c.falsity

by_carried : {A B : Type 0} (v : Values A) (w : Values B) (h : A → B) → Carries v w h → (typed : Bool) (room : ℕ) (tokens : List Token) (t : Option (Bool × List Token)) → atom_by w typed room tokens t ≡ carried h (atom_by v typed room tokens t)
by_carried v w h c typed room tokens (Some x) = ap (λ y. Some (y, x.1)) (truth_carried v w h c x.0)
by_carried v w h c typed room tokens None =
    same_carried h (term_in typed room tokens) (λ x. compared_in v typed room x.0 x.1) (λ x. compared_in w typed room x.0 x.1) (λ x. compared_carried v w h c typed room x.0 x.1)

atom_carried : {A B : Type 0} (v : Values A) (w : Values B) (h : A → B) → Carries v w h → (typed : Bool) (room : ℕ) (tokens : List Token) → atom_in w typed room tokens ≡ carried h (atom_in v typed room tokens)
unfolding atom_in
atom_carried v w h c typed room tokens = by_carried v w h c typed room tokens (truth_in tokens)

joined_carried : {A B : Type 0} (v : Values A) (w : Values B) (h : A → B) → Carries v w h → (unit : List Token → Option (A × List Token)) (other : List Token → Option (B × List Token)) → ((tokens : List Token) → other tokens ≡ carried h (unit tokens)) → (s : Sign) (a : A) (tokens : List Token) → joined_in w other s (h a) tokens ≡ carried h (joined_in v unit s a tokens)
joined_carried v w h c unit other e s a tokens =
    same_carried h (behind s tokens) (λ rest. then (unit rest) (λ x. then (joins v s a x.0) (λ b. Some (b, x.1)))) (λ rest. then (other rest) (λ x. then (joins w s (h a) x.0) (λ b. Some (b, x.1))))
    (λ rest. then_carried h (unit rest) (other rest) (λ x. then (joins v s a x.0) (λ b. Some (b, x.1))) (λ x. then (joins w s (h a) x.0) (λ b. Some (b, x.1))) (e rest)
    (λ b more. ap (λ o. then o (λ y. Some (y, more))) (joins_carried v w h c s a b) ∙ paired h (joins v s a b) more))

completed_carried : {A B : Type 0} (v : Values A) (w : Values B) (h : A → B) → Carries v w h → (unit : List Token → Option (A × List Token)) (other : List Token → Option (B × List Token)) → ((tokens : List Token) → other tokens ≡ carried h (unit tokens)) → (a : A) (tokens : List Token) (f : Follow) → completed_by w other (h a) tokens f ≡ carried h (completed_by v unit a tokens f)
completed_carried v w h c unit other e a tokens follows.Conjunction = chain_carried h (v.of_join Connective.conjunction) (w.of_join Connective.conjunction) (c.joined Connective.conjunction) And unit other e (length tokens) a tokens
completed_carried v w h c unit other e a tokens follows.Disjunction = chain_carried h (v.of_join Connective.disjunction) (w.of_join Connective.disjunction) (c.joined Connective.disjunction) Or unit other e (length tokens) a tokens
completed_carried v w h c unit other e a tokens (follows.Two s) = joined_carried v w h c unit other e s a tokens
completed_carried v w h c unit other e a tokens follows.Nothing = refl

by_formula : {A B : Type 0} (v : Values A) (w : Values B) (h : A → B) → Carries v w h → (unit : List Token → Option (A × List Token)) (other : List Token → Option (B × List Token)) → ((tokens : List Token) → other tokens ≡ carried h (unit tokens)) → (tokens : List Token) → formula_by w other tokens ≡ carried h (formula_by v unit tokens)
unfolding formula_by
by_formula v w h c unit other e tokens =
    then_carried h (unit tokens) (other tokens) (λ x. completed_in v unit x.0 x.1) (λ x. completed_in w other x.0 x.1) (e tokens) (λ a rest. completed_carried v w h c unit other e a rest (follow_of (first_sign rest)))

closed_carried : {A B : Type 0} (h : A → B) (a : A) (r : Option (List Token)) → ◌≡◌ {A = Option (B × List Token)} (then r (λ rest. Some (h a, rest))) (carried h (then r (λ rest. Some (a, rest))))
closed_carried h a None = refl
closed_carried h a (Some rest) = refl

head_carried : {A B : Type 0} (v : Values A) (w : Values B) (h : A → B) → Carries v w h → (unit : List Token → Option (A × List Token)) (other : List Token → Option (B × List Token)) → ((tokens : List Token) → other tokens ≡ carried h (unit tokens)) → (typed : Bool) (room : ℕ) (tokens : List Token) (head : Head) → unit_by w typed room (atom_in w typed (suc room)) other tokens head ≡ carried h (unit_by v typed room (atom_in v typed (suc room)) unit tokens head)
head_carried v w h c unit other e typed room tokens heads.Negation =
    same_carried h (behind Not tokens) (λ rest. then (unit rest) (λ x. Some (v.of_not x.0, x.1))) (λ rest. then (other rest) (λ x. Some (w.of_not x.0, x.1)))
    (λ rest. then_carried h (unit rest) (other rest) (λ x. Some (v.of_not x.0, x.1)) (λ x. Some (w.of_not x.0, x.1)) (e rest) (λ a more. ap (λ y. Some (y, more)) (c.negated a)))
head_carried v w h c unit other e typed room tokens (heads.Quantified b) =
    same_carried h (prefix_in typed room (binder_sign b) tokens)
    (λ x. then (unit x.1) (λ y. Some (bound_all v (binder_quantifier b) x.0 y.0, y.1)))
    (λ x. then (other x.1) (λ y. Some (bound_all w (binder_quantifier b) x.0 y.0, y.1)))
    (λ x. then_carried h (unit x.1) (other x.1) (λ y. Some (bound_all v (binder_quantifier b) x.0 y.0, y.1)) (λ y. Some (bound_all w (binder_quantifier b) x.0 y.0, y.1)) (e x.1)
    (λ a more. ap (λ y. Some (y, more)) (bound_carried v w h c (binder_quantifier b) x.0 a)))
head_carried v w h c unit other e typed room tokens heads.Bracket =
    same_carried h (behind Open tokens)
    (λ inside. then (formula_by v unit inside) (λ x. then (behind Close x.1) (λ rest. Some (x.0, rest))))
    (λ inside. then (formula_by w other inside) (λ x. then (behind Close x.1) (λ rest. Some (x.0, rest))))
    (λ inside. then_carried h (formula_by v unit inside) (formula_by w other inside) (λ x. then (behind Close x.1) (λ rest. Some (x.0, rest))) (λ x. then (behind Close x.1) (λ rest. Some (x.0, rest))) (by_formula v w h c unit other e inside)
    (λ a closing. closed_carried h a (behind Close closing)))
head_carried v w h c unit other e typed room tokens heads.Other = atom_carried v w h c typed (suc room) tokens

unit_carried : {A B : Type 0} (v : Values A) (w : Values B) (h : A → B) → Carries v w h → (typed : Bool) (room : ℕ) (tokens : List Token) → unit_in w typed room tokens ≡ carried h (unit_in v typed room tokens)
unfolding unit_in
unit_carried v w h c typed zero tokens = atom_carried v w h c typed 0 tokens
unit_carried v w h c typed (suc room) tokens =
    head_carried v w h c (unit_in v typed room) (unit_in w typed room) (λ ts. unit_carried v w h c typed room ts) typed room tokens (head_of (first_sign tokens))

one_deeper : (beside m limit : ℕ) → nat_le m limit ≡ false → nat_le (1 + max beside m) limit ≡ false
one_deeper beside m limit h = grind (arith, nat_tests)

left_deeper : (m n limit : ℕ) → nat_le m limit ≡ false → nat_le (1 + max m n) limit ≡ false
left_deeper m n limit h = grind (arith, nat_tests)

-- what is kept of a formula with one part rests on what was kept inside
keeps_one : (limit : ℕ) (make : RawForm → RawForm) (beside : ℕ) (f : RawForm) (m : ℕ) (b : Bool) → nat_le m limit ≡ b → kept_one limit make beside (cond b (whole f m) too_deep) ≡ kept_at limit (make f) (1 + max beside m)
keeps_one limit make beside f m true e = refl
keeps_one limit make beside f m false e = sym (ap (λ t. cond t (whole (make f) (1 + max beside m)) too_deep) (one_deeper beside m limit e))

keeps_two : (limit : ℕ) (make : RawForm → RawForm → RawForm) (f g : RawForm) (m n : ℕ) (b c : Bool) → nat_le m limit ≡ b → nat_le n limit ≡ c → kept_two limit make (cond b (whole f m) too_deep) (cond c (whole g n) too_deep) ≡ kept_at limit (make f g) (1 + max m n)
keeps_two limit make f g m n true true p q = refl
keeps_two limit make f g m n true false p q = sym (ap (λ t. cond t (whole (make f g) (1 + max m n)) too_deep) (one_deeper m n limit q))
keeps_two limit make f g m n false c p q = sym (ap (λ t. cond t (whole (make f g) (1 + max m n)) too_deep) (left_deeper m n limit p))

nothing_beside : (m : ℕ) → 1 + max 0 m ≡ 1 + m
nothing_beside m = omega arith

kept_all : (limit : ℕ) → Carries forms (keeps limit) (kept limit)
kept_all limit = record {
  truth = refl;
  falsity = refl;
  plain = λ u. refl;
  equal = λ t u. refl;
  negated = λ f. keeps_one limit RawForm.negation 0 f (raw_depth f) (nat_le (raw_depth f) limit) refl ∙ ap (kept_at limit (RawForm.negation f)) (nothing_beside (raw_depth f));
  joined = λ c f g. keeps_two limit (RawForm.binary c) f g (raw_depth f) (raw_depth g) (nat_le (raw_depth f) limit) (nat_le (raw_depth g) limit) refl refl;
  bound = λ q x f. keeps_one limit (RawForm.quantified q x) (written_depth x.type) f (raw_depth f) (nat_le (raw_depth f) limit) refl;
}

-- A reader that keeps no formula deeper than the limit reads what the reader of formulas reads.
pub kept_formula : (limit : ℕ) (typed : Bool) (room : ℕ) (tokens : List Token) → formula_in (keeps limit) typed room tokens ≡ carried (kept limit) (formula_in forms typed room tokens)
kept_formula limit typed room tokens =
    by_formula forms (keeps limit) (kept limit) (kept_all limit) (unit_in forms typed room) (unit_in (keeps limit) typed room) (λ ts. unit_carried forms (keeps limit) (kept limit) (kept_all limit) typed room ts) tokens
