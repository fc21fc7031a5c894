-- The sequent calculus modulo rewriting, one-sided: a sequent is a set of formulas that are refuted together.
-- Each rule keeps its sequent and adds formulas to it, so a list stands for the set of its members. Read a rule from
-- its last line up: the sequent has a derivation where the sequents before it have one.
use Rattle.std.specs.Prelude.{ℕ, ◌≡◌, List, [], ◌∷◌, Some}
use Rattle.std.specs.List.{Contains}
use Rattle.zm_logic.specs.Tree.{Ty, Tys, Term, Terms, Form, Rule, Symbol, both, either, implies, iff, for_all, exists, for_all_types, exists_types, differ}
use Rattle.zm_logic.specs.Opening.{at_term, at_type}
use Rattle.zm_logic.specs.Parameter.{IsFreshForAll}
use Rattle.zm_logic.specs.Typing.{IsType, HasType, HaveTypes, symbol_at, argument_types}
use Rattle.zm_logic.specs.Rewriting.{Congruent}

-- arguments differ at some place: one inequation for each type and its two terms
abbrev pub differ_each : Tys → Terms → Terms → List Form
differ_each (Tys.more t ts) (Terms.more a us) (Terms.more b vs) = differ t a b ∷ differ_each ts us vs
differ_each _ _ _ = []

module _ (symbols : List Symbol) (rules : List Rule) where
  mutual
    -- the sequent has a derivation
    pub data Derives : List Form → Type 0 where
      falsity : {gamma : List Form} → Contains gamma Form.falsity → Derives gamma
      not_truth : {gamma : List Form} → Contains gamma (Form.negation Form.truth) → Derives gamma
      closes : {gamma : List Form} (a : Form) → Contains gamma a → Contains gamma (Form.negation a) → Derives gamma
      reflexive : {gamma : List Form} (t : Ty) (a : Term) → Contains gamma (differ t a a) → Derives gamma
      symmetric : {gamma : List Form} (t : Ty) (a b : Term) → Contains gamma (Form.equal t a b) → Contains gamma (differ t b a)
          → Derives gamma
      not_not : {gamma : List Form} (a : Form) → Contains gamma (Form.negation (Form.negation a))
          → Derives (a ∷ gamma) → Derives gamma
      conjunction : {gamma : List Form} (a b : Form) → Contains gamma (both a b)
          → Derives (a ∷ b ∷ gamma) → Derives gamma
      not_or : {gamma : List Form} (a b : Form) → Contains gamma (Form.negation (either a b))
          → Derives (Form.negation a ∷ Form.negation b ∷ gamma) → Derives gamma
      not_implies : {gamma : List Form} (a b : Form) → Contains gamma (Form.negation (implies a b))
          → Derives (a ∷ Form.negation b ∷ gamma) → Derives gamma
      disjunction : {gamma : List Form} (a b : Form) → Contains gamma (either a b)
          → Derives (a ∷ gamma) → Derives (b ∷ gamma) → Derives gamma
      not_and : {gamma : List Form} (a b : Form) → Contains gamma (Form.negation (both a b))
          → Derives (Form.negation a ∷ gamma) → Derives (Form.negation b ∷ gamma)
          → Derives gamma
      implication : {gamma : List Form} (a b : Form) → Contains gamma (implies a b)
          → Derives (Form.negation a ∷ gamma) → Derives (b ∷ gamma) → Derives gamma
      equivalence : {gamma : List Form} (a b : Form) → Contains gamma (iff a b)
          → Derives (a ∷ b ∷ gamma) → Derives (Form.negation a ∷ Form.negation b ∷ gamma)
          → Derives gamma
      not_iff : {gamma : List Form} (a b : Form) → Contains gamma (Form.negation (iff a b))
          → Derives (a ∷ Form.negation b ∷ gamma) → Derives (Form.negation a ∷ b ∷ gamma)
          → Derives gamma
      -- an epsilon term of the binder's type, or a type parameter, whose number is fresh for the sequent
      existential : {gamma : List Form} (t : Ty) (f : Form) (n : ℕ) → Contains gamma (exists t f) → IsFreshForAll n gamma
          → Derives (at_term f (Term.eps n t) ∷ gamma) → Derives gamma
      not_for_all : {gamma : List Form} (t : Ty) (f : Form) (n : ℕ) → Contains gamma (Form.negation (for_all t f))
          → IsFreshForAll n gamma → Derives (Form.negation (at_term f (Term.eps n t)) ∷ gamma)
          → Derives gamma
      existential_types : {gamma : List Form} (f : Form) (n : ℕ) → Contains gamma (exists_types f) → IsFreshForAll n gamma
          → Derives (at_type f (Ty.param n) ∷ gamma) → Derives gamma
      not_for_all_types : {gamma : List Form} (f : Form) (n : ℕ) → Contains gamma (Form.negation (for_all_types f))
          → IsFreshForAll n gamma → Derives (Form.negation (at_type f (Ty.param n)) ∷ gamma)
          → Derives gamma
      -- a well typed term of the binder's type, or a type, over any parameters
      universal : {gamma : List Form} (t : Ty) (f : Form) (u : Term) → Contains gamma (for_all t f) → HasType symbols u t
          → Derives (at_term f u ∷ gamma) → Derives gamma
      not_exists : {gamma : List Form} (t : Ty) (f : Form) (u : Term) → Contains gamma (Form.negation (exists t f))
          → HasType symbols u t → Derives (Form.negation (at_term f u) ∷ gamma) → Derives gamma
      universal_types : {gamma : List Form} (f : Form) (t : Ty) → Contains gamma (for_all_types f) → IsType symbols 0 t
          → Derives (at_type f t ∷ gamma) → Derives gamma
      not_exists_types : {gamma : List Form} (f : Form) (t : Ty) → Contains gamma (Form.negation (exists_types f))
          → IsType symbols 0 t → Derives (Form.negation (at_type f t) ∷ gamma) → Derives gamma
      -- one upper sequent for each argument of the predicate, or of the function; both lists have the declared types
      equal_arguments : {gamma : List Form} (p : ℕ) (d : Symbol) (ts : Tys) (us vs : Terms) → symbol_at symbols p ≡ Some d
          → HaveTypes symbols us (argument_types d ts) → HaveTypes symbols vs (argument_types d ts)
          → Contains gamma (Form.atom p ts us) → Contains gamma (Form.negation (Form.atom p ts vs))
          → DerivesEach gamma (differ_each (argument_types d ts) us vs) → Derives gamma
      equal_values : {gamma : List Form} (t : Ty) (f : ℕ) (d : Symbol) (ts : Tys) (us vs : Terms) → symbol_at symbols f ≡ Some d
          → HaveTypes symbols us (argument_types d ts) → HaveTypes symbols vs (argument_types d ts)
          → Contains gamma (differ t (Term.app f ts us) (Term.app f ts vs))
          → DerivesEach gamma (differ_each (argument_types d ts) us vs) → Derives gamma
      transitive_first : {gamma : List Form} (t : Ty) (a b c d : Term) → Contains gamma (Form.equal t a b)
          → Contains gamma (differ t c d) → Derives (differ t c a ∷ gamma) → Derives (differ t b d ∷ gamma)
          → Derives gamma
      transitive_second : {gamma : List Form} (t : Ty) (a b c d : Term) → Contains gamma (Form.equal t a b)
          → Contains gamma (differ t c d) → Derives (differ t c b ∷ gamma) → Derives (differ t a d ∷ gamma)
          → Derives gamma
      conversion : {gamma : List Form} (f g : Form) → Contains gamma f → Congruent symbols rules f g
          → Derives (g ∷ gamma) → Derives gamma

    -- the sequent has a derivation with each of the formulas added to it
    pub data DerivesEach : List Form → List Form → Type 0 where
      none : {gamma : List Form} → DerivesEach gamma []
      more : {f : Form} {fs gamma : List Form} → Derives (f ∷ gamma) → DerivesEach gamma fs
          → DerivesEach gamma (f ∷ fs)
