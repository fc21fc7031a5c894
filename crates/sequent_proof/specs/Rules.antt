-- The rules of the sequent calculus by name, each with what it acts on and what its upper sequents add.
use Rattle.std.specs.Prelude.{ℕ, suc, ◌≡◌, List, [], ◌∷◌, Option, Some, None, map}
use Rattle.std.specs.List.{Contains}
use Rattle.zm_logic.specs.Tree.{Ty, Tys, Term, Terms, Form, Rule, Symbol, Opening, both, either, implies, iff, for_all, exists, for_all_types, exists_types, differ}
use Rattle.zm_logic.specs.Opening.{at_term, at_type}
use Rattle.zm_logic.specs.Parameter.{IsFreshForAll}
use Rattle.zm_logic.specs.Typing.{IsType, HasType, HaveTypes, symbol_at, argument_types}
use Rattle.zm_logic.specs.Rewriting.{Congruent}
use Rattle.zm_logic.specs.Innermost.{Innermost}
use Rattle.zm_logic.specs.Calculus.{differ_each}

-- a rule; those of quantifiers stand for quantifiers over terms and over types
pub data RuleName : Type 0 where
  falsity : RuleName
  not_truth : RuleName
  closes : RuleName
  reflexive : RuleName
  symmetric : RuleName
  not_not : RuleName
  conjunction : RuleName
  not_or : RuleName
  not_implies : RuleName
  disjunction : RuleName
  not_and : RuleName
  implication : RuleName
  equivalence : RuleName
  not_iff : RuleName
  existential : RuleName
  not_for_all : RuleName
  universal : RuleName
  not_exists : RuleName
  equal_arguments : RuleName
  equal_values : RuleName
  transitive_first : RuleName
  transitive_second : RuleName
  conversion : RuleName

-- each formula as a list of its own
abbrev pub each_alone : List Form → List (List Form)
each_alone fs = map (λ f. f ∷ []) fs

module _ (symbols : List Symbol) (rules : List Rule) (gamma : List Form) where
  -- The rule applies to the sequent gamma: to a first formula and, where two are needed, a second one, which are in gamma,
  -- with the part that a quantifier's variable becomes. Each upper sequent adds one of the lists.
  pub data Applies : RuleName → Form → Option Form → Option Opening → List (List Form) → Type 0 where
    falsity : Contains gamma Form.falsity → Applies RuleName.falsity Form.falsity None None []
    not_truth : Contains gamma (Form.negation Form.truth)
        → Applies RuleName.not_truth (Form.negation Form.truth) None None []
    closes : (a : Form) → Contains gamma a → Contains gamma (Form.negation a)
        → Applies RuleName.closes a (Some (Form.negation a)) None []
    reflexive : (t : Ty) (a : Term) → Contains gamma (differ t a a) → Applies RuleName.reflexive (differ t a a) None None []
    symmetric : (t : Ty) (a b : Term) → Contains gamma (Form.equal t a b) → Contains gamma (differ t b a)
        → Applies RuleName.symmetric (Form.equal t a b) (Some (differ t b a)) None []
    not_not : (a : Form) → Contains gamma (Form.negation (Form.negation a))
        → Applies RuleName.not_not (Form.negation (Form.negation a)) None None ((a ∷ []) ∷ [])
    conjunction : (a b : Form) → Contains gamma (both a b)
        → Applies RuleName.conjunction (both a b) None None ((a ∷ b ∷ []) ∷ [])
    not_or : (a b : Form) → Contains gamma (Form.negation (either a b))
        → Applies RuleName.not_or (Form.negation (either a b)) None None ((Form.negation a ∷ Form.negation b ∷ []) ∷ [])
    not_implies : (a b : Form) → Contains gamma (Form.negation (implies a b))
        → Applies RuleName.not_implies (Form.negation (implies a b)) None None ((a ∷ Form.negation b ∷ []) ∷ [])
    disjunction : (a b : Form) → Contains gamma (either a b)
        → Applies RuleName.disjunction (either a b) None None ((a ∷ []) ∷ (b ∷ []) ∷ [])
    not_and : (a b : Form) → Contains gamma (Form.negation (both a b))
        → Applies RuleName.not_and (Form.negation (both a b)) None None ((Form.negation a ∷ []) ∷ (Form.negation b ∷ []) ∷ [])
    implication : (a b : Form) → Contains gamma (implies a b)
        → Applies RuleName.implication (implies a b) None None ((Form.negation a ∷ []) ∷ (b ∷ []) ∷ [])
    equivalence : (a b : Form) → Contains gamma (iff a b)
        → Applies RuleName.equivalence (iff a b) None None ((a ∷ b ∷ []) ∷ (Form.negation a ∷ Form.negation b ∷ []) ∷ [])
    not_iff : (a b : Form) → Contains gamma (Form.negation (iff a b))
        → Applies RuleName.not_iff (Form.negation (iff a b)) None None
        ((a ∷ Form.negation b ∷ []) ∷ (Form.negation a ∷ b ∷ []) ∷ [])
    -- an epsilon term of the binder's type, or a type parameter, whose number is fresh for the sequent
    existential : (t : Ty) (f : Form) (n : ℕ) → Contains gamma (exists t f) → IsFreshForAll n gamma
        → Applies RuleName.existential (exists t f) None (Some (Opening.of_term (Term.eps n t)))
        ((at_term f (Term.eps n t) ∷ []) ∷ [])
    not_for_all : (t : Ty) (f : Form) (n : ℕ) → Contains gamma (Form.negation (for_all t f)) → IsFreshForAll n gamma
        → Applies RuleName.not_for_all (Form.negation (for_all t f)) None (Some (Opening.of_term (Term.eps n t)))
        ((Form.negation (at_term f (Term.eps n t)) ∷ []) ∷ [])
    existential_types : (f : Form) (n : ℕ) → Contains gamma (exists_types f) → IsFreshForAll n gamma
        → Applies RuleName.existential (exists_types f) None (Some (Opening.of_type (Ty.param n)))
        ((at_type f (Ty.param n) ∷ []) ∷ [])
    not_for_all_types : (f : Form) (n : ℕ) → Contains gamma (Form.negation (for_all_types f)) → IsFreshForAll n gamma
        → Applies RuleName.not_for_all (Form.negation (for_all_types f)) None (Some (Opening.of_type (Ty.param n)))
        ((Form.negation (at_type f (Ty.param n)) ∷ []) ∷ [])
    -- a well typed term of the binder's type, or a type, over any parameters
    universal : (t : Ty) (f : Form) (u : Term) → Contains gamma (for_all t f) → HasType symbols u t
        → Applies RuleName.universal (for_all t f) None (Some (Opening.of_term u)) ((at_term f u ∷ []) ∷ [])
    not_exists : (t : Ty) (f : Form) (u : Term) → Contains gamma (Form.negation (exists t f)) → HasType symbols u t
        → Applies RuleName.not_exists (Form.negation (exists t f)) None (Some (Opening.of_term u))
        ((Form.negation (at_term f u) ∷ []) ∷ [])
    universal_types : (f : Form) (t : Ty) → Contains gamma (for_all_types f) → IsType symbols 0 t
        → Applies RuleName.universal (for_all_types f) None (Some (Opening.of_type t)) ((at_type f t ∷ []) ∷ [])
    not_exists_types : (f : Form) (t : Ty) → Contains gamma (Form.negation (exists_types f)) → IsType symbols 0 t
        → Applies RuleName.not_exists (Form.negation (exists_types f)) None (Some (Opening.of_type t))
        ((Form.negation (at_type f t) ∷ []) ∷ [])
    -- one upper sequent for each argument of the predicate, or of the function; both lists have the declared types
    equal_arguments : (p : ℕ) (d : Symbol) (ts : Tys) (us vs : Terms) → symbol_at symbols p ≡ Some d
        → HaveTypes symbols us (argument_types d ts) → HaveTypes symbols vs (argument_types d ts)
        → Contains gamma (Form.atom p ts us) → Contains gamma (Form.negation (Form.atom p ts vs))
        → Applies RuleName.equal_arguments (Form.atom p ts us) (Some (Form.negation (Form.atom p ts vs))) None
        (each_alone (differ_each (argument_types d ts) us vs))
    equal_values : (t : Ty) (f : ℕ) (d : Symbol) (ts : Tys) (us vs : Terms) → symbol_at symbols f ≡ Some d
        → HaveTypes symbols us (argument_types d ts) → HaveTypes symbols vs (argument_types d ts)
        → Contains gamma (differ t (Term.app f ts us) (Term.app f ts vs))
        → Applies RuleName.equal_values (differ t (Term.app f ts us) (Term.app f ts vs)) None None
        (each_alone (differ_each (argument_types d ts) us vs))
    transitive_first : (t : Ty) (a b c d : Term) → Contains gamma (Form.equal t a b) → Contains gamma (differ t c d)
        → Applies RuleName.transitive_first (Form.equal t a b) (Some (differ t c d)) None
        ((differ t c a ∷ []) ∷ (differ t b d ∷ []) ∷ [])
    transitive_second : (t : Ty) (a b c d : Term) → Contains gamma (Form.equal t a b) → Contains gamma (differ t c d)
        → Applies RuleName.transitive_second (Form.equal t a b) (Some (differ t c d)) None
        ((differ t c b ∷ []) ∷ (differ t a d ∷ []) ∷ [])
    -- the second formula is the normal form of the first, by one step or more
    conversion : (f g : Form) (n : ℕ) → Contains gamma f → Innermost rules f (suc n) g → Congruent symbols rules f g
        → Applies RuleName.conversion f (Some g) None ((g ∷ []) ∷ [])
