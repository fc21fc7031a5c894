-- The proof term of a derivation.
use Rattle.std.specs.Prelude.{ℕ, suc, ◌+◌, Bool, false, ◌||◌, cond, List, [], ◌∷◌, length, Option, Some, None}
use Rattle.lp_terms.specs.Term.{Lp}
use Rattle.zm_logic.specs.Tree.{Ty, Tys, Term, Terms, Form, Symbol, Opening}
use Rattle.zm_logic.specs.Same.{has}
use Rattle.zm_logic.specs.Opening.{at_term, at_type}
use Rattle.zm_logic.specs.Typing.{symbol_at, argument_types}
use Rattle.lp_signature.specs.Prelude.{types, term, eq_of}
use Rattle.lp_signature.specs.Names.{constant}
use Rattle.lp_signature.specs.Translation.{Scope, type_of, apply_types}
use Rattle.lp_signature.specs.ProofTerms.{nn}
use Rattle.lp_signature.specs.ProofTerms as by
use Rattle.sequent_proof.specs.Rules.{RuleName}
use Rattle.sequent_proof.specs.Tree.{DTree, DTrees, added}

-- What proves the formulas of a sequent, the last one first. One proof may stand for several formulas: a formula and
-- those that it was converted to.
pub data Hypotheses : Type 0 where
  none : Hypotheses
  more : (forms : List Form) (proof : Lp) (older : Hypotheses) → Hypotheses

-- whether some hypothesis proves the formula
abbrev pub proves : Hypotheses → Form → Bool
proves Hypotheses.none f = false
proves (Hypotheses.more fs h hs) f = has fs f || proves hs f

-- the oldest proof of the formula
abbrev pub earliest : Hypotheses → Form → Lp
earliest Hypotheses.none f = Lp.sort
earliest (Hypotheses.more fs h hs) f = cond (proves hs f) (earliest hs f) (cond (has fs f) h Lp.sort)

-- what proves f proves g too
abbrev pub also : Form → Form → Hypotheses → Hypotheses
also f g Hypotheses.none = Hypotheses.none
also f g (Hypotheses.more fs h hs) =
    cond (proves hs f) (Hypotheses.more fs h (also f g hs)) (cond (has fs f) (Hypotheses.more (g ∷ fs) h hs) (Hypotheses.more fs h hs))

-- the variables d, d + 1, .. prove the formulas in order
abbrev pub bound_by : ℕ → List Form → Hypotheses → Hypotheses
bound_by d [] hs = hs
bound_by d (f ∷ fs) hs = bound_by (suc d) fs (Hypotheses.more (f ∷ []) (Lp.free d) hs)

-- the scope above a rule: its parameter is the variable d, where it is one that stands for a variable
abbrev pub entered : RuleName → Option Opening → ℕ → Scope → Scope
entered RuleName.existential (Some (Opening.of_term (Term.eps n t))) d s = Scope.of_term n t d s
entered RuleName.not_for_all (Some (Opening.of_term (Term.eps n t))) d s = Scope.of_term n t d s
entered RuleName.existential (Some (Opening.of_type (Ty.param n))) d s = Scope.of_type n d s
entered RuleName.not_for_all (Some (Opening.of_type (Ty.param n))) d s = Scope.of_type n d s
entered _ _ d s = s

-- how many variables a rule's term binds before those of the formulas that its children add
abbrev pub binds_before : RuleName → ℕ
binds_before RuleName.not_and = 2
binds_before RuleName.equivalence = 2
binds_before RuleName.not_iff = 2
binds_before RuleName.existential = 1
binds_before RuleName.not_for_all = 1
binds_before _ = 0

-- the formulas that child k adds, the first child being 0, in the order in which the rule's term binds their variables
abbrev pub as_bound : RuleName → ℕ → List Form → List Form
as_bound RuleName.not_iff (suc k) (f ∷ g ∷ []) = g ∷ f ∷ []
as_bound _ _ fs = fs

-- the types of a symbol's term arguments, at types for its type arguments
abbrev pub types_of : Option Symbol → Tys → Tys
types_of (Some d) ts = argument_types d ts
types_of None ts = Tys.none

abbrev pub types_at : List Symbol → ℕ → Tys → Tys
types_at symbols f ts = types_of (symbol_at symbols f) ts

-- symbols are the problem's; write and write_term say how formulas and terms are written: translated, or with definitions
module _ (symbols : List Symbol) (write : Scope → Form → Lp) (write_term : Scope → Term → Lp) where
  -- an application to arguments, each of them written
  abbrev pub write_spine : Scope → Lp → Terms → Lp
  write_spine s f Terms.none = f
  write_spine s f (Terms.more u us) = write_spine s (Lp.app f (write_term s u)) us

  -- the type of terms of a type
  abbrev pub terms_of_type : Scope → Ty → Lp
  terms_of_type s t = term (type_of symbols s 0 t)

  -- h proves what wrap makes of f at arguments; this proves it with each argument replaced in turn, the children's terms
  -- being by contradiction from the inequations
  abbrev pub chain : ℕ → Scope → (Lp → Lp) → Lp → Lp → Tys → Terms → Terms → List Lp → Lp
  chain d s wrap f h (Tys.more t ts) (Terms.more a us) (Terms.more b vs) (r ∷ rs) =
      chain d s wrap (Lp.app f (write_term s b))
      (Lp.app (Lp.app (nn d (eq_of (type_of symbols s 0 t) (write_term s a) (write_term s b)) r)
      (Lp.abs (terms_of_type s t) (wrap (write_spine s (Lp.app f (Lp.index 0)) us)))) h)
      ts us vs rs
  chain d s wrap f h _ _ _ _ = h

  -- the term of a rule, from the terms of its children: d is the number of the next variable
  abbrev pub rule_term : ℕ → Scope → Hypotheses → RuleName → Form → Option Form → Option Opening → List Lp → Lp
  rule_term d s hs RuleName.falsity a b w rs = earliest hs a
  rule_term d s hs RuleName.not_truth a b w rs = by.not_true_term (earliest hs a)
  rule_term d s hs RuleName.closes a (Some k) w rs = by.axiom_term (earliest hs a) (earliest hs k)
  rule_term d s hs RuleName.reflexive (Form.negation (Form.equal t u v)) b w rs =
      by.refl_term (earliest hs (Form.negation (Form.equal t u v))) (type_of symbols s 0 t) (write_term s u)
  rule_term d s hs RuleName.symmetric (Form.equal t u v) (Some k) w rs =
      by.sym_term (earliest hs (Form.equal t u v)) (earliest hs k) (type_of symbols s 0 t) (write_term s u)
  rule_term d s hs RuleName.not_not (Form.negation (Form.negation f)) b w (r ∷ rs) =
      by.not_not_term d (earliest hs (Form.negation (Form.negation f))) (write s f) r
  rule_term d s hs RuleName.conjunction (Form.binary c f g) b w (r ∷ rs) =
      by.and_term d (earliest hs (Form.binary c f g)) (write s f) (write s g) r
  rule_term d s hs RuleName.not_or (Form.negation (Form.binary c f g)) b w (r ∷ rs) =
      by.not_or_term d (earliest hs (Form.negation (Form.binary c f g))) (write s f) (write s g) r
  rule_term d s hs RuleName.not_implies (Form.negation (Form.binary c f g)) b w (r ∷ rs) =
      by.not_imp_term d (earliest hs (Form.negation (Form.binary c f g))) (write s f) (write s g) r
  rule_term d s hs RuleName.disjunction (Form.binary c f g) b w (r ∷ q ∷ rs) =
      by.or_term d (earliest hs (Form.binary c f g)) (write s f) (write s g) r q
  rule_term d s hs RuleName.not_and (Form.negation (Form.binary c f g)) b w (r ∷ q ∷ rs) =
      by.not_and_term d (earliest hs (Form.negation (Form.binary c f g))) (write s f) (write s g) r q
  rule_term d s hs RuleName.implication (Form.binary c f g) b w (r ∷ q ∷ rs) =
      by.imp_term d (earliest hs (Form.binary c f g)) (write s f) (write s g) r q
  rule_term d s hs RuleName.equivalence (Form.binary c f g) b w (r ∷ q ∷ rs) =
      by.iff_term d (earliest hs (Form.binary c f g)) (write s f) (write s g) r q
  rule_term d s hs RuleName.not_iff (Form.negation (Form.binary c f g)) b w (r ∷ q ∷ rs) =
      by.not_iff_term d (earliest hs (Form.negation (Form.binary c f g))) (write s f) (write s g) r q
  rule_term d s hs RuleName.existential (Form.quantified q t f) b (Some (Opening.of_term u)) (r ∷ rs) =
      by.exists_term d (earliest hs (Form.quantified q t f)) (terms_of_type s t)
      (write (entered RuleName.existential (Some (Opening.of_term u)) d s) (at_term f u)) r
  rule_term d s hs RuleName.existential (Form.quantified_types q f) b (Some (Opening.of_type u)) (r ∷ rs) =
      by.exists_term d (earliest hs (Form.quantified_types q f)) types
      (write (entered RuleName.existential (Some (Opening.of_type u)) d s) (at_type f u)) r
  rule_term d s hs RuleName.not_for_all (Form.negation (Form.quantified q t f)) b (Some (Opening.of_term u)) (r ∷ rs) =
      by.not_forall_term d (earliest hs (Form.negation (Form.quantified q t f))) (terms_of_type s t)
      (write (entered RuleName.not_for_all (Some (Opening.of_term u)) d s) (at_term f u)) r
  rule_term d s hs RuleName.not_for_all (Form.negation (Form.quantified_types q f)) b (Some (Opening.of_type u)) (r ∷ rs) =
      by.not_forall_term d (earliest hs (Form.negation (Form.quantified_types q f))) types
      (write (entered RuleName.not_for_all (Some (Opening.of_type u)) d s) (at_type f u)) r
  rule_term d s hs RuleName.universal (Form.quantified q t f) b (Some (Opening.of_term u)) (r ∷ rs) =
      by.forall_term d (earliest hs (Form.quantified q t f)) (write_term s u) (write s (at_term f u)) r
  rule_term d s hs RuleName.universal (Form.quantified_types q f) b (Some (Opening.of_type u)) (r ∷ rs) =
      by.forall_term d (earliest hs (Form.quantified_types q f)) (type_of symbols s 0 u) (write s (at_type f u)) r
  rule_term d s hs RuleName.not_exists (Form.negation (Form.quantified q t f)) b (Some (Opening.of_term u)) (r ∷ rs) =
      by.not_exists_term d (earliest hs (Form.negation (Form.quantified q t f))) (terms_of_type s t) (write s f)
      (write_term s u) (write s (at_term f u)) r
  rule_term d s hs RuleName.not_exists (Form.negation (Form.quantified_types q f)) b (Some (Opening.of_type u)) (r ∷ rs) =
      by.not_exists_term d (earliest hs (Form.negation (Form.quantified_types q f))) types (write s f)
      (type_of symbols s 0 u) (write s (at_type f u)) r
  rule_term d s hs RuleName.equal_arguments (Form.atom p ts us) (Some (Form.negation (Form.atom q vs ws))) w rs =
      Lp.app (earliest hs (Form.negation (Form.atom q vs ws)))
      (chain d s (λ p. p) (apply_types symbols s 0 (Lp.const (constant symbols p)) ts) (earliest hs (Form.atom p ts us))
      (types_at symbols p ts) us ws rs)
  rule_term d s hs RuleName.equal_values (Form.negation (Form.equal t (Term.app f ts us) (Term.app g vs ws))) b w rs =
      Lp.app (earliest hs (Form.negation (Form.equal t (Term.app f ts us) (Term.app g vs ws))))
      (chain d s (eq_of (type_of symbols s 0 t) (write_term s (Term.app f ts us)))
      (apply_types symbols s 0 (Lp.const (constant symbols f)) ts)
      (by.reflexive (type_of symbols s 0 t) (write_term s (Term.app f ts us))) (types_at symbols f ts) us ws rs)
  rule_term d s hs RuleName.transitive_first (Form.equal t a b) (Some (Form.negation (Form.equal r u v))) w (x ∷ y ∷ rs) =
      by.trans_first_term d (earliest hs (Form.equal t a b)) (earliest hs (Form.negation (Form.equal r u v)))
      (type_of symbols s 0 t) (write_term s a) (write_term s b) (write_term s u) (write_term s v) x y
  rule_term d s hs RuleName.transitive_second (Form.equal t a b) (Some (Form.negation (Form.equal r u v))) w (x ∷ y ∷ rs) =
      by.trans_second_term d (earliest hs (Form.equal t a b)) (earliest hs (Form.negation (Form.equal r u v)))
      (type_of symbols s 0 t) (write_term s a) (write_term s b) (write_term s u) (write_term s v) x y
  rule_term d s hs _ _ _ _ _ = Lp.sort

  -- The term of a derivation above hypotheses, and those of a node's children. A conversion's formula has the proof of the
  -- formula that it comes from; any other new formula is proved by a variable.
  abbrev mutual
    pub proof : ℕ → Scope → Hypotheses → DTree → Lp
    proof d s hs (DTree.node g RuleName.conversion a (Some b) w (DTrees.more t ts)) = proof d s (also a b hs) t
    proof d s hs (DTree.node g name a b w ts) =
        rule_term d s hs name a b w (proofs name 0 (binds_before name + d) (entered name w d s) hs ts)

    -- from child k on, the next variable having the number d
    pub proofs : RuleName → ℕ → ℕ → Scope → Hypotheses → DTrees → List Lp
    proofs name k d s hs DTrees.none = []
    proofs name k d s hs (DTrees.more t ts) =
        proof (length (added t) + d) s (bound_by d (as_bound name k (added t)) hs) t ∷ proofs name (suc k) d s hs ts
