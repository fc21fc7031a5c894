-- The translation of types, terms and formulas into the lambda-Pi calculus. A parameter that a scope binds is a free
-- variable; any other one is read as some term of its type, or as the type of individuals.
use Rattle.std.specs.Prelude.{ℕ, zero, suc, ◌==◌, ◌&&◌, cond, List}
use Rattle.lp_terms.specs.Term.{Lp}
use Rattle.zm_logic.specs.Tree.{Ty, Tys, Term, Terms, Form, Connective, Quantifier, Symbol, Sense}
use Rattle.zm_logic.specs.Same.{same_type}
use Rattle.lp_signature.specs.Prelude.{prop, types, term, iota, any, truth, falsity, not_of, and_of, or_of, imp_of, iff_of, forall_of, exists_of, forall_type_of, exists_type_of, eq_of}
use Rattle.lp_signature.specs.Names.{constant}

-- the parameters that variables stand for, the last one first: type parameters by number, epsilon terms by number and type
pub data Scope : Type 0 where
  none : Scope
  of_type : (number variable : ℕ) (outer : Scope) → Scope
  of_term : (number : ℕ) (type : Ty) (variable : ℕ) (outer : Scope) → Scope

abbrev pub read_type : Scope → ℕ → Lp
read_type Scope.none n = iota
read_type (Scope.of_type m x s) n = cond (n == m) (Lp.free x) (read_type s n)
read_type (Scope.of_term m t x s) n = read_type s n

-- u where no variable stands for the epsilon term
abbrev pub read_term : Scope → ℕ → Ty → Lp → Lp
read_term Scope.none n t u = u
read_term (Scope.of_type m x s) n t u = read_term s n t u
read_term (Scope.of_term m r x s) n t u = cond ((n == m) && same_type t r) (Lp.free x) (read_term s n t u)

-- the index i under so many more binders
abbrev pub lift : ℕ → ℕ → ℕ
lift zero i = i
lift (suc k) i = suc (lift k i)

module _ (symbols : List Symbol) where
  -- a type, under so many binders that it doesn't count
  abbrev mutual
    pub type_of : Scope → ℕ → Ty → Lp
    type_of s under (Ty.bound i) = Lp.index (lift under i)
    type_of s under (Ty.param n) = read_type s n
    type_of s under (Ty.meta n) = iota
    type_of s under (Ty.con c ts) = apply_types s under (Lp.const (constant symbols c)) ts

    pub apply_types : Scope → ℕ → Lp → Tys → Lp
    apply_types s under f Tys.none = f
    apply_types s under f (Tys.more t ts) = apply_types s under (Lp.app f (type_of s under t)) ts

  abbrev mutual
    pub term_of : Scope → Term → Lp
    term_of s (Term.bound i) = Lp.index i
    term_of s (Term.eps n t) = read_term s n t (any (type_of s 0 t))
    term_of s (Term.meta n t) = any (type_of s 0 t)
    term_of s (Term.app f ts us) = apply_terms s (apply_types s 0 (Lp.const (constant symbols f)) ts) us

    pub apply_terms : Scope → Lp → Terms → Lp
    apply_terms s f Terms.none = f
    apply_terms s f (Terms.more u us) = apply_terms s (Lp.app f (term_of s u)) us

  abbrev pub binary_of : Connective → Lp → Lp → Lp
  binary_of Connective.conjunction p q = and_of p q
  binary_of Connective.disjunction p q = or_of p q
  binary_of Connective.implication p q = imp_of p q
  binary_of Connective.equivalence p q = iff_of p q

  -- over the terms of the type a, and over the types
  abbrev pub quantified_of : Quantifier → Lp → Lp → Lp
  quantified_of Quantifier.universal a f = forall_of a f
  quantified_of Quantifier.existential a f = exists_of a f

  abbrev pub quantified_types_of : Quantifier → Lp → Lp
  quantified_types_of Quantifier.universal f = forall_type_of f
  quantified_types_of Quantifier.existential f = exists_type_of f

  abbrev pub form_of : Scope → Form → Lp
  form_of s Form.truth = truth
  form_of s Form.falsity = falsity
  form_of s (Form.atom p ts us) = apply_terms s (apply_types s 0 (Lp.const (constant symbols p)) ts) us
  form_of s (Form.equal t a b) = eq_of (type_of s 0 t) (term_of s a) (term_of s b)
  form_of s (Form.negation f) = not_of (form_of s f)
  form_of s (Form.binary c f g) = binary_of c (form_of s f) (form_of s g)
  form_of s (Form.quantified q t f) = quantified_of q (type_of s 0 t) (Lp.abs (term (type_of s 0 t)) (form_of s f))
  form_of s (Form.quantified_types q f) = quantified_types_of q (Lp.abs types (form_of s f))

  -- what a symbol makes of its arguments, under so many arguments
  abbrev pub result_type : ℕ → Sense → Lp
  result_type under Sense.constructor = types
  result_type under Sense.predicate = prop
  result_type under (Sense.function r) = term (type_of Scope.none under r)

  -- from arguments of these types
  abbrev pub arrows : ℕ → Tys → Sense → Lp
  arrows under Tys.none r = result_type under r
  arrows under (Tys.more t ts) r = Lp.prod (term (type_of Scope.none under t)) (arrows (suc under) ts r)

  -- under so many products over the types
  abbrev pub over_types : ℕ → Lp → Lp
  over_types zero t = t
  over_types (suc k) t = Lp.prod types (over_types k t)

  -- the type of a symbol's constant: from its type arguments and its term arguments
  abbrev pub symbol_type : Symbol → Lp
  symbol_type d = over_types d.types (arrows 0 d.arguments d.sense)
