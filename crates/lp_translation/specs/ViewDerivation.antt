-- What the code keeps of a derivation while it goes through it.
use Rattle.std.specs.Prelude.{ℕ, suc, ◌+◌, Bool, true, false, ◌≡◌, List, [], ◌∷◌, Option, Some}
use Rattle.lp_terms.specs.Term.{Lp}
use Rattle.zm_logic.specs.Tree.{Ty, Term, Form, Rule, Symbol, Opening}
use Rattle.lp_signature.specs.Translation.{Scope, form_of, term_of}
use Rattle.sequent_proof.specs.Rules.{RuleName, Applies}
use Rattle.sequent_proof.specs.Tree.{DTree, DTrees, IsDerivation, AreAbove}
use Rattle.lp_translation.specs.ProofOf.{Hypotheses, binds_before, entered, proofs}
use Rattle.lp_translation.specs.View.{plain_rule}

-- the tree is a derivation above some sequent, modulo some rules
abbrev pub IsPart : List Symbol → DTree → Type 0
IsPart ss t = (rules : List Rule) × ((below : List Form) × IsDerivation ss rules below t)

-- the trees are the upper sequents' of some rule
abbrev pub ArePart : List Symbol → DTrees → Type 0
ArePart ss ts =
    (rules : List Rule) × ((gamma : List Form) × ((upper : List (List Form)) × AreAbove ss rules gamma upper ts))

-- the rule applies to some sequent, and the trees are those of its upper sequents
abbrev pub IsNode : List Symbol → RuleName → Form → Option Form → Option Opening → DTrees → Type 0
IsNode ss name a b w ts =
    (rules : List Rule) × ((gamma : List Form) × ((upper : List (List Form))
    × (Applies ss rules gamma name a b w upper × AreAbove ss rules gamma upper ts)))

-- the node's term is that of a rule: it is no conversion of a child
abbrev pub IsPlain : DTree → Type 0
IsPlain (DTree.node g RuleName.conversion a (Some b) w (DTrees.more t ts)) = ⊥
IsPlain (DTree.node g name a b w ts) = Unit {0}

-- the node is the conversion of f to g, below the child
abbrev pub Converts : DTree → Form → Form → DTree → Type 0
Converts t f g child =
    (fs : List Form) × ((w : Option Opening) × ((ts : DTrees) × (t ≡ DTree.node fs RuleName.conversion f (Some g) w (DTrees.more child ts))))

-- how many children a rule has at least
abbrev pub least_children : RuleName → ℕ
least_children RuleName.not_not = 1
least_children RuleName.conjunction = 1
least_children RuleName.not_or = 1
least_children RuleName.not_implies = 1
least_children RuleName.disjunction = 2
least_children RuleName.not_and = 2
least_children RuleName.implication = 2
least_children RuleName.equivalence = 2
least_children RuleName.not_iff = 2
least_children RuleName.existential = 1
least_children RuleName.not_for_all = 1
least_children RuleName.universal = 1
least_children RuleName.not_exists = 1
least_children RuleName.transitive_first = 2
least_children RuleName.transitive_second = 2
least_children _ = 0

abbrev pub tree_count : DTrees → ℕ
tree_count DTrees.none = 0
tree_count (DTrees.more t ts) = suc (tree_count ts)

-- the rule is a conversion
abbrev pub is_conversion : RuleName → Bool
is_conversion RuleName.conversion = true
is_conversion _ = false

-- the second child of a negated equivalence binds its formulas the other way round
abbrev pub is_not_iff : RuleName → Bool
is_not_iff RuleName.not_iff = true
is_not_iff _ = false

abbrev pub turned : ℕ → List Form → List Form
turned (suc k) (f ∷ g ∷ []) = g ∷ f ∷ []
turned _ fs = fs

-- the rule brings a parameter
abbrev pub brings_parameter : RuleName → Bool
brings_parameter RuleName.existential = true
brings_parameter RuleName.not_for_all = true
brings_parameter _ = false

-- the scope with the parameter that the variable d stands for
abbrev pub with_parameter : Option Opening → ℕ → Scope → Scope
with_parameter (Some (Opening.of_term (Term.eps n t))) d s = Scope.of_term n t d s
with_parameter (Some (Opening.of_type (Ty.param n))) d s = Scope.of_type n d s
with_parameter _ d s = s

module _ (symbols : List Symbol) where
  -- the terms of the children from child k on
  abbrev pub plain_proofs : RuleName → ℕ → ℕ → Scope → Hypotheses → DTrees → List Lp
  plain_proofs name k d s hs ts = proofs symbols (form_of symbols) (term_of symbols) name k d s hs ts

  -- the term of a node by its rule
  abbrev pub node_term : ℕ → Scope → Hypotheses → DTree → Lp
  node_term d s hs (DTree.node g name a b w ts) =
      plain_rule symbols d s hs name a b w (plain_proofs name 0 (binds_before name + d) (entered name w d s) hs ts)
