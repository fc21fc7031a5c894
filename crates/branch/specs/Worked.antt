-- Worked examples: closed tableaux with no rules, for any limit on rewrites, pruned or not. Each statement is the contract
-- of a function of the module laws.
use Rattle.std.specs.Prelude.{ℕ, codes, ◌≡◌, Bool, true, false, List, [], ◌∷◌}
use Rattle.zm_logic.specs.Tree.{Ty, Tys, Term, Terms, Form, Opening, Symbol, Sense, for_all, exists, for_all_types, both, either, differ}
use Rattle.zm_logic.specs.Laws.{p_and_q, p_to_q}
use Rattle.zm_logic.specs.Typing.{individual}
use Rattle.param_store.specs.RawOffers.{Act, on, on_with, one, two}
use Rattle.equality_rules.specs.Equality.{on_pair}
use Rattle.branch.specs.Branch.{pair_of}
use Rattle.branch.specs.Setting.{Setting}
use Rattle.branch.specs.Normal.{Fault, Made, Normalizes, Reaches}
use Rattle.branch.specs.BranchOffers.{Kind}
use Rattle.branch.specs.Tableau.{Node, Children, IsTableau, is_finished, picks}

abbrev pub plain : List Symbol → ℕ → Bool → Setting
plain symbols n v = record { symbols = symbols; rules = []; rewrites = n; prunes = v }

-- a Step with one child, which has one formula
abbrev pub single : Kind → Act → Form → Node → Node
single k a f n = Node.step 0 k a (Children.more (one f) (one f) n Children.none)

-- the tree is a closed tableau below the branch, with so many Steps, each of which takes the first offer
pub record IsClosedBy (s : Setting) (branch : List Form) (tree : Node) (run : List ℕ) : Type 0 where
  pub tableau : IsTableau s branch tree
  pub finished : is_finished tree ≡ true
  pub picked : picks tree ≡ run

-- a predicate of one individual, two constants, and a predicate of a type
abbrev pub unary : Symbol
unary = record { name = codes "p"; types = 0; arguments = Tys.more individual Tys.none; sense = Sense.predicate }

abbrev pub constant : Symbol
constant = record { name = codes "a"; types = 0; arguments = Tys.none; sense = Sense.function individual }

abbrev pub type_predicate : Symbol
type_predicate = record { name = codes "q"; types = 1; arguments = Tys.none; sense = Sense.predicate }

abbrev pub p : Term → Form
p u = Form.atom 1 Tys.none (Terms.more u Terms.none)

-- ? [X] : p(X)  and  ! [X] : ~p(X)  are refuted by p(e0), ~p(m1) and the instance ~p(e0)
abbrev pub some_p : Form
some_p = exists individual (p (Term.bound 0))

abbrev pub no_p : Form
no_p = for_all individual (Form.negation (p (Term.bound 0)))

abbrev pub e0 : Term
e0 = Term.eps 0 individual

abbrev pub m1 : Term
m1 = Term.meta 1 individual

abbrev pub terms_tree : Node
terms_tree =
    single Kind.delta (on_with some_p (Opening.of_term e0)) (p e0)
    (single Kind.gamma (on_with no_p (Opening.of_term m1)) (Form.negation (p m1))
    (single Kind.instance (on_with no_p (Opening.of_term e0)) (Form.negation (p e0))
    (Node.closed (pair_of (p e0) (Form.negation (p e0)) false))))

abbrev pub InstanceOverTerms : Type 0
InstanceOverTerms =
    (n : ℕ) (v : Bool) → IsClosedBy (plain (unary ∷ []) n v) (some_p ∷ no_p ∷ []) terms_tree (0 ∷ 0 ∷ 0 ∷ [])

-- ! [A: $tType] : q(A)  and  ~q($i)  are refuted by q(A0) and the instance q($i)
abbrev pub q : Ty → Form
q t = Form.atom 1 (Tys.more t Tys.none) Terms.none

abbrev pub all_q : Form
all_q = for_all_types (q (Ty.bound 0))

abbrev pub not_q : Form
not_q = Form.negation (q individual)

abbrev pub types_tree : Node
types_tree =
    single Kind.gamma (on_with all_q (Opening.of_type (Ty.meta 0))) (q (Ty.meta 0))
    (single Kind.instance (on_with all_q (Opening.of_type individual)) (q individual)
    (Node.closed (pair_of (q individual) not_q false)))

abbrev pub InstanceOverTypes : Type 0
InstanceOverTypes =
    (n : ℕ) (v : Bool) → IsClosedBy (plain (type_predicate ∷ []) n v) (all_q ∷ not_q ∷ []) types_tree (0 ∷ 0 ∷ [])

-- p(a), a = b  and  ~p(b)  are refuted by ~(a = b)
abbrev pub a : Term
a = Term.app 2 Tys.none Terms.none

abbrev pub b : Term
b = Term.app 3 Tys.none Terms.none

abbrev pub a_is_b : Form
a_is_b = Form.equal individual a b

abbrev pub equal_tree : Node
equal_tree =
    single Kind.equality (on_pair (p a) (p b) false) (differ individual a b)
    (Node.closed (pair_of a_is_b (differ individual a b) false))

abbrev pub EqualArguments : Type 0
EqualArguments =
    (n : ℕ) (v : Bool)
    → IsClosedBy (plain (unary ∷ constant ∷ record constant { name = codes "b" } ∷ []) n v)
    (p a ∷ a_is_b ∷ Form.negation (p b) ∷ []) equal_tree (0 ∷ [])

-- r | t  and  u & ~u: the branch of r is closed by the conjunction, which needs no r, so that of t is skipped
abbrev pub letter : ℕ → Form
letter n = Form.atom n Tys.none Terms.none

abbrev pub letters : List Symbol
letters =
    record unary { name = codes "r"; arguments = Tys.none } ∷ record unary { name = codes "t"; arguments = Tys.none }
    ∷ record unary { name = codes "u"; arguments = Tys.none } ∷ []

abbrev pub r_or_t : Form
r_or_t = either (letter 1) (letter 2)

abbrev pub not_u : Form
not_u = Form.negation (letter 3)

abbrev pub u_and_not_u : Form
u_and_not_u = both (letter 3) not_u

abbrev pub pruned_tree : Node
pruned_tree =
    Node.step 0 Kind.beta (on r_or_t)
    (Children.more (one (letter 1)) (one (letter 1))
    (Node.step 0 Kind.alpha (on u_and_not_u)
    (Children.more (two (letter 3) not_u) (two (letter 3) not_u) (Node.closed (pair_of (letter 3) not_u false)) Children.none))
    (Children.more (one (letter 2)) (one (letter 2)) Node.skipped Children.none))

abbrev pub SkippedSibling : Type 0
SkippedSibling =
    (n : ℕ) → IsClosedBy (plain letters n true) (r_or_t ∷ u_and_not_u ∷ []) pruned_tree (0 ∷ 0 ∷ [])

-- by the rule  p --> q  the formula  ~p  has the normal form  ~q, if one step may be made, and else none
abbrev pub rewriting : ℕ → Setting
rewriting n = record { symbols = p_and_q; rules = p_to_q; rewrites = n; prunes = true }

abbrev pub NormalInOneStep : Type 0
NormalInOneStep = Reaches (rewriting 1) (Form.negation (letter 1)) (Form.negation (letter 2))

abbrev pub SpentAtTheLimit : Type 0
SpentAtTheLimit = Normalizes (rewriting 0) (Form.negation (letter 1)) (Made.fault (Fault.rewrites (Form.negation (letter 1))))
