-- What one formula offers beyond its rule, and what an earlier and a later formula of a branch offer together.
use Rattle.std.specs.Prelude.{◌≡◌, ◌≢◌, Bool, true, false, ◌&&◌, ◌||◌, cond, List, [], ◌++◌, Option, None, Some}
use Rattle.zm_logic.specs.Tree.{Ty, Term, Form, Symbol, differ}
use Rattle.param_store.specs.RawOffers.{Raw}
use Rattle.unify.specs.Binding.{Binding}
use Rattle.unify.specs.Substitution.{Substitution, put_term, put_form}
use Rattle.unify.specs.Unification.{UnifiesTerms, UnifiesForms}
use Rattle.equality_rules.specs.Instances.{InstancesOf}
use Rattle.equality_rules.specs.Equality.{value_steps, pair_steps}

-- A formula and a negated one: what stands unnegated, what is negated, and both in the order of the branch.
pub record Opposites : Type 0 where
  pub plain : Form
  pub denied : Form
  pub left : Form
  pub right : Form

abbrev pub is_atom : Form → Bool
is_atom Form.truth = false
is_atom Form.falsity = false
is_atom (Form.atom p ts us) = true
is_atom (Form.equal t a b) = false
is_atom (Form.negation f) = false
is_atom (Form.binary c f g) = false
is_atom (Form.quantified q t f) = false
is_atom (Form.quantified_types q f) = false

abbrev pub is_equality : Form → Bool
is_equality Form.truth = false
is_equality Form.falsity = false
is_equality (Form.atom p ts us) = false
is_equality (Form.equal t a b) = true
is_equality (Form.negation f) = false
is_equality (Form.binary c f g) = false
is_equality (Form.quantified q t f) = false
is_equality (Form.quantified_types q f) = false

-- both are atoms, or both are equalities
abbrev pub alike : Form → Form → Bool
alike f g = (is_atom f && is_atom g) || (is_equality f && is_equality g)

-- what a negation denies
abbrev pub denied_of : Form → Option Form
denied_of Form.truth = None
denied_of Form.falsity = None
denied_of (Form.atom p ts us) = None
denied_of (Form.equal t a b) = None
denied_of (Form.negation f) = Some f
denied_of (Form.binary c f g) = None
denied_of (Form.quantified q t f) = None
denied_of (Form.quantified_types q f) = None

-- an atom or an equality, and the negation of another one, either way round
abbrev pub opposites_by : Form → Form → Option Form → Option Form → Option Opposites
opposites_by earlier later None None = None
opposites_by earlier later None (Some b) = cond (alike earlier b) (Some (record { plain = earlier; denied = b; left = earlier; right = b })) None
opposites_by earlier later (Some b) None = cond (alike b later) (Some (record { plain = later; denied = b; left = b; right = later })) None
opposites_by earlier later (Some b) (Some c) = None

abbrev pub opposites : Form → Form → Option Opposites
opposites earlier later = opposites_by earlier later (denied_of earlier) (denied_of later)

-- the bindings that make the two one
abbrev pub Unifies : Opposites → List Binding → Type 0
Unifies o made = UnifiesForms o.left o.right made

-- no substitution makes the two one
abbrev pub FormsDiffer : Form → Form → Type 0
FormsDiffer f g = (a : Substitution) → put_form a f ≢ put_form a g

abbrev pub TermsDiffer : Term → Term → Type 0
TermsDiffer u v = (a : Substitution) → put_term a u ≢ put_term a v

module _ (symbols : List Symbol) (table : List Form) where
  -- the instances of two atoms, or of two equalities, and those of two terms
  abbrev pub FormInstances : Form → Form → List Raw → Type 0
  FormInstances f g = InstancesOf symbols table (UnifiesForms f g) (FormsDiffer f g)

  abbrev pub TermInstances : Term → Term → List Raw → Type 0
  TermInstances u v = InstancesOf symbols table (UnifiesTerms u v) (TermsDiffer u v)

module _ (symbols : List Symbol) (table : List Form) (equality : Bool) where
  -- The instances of the two, and then the steps of equality, which need an unnegated equality on the branch.
  pub data PairOffers (earlier later : Form) : List Raw → Type 0 where
    none : opposites earlier later ≡ None → PairOffers earlier later []
    opposed : (o : Opposites) (rs : List Raw) → opposites earlier later ≡ Some o → FormInstances symbols table o.left o.right rs
        → PairOffers earlier later (rs ++ cond equality (pair_steps symbols o.plain o.denied) [])

  -- Of a negated equality the instances of its two sides, and then the step of equality on their arguments.
  pub data SingleOffers : Form → List Raw → Type 0 where
    inequation : (t : Ty) (u v : Term) (rs : List Raw) → TermInstances symbols table u v rs
        → SingleOffers (differ t u v) (rs ++ cond equality (value_steps symbols (differ t u v) u v) [])
    other : {f : Form} → ((t : Ty) (u v : Term) → f ≢ differ t u v) → SingleOffers f []
