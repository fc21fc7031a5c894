-- The trees of the code's values.
use Rattle.std.specs.Prelude.{List, [], ◌∷◌, map}
use Rattle.zm_logic.specs.declared.tree.Ty.{Ty, fold-Ty}
use Rattle.zm_logic.specs.declared.tree.Term.{Term, fold-Term}
use Rattle.zm_logic.specs.declared.tree.Form.{Form, fold-Form}
use Rattle.zm_logic.specs.declared.tree.Ty.TheOpen as type_layer
use Rattle.zm_logic.specs.declared.tree.Term.TheOpen as term_layer
use Rattle.zm_logic.specs.declared.tree.Form.TheOpen as form_layer
use Rattle.zm_logic.specs.declared.problem.Sense.{Sense}
use Rattle.zm_logic.specs.declared.problem.Sense.TheVariants as senses
use Rattle.zm_logic.specs.declared.problem.Symbol.{Symbol}
use Rattle.zm_logic.specs.declared.problem.Role.{Role}
use Rattle.zm_logic.specs.declared.problem.Role.TheVariants as roles
use Rattle.zm_logic.specs.declared.problem.Premise.{Premise}
use Rattle.zm_logic.specs.declared.problem.Problem.{Problem}
use Rattle.zm_logic.specs.declared.opening.Opening.{Opening}
use Rattle.zm_logic.specs.declared.opening.Opening.TheVariants as openings
use Rattle.zm_logic.specs.declared.rule.Binder.{Binder}
use Rattle.zm_logic.specs.declared.rule.Binder.TheVariants as binders
use Rattle.zm_logic.specs.declared.rule.Side.{Side}
use Rattle.zm_logic.specs.declared.rule.Side.TheVariants as sides
use Rattle.zm_logic.specs.declared.rule.Rule.{Rule}
use Rattle.zm_logic.specs.Tree as tree

-- a list of types, and of terms, as trees have it
abbrev pub types_of : List tree.Ty → tree.Tys
types_of [] = tree.Tys.none
types_of (t ∷ ts) = tree.Tys.more t (types_of ts)

abbrev pub terms_of : List tree.Term → tree.Terms
terms_of [] = tree.Terms.none
terms_of (u ∷ us) = tree.Terms.more u (terms_of us)

abbrev pub step_of_type : type_layer.Ty-F tree.Ty → tree.Ty
step_of_type (type_layer.Bound i) = tree.Ty.bound i
step_of_type (type_layer.Param n) = tree.Ty.param n
step_of_type (type_layer.Meta n) = tree.Ty.meta n
step_of_type (type_layer.Con c ts) = tree.Ty.con c.0 (types_of ts)

-- the tree of a type
abbrev pub type_tree : Ty → tree.Ty
type_tree = fold-Ty tree.Ty step_of_type

abbrev pub types_tree : List Ty → tree.Tys
types_tree ts = types_of (map type_tree ts)

abbrev pub step_of_term : term_layer.Term-F tree.Term → tree.Term
step_of_term (term_layer.Bound i) = tree.Term.bound i
step_of_term (term_layer.Eps n t) = tree.Term.eps n (type_tree t)
step_of_term (term_layer.Meta n t) = tree.Term.meta n (type_tree t)
step_of_term (term_layer.App f ts us) = tree.Term.app f.0 (types_tree ts) (terms_of us)

-- the tree of a term
abbrev pub term_tree : Term → tree.Term
term_tree = fold-Term tree.Term step_of_term

abbrev pub terms_tree : List Term → tree.Terms
terms_tree us = terms_of (map term_tree us)

abbrev pub step_of_form : form_layer.Form-F tree.Form → tree.Form
step_of_form form_layer.True = tree.Form.truth
step_of_form form_layer.False = tree.Form.falsity
step_of_form (form_layer.Atom p ts us) = tree.Form.atom p.0 (types_tree ts) (terms_tree us)
step_of_form (form_layer.Equal t a b) = tree.Form.equal (type_tree t) (term_tree a) (term_tree b)
step_of_form (form_layer.Not f) = tree.Form.negation f
step_of_form (form_layer.And f g) = tree.both f g
step_of_form (form_layer.Or f g) = tree.either f g
step_of_form (form_layer.Imp f g) = tree.implies f g
step_of_form (form_layer.Iff f g) = tree.iff f g
step_of_form (form_layer.All t f) = tree.for_all (type_tree t) f
step_of_form (form_layer.Ex t f) = tree.exists (type_tree t) f
step_of_form (form_layer.AllType f) = tree.for_all_types f
step_of_form (form_layer.ExType f) = tree.exists_types f

-- the tree of a formula
abbrev pub form_tree : Form → tree.Form
form_tree = fold-Form tree.Form step_of_form

abbrev pub sense_tree : Sense → tree.Sense
sense_tree senses.Constructor = tree.Sense.constructor
sense_tree senses.Predicate = tree.Sense.predicate
sense_tree (senses.Function r) = tree.Sense.function (type_tree r)

abbrev pub symbol_tree : Symbol → tree.Symbol
symbol_tree s = record { name = s.name; types = s.types; arguments = types_tree s.arguments; sense = sense_tree s.sense }

abbrev pub role_tree : Role → tree.Role
role_tree roles.Axiom = tree.Role.axiom_role
role_tree roles.Hypothesis = tree.Role.hypothesis
role_tree roles.Definition = tree.Role.definition
role_tree roles.Assumption = tree.Role.assumption_role
role_tree roles.Lemma = tree.Role.lemma
role_tree roles.Theorem = tree.Role.theorem
role_tree roles.Corollary = tree.Role.corollary
role_tree roles.NegatedConjecture = tree.Role.negated_conjecture

abbrev pub premise_tree : Premise → tree.Premise
premise_tree p = record { name = p.name; role = role_tree p.role; form = form_tree p.form }

-- the tree of a problem
abbrev pub problem_tree : Problem → tree.Problem
problem_tree p =
    record { symbols = map symbol_tree p.symbols; premises = map premise_tree p.premises; conjecture = form_tree p.conjecture }

-- what is put for an index
abbrev pub opening_tree : Opening → tree.Opening
opening_tree (openings.OfType t) = tree.Opening.of_type (type_tree t.now)
opening_tree (openings.OfTerm u) = tree.Opening.of_term (term_tree u.now)

abbrev pub binder_tree : Binder → tree.Binder
binder_tree binders.OfType = tree.Binder.of_type
binder_tree (binders.OfTerm t) = tree.Binder.of_term (type_tree t)

abbrev pub side_tree : Side → tree.Side
side_tree (sides.OfTerm u) = tree.Side.of_term (term_tree u)
side_tree (sides.OfForm f) = tree.Side.of_form (form_tree f)

-- a rewrite rule
abbrev pub rule_tree : Rule → tree.Rule
rule_tree r = record { binders = map binder_tree r.binders; left = side_tree r.left; right = side_tree r.right }
