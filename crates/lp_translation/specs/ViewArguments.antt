-- What the rules for equal arguments read off their children.
use Rattle.std.specs.Prelude.{ℕ, suc, ◌≡◌, List, [], ◌∷◌, Option, Some, None}
use Rattle.lp_terms.specs.Term.{Lp}
use Rattle.lp_terms.specs.View.{term_of}
use Rattle.zm_logic.specs.Tree.{Term, Form}
use Rattle.zm_logic.specs.Tree as tree
use Rattle.lp_signature.specs.Prelude.{eq_of}
use Rattle.sequent_proof.specs.Tree.{DTree, DTrees, added}
use Rattle.lp_translation.specs.ViewRules.{negated}
use Rattle.lp_translation.specs.declared.arguments.Wrap.{Wrap}
use Rattle.lp_translation.specs.declared.arguments.Wrap.TheVariants as wraps

abbrev pub wrap_of : Wrap → Lp → Lp
wrap_of wraps.Atom t = t
wrap_of (wraps.Equality a s) t = eq_of (term_of a) (term_of s) t

-- the formula, or what is always true where there is none
abbrev pub or_truth : Option Form → Form
or_truth (Some f) = f
or_truth None = Form.truth

-- what the first formula negates
abbrev pub first_negated : List Form → Form
first_negated [] = Form.truth
first_negated (f ∷ fs) = negated f

-- the equality that a child differs by
abbrev pub equality_in : DTree → Form
equality_in t = first_negated (added t)

abbrev pub equalities_in : DTrees → List Form
equalities_in DTrees.none = []
equalities_in (DTrees.more t ts) = equality_in t ∷ equalities_in ts

abbrev pub term_count : tree.Terms → ℕ
term_count tree.Terms.none = 0
term_count (tree.Terms.more u us) = suc (term_count us)

-- the atom, the application, or the equality's left side has so many arguments, where it is one
abbrev pub HasArguments : ℕ → Form → Type 0
HasArguments n (Form.atom p ts us) = term_count us ≡ n
HasArguments n _ = Unit {0}

abbrev pub HasArgumentsIn : ℕ → Term → Type 0
HasArgumentsIn n (Term.app f ts us) = term_count us ≡ n
HasArgumentsIn n _ = Unit {0}

abbrev pub HasValues : ℕ → Form → Type 0
HasValues n (Form.equal t a b) = HasArgumentsIn n a
HasValues n _ = Unit {0}
