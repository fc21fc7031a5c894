-- What the code's values stand for.
use Rattle.std.specs.Prelude.{ℕ, Option, Some, None, List, [], ◌∷◌, map}
use Rattle.lp_terms.specs.Term.{Lp}
use Rattle.zm_logic.specs.declared.problem.Symbol.{Symbol}
use Rattle.zm_logic.specs.View.{type_tree, symbol_tree}
use Rattle.zm_logic.specs.Tree as tree
use Rattle.lp_signature.specs.declared.scope.Bound.{Bound}
use Rattle.lp_signature.specs.declared.scope.Bound.TheVariants as bounds
use Rattle.lp_signature.specs.Translation.{Scope}

-- the symbols of a problem
abbrev pub symbols_tree : List Symbol → List tree.Symbol
symbols_tree ss = map symbol_tree ss

-- the scope with one more parameter that a variable stands for
abbrev pub bound_in : Scope → Bound → Scope
bound_in s (bounds.OfType n x) = Scope.of_type n x s
bound_in s (bounds.OfTerm n t x) = Scope.of_term n (type_tree t) x s

-- with several more, the last one last
abbrev pub all_bound_in : Scope → List Bound → Scope
all_bound_in s [] = s
all_bound_in s (b ∷ bs) = all_bound_in (bound_in s b) bs

-- the scope that a list stands for, its last item being the last parameter
abbrev pub scope_tree : List Bound → Scope
scope_tree bs = all_bound_in Scope.none bs

-- the variable of the number, or u where there is none
abbrev pub variable_or : Option ℕ → Lp → Lp
variable_or (Some x) u = Lp.free x
variable_or None u = u
