-- The rules and the functions agree.
use Rattle.std.proofs.Common.{◌≡◌, ◌↔◌, Bool, Ok, List, sym, ◌∙◌}
use Rattle.zm_logic.specs.Tree.{Ty, Form, Problem}
use Rattle.zm_logic.specs.Problem.{IsTypedProblem}
use Rattle.tptp_reader.specs.Raw.{RawType, RawTerm, RawForm, RawStatement}
use Rattle.tff_typing.specs.Scope.{Scope}
use Rattle.tff_typing.specs.Table.{Table, Place}
use Rattle.tff_typing.specs.Places.{Expression, type_in}
use Rattle.tff_typing.specs.Typing.{expression_in, form_in}
use Rattle.tff_typing.specs.Statements.{State, statement_in, problem_in, AreWithinLimits}
use Rattle.tff_typing.specs.Rules.{DenotesType, DenotesExpression, DenotesForm, MakesState, MakeProblem}
use Rattle.tff_typing.proofs.StatementsTyped.{typed_same}
use Rattle.tff_typing.proofs.Problems.{problem_is_typed}
use Rattle.tff_typing.proofs.RulesGive.{type_given, expression_given, form_given}
use Rattle.tff_typing.proofs.RulesHold.{type_holds, expression_holds, form_holds}
use Rattle.tff_typing.proofs.StatementsGive.{statement_given, problem_given}
use Rattle.tff_typing.proofs.StatementsHold.{statement_holds, problem_holds}

pub types_agree : (table : Table) (s : Scope) (t : RawType) (u : Ty)
    → DenotesType table s t u ↔ (type_in table s t ≡ Ok u)
types_agree table s t u = (type_given table s t u, type_holds table s t u)

pub expressions_agree : (table : Table) (s : Scope) (place : Place) (u : RawTerm) (x : Expression) (after : Table)
    → DenotesExpression table s place u x after ↔
    (expression_in table s place u ≡ Ok (record { tree = x; table = after }))
expressions_agree table s place u x after = (
  expression_given table s place u x after,
  λ h. expression_holds table s place u
      (record { tree = x; table = after }) h,
)

pub forms_agree : (table : Table) (s : Scope) (f : RawForm) (g : Form) (after : Table)
    → DenotesForm table s f g after ↔ (form_in table s f ≡ Ok (record { tree = g; table = after }))
forms_agree table s f g after =
    (form_given table s f g after, λ h. form_holds table s f (record { tree = g; table = after }) h)

pub statements_agree : (state after : State) (s : RawStatement)
    → MakesState state s after ↔ (statement_in state s ≡ Ok after)
statements_agree state after s = (statement_given state s after, statement_holds state s after)

pub problems_agree : (statements : List RawStatement) (p : Problem)
    → MakeProblem statements p ↔ (problem_in statements ≡ Ok p)
problems_agree statements p = (problem_given statements p, problem_holds statements p)

-- what the statements make by the rules is a typed problem
pub made_problem_is_typed : (statements : List RawStatement) (p : Problem) → AreWithinLimits statements
    → MakeProblem statements p → IsTypedProblem p
made_problem_is_typed statements p limits made = problem_is_typed statements p limits (problem_given statements p made)

-- and there is one at most
pub one_problem_made : (statements : List RawStatement) (p q : Problem) → MakeProblem statements p
    → MakeProblem statements q → p ≡ q
one_problem_made statements p q m n = typed_same p q (sym (problem_given statements p m) ∙ problem_given statements q n)
