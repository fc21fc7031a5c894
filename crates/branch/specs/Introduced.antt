-- What stands on a branch: parameters that their formulas' own Steps introduced.
use Rattle.std.specs.Prelude.{◌≡◌, true, List, Some, slice_get}
use Rattle.std.specs.List.{Contains}
use Rattle.zm_logic.specs.Tree.{Ty, Term, Form, Opening}
use Rattle.zm_logic.specs.Parameter.{Parameter, number, EachIn}
use Rattle.zm_logic.specs.Typing.{WellTyped}
use Rattle.branch.specs.Setting.{Setting}
use Rattle.branch.specs.Normal.{Reaches}
use Rattle.param_store.specs.RawOffers.{Act, Quantified, quantified, is_quantified, own_part, at_part, on_with}
use Rattle.branch.specs.BranchOffers.{Kind, opened_kind}

-- a Step above on the branch
pub record Above : Type 0 where
  pub kind : Kind
  pub act : Act

-- the parameter as a tree
abbrev pub part_of : Parameter → Opening
part_of (Parameter.type_param n) = Opening.of_type (Ty.param n)
part_of (Parameter.type_meta n) = Opening.of_type (Ty.meta n)
part_of (Parameter.eps n t) = Opening.of_term (Term.eps n t)
part_of (Parameter.meta n t) = Opening.of_term (Term.meta n t)

-- The parameter's number is that of a quantified formula on the branch, and the parameter is what this formula is opened
-- with by its own Step: an epsilon term or a type parameter where it is of delta kind, a metavariable where it is of gamma
-- kind, for a type where it is over types, and else carrying the type of its binder. That Step stands above, and the
-- formula to which it led stands on the branch.
pub record IsIntroduced (s : Setting) (table : List Form) (above : List Above) (branch : List Form) (p : Parameter) : Type 0 where
  pub from : Form
  pub shape : Quantified
  pub result : Form
  pub numbered : slice_get table (number p) ≡ Some from
  pub quantified : quantified from ≡ Some shape
  pub own : own_part (number p) shape ≡ part_of p
  pub stands : Contains branch from
  pub step : Contains above (record { kind = opened_kind shape.kind; act = on_with from (part_of p) })
  pub normal : Reaches s (at_part shape (part_of p)) result
  pub follows : Contains branch result

-- The facts of a branch: each formula is well typed, each parameter was introduced above, and each quantified formula has
-- a number.
pub record HasFacts (s : Setting) (table : List Form) (above : List Above) (branch : List Form) : Type 0 where
  pub typed : (f : Form) → Contains branch f → WellTyped s.symbols f
  pub introduced : (f : Form) → Contains branch f → EachIn (IsIntroduced s table above branch) f
  pub numbered : (f : Form) → Contains branch f → is_quantified f ≡ true → Contains table f
