-- The earlier formulas of a branch, as a search for what closes it keeps them.
use Rattle.std.specs.Prelude.{◌≡◌, false, List, Some}
use Rattle.zm_logic.specs.Tree.{Form}
use Rattle.zm_logic.specs.Same.{has}
use Rattle.term_store.specs.Trees.{Tables}
use Rattle.param_store.specs.View.{forms_of, HasForms}
use Rattle.branch.specs.declared.closing.Earlier.{Earlier}
use Rattle.branch.specs.Branch.{closes_alone}
use Rattle.branch.specs.Denied.{denied, is_equation}

-- the formulas noted are these, and those that they deny
pub record AreEarlier (s : Tables) (gs : List Form) (e : Earlier) : Type 0 where
  pub has_forms : HasForms s e.forms
  pub has_denied : HasForms s e.denied
  pub forms : (f : Form) → has (forms_of s e.forms) f ≡ has gs f
  pub denied : (f : Form) → has (forms_of s e.denied) f ≡ has gs (Form.negation f)

-- A formula closes nothing alone, is no equation, and is neither denied nor denies one of those.
pub record CantClose (forms denials : List Form) (f : Form) : Type 0 where
  pub alone : closes_alone f ≡ false
  pub equation : is_equation f ≡ false
  pub is_denied : has denials f ≡ false
  pub denies : (d : Form) → denied f ≡ Some d → has forms d ≡ false
