-- The facts of a branch and of the sequent that a derivation has there.
use Rattle.std.proofs.Common.{◌≡◌, true, List, Contains}
use Rattle.zm_logic.specs.Tree.{Form}
use Rattle.zm_logic.specs.Parameter.{EachIn}
use Rattle.zm_logic.specs.Typing.{WellTyped}
use Rattle.branch.specs.Setting.{Setting}
use Rattle.param_store.specs.RawOffers.{is_quantified}
use Rattle.branch.specs.Introduced.{Above, IsIntroduced, HasFacts}

-- the sequent holds the branch and all formulas before normalising
pub record IsBranch (s : Setting) (table : List Form) (above : List Above) (b sequent : List Form) : Type 0 where
  pub within : (f : Form) → Contains b f → Contains sequent f
  pub typed : (f : Form) → Contains sequent f → WellTyped s.symbols f
  pub introduced : (f : Form) → Contains sequent f → EachIn (IsIntroduced s table above b) f
  pub numbered : (f : Form) → Contains b f → is_quantified f ≡ true → Contains table f

pub facts_of : (s : Setting) (t : List Form) (above : List Above) (b sequent : List Form) → IsBranch s t above b sequent → HasFacts s t above b
facts_of s t above b sequent is =
    record { typed = λ f m. is.typed f (is.within f m); introduced = λ f m. is.introduced f (is.within f m); numbered = is.numbered }

-- the branch alone, for the sequent
pub of_facts : (s : Setting) (t : List Form) (above : List Above) (b : List Form) → HasFacts s t above b → IsBranch s t above b b
of_facts s t above b h = record { within = λ f m. m; typed = h.typed; introduced = h.introduced; numbered = h.numbered }
