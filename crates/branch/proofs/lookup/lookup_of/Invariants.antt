use Rattle.std.proofs.Common.{◌≡◌, false, take}
use Rattle.zm_logic.specs.Tree.{Form}
use Rattle.zm_logic.specs.Same.{has}
use Rattle.param_store.specs.View.{forms_of, HasForms}
use Rattle.branch.specs.Left.{form_at}
use Rattle.branch.specs.Lookup.{Skips, is_plain, is_denial}
use Rattle.branch.proofs.lookup.lookup_of.Given as goal

-- the formulas before the place are noted
abbrev pub invariant-loop-place : goal.invariant-loop-place
invariant-loop-place l = record {
  has_found : HasForms l.store l.lookup.found;
  found : (f : Form) → has (forms_of l.store l.lookup.found) f ≡ has (forms_of l.store (take l.place l.forms)) f;
  plain : Skips (λ i. is_plain (form_at (forms_of l.store l.forms) i) ≡ false) 0 l.lookup.plain l.place;
  denied : Skips (λ i. is_denial (form_at (forms_of l.store l.forms) i) ≡ false) 0 l.lookup.denied l.place;
}
