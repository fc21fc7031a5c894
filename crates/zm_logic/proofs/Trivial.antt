-- The problem that asks for the truth alone is well typed.
use Rattle.std.proofs.Common.{◌∙◌, [], ap, sym, arith}
use Rattle.zm_logic.specs.declared.tree.Form.{fold-roll-Form}
use Rattle.zm_logic.specs.declared.tree.Form.TheVariants.{rolls-True}
use Rattle.zm_logic.specs.declared.tree.Form.TheVariants as code
use Rattle.zm_logic.specs.declared.tree.Form.TheOpen as layer
use Rattle.zm_logic.specs.Tree.{Form}
use Rattle.zm_logic.specs.View.{form_tree, step_of_form}
use Rattle.zm_logic.specs.Typing.{WellTyped}
use Rattle.zm_logic.specs.Problem.{IsTypedProblem}

truth_is_typed : IsTypedProblem (record { symbols = []; premises = []; conjecture = Form.truth })
truth_is_typed =
    record {
      signature = λ n d h. absurd (cc);
      shallow = λ n d h. absurd (omega arith);
      names = λ m n d e h. absurd (cc);
      premises = λ n d h. absurd (omega arith);
      conjecture = record { typed = WellTyped.truth; parameters = _; shallow = omega arith };
    }

-- the problem of the code that asks for the truth is well typed
pub asks_for_truth : IsTypedProblem (record { symbols = []; premises = []; conjecture = form_tree code.True })
asks_for_truth = rw (sym (ap form_tree rolls-True) ∙ fold-roll-Form Form step_of_form layer.True) truth_is_typed
