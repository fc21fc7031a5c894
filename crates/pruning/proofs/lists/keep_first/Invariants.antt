use Rattle.std.proofs.Common.{◌≡◌, take, length}
use Rattle.pruning.proofs.lists.keep_first.Given as goal

abbrev pub invariant-loop-forms : goal.invariant-loop-forms
invariant-loop-forms l = take l.count l.forms ≡ take l.count l.initial.forms

abbrev pub decreases-loop-forms : goal.decreases-loop-forms
decreases-loop-forms l = length l.forms
