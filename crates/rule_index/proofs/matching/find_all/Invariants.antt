use Rattle.zm_logic.specs.View.{side_tree}
use Rattle.rule_index.proofs.BinderLists.{AreFound}
use Rattle.rule_index.proofs.matching.find_all.Given as goal

abbrev pub invariant-loop-i : goal.invariant-loop-i
invariant-loop-i l = AreFound l.binders (side_tree l.left) (side_tree l.place) l.i l.all
