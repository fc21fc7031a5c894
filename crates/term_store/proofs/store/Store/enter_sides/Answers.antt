-- What is entered first keeps its id.
use Rattle.zm_logic.specs.View.{type_tree, term_tree}
use Rattle.term_store.proofs.Kept.{extends_more}
use Rattle.term_store.proofs.Stays.{type_id_stays, term_id_stays}
use Rattle.term_store.proofs.store.Store.enter_sides.Goals as goal

pub returns-clause-made : goal.returns-clause-made
returns-clause-made c =
    let after = extends_more c.enter_ty.new.self c.enter_within.new.self c.enter_within-2.new.self c.in_ok-left.ensures.kept c.in_ok-right.ensures.kept in
    type_id_stays c.enter_ty.new.self c.enter_within-2.new.self after (type_tree c.args.ty.now) c.in_ok-ty.ty c.in_ok-ty.ensures.made

pub returns-clause-made_left : goal.returns-clause-made_left
returns-clause-made_left c =
    term_id_stays c.enter_within.new.self c.enter_within-2.new.self c.in_ok-right.ensures.kept (term_tree c.args.left.now) c.in_ok-left.left c.in_ok-left.ensures.made

pub returns-clause-kept : goal.returns-clause-kept
returns-clause-kept c =
    let after = extends_more c.enter_ty.new.self c.enter_within.new.self c.enter_within-2.new.self c.in_ok-left.ensures.kept c.in_ok-right.ensures.kept in
    extends_more c.args.self.now c.enter_ty.new.self c.enter_within-2.new.self c.in_ok-ty.ensures.kept after
