-- The first tree keeps its id while the second is entered.
use Rattle.std.proofs.Common.{subst}
use Rattle.zm_logic.specs.declared.tree.Form.{Form}
use Rattle.zm_logic.specs.View.{type_tree, form_tree}
use Rattle.term_store.specs.Change.{IsFormId}
use Rattle.term_store.proofs.Kept.{extends_more}
use Rattle.term_store.proofs.Stays.{type_id_stays, form_id_stays}
use Rattle.term_store.proofs.store.Store.+enter_form.Goals as goal

pub enter_body-returns-clause-made : goal.enter_body-returns-clause-made
enter_body-returns-clause-made t c =
    type_id_stays c.enter_ty.new.self c.enter_form.new.self c.in_ok-f.ensures.kept (type_tree c.args.ty.now) c.in_ok-ty.ty c.in_ok-ty.ensures.made

pub enter_body-returns-clause-kept : goal.enter_body-returns-clause-kept
enter_body-returns-clause-kept t c =
    extends_more c.args.self.now c.enter_ty.new.self c.enter_form.new.self c.in_ok-ty.ensures.kept c.in_ok-f.ensures.kept

pub enter_two-returns-clause-made : goal.enter_two-returns-clause-made
enter_two-returns-clause-made t c =
    let P : Form → Type 0 = λ x. IsFormId c.enter_form-2.new.self (form_tree x) c.in_ok-f.f in
    subst P c.get.ensures (form_id_stays c.enter_form.new.self c.enter_form-2.new.self c.in_ok-g.ensures.kept (form_tree c.get.result.now) c.in_ok-f.f c.in_ok-f.ensures.made)

pub enter_two-returns-clause-kept : goal.enter_two-returns-clause-kept
enter_two-returns-clause-kept t c =
    extends_more c.args.self.now c.enter_form.new.self c.enter_form-2.new.self c.in_ok-f.ensures.kept c.in_ok-g.ensures.kept
