use Rattle.std.proofs.Common.{refl, sym}
use Rattle.std.proofs.lemmas.Result.{on_ok_weaker}
use Rattle.term_store.specs.Trees.{form_of}
use Rattle.branch.proofs.Noted.{denial_earlier, other_earlier}
use Rattle.branch.proofs.closing.note_earlier.Goals as goal

pub returns-in-Some : goal.returns-in-Some
returns-in-Some c =
    let s = c.args.store.now in
    on_ok_weaker c.add-in-Some.result
    (λ q. λ gs h. denial_earlier s gs c.args.earlier.now (record { forms = c.add.new.self; denied = c.add-in-Some.new.self }) (form_of s c.args.form)
    (form_of s c.in-Some.denied) h c.in_ok-add.ensures.has c.add-in-Some.ensures.has c.in_ok-add.ensures.forms q (sym c.in-Some.ensures.value))
    c.add-in-Some.ensures.forms

pub returns-in-None : goal.returns-in-None
returns-in-None c = λ gs h.
    other_earlier c.args.store.now gs c.args.earlier.now (record { forms = c.add.new.self; denied = c.args.earlier.now.denied })
    (form_of c.args.store.now c.args.form) h c.in_ok-add.ensures.has c.in_ok-add.ensures.forms refl (sym c.in-None.ensures.value)
