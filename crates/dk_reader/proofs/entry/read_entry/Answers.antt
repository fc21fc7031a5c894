use Rattle.std.proofs.Common.{List, ◌∷◌, sym, ◌∙◌, ap, subst}
use Rattle.dk_text.specs.Tokens.{Token, def_word}
use Rattle.dk_reader.specs.Parts.{parts_seen}
use Rattle.dk_reader.specs.Entries.{SpellsEntry, SpellsNoEntry}
use Rattle.dk_reader.proofs.Entering.{answered}
use Rattle.dk_reader.proofs.entry.read_entry.Goals as goal

pub returns-in-Some : goal.returns-in-Some
returns-in-Some c =
    let binder = c.in-Some.ensures.value in
    let same = sym binder.1 in
    answered c.read_typed.result (λ n. subst (λ (z : List Token). SpellsNoEntry z) same n)
    (λ p s. subst (λ (z : List Token). SpellsEntry c.args.names.now z (parts_seen p)) same s) (c.read_typed.ensures binder.0)

pub returns : goal.returns
returns c =
    let binder = c.in-Some-binder_at.ensures.value in
    let same = sym (c.in-Some-after-2.ensures.value ∙ ap (λ z. def_word ∷ z) binder.1) in
    answered c.read_typed-2.result (λ n. subst (λ (z : List Token). SpellsNoEntry z) same n)
    (λ p s. subst (λ (z : List Token). SpellsEntry c.args.names.now z (parts_seen p)) same s) (c.read_typed-2.ensures binder.0)
