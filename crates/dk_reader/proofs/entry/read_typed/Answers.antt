use Rattle.std.proofs.Common.{Bool, map, sym, ◌∙◌, subst}
use Rattle.std.proofs.lemmas.Bool.{both_ways}
use Rattle.dk_text.specs.Names.{Scope}
use Rattle.dk_reader.specs.Seen.{seen}
use Rattle.dk_reader.specs.Pieces.{piece_seen}
use Rattle.dk_reader.specs.Parts.{parts_seen}
use Rattle.dk_reader.specs.Entries.{SpellsBody, SpellsEntry, SpellsNoEntry, typed}
use Rattle.dk_reader.proofs.Entering.{answered, at_front, declaration_read, definition_read, no_typed_behind, no_body_behind}
use Rattle.dk_reader.proofs.entry.read_typed.Goals as goal

pub returns-then-is_last : goal.returns-then-is_last
returns-then-is_last c left =
    let term = at_front _ _ _ _ _ c.requires (rw c.in-Some.is at c.in_ok-ty.ensures.read) in
    declaration_read _ c.args.definable c.args.name.now left _ _ _ term (c.is_last.ensures.0 c.if-is_last.true)

pub returns-then-not-definable : goal.returns-then-not-definable
returns-then-not-definable c left =
    let term = at_front _ _ _ _ _ c.requires (rw c.in-Some.is at c.in_ok-ty.ensures.read) in
    no_typed_behind _ c.args.definable c.args.name.now left _ _ _ term (λ e. both_ways c.is_last.result c.if-is_last.false (c.is_last.ensures.1 e))
    (λ middle h e. absurd (both_ways c.args.definable c.if-not-definable.true h))

pub returns-in_default-after : goal.returns-in_default-after
returns-in_default-after c left =
    let term = at_front _ _ _ _ _ c.requires (rw c.in-Some.is at c.in_ok-ty.ensures.read) in
    no_typed_behind _ c.args.definable c.args.name.now left _ _ _ term (λ e. both_ways c.is_last.result c.if-is_last.false (c.is_last.ensures.1 e))
    (λ middle h e. absurd (c.in_default-after.ensures.value middle e))

pub returns : goal.returns
returns c left =
    let term = at_front _ _ _ _ _ c.requires (rw c.in-Some.is at c.in_ok-ty.ensures.read) in
    let same = rw c.in-Some.is at c.in_ok-ty.ensures.scope in
    let behind = c.in-Some-after.ensures.value in
    let definable = sym c.if-not-definable.false in
    answered c.read_body.result
    (λ n. subst (λ (b : Bool). SpellsNoEntry (typed b c.args.name.now left (map seen c.args.tokens.now))) definable (no_body_behind _ _ left _ _ _ _ term behind n))
    (λ p b. subst (λ (d : Bool). SpellsEntry c.args.names.now (typed d c.args.name.now left (map seen c.args.tokens.now)) (parts_seen p)) definable
    (definition_read _ _ left _ _ _ _ _ term behind
    (subst (λ (z : Scope). SpellsBody c.args.names.now z (map seen c.in-Some-after.body.now) c.args.name.now (piece_seen c.in-Some.ty.piece) (parts_seen p)) (same ∙ c.requires) b)))
    c.read_body.ensures
