use Rattle.std.proofs.Common.{◌∙◌, sym, ap}
use Rattle.tff_typing.proofs.Walks.{placed, found_placed, placed_at}
use Rattle.tff_typing.proofs.symbols.Symbols.find.Goals as goal

pub returns-in-None : goal.returns-in-None
returns-in-None c =
    let es = c.args.self.now.entries.entries in
    found_placed c.args.key.now.name.now c.args.key.now.parts es ∙ ap (placed 0 es) (sym c.in-None.ensures.index)

pub returns-in-Some : goal.returns-in-Some
returns-in-Some c =
    let es = c.args.self.now.entries.entries in
    found_placed c.args.key.now.name.now c.args.key.now.parts es
    ∙ ap (placed 0 es) (sym c.in-Some.ensures.index)
    ∙ placed_at es c.in-Some.place (c.in-Some.key.now, c.in-Some.declaration.now) c.in-Some.ensures.entry
