use Rattle.std.proofs.Common.{◌∙◌}
use Rattle.tff_typing.proofs.Walks.{known_any}
use Rattle.tff_typing.proofs.symbols.Symbols.is_known.Goals as goal

pub returns : goal.returns
returns c =
    c.contains.ensures ∙ c.args.self.now.same_names c.args.name.now
    ∙ known_any c.args.name.now 1 c.args.self.now.entries.entries
