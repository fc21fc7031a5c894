use Rattle.tff_typing.proofs.Walks.{of_ok, one_more_name}
use Rattle.tff_typing.proofs.symbols.note.Goals as goal

pub returns : goal.returns
returns c = λ x.
    let e = of_ok c.insert.result _ (c.insert.ensures.succeeds c.requires) c.insert.ensures.keys in
    rw e (one_more_name x c.args.names.now.keys c.args.name)
