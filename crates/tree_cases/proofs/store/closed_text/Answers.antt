use Rattle.tree_cases.proofs.At.{named_still}
use Rattle.tree_cases.proofs.store.closed_text.Goals as goal

pub deep_text-requires : goal.deep_text-requires
deep_text-requires c =
    let at = c.in-Err-Deep in
    named_still _ _ c.close.ensures.kept c.args.form at.at _ _ c.requires at.field-0-is at.ensures.deep
