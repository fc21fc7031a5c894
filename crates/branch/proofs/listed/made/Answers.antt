use Rattle.std.proofs.Common.{ap, ◌∙◌}
use Rattle.param_store.specs.View.{lists_of}
use Rattle.branch.specs.Listed.{capped, lists_size}
use Rattle.branch.proofs.listed.made.Goals as goal

pub returns-clause-listed : goal.returns-clause-listed
returns-clause-listed c =
    let s = c.args.store.now in
    c.of_size.ensures.listed s c.requires.has (c.in_ok-size.ensures.value ∙ ap (λ ls. capped (lists_size (lists_of s ls))) c.as_slice.ensures)

pub returns-clause-tree : goal.returns-clause-tree
returns-clause-tree c = c.of_size.ensures.tree c.args.store.now
