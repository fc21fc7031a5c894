use Rattle.std.proofs.Common.{◌∙◌, refl, ap, sym}
use Rattle.std.specs.Option.{option_map}
use Rattle.zm_logic.specs.View.{form_tree}
use Rattle.branch.specs.Ids.{closing_of}
use Rattle.sequent_proof.specs.View.{name_of, part_of, trees_of}
use Rattle.pruning.proofs.Walked.{leaf_is}
use Rattle.pruning.proofs.walk.leaf_tree.Goals as goal

pub returns : goal.returns
returns c =
    let s = c.args.store.now in
    let a = c.in_ok-acted.acted in
    let e = c.in_ok-acted.ensures in
    c.rule.ensures
    ∙ leaf_is s c.args.pair (name_of c.closing_rule-name.result) (form_tree a.first) (option_map form_tree a.second) (option_map part_of a.with) (trees_of c.new.result)
    e.first e.second e.with (ap trees_of c.new.ensures)
    (c.closing_rule-name.ensures (closing_of s c.args.pair) (sym e.first) (sym e.second) refl)
