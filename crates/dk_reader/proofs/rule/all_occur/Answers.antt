use Rattle.std.proofs.Common.{◌∙◌, ap}
use Rattle.std.specs.List.{list_all}
use Rattle.lp_terms.specs.View.{term_of}
use Rattle.dk_reader.specs.Occurring.{marked}
use Rattle.dk_reader.proofs.Occurrences.{all_marked}
use Rattle.dk_reader.proofs.rule.all_occur.Goals as goal

pub returns : goal.returns
returns c =
    c.all_marked.ensures
    ∙ ap (λ z. list_all (λ m. m) (marked (term_of c.args.term.now) z)) (c.as_mut_slice.ensures.value ∙ c.in_ok-marks.ensures.items_if_clones_equal (λ y h. h))
    ∙ all_marked c.args.count (term_of c.args.term.now) c.requires
