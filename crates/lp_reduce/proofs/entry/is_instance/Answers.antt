use Rattle.std.proofs.Common.{◌≡◌, sym, ap, ◌∙◌}
use Rattle.lp_terms.specs.Same.{same}
use Rattle.lp_terms.specs.View.{term_of}
use Rattle.lp_reduce.proofs.Puts.{same_test}
use Rattle.lp_reduce.proofs.entry.is_instance.Goals as goal

pub returns : goal.returns
returns c =
    same_test c.is_same.result (term_of c.in_ok-made.made) (term_of c.args.term.now) c.is_same.ensures
    ∙ ap (λ t. same t (term_of c.args.term.now)) c.in_ok-made.ensures
