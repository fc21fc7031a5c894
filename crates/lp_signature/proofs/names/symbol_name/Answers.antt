use Rattle.std.proofs.Common.{◌<◌, ◌∙◌, subst}
use Rattle.lp_terms.specs.Measure.{limit}
use Rattle.zm_logic.specs.View.{symbol_tree}
use Rattle.lp_signature.specs.Declarable.{AreBytes}
use Rattle.lp_signature.proofs.Coded.{declarable}
use Rattle.lp_signature.proofs.names.symbol_name.Goals as goal

pub returns-clause-declarable : goal.returns-clause-declarable
returns-clause-declarable c =
    declarable c.of.result (symbol_tree c.args.symbol.now) (subst AreBytes (c.as_bytes.ensures.value ∙ c.text.ensures) c.push_coded.ensures.bytes)
    (subst (λ n. n < limit) c.in_ok-arguments.ensures.value c.in_ok-arguments.ensures.few)
