use Rattle.lp_signature.proofs.Added.{added_four}
use Rattle.lp_signature.proofs.symbols.add_quantifiers.Goals as goal

pub returns : goal.returns
returns c = added_four c.declare_equality.result _ _ _ _ _ _ _ _ _ c.in_ok-declare_quantifier.ensures c.in_ok-declare_quantifier-2.ensures c.in_ok-declare_type_quantifier.ensures c.declare_equality.ensures
