use Rattle.std.proofs.Common.{◌≡◌, ap, ◌∙◌, arith}
use Rattle.lp_terms.specs.View.{term_of}
use Rattle.lp_signature.specs.Translation.{over_types}
use Rattle.lp_signature.proofs.Declared.{over_types_more}
use Rattle.lp_signature.proofs.declarations.over_types_times.Goals as goal

pub loop-made-preserved : goal.loop-made-preserved
loop-made-preserved c = record {
  within = omega (arith, c.loop-made-test.true);
  told = λ ss. c.in_ok-product.ensures ∙ over_types_more ss c.loop-made.made (term_of c.args.codomain) (term_of c.loop-made.product) (c.loop-made.invariant.told ss);
}

pub returns : goal.returns
returns c =
    let e : c.loop-made.made ≡ c.args.times = omega (arith, c.loop-made.invariant.within, c.loop-made-test.false) in
    λ ss. c.loop-made.invariant.told ss ∙ ap (λ k. over_types ss k (term_of c.args.codomain)) e
