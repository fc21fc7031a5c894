use Rattle.std.proofs.Common.{◌+◌, drop, sym, ap, ◌∙◌, arith}
use Rattle.lp_terms.specs.View.{entries_of}
use Rattle.dk_checker.proofs.Entries.{context_left, rule_left, context_next, rule_next, added_length, dropped}
use Rattle.dk_checker.proofs.entry.check_context.Goals as goal

pub loop-ty-preserved : goal.loop-ty-preserved
loop-ty-preserved c =
    let sigma = entries_of c.args.signature.now in
    let limit = c.args.limit in
    let cs = c.args.context.now in
    let i = c.loop-ty.ty-index in
    let d = dropped cs i (i + 1) c.ty-item.result c.loop-ty-test.true c.ty-item.is (omega arith) in
    let added = c.in_ok-check_context_type.ensures.added in
    let many = added_length sigma limit _ _ _ added in
    record {
      told =
          context_next sigma limit c.loop-ty.types c.check_context_type.new.types (drop (i + 1) cs) c.ty-item.result c.in_ok-check_context_type.ensures.told added
          ∙ ap (context_left sigma limit c.loop-ty.types) (sym d) ∙ c.loop-ty.invariant.told;
      types =
          rule_next sigma limit c.loop-ty.types c.check_context_type.new.types (drop (i + 1) cs) c.ty-item.result added
          ∙ ap (rule_left c.loop-ty.types) (sym d) ∙ c.loop-ty.invariant.types;
      many = omega (arith, many, c.loop-ty.invariant.many);
    }
