use Rattle.std.proofs.Common.{◌+◌, sym, subst, arith, rules}
use Rattle.term_store.proofs.Kept.{extends_more}
use Rattle.unify.specs.View.{latest}
use Rattle.unify.specs.Answer.{IsTooDeep, IfDeepAt}
use Rattle.unify.proofs.Building.{have_kept}
use Rattle.unify.proofs.Whole.{lawful_kept}
use Rattle.unify.proofs.Listed.{Listed, listed_none, listed_more, listed_deep, listed_all, if_deep, nothing_kept}
use Rattle.unify.proofs.solving.solved_bindings.Goals as goal

pub loop-binding-init : goal.loop-binding-init
loop-binding-init c = record {
  listed = listed_none c.args.store.now c.args.made.now c.new-all.result c.new-all.ensures;
  knows = nothing_kept c.args.store.now (latest c.args.store.now c.args.made.now) c.new-kept.result c.new-kept.ensures.types c.new-kept.ensures.terms;
}

pub solved_binding-requires-clause-has : goal.solved_binding-requires-clause-has
solved_binding-requires-clause-has c =
    have_kept c.args.store.now c.loop-binding.store c.loop-binding.invariant.listed.kept c.args.made.now c.requires.have c.loop-binding.binding-index _ c.loop-binding-test.true

pub solved_binding-requires-clause-have : goal.solved_binding-requires-clause-have
solved_binding-requires-clause-have c = have_kept c.args.store.now c.loop-binding.store c.loop-binding.invariant.listed.kept c.args.made.now c.requires.have

pub solved_binding-requires-clause-lawful : goal.solved_binding-requires-clause-lawful
solved_binding-requires-clause-lawful c =
    lawful_kept c.args.store.now c.loop-binding.store c.loop-binding.invariant.listed.kept c.args.made.now c.requires.have c.requires.lawful

pub loop-binding-preserved : goal.loop-binding-preserved
loop-binding-preserved c =
    let s = c.args.store.now in let made = c.args.made.now in let t = c.loop-binding.store in let u = c.solved_binding.new.store in
    let i = c.loop-binding.binding-index in let now = c.in_ok-whole.ensures in
    let more = listed_more s made c.requires.have t i c.loop-binding.all c.loop-binding.invariant.listed _ c.loop-binding-test.true u now.kept c.in_ok-whole.whole now.has now.solved now.bounded in
    record { listed = subst (Listed s made u (i + 1)) (sym c.in_ok-push.ensures.ok) more; knows = now.knows }

pub returns-in_err-whole-clause-deep : goal.returns-in_err-whole-clause-deep
returns-in_err-whole-clause-deep c =
    let s = c.args.store.now in let made = c.args.made.now in let t = c.loop-binding.store in let u = c.solved_binding.new.store in
    let i = c.loop-binding.binding-index in
    let deep : IfDeepAt (IsTooDeep u (latest s made)) c.in_err-whole.field-0.0 =
    if_deep _ (IsTooDeep u (latest s made))
    (λ at z. listed_deep s made c.requires.have t i c.loop-binding.all c.loop-binding.invariant.listed _ c.loop-binding-test.true u at c.solved_binding.ensures.kept z.0 z.1 z.2)
    c.in_err-whole.field-0.0 c.in_err-whole.ensures.deep in
    search rules

pub returns-in_err-whole-clause-kept : goal.returns-in_err-whole-clause-kept
returns-in_err-whole-clause-kept c = extends_more c.args.store.now c.loop-binding.store c.solved_binding.new.store c.loop-binding.invariant.listed.kept c.solved_binding.ensures.kept

pub returns-in_err-push-clause-kept : goal.returns-in_err-push-clause-kept
returns-in_err-push-clause-kept c = extends_more c.args.store.now c.loop-binding.store c.solved_binding.new.store c.loop-binding.invariant.listed.kept c.solved_binding.ensures.kept

pub returns-clause-answer : goal.returns-clause-answer
returns-clause-answer c =
    listed_all c.args.store.now c.args.made.now c.requires.have c.loop-binding.store c.loop-binding.binding-index c.loop-binding.all (omega (arith, c.loop-binding-test.false)) c.loop-binding.invariant.listed
