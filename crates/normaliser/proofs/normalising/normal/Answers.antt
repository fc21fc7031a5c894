use Rattle.std.proofs.Common.{◌≡◌, ◌≤◌, sym, ap, subst, ◌∙◌, arith, IfSome}
use Rattle.zm_logic.specs.Measure.{depth}
use Rattle.term_store.specs.Trees.{HasForm, form_of}
use Rattle.normaliser.specs.Answered.{some_tree}
use Rattle.rule_index.specs.View.{rules_of}
use Rattle.normaliser.proofs.Stepping.{led_start, led_on, reached_answers, spent_answers, end_answers, stop_answers, stop_has, led_has, led_kept}
use Rattle.normaliser.proofs.normalising.normal.Goals as goal

pub loop-steps-init : goal.loop-steps-init
loop-steps-init c = led_start (rules_of c.args.index.now) c.args.limit c.args.form c.args.store.now c.requires c.stored.ensures

pub returns-in-Ok-None-clause-has : goal.returns-in-Ok-None-clause-has
returns-in-Ok-None-clause-has c =
    led_has (rules_of c.args.index.now) c.args.limit c.args.form c.args.store.now c.loop-steps.store c.loop-steps.reached c.loop-steps.steps c.loop-steps.invariant
    c.step.new.store c.step.ensures.kept

pub returns-in-Ok-None-clause-answer : goal.returns-in-Ok-None-clause-answer
returns-in-Ok-None-clause-answer c =
    reached_answers (rules_of c.args.index.now) c.args.limit c.args.form c.args.store.now c.loop-steps.store c.loop-steps.reached c.loop-steps.steps c.loop-steps.invariant
    c.step.new.store c.step.ensures.kept (sym (ap (some_tree c.step.new.store) c.in-Ok-None.field-0-is) ∙ c.in-Ok-None.ensures.step)

pub returns-in-Ok-None-clause-kept : goal.returns-in-Ok-None-clause-kept
returns-in-Ok-None-clause-kept c =
    led_kept (rules_of c.args.index.now) c.args.limit c.args.form c.args.store.now c.loop-steps.store c.loop-steps.reached c.loop-steps.steps c.loop-steps.invariant
    c.step.new.store c.step.ensures.kept

pub returns-in-Err-clause-has_at : goal.returns-in-Err-clause-has_at
returns-in-Err-clause-has_at c =
    stop_has (rules_of c.args.index.now) c.args.limit c.args.form c.args.store.now c.loop-steps.store c.loop-steps.reached c.loop-steps.steps c.loop-steps.invariant
    c.step.new.store c.step.ensures.kept c.in-Err.stop c.in-Err.ensures.deep

pub returns-in-Err-clause-answer : goal.returns-in-Err-clause-answer
returns-in-Err-clause-answer c =
    stop_answers (rules_of c.args.index.now) c.args.limit c.args.form c.args.store.now c.loop-steps.store c.loop-steps.reached c.loop-steps.steps c.loop-steps.invariant
    c.step.new.store c.step.ensures.kept (omega (arith, c.loop-steps-test.true)) c.in-Err.stop c.in-Err.ensures.deep c.in-Err.ensures.spent

pub returns-in-Err-clause-kept : goal.returns-in-Err-clause-kept
returns-in-Err-clause-kept c =
    led_kept (rules_of c.args.index.now) c.args.limit c.args.form c.args.store.now c.loop-steps.store c.loop-steps.reached c.loop-steps.steps c.loop-steps.invariant
    c.step.new.store c.step.ensures.kept

pub loop-steps-preserved : goal.loop-steps-preserved
loop-steps-preserved c =
    led_on (rules_of c.args.index.now) c.args.limit c.args.form c.args.store.now c.loop-steps.store c.loop-steps.reached c.loop-steps.steps c.loop-steps.invariant
    c.step.new.store c.in-Ok-Some.next (sym (ap (some_tree c.step.new.store) c.in-Ok-Some.field-0-is) ∙ c.in-Ok-Some.ensures.step)
    (omega (arith, c.loop-steps-test.true)) c.step.ensures.kept
    (subst (λ m. IfSome m (HasForm c.step.new.store)) c.in-Ok-Some.field-0-is c.in-Ok-Some.ensures.has)
    (subst (λ m. IfSome m (λ id. depth (form_of c.step.new.store id) ≤ 2000)) c.in-Ok-Some.field-0-is c.in-Ok-Some.ensures.shallow)

pub returns-then-branch-clause-answer : goal.returns-then-branch-clause-answer
returns-then-branch-clause-answer c =
    let is : c.loop-steps.steps ≡ c.args.limit = omega (arith, c.loop-steps-test.false, c.loop-steps.invariant.within) in
    spent_answers (rules_of c.args.index.now) c.args.limit c.args.form c.args.store.now c.loop-steps.store c.loop-steps.reached c.loop-steps.steps c.loop-steps.invariant
    is (sym c.if-branch.true ∙ c.in_ok-has_step.ensures)

pub returns-clause-answer : goal.returns-clause-answer
returns-clause-answer c =
    let is : c.loop-steps.steps ≡ c.args.limit = omega (arith, c.loop-steps-test.false, c.loop-steps.invariant.within) in
    end_answers (rules_of c.args.index.now) c.args.limit c.args.form c.args.store.now c.loop-steps.store c.loop-steps.reached c.loop-steps.steps c.loop-steps.invariant
    is (sym c.if-branch.false ∙ c.in_ok-has_step.ensures)
