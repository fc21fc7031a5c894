-- Innermost steps are steps, and normal forms have none.
use Rattle.std.proofs.Common.{ℕ, List}
use Rattle.zm_logic.specs.Tree.{Term, Terms, Form, Side, Rule}
use Rattle.zm_logic.specs.Rewriting.{RewritesBySome, TermStep, TermsStep, Step}
use Rattle.zm_logic.specs.Innermost.{FirstRewrites, IsNormal, InnermostTermStep, InnermostTermsStep, InnermostStep, Innermost}
use Rattle.zm_logic.specs.Laws as laws
use Rattle.zm_logic.proofs.Sames.{Contains-here, Contains-there}

first_is_some : {rules : List Rule} {x y : Side} → FirstRewrites rules x y → RewritesBySome rules x y
first_is_some (FirstRewrites.first {r = r} {rules = rules} h) = (r, Contains-here r rules, h)
first_is_some (FirstRewrites.later {r = r} {rules = rules} n h) = let x = first_is_some h in (x.0, Contains-there r rules x.0 x.1, x.2)

module _ (rules : List Rule) where
  mutual
    term_step : {a b : Term} → InnermostTermStep rules a b → TermStep rules a b
    term_step (InnermostTermStep.here n h) = TermStep.here (first_is_some h)
    term_step (InnermostTermStep.argument h) = TermStep.argument (terms_step h)

    terms_step : {us vs : Terms} → InnermostTermsStep rules us vs → TermsStep rules us vs
    terms_step (InnermostTermsStep.first h) = TermsStep.first (term_step h)
    terms_step (InnermostTermsStep.later n h) = TermsStep.later (terms_step h)

  pub innermost_step : {f g : Form} → InnermostStep rules f g → Step rules f g
  innermost_step (InnermostStep.here n h) = Step.here (first_is_some h)
  innermost_step (InnermostStep.atom h) = Step.atom (terms_step h)
  innermost_step (InnermostStep.equal_left h) = Step.equal_left (term_step h)
  innermost_step (InnermostStep.equal_right n h) = Step.equal_right (term_step h)
  innermost_step (InnermostStep.negation h) = Step.negation (innermost_step h)
  innermost_step (InnermostStep.binary_left h) = Step.binary_left (innermost_step h)
  innermost_step (InnermostStep.binary_right n h) = Step.binary_right (innermost_step h)
  innermost_step (InnermostStep.quantified n x y h) = Step.quantified n x y (innermost_step h)
  innermost_step (InnermostStep.quantified_types n x y h) = Step.quantified_types n x y (innermost_step h)

  ends_normal : {f g : Form} {n : ℕ} → Innermost rules f n g → IsNormal rules g
  ends_normal (Innermost.done h) = h
  ends_normal (Innermost.step i h) = ends_normal h

pub innermost_is_a_step : laws.InnermostStepsAreSteps
innermost_is_a_step rules f g h = innermost_step rules h

pub innermost_ends : laws.InnermostEndsInNormalForms
innermost_ends rules f n g h = ends_normal rules h
