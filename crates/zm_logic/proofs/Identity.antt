-- The congruence: it is an equivalence, and equality where there are no rules.
use Rattle.std.proofs.Common.{◌≡◌, List, [], refl, arith}
use Rattle.zm_logic.specs.Tree.{Term, Terms, Form, Side, Symbol, Rule}
use Rattle.zm_logic.specs.Typing.{WellTyped}
use Rattle.zm_logic.specs.Rewriting.{RewritesBySome, TermStep, TermsStep, Step, Congruent}
use Rattle.zm_logic.specs.Laws as laws

no_rule : {x y : Side} → RewritesBySome [] x y → ⊥
no_rule (r, has, w) = absurd (omega (arith, has.1))

mutual
  no_term_step : {a b : Term} → TermStep [] a b → ⊥
  no_term_step (TermStep.here h) = no_rule h
  no_term_step (TermStep.argument h) = no_terms_step h

  no_terms_step : {us vs : Terms} → TermsStep [] us vs → ⊥
  no_terms_step (TermsStep.first h) = no_term_step h
  no_terms_step (TermsStep.later h) = no_terms_step h

pub no_step : {f g : Form} → Step [] f g → ⊥
no_step (Step.here h) = no_rule h
no_step (Step.atom h) = no_terms_step h
no_step (Step.equal_left h) = no_term_step h
no_step (Step.equal_right h) = no_term_step h
no_step (Step.negation h) = no_step h
no_step (Step.binary_left h) = no_step h
no_step (Step.binary_right h) = no_step h
no_step (Step.quantified n x y h) = no_step h
no_step (Step.quantified_types n x y h) = no_step h

equal : (symbols : List Symbol) {f g : Form} → Congruent symbols [] f g → f ≡ g
equal symbols (Congruent.same w) = refl
equal symbols (Congruent.forward w h k) = absurd (no_step h)
equal symbols (Congruent.backward w h k) = absurd (no_step h)

pub without_rules : laws.CongruenceWithoutRulesIsEquality
without_rules symbols f g c = equal symbols c

module _ (symbols : List Symbol) (rules : List Rule) where
  first : {f g : Form} → Congruent symbols rules f g → WellTyped symbols f
  first (Congruent.same w) = w
  first (Congruent.forward w h k) = w
  first (Congruent.backward w h k) = w

  joined : {f g h : Form} → Congruent symbols rules f g → Congruent symbols rules g h → Congruent symbols rules f h
  joined (Congruent.same w) c = c
  joined (Congruent.forward w h k) c = Congruent.forward w h (joined k c)
  joined (Congruent.backward w h k) c = Congruent.backward w h (joined k c)

  turned : {f g : Form} → Congruent symbols rules f g → Congruent symbols rules g f
  turned (Congruent.same w) = Congruent.same w
  turned (Congruent.forward w h k) = joined (turned k) (Congruent.backward (first k) h (Congruent.same w))
  turned (Congruent.backward w h k) = joined (turned k) (Congruent.forward (first k) h (Congruent.same w))

pub symmetric : laws.CongruenceIsSymmetric
symmetric symbols rules f g c = turned symbols rules c

pub transitive : laws.CongruenceIsTransitive
transitive symbols rules f g h c d = joined symbols rules c d
