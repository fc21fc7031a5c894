use Rattle.std.proofs.Common.{◌≡◌, ℕ, List, Bool, true, false, cond, Option, Some, None, refl, ap, sym, ◌∙◌, subst}
use Rattle.tptp_reader.specs.Brackets.{Bracket}
use Rattle.tptp_reader.specs.Scanning.{NotWide}
use Rattle.tptp_reader.proofs.Awaited.{brackets_awaited, brackets_crossed, brackets_missing, takes_further, further, some_takes}
use Rattle.tptp_reader.proofs.wide.Front.take_balanced.Goals as goal

not_there : (text other : List ℕ) (from : ℕ) → text ≡ other → NotWide text from → NotWide other from
not_there text other from e n = subst (λ (xs : List ℕ). NotWide xs from) e n

fits_or : (t s : Bool) (o : Option (List Bracket)) (left : List Bracket) → o ≡ cond t (Some left) None → t ≡ s → o ≡ cond s (Some left) None
fits_or t s o left e f = e ∙ ap (λ b. cond b (Some left) None) f

pub returns-then-not-branch : goal.returns-then-not-branch
returns-then-not-branch c from a =
    not_there _ _ from c.loop-self.invariant.same_text
    (brackets_crossed from _ _ _ _ (sym c.is_closed.ensures ∙ c.loop-self-test.true) (some_takes _ _ _ _ c.in-Some.is c.in_ok-lexeme.ensures.takes)
    (fits_or _ false _ _ c.in_ok-take-in-Some.ensures c.if-not-branch.true) (c.loop-self.invariant.awaits from a))

pub loop-self-smaller : goal.loop-self-smaller
loop-self-smaller c = further _ _ _ _ (some_takes _ _ _ _ c.in-Some.is c.in_ok-lexeme.ensures.takes) refl

pub loop-self-preserved : goal.loop-self-preserved
loop-self-preserved c = record {
  same_text = (takes_further _ _ _ (some_takes _ _ _ _ c.in-Some.is c.in_ok-lexeme.ensures.takes)).0 ∙ c.loop-self.invariant.same_text;
  awaits = λ from a.
      brackets_awaited from _ _ _ _ _ (sym c.is_closed.ensures ∙ c.loop-self-test.true) (some_takes _ _ _ _ c.in-Some.is c.in_ok-lexeme.ensures.takes)
      (fits_or _ true _ _ c.in_ok-take-in-Some.ensures c.if-not-branch.false) (c.loop-self.invariant.awaits from a);
}

pub returns-in-None : goal.returns-in-None
returns-in-None c from a =
    not_there _ _ from c.loop-self.invariant.same_text
    (brackets_missing from _ _ (sym c.is_closed.ensures ∙ c.loop-self-test.true) (c.in_ok-lexeme.ensures.none c.in-None.is) (c.loop-self.invariant.awaits from a))
