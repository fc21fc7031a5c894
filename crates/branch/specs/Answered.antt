-- What a tableau is once the offers that it has shown are no longer read.
use Rattle.std.specs.Prelude.{List, Result, IfOk, IfErr}
use Rattle.std.specs.Borrow.{Bor, Fml, MutBor}
use Rattle.std.specs.Io.BufRead.{Rests}
use Rattle.choosers.specs.declared.offer.Offer.{Offer}
use Rattle.branch.specs.contracts.tableau.Open as opened
use Rattle.branch.specs.contracts.tableau.OpenStage.TheImpl.{ghosts}
use Rattle.branch.specs.contracts.tableau.Tableau.{the_row}
use Rattle.branch.specs.declared.stop.BranchStop.{BranchStop}
use Rattle.branch.specs.Listed.{IfStop}
use Rattle.branch.specs.State.{State}
use Rattle.branch.specs.Stepped.{IsSame, IsTooDeep, AreOffersSeen}

-- it is as it was, and these are the offers of its current branch, or something there is too deep
pub record HasAnswered (t u : State) (answer : Result (Bor (List Offer)) BranchStop) : Type 0 where
  pub offers : IfOk answer (λ os. AreOffersSeen u os.now)
  pub stop : IfErr answer (IfStop (IsTooDeep u))
  pub same : IsSame t u

abbrev pub EndsAnswered : MutBor State → Result (Bor (List Offer)) BranchStop → Fml
EndsAnswered t answer = Rests (the_row opened.the_row ghosts) t (λ u. HasAnswered t.now u answer)
