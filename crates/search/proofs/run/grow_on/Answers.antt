use Rattle.std.proofs.Common.{◌≡◌, suc, subst, arith}
use Rattle.branch.specs.Tableau.{count}
use Rattle.branch.specs.State.{tree}
use Rattle.search.specs.Searched.{IsTurn}
use Rattle.search.proofs.Growing.{stays_on}
use Rattle.search.proofs.run.grow_on.Goals as goal

pub loop-why-preserved : goal.loop-why-preserved
loop-why-preserved c =
    let h = subst (IsTurn c.args.steps c.loop-why.tableau c.turn.new.tableau) c.in-Grown.is c.in_ok-turn.ensures.turn in
    let e : count (tree c.turn.new.tableau) ≡ suc (count (tree c.loop-why.tableau)) = h.0 in
    record {
      grown = stays_on c.args.tableau.now c.loop-why.tableau c.turn.new.tableau c.loop-why.invariant.grown c.in_ok-turn.ensures.grown (omega arith);
      within = h.1;
    }

pub returns-in-Ended-clause-grown : goal.returns-in-Ended-clause-grown
returns-in-Ended-clause-grown c =
    let h = subst (IsTurn c.args.steps c.loop-why.tableau c.turn.new.tableau) c.in-Ended.is c.in_ok-turn.ensures.turn in
    let e : count (tree c.turn.new.tableau) ≡ count (tree c.loop-why.tableau) = h.0 in
    stays_on c.args.tableau.now c.loop-why.tableau c.turn.new.tableau c.loop-why.invariant.grown c.in_ok-turn.ensures.grown (omega arith)

pub returns-in-Ended-clause-within : goal.returns-in-Ended-clause-within
returns-in-Ended-clause-within c =
    let h = subst (IsTurn c.args.steps c.loop-why.tableau c.turn.new.tableau) c.in-Ended.is c.in_ok-turn.ensures.turn in
    let e : count (tree c.turn.new.tableau) ≡ count (tree c.loop-why.tableau) = h.0 in
    let w = c.loop-why.invariant.within in
    omega arith
