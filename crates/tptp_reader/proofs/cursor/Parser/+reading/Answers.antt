use Rattle.std.proofs.Common.{Some, sym, ◌∙◌, ap, arith}
use Rattle.std.specs.Prelude.{map}
use Rattle.std.proofs.lemmas.Result.{err_from_is_err_and}
use Rattle.tptp_reader.specs.Parsing.{seen}
use Rattle.tptp_reader.specs.SlowForms.{unit_in}
use Rattle.tptp_reader.specs.Kept.{limited, kept_tree, joint_connective}
use Rattle.tptp_reader.proofs.Shorter.{units_shrink}
use Rattle.tptp_reader.proofs.Chains.{chain_loop, chain_refused, chain_ends}
use Rattle.tptp_reader.proofs.cursor.Parser.+reading.Goals as goal

pub chain-returns-in_err-second-clause-reads : goal.chain-returns-in_err-second-clause-reads
chain-returns-in_err-second-clause-reads t c =
    let p = err_from_is_err_and c.from_residual.result c.from_residual.ensures.1 in
    rw (p.1, p.2)
    (chain_refused c.in_err-second.field-0.0 (unit_in limited c.args.typed c.args.room) (limited.of_join (joint_connective c.args.joint)) c.args.connective _ (kept_tree c.loop-connective.formula) (map seen c.loop-connective.self.rest.now) (map seen c.take.new.self.rest.now) _ (c.take.ensures.yes c.loop-connective-test.true) c.in_err-second.ensures.reads c.loop-connective.invariant.same)

pub chain-loop-connective-smaller : goal.chain-loop-connective-smaller
chain-loop-connective-smaller t c = omega (arith, c.take.ensures.shorter c.loop-connective-test.true, c.in_ok-second.ensures.shrinks)

pub chain-loop-connective-preserved : goal.chain-loop-connective-preserved
chain-loop-connective-preserved t c = record {
  same = chain_loop (unit_in limited c.args.typed c.args.room) (limited.of_join (joint_connective c.args.joint)) c.args.connective (units_shrink limited c.args.typed c.args.room) _ (kept_tree c.loop-connective.formula) (kept_tree c.in_ok-second.second) _ (map seen c.loop-connective.self.rest.now) (map seen c.take.new.self.rest.now) (map seen c.unit.new.self.rest.now) c.in_ok-formula.ensures (c.take.ensures.yes c.loop-connective-test.true) c.in_ok-second.ensures.reads c.loop-connective.invariant.same;
  shrinks = omega (arith, c.in_ok-second.ensures.shrinks, c.take.ensures.shrinks);
}

pub chain-returns-clause-reads : goal.chain-returns-clause-reads
chain-returns-clause-reads t c =
    let no = c.take.ensures.no c.loop-connective-test.false in
    sym c.loop-connective.invariant.same
    ∙ chain_ends (unit_in limited c.args.typed c.args.room) (limited.of_join (joint_connective c.args.joint)) c.args.connective (kept_tree c.loop-connective.formula) (map seen c.loop-connective.self.rest.now) no.0
    ∙ ap (λ r. Some (kept_tree c.loop-connective.formula, map seen r)) (sym no.1)
