use Rattle.std.proofs.Common.{sym, ◌∙◌}
use Rattle.tff_typing.proofs.ScopeLists.{look_up_hit, look_up_miss}
use Rattle.tff_typing.proofs.scope.look_up.Goals as goal
use Rattle.tff_typing.proofs.scope.look_up.Goals.{then-eq, else-eq}

pub loop-i-preserved : goal.loop-i-preserved
loop-i-preserved c =
    let v = c.index-scope-i.result in
    elim c.if-eq.branch [
      | then-eq w ↦
          rw w.found-is
          (record {
            within = c.loop-i-test.true;
            found =
                look_up_hit c.args.scope.now c.loop-i.i v c.args.name.now c.loop-i-test.true c.index-scope-i.is
                (sym c.eq.ensures ∙ w.if-eq.true);
          })
      | else-eq w ↦
          rw w.found-is
          (record {
            within = c.loop-i.invariant.within;
            found =
                look_up_miss c.args.scope.now c.loop-i.i v c.args.name.now c.loop-i.found c.loop-i-test.true
                c.index-scope-i.is (sym c.eq.ensures ∙ w.if-eq.false) c.loop-i.invariant.found;
          })
    ]
