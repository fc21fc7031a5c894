use Rattle.std.proofs.Common.{◌≡◌, ◌<◌, ◌-◌, suc, arith, ap, sym, ◌∙◌, get_or, length, drop, subst}
use Rattle.term_store.specs.Trees.{form_of}
use Rattle.term_store.specs.declared.ids.FormId.{FormId}
use Rattle.sequent_proof.specs.View.{tree_of}
use Rattle.param_store.specs.View.{forms_of}
use Rattle.branch.proofs.Held.{held_at}
use Rattle.pruning.specs.Walked.{conversion, conversions}
use Rattle.pruning.proofs.Ids.{conversions_end, conversions_before}
use Rattle.pruning.proofs.convert.all_converted.Goals as goal

abbrev none : FormId
none = record { 0 = 0 }

pub loop-place-init : goal.loop-place-init
loop-place-init c = record {
  tree = sym (conversions_end c.args.store.now c.args.raw.now c.args.normal.now c.shorter-place.result (tree_of c.args.tree) c.shorter-place.ensures.most);
  in_raw = c.shorter-place.ensures.raw;
  in_normal = c.shorter-place.ensures.normal;
}

pub converted_once-requires-clause-raw : goal.converted_once-requires-clause-raw
converted_once-requires-clause-raw c =
    held_at c.args.store.now c.args.raw.now (c.loop-place.place - 1) none c.requires.raw (omega (arith, c.loop-place.invariant.in_raw, c.loop-place-test.true))

pub converted_once-requires-clause-normal : goal.converted_once-requires-clause-normal
converted_once-requires-clause-normal c =
    held_at c.args.store.now c.args.normal.now (c.loop-place.place - 1) none c.requires.normal (omega (arith, c.loop-place.invariant.in_normal, c.loop-place-test.true))

pub loop-place-preserved : goal.loop-place-preserved
loop-place-preserved c =
    let q = c.loop-place.place - 1 in
    let z : suc q ≡ c.loop-place.place = omega (arith, c.loop-place-test.true) in
    record {
      tree = c.in_ok-tree.ensures
          ∙ conversions_before c.args.store.now c.args.raw.now c.args.normal.now c.loop-place.place q none (tree_of c.args.tree) (tree_of c.loop-place.tree) z
          c.loop-place.invariant.in_raw c.loop-place.invariant.in_normal c.loop-place.invariant.tree;
      in_raw = omega (arith, z, c.loop-place.invariant.in_raw);
      in_normal = omega (arith, z, c.loop-place.invariant.in_normal);
    }
