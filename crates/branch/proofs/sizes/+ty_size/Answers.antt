-- The ids of the list are ids of the store, and their trees are less deep.
use Rattle.std.proofs.Common.{◌≡◌, length, get_or, take, ap, sym, ◌∙◌, arith}
use Rattle.std.proofs.lemmas.Result.{IfOk-weaker}
use Rattle.zm_logic.specs.Measure.{type_size, types_size}
use Rattle.term_store.specs.Node.{type_at, types_at}
use Rattle.term_store.specs.Trees.{all_trees, type_of}
use Rattle.term_store.specs.declared.ids.TyId.{TyId}
use Rattle.term_store.proofs.Loops.{type_below_at}
use Rattle.term_store.proofs.Stays.{type_depth_at_within}
use Rattle.branch.specs.Listed.{capped}
use Rattle.branch.proofs.Sizing.{capped_sum, types_size_more}
use Rattle.branch.proofs.sizes.+ty_size.Goals as goal

abbrev none : TyId
none = record { 0 = 0 }

pub ty_sizes-ty_size-requires : goal.ty_sizes-ty_size-requires
ty_sizes-ty_size-requires t c =
    let s = c.args.store.now in
    let ids = c.args.ids.now in
    let i = c.loop-id.id-index in
    let less = type_depth_at_within (all_trees s).types ids i none c.loop-id-test.true in
    (omega (arith, less, c.decreases), (type_below_at (length s.types) ids c.requires.below i none c.loop-id-test.true, c.loop-id.invariant.knows))

pub ty_sizes-loop-id-preserved : goal.ty_sizes-loop-id-preserved
ty_sizes-loop-id-preserved t c =
    let types = (all_trees c.args.store.now).types in
    let ids = c.args.ids.now in
    let i = c.loop-id.id-index in
    let sum = capped_sum c.loop-id.all c.in_ok-size.size (types_size (types_at types (take i ids))) (type_size (type_at types (get_or ids i none)))
    c.loop-id.invariant.sized c.in_ok-size.ensures.value in
    record {
      sized = c.saturating_add-all.ensures ∙ (sum ∙ sym (ap capped (types_size_more types ids i none c.loop-id-test.true)));
      knows = c.in_ok-size.ensures.knows;
    }

pub ty_size-returns-clause-value : goal.ty_size-returns-clause-value
ty_size-returns-clause-value t c =
    IfOk-weaker c.keep_type.result (λ n. n ≡ c.in_ok-size.size) (λ n. n ≡ capped (type_size (type_of c.args.store.now c.args.id)))
    (λ n e. e ∙ c.in_ok-size.ensures.value) c.keep_type.ensures.value

pub ty_size-returns-clause-knows : goal.ty_size-returns-clause-knows
ty_size-returns-clause-knows t c = c.keep_type.ensures.knows c.args.store.now c.requires.has c.in_ok-size.ensures.value c.in_ok-size.ensures.knows
