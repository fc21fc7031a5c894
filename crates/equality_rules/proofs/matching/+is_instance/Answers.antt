use Rattle.std.proofs.Common.{◌≡◌, ◌<◌, false, get_or, length, sym, ap, ◌∙◌, arith}
use Rattle.zm_logic.specs.View.{type_tree, types_tree}
use Rattle.zm_logic.specs.Same.{same_types}
use Rattle.term_store.specs.Trees.{all_trees, type_of}
use Rattle.term_store.specs.Node.{types_at}
use Rattle.term_store.proofs.Loops.{type_below_at}
use Rattle.term_store.proofs.Stays.{type_depth_at_within}
use Rattle.equality_rules.specs.Heads.{instances_at}
use Rattle.equality_rules.proofs.Folds.{tree_bound}
use Rattle.equality_rules.proofs.Standing.{standing_below}
use Rattle.equality_rules.proofs.Matches.{bound_some, bound_none}
use Rattle.equality_rules.proofs.Pairwise.{pairs_unequal, pairs_end, pairs_no}
use Rattle.equality_rules.proofs.Lists.{instance_test, instances_pairwise}
use Rattle.equality_rules.proofs.matching.+is_instance.Goals as goal

pub are_instances-returns-then-declared-ids : goal.are_instances-returns-then-declared-ids
are_instances-returns-then-declared-ids t c =
    let T = (all_trees c.args.store.now).types in
    let ts = types_at T c.args.types.now in
    sym (instances_pairwise T ts c.args.declared.now c.args.ids.now
    ∙ pairs_unequal (instance_test T ts) c.args.declared.now c.args.ids.now (λ e. c.if-declared-ids.true (ap length c.as_slice-declared.ensures ∙ e)))

pub is_instance-same_ty-requires-clause-has : goal.is_instance-same_ty-requires-clause-has
is_instance-same_ty-requires-clause-has t c =
    standing_below (length c.args.store.now.types) c.args.types.now c.in-Bound.index c.in-Some.ty c.requires.below (sym c.standing_for.ensures ∙ c.in-Some.is)

pub is_instance-returns-in-Some : goal.is_instance-returns-in-Some
is_instance-returns-in-Some t c =
    let s = c.args.store.now in
    c.same_ty.ensures
    ∙ bound_some (all_trees s).types c.args.types.now (type_tree c.args.declared.now) c.in-Bound.index c.in-Some.ty (type_of s c.args.id)
    (ap type_tree c.in-Bound.is ∙ tree_bound c.in-Bound.index) (sym c.standing_for.ensures ∙ c.in-Some.is)

pub is_instance-returns-in-None : goal.is_instance-returns-in-None
is_instance-returns-in-None t c =
    let s = c.args.store.now in
    c.is_bound.ensures
    ∙ bound_none (all_trees s).types c.args.types.now (type_tree c.args.declared.now) c.in-Bound.index (type_of s c.args.id)
    (ap type_tree c.in-Bound.is ∙ tree_bound c.in-Bound.index) (sym c.standing_for.ensures ∙ c.in-None.is)

pub are_instances-is_instance-requires : goal.are_instances-is_instance-requires
are_instances-is_instance-requires t c =
    let s = c.args.store.now in
    let ids = c.args.ids.now in
    let i = c.loop-i.i in
    let within : i < length ids = omega (arith, c.loop-i-test.true, c.loop-i.invariant.lengths) in
    let less = type_depth_at_within (all_trees s).types ids i (record { 0 = 0 }) within in
    (omega (arith, less, c.decreases), (type_below_at (length s.types) ids c.requires.has i (record { 0 = 0 }) within, c.requires.below))

pub are_instances-returns-then-not-is_instance : goal.are_instances-returns-then-not-is_instance
are_instances-returns-then-not-is_instance t c =
    let T = (all_trees c.args.store.now).types in
    let ts = types_at T c.args.types.now in
    let xs = c.as_slice-declared.result.now in
    let is = c.args.ids.now in
    let i = c.loop-i.i in
    let here : get_or xs i c.index-declared-i.result ≡ c.index-declared-i.result = sym c.index-declared-i.is in
    let no : instance_test T ts (get_or xs i c.index-declared-i.result) (get_or is i (record { 0 = 0 })) ≡ false =
    ap (λ x. instance_test T ts x (get_or is i (record { 0 = 0 }))) here ∙ sym c.is_instance.ensures ∙ c.if-not-is_instance.true in
    sym (ap (λ ys. same_types (instances_at ts (types_tree ys)) (types_at T is)) (sym c.as_slice-declared.ensures)
    ∙ instances_pairwise T ts xs is ∙ sym c.loop-i.invariant.rest
    ∙ pairs_no (instance_test T ts) xs is i c.index-declared-i.result (record { 0 = 0 }) (omega (arith, c.loop-i-test.true))
    (omega (arith, c.loop-i-test.true, c.loop-i.invariant.lengths)) no)

pub are_instances-returns : goal.are_instances-returns
are_instances-returns t c =
    let T = (all_trees c.args.store.now).types in
    let ts = types_at T c.args.types.now in
    let xs = c.as_slice-declared.result.now in
    let is = c.args.ids.now in
    let test = instance_test T ts in
    sym (ap (λ ys. same_types (instances_at ts (types_tree ys)) (types_at T is)) (sym c.as_slice-declared.ensures)
    ∙ instances_pairwise T ts xs is ∙ sym c.loop-i.invariant.rest
    ∙ pairs_end test xs is c.loop-i.i (omega (arith, c.loop-i-test.false)) (omega (arith, c.loop-i-test.false, c.loop-i.invariant.lengths)))
