use Rattle.std.proofs.Common.{◌≡◌, ◌&&◌, false, true, length, map, IfOk, ap, sym, subst, ◌∙◌, arith}
use Rattle.zm_logic.specs.View.{symbol_tree}
use Rattle.zm_logic.specs.Typing.{symbol_at}
use Rattle.term_store.specs.Node.{types_at}
use Rattle.term_store.specs.Trees.{all_trees, type_of, type_node}
use Rattle.term_store.proofs.Loops.{type_below_at}
use Rattle.term_store.proofs.Stays.{type_depth_at_within}
use Rattle.equality_rules.specs.Typed.{constructs, are_types}
use Rattle.equality_rules.proofs.Pairwise.{each_no, each_end}
use Rattle.equality_rules.proofs.Lists.{type_test, types_each, con_is_type}
use Rattle.equality_rules.proofs.typing.+is_type.Goals as goal

pub are_types-is_type-requires : goal.are_types-is_type-requires
are_types-is_type-requires t c =
    let s = c.args.store.now in
    let ids = c.args.ids.now in
    let less = type_depth_at_within (all_trees s).types ids c.loop-id.id-index (record { 0 = 0 }) c.loop-id-test.true in (
      omega (arith, less, c.decreases),
      (type_below_at (length s.types) ids c.requires.has c.loop-id.id-index (record { 0 = 0 }) c.loop-id-test.true, c.loop-id.invariant.right),
    )

pub are_types-returns-then-not-branch-clause-value :
    goal.are_types-returns-then-not-branch-clause-value
are_types-returns-then-not-branch-clause-value t c =
    let ss = map symbol_tree c.args.symbols.now in
    let T = (all_trees c.args.store.now).types in
    let ids = c.args.ids.now in
    sym (types_each ss T ids ∙ sym c.loop-id.invariant.rest
    ∙ each_no (type_test ss T) ids c.loop-id.id-index (record { 0 = 0 }) c.loop-id-test.true (sym c.in_ok-is_type.ensures.value ∙ c.if-not-branch.true))

pub are_types-returns-clause-value : goal.are_types-returns-clause-value
are_types-returns-clause-value t c =
    let ss = map symbol_tree c.args.symbols.now in
    let T = (all_trees c.args.store.now).types in
    let ids = c.args.ids.now in
    sym (types_each ss T ids ∙ sym c.loop-id.invariant.rest ∙ each_end (type_test ss T) ids c.loop-id.id-index (omega (arith, c.loop-id-test.false)))

pub is_made_type-returns-then-not-constructs-clause-value :
    goal.is_made_type-returns-then-not-constructs-clause-value
is_made_type-returns-then-not-constructs-clause-value t c =
    let s = c.args.store.now in
    let ss = map symbol_tree c.args.symbols.now in
    let T = (all_trees s).types in
    let f = sym c.ty_node.ensures.tree ∙ ap (type_node s) c.in-Con.is in
    let n = ap length c.as_slice.ensures in
    let no = ap (constructs (symbol_at ss c.in-Con.symbol.0)) (sym n) ∙ sym c.constructs.ensures ∙ c.if-not-constructs.true in
    sym (con_is_type ss T (type_of s c.args.id) c.in-Con.symbol.0 c.in-Con.ids f ∙ ap (λ b. b && are_types ss (types_at T c.in-Con.ids)) no)

pub is_made_type-returns-else-not-constructs-clause-value :
    goal.is_made_type-returns-else-not-constructs-clause-value
is_made_type-returns-else-not-constructs-clause-value t c =
    let s = c.args.store.now in
    let ss = map symbol_tree c.args.symbols.now in
    let T = (all_trees s).types in
    let f = sym c.ty_node.ensures.tree ∙ ap (type_node s) c.in-Con.is in
    let n = ap length c.as_slice.ensures in
    let yes = ap (constructs (symbol_at ss c.in-Con.symbol.0)) (sym n) ∙ sym c.constructs.ensures ∙ c.if-not-constructs.false in
    let e = ap (λ is. are_types ss (types_at T is)) c.as_slice-in-Con.ensures
    ∙ sym (con_is_type ss T (type_of s c.args.id) c.in-Con.symbol.0 c.in-Con.ids f ∙ ap (λ b. b && are_types ss (types_at T c.in-Con.ids)) yes) in
    subst (λ y. IfOk c.are_types.result (λ b. b ≡ y)) e c.are_types.ensures.value
