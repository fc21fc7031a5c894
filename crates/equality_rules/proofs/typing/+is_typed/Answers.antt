use Rattle.std.proofs.Common.{◌≡◌, ◌&&◌, false, true, length, map, option_map, Some, IfOk, ap, sym, subst, ◌∙◌, arith, refl}
use Rattle.std.proofs.lemmas.Bool.{and_right}
use Rattle.zm_logic.specs.View.{symbol_tree}
use Rattle.term_store.specs.Node.{types_at, terms_at}
use Rattle.term_store.specs.Trees.{all_trees}
use Rattle.term_store.proofs.Loops.{term_below_at}
use Rattle.term_store.proofs.Stays.{term_depth_at_within}
use Rattle.equality_rules.specs.Typed.{are_types}
use Rattle.equality_rules.specs.Heads.{are_typed, takes, heads_are, arguments_at}
use Rattle.equality_rules.proofs.Pairwise.{each_no, each_end}
use Rattle.equality_rules.proofs.Lists.{term_test, terms_each, applied_found}
use Rattle.equality_rules.proofs.Places.{declared_some}
use Rattle.equality_rules.proofs.typing.+is_typed.Goals.{is_applied-then-not-takes-via-then-not-takes, is_applied-then-not-takes-via-else-not-takes+then-not-heads_are}
use Rattle.equality_rules.proofs.typing.+is_typed.Goals as goal

pub are_typed-is_typed-requires : goal.are_typed-is_typed-requires
are_typed-is_typed-requires t c =
    let s = c.args.store.now in
    let ids = c.args.ids.now in
    let less = term_depth_at_within (all_trees s).terms ids c.loop-id.id-index (record { 0 = 0 }) c.loop-id-test.true in (
      omega (arith, less, c.decreases),
      (term_below_at (length s.terms) ids c.requires.has c.loop-id.id-index (record { 0 = 0 }) c.loop-id-test.true, c.loop-id.invariant.right),
    )

pub are_typed-returns-then-not-branch-clause-value :
    goal.are_typed-returns-then-not-branch-clause-value
are_typed-returns-then-not-branch-clause-value t c =
    let ss = map symbol_tree c.args.symbols.now in
    let U = (all_trees c.args.store.now).terms in
    let ids = c.args.ids.now in
    sym (terms_each ss U ids ∙ sym c.loop-id.invariant.rest
    ∙ each_no (term_test ss U) ids c.loop-id.id-index (record { 0 = 0 }) c.loop-id-test.true (sym c.in_ok-is_typed.ensures.value ∙ c.if-not-branch.true))

pub are_typed-returns-clause-value : goal.are_typed-returns-clause-value
are_typed-returns-clause-value t c =
    let ss = map symbol_tree c.args.symbols.now in
    let U = (all_trees c.args.store.now).terms in
    let ids = c.args.ids.now in
    sym (terms_each ss U ids ∙ sym c.loop-id.invariant.rest ∙ each_end (term_test ss U) ids c.loop-id.id-index (omega (arith, c.loop-id-test.false)))

pub is_applied-returns-then-not-takes-clause-value :
    goal.is_applied-returns-then-not-takes-clause-value
is_applied-returns-then-not-takes-clause-value t c =
    let s = c.args.store.now in
    let ss = map symbol_tree c.args.symbols.now in
    let T = (all_trees s).types in
    let U = (all_trees s).terms in
    let d = symbol_tree c.in-Some.found.now in
    let e = declared_some ss c.args.symbol.0 d (sym (ap (option_map (λ x. symbol_tree x.now)) c.in-Some.is) ∙ c.declaration.ensures) in
    let found = applied_found ss T U c.args.symbol.0 c.args.types.now c.args.terms.now d e in
    let K = takes (Some d) (length c.args.types.now) in
    let H = heads_are ss (terms_at U c.args.terms.now) (arguments_at (Some d) (types_at T c.args.types.now)) in
    let R = are_types ss (types_at T c.args.types.now) && are_typed ss (terms_at U c.args.terms.now) in
    elim c.then-not-takes.branch [
      | is_applied-then-not-takes-via-then-not-takes w ↦ sym (found ∙ ap (λ b. (b && H) && R) (sym c.takes.ensures ∙ w.if-not-takes.true))
      | is_applied-then-not-takes-via-else-not-takes+then-not-heads_are w ↦
          sym (found ∙ ap (λ b. (K && b) && R) (sym w.heads_are.ensures ∙ w.if-not-heads_are.true) ∙ ap (λ b. b && R) (and_right K false refl))
    ]

pub is_applied-returns-clause-value : goal.is_applied-returns-clause-value
is_applied-returns-clause-value t c =
    let s = c.args.store.now in
    let ss = map symbol_tree c.args.symbols.now in
    let T = (all_trees s).types in
    let U = (all_trees s).terms in
    let d = symbol_tree c.in-Some.found.now in
    let e = declared_some ss c.args.symbol.0 d (sym (ap (option_map (λ x. symbol_tree x.now)) c.in-Some.is) ∙ c.declaration.ensures) in
    let found = applied_found ss T U c.args.symbol.0 c.args.types.now c.args.terms.now d e in
    let H = heads_are ss (terms_at U c.args.terms.now) (arguments_at (Some d) (types_at T c.args.types.now)) in
    let Y = are_typed ss (terms_at U c.args.terms.now) in
    let R = are_types ss (types_at T c.args.types.now) && Y in
    let all = found ∙ ap (λ b. (b && H) && R) (sym c.takes.ensures ∙ c.if-not-takes.false)
    ∙ ap (λ b. (true && b) && R) (sym c.heads_are.ensures ∙ c.if-not-heads_are.false)
    ∙ ap (λ b. (true && true) && (b && Y)) (sym c.in_ok-are_types.ensures.value ∙ c.if-not-branch.false) in
    subst (λ y. IfOk c.are_typed.result (λ b. b ≡ y)) (sym all) c.are_typed.ensures.value
