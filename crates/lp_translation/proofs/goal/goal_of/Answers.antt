use Rattle.std.proofs.Common.{map, ap, ◌∙◌}
use Rattle.lp_terms.specs.View.{term_of, entries_of}
use Rattle.zm_logic.specs.View.{symbol_tree, rule_tree, problem_tree}
use Rattle.zm_logic.specs.declared.problem.Problem as code
use Rattle.rule_select.specs.View.{selection_tree}
use Rattle.sequent_proof.specs.View.{tree_of}
use Rattle.lp_translation.proofs.BuildingGoalFile.{built_entries, built_file, refutation_of, conjecture_of, derives_at}
use Rattle.lp_translation.proofs.goal.goal_of.Goals as goal

pub make-requires : goal.make-requires
make-requires c =
    let p = problem_tree c.args.problem.now in
    let s = selection_tree c.args.selection.now in
    let t = tree_of c.args.derivation.now.tree in
    let symbols = c.as_slice-symbols.ensures ∙ ap (λ (q : code.Problem). q.symbols) c.problem-problem.ensures.problem in
    let refuted = refutation_of c.as_slice-symbols.result.now c.args.problem.now.symbols c.tree.result.now c.args.derivation.now.tree
    (term_of c.in_ok-refuted.refuted) symbols c.tree.ensures.tree c.in_ok-refuted.ensures in
    let conjecture = conjecture_of c.as_slice-symbols.result.now c.problem-problem.result.now c.args.problem.now
    (term_of c.in_ok-conjecture.conjecture) symbols c.problem-problem.ensures.problem c.in_ok-conjecture.ensures in
    let derived = derives_at (map symbol_tree c.args.derivation.now.symbols) p.symbols (map rule_tree c.args.derivation.now.rules) s.rules t
    c.requires.symbols c.requires.rules c.tree.ensures.kept in
    built_file p s t (term_of c.in_ok-conjecture.conjecture) (term_of c.in_ok-refuted.refuted) c.requires.sequent conjecture refuted
    c.in_ok-entries.entries c.push.new.self c.in_ok-goal.goal c.in_ok-push.ensures.ok c.in_ok-entries.ensures.entries c.in_ok-goal.ensures.value
    c.goal_files_are_well_formed.ensures c.goal_name_is_new.ensures c.problem-problem.ensures.typed c.requires.selection derived
    (c.in_ok-entries.ensures.file c.requires.selection) c.in_ok-goal.ensures.bounded.0 c.in_ok-goal.ensures.bounded.1

pub returns : goal.returns
returns c =
    let p = problem_tree c.args.problem.now in
    let s = selection_tree c.args.selection.now in
    let t = tree_of c.args.derivation.now.tree in
    let symbols = c.as_slice-symbols.ensures ∙ ap (λ (q : code.Problem). q.symbols) c.problem-problem.ensures.problem in
    let refuted = refutation_of c.as_slice-symbols.result.now c.args.problem.now.symbols c.tree.result.now c.args.derivation.now.tree
    (term_of c.in_ok-refuted.refuted) symbols c.tree.ensures.tree c.in_ok-refuted.ensures in
    let conjecture = conjecture_of c.as_slice-symbols.result.now c.problem-problem.result.now c.args.problem.now
    (term_of c.in_ok-conjecture.conjecture) symbols c.problem-problem.ensures.problem c.in_ok-conjecture.ensures in
    ap entries_of c.make.ensures
    ∙ built_entries p s t (term_of c.in_ok-conjecture.conjecture) (term_of c.in_ok-refuted.refuted) c.requires.sequent conjecture refuted
    c.in_ok-entries.entries c.push.new.self c.in_ok-goal.goal c.in_ok-push.ensures.ok c.in_ok-entries.ensures.entries c.in_ok-goal.ensures.value
