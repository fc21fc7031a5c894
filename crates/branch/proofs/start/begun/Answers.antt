use Rattle.std.proofs.Common.{◌≡◌, ◌≤◌, All, List, ap, sym, subst, ◌∙◌}
use Rattle.std.proofs.lemmas.Result.{IfOk-weaker}
use Rattle.zm_logic.specs.Measure.{depth}
use Rattle.zm_logic.specs.Tree.{Form}
use Rattle.zm_logic.specs.View.{form_tree, problem_tree}
use Rattle.zm_logic.specs.declared.problem.Premise.{Premise}
use Rattle.zm_logic.specs.declared.problem.Problem.{Problem}
use Rattle.branch.specs.Stepped.{IsStarted}
use Rattle.branch.specs.Roots.{AreRoots, IsOneLeaf, refuted_forms}
use Rattle.branch.proofs.Begun.{premises_shallow, may_begin, is_started}
use Rattle.branch.proofs.start.begun.Goals as goal

pub roots_of-requires-clause-premises : goal.roots_of-requires-clause-premises
roots_of-requires-clause-premises c =
    let p = c.args.problem.now in
    let same : c.as_slice.result.now ≡ p.premises = c.as_slice.ensures ∙ ap (λ (q : Problem). q.premises) c.problem-given.ensures.problem in
    subst (λ (ps : List Premise). All (λ q. depth (form_tree q.form) ≤ 1500) ps) (sym same) (premises_shallow p c.problem-given.ensures.typed)

pub at_root-requires : goal.at_root-requires
at_root-requires c =
    let p = c.args.problem.now in
    let given = c.problem-given.result.now in
    let e : given ≡ p = c.problem-given.ensures.problem in
    let same : c.as_slice.result.now ≡ p.premises = c.as_slice.ensures ∙ ap (λ (q : Problem). q.premises) e in
    let forms : refuted_forms c.as_slice.result.now given.conjecture ≡ refuted_forms p.premises p.conjecture =
    ap (λ ps. refuted_forms ps given.conjecture) same ∙ ap (λ (q : Problem). refuted_forms p.premises q.conjecture) e in
    may_begin p c.in_ok-symbols.symbols c.args.rewrites c.roots_of.new.store c.in_ok-roots.roots c.problem-given.ensures.typed c.requires
    (c.in_ok-symbols.ensures ∙ ap (λ (q : Problem). q.symbols) e)
    (subst (λ (fs : List Form). AreRoots c.roots_of.new.store fs c.in_ok-roots.roots) forms c.in_ok-roots.ensures)

pub returns : goal.returns
returns c =
    let p = c.args.problem.now in
    let given = c.problem-given.result.now in
    let e : given ≡ p = c.problem-given.ensures.problem in
    let same : c.as_slice.result.now ≡ p.premises = c.as_slice.ensures ∙ ap (λ (q : Problem). q.premises) e in
    let forms : refuted_forms c.as_slice.result.now given.conjecture ≡ refuted_forms p.premises p.conjecture =
    ap (λ ps. refuted_forms ps given.conjecture) same ∙ ap (λ (q : Problem). refuted_forms p.premises q.conjecture) e in
    let store = c.roots_of.new.store in
    let roots = c.in_ok-roots.roots in
    let symbols = c.in_ok-symbols.symbols in
    IfOk-weaker c.at_root.result (IsOneLeaf symbols c.args.rewrites store roots) (IsStarted (problem_tree p) c.args.rewrites)
    (λ t one. is_started p symbols c.args.rewrites store roots t (c.in_ok-symbols.ensures ∙ ap (λ (q : Problem). q.symbols) e)
    (subst (λ (fs : List Form). AreRoots store fs roots) forms c.in_ok-roots.ensures) one)
    c.at_root.ensures
