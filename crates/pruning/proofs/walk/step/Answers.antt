use Rattle.std.proofs.Common.{sym, subst, IfOk, ℕ, List}
use Rattle.term_store.specs.declared.ids.FormId.{FormId}
use Rattle.choosers.specs.declared.offer.Kind.{Kind}
use Rattle.branch.specs.Ids as ids
use Rattle.pruning.specs.Walked.{IsWalked, AreWalked}
use Rattle.pruning.proofs.walk.step.Goals as goal

pub returns-in-Used : goal.returns-in-Used
returns-in-Used c =
    let s = c.args.store.now in
    subst (λ x. IfOk c.used_step.result (λ w. (pick : ℕ) (kind : Kind) (b : List FormId) (cs : List ids.Child) → AreWalked s b cs x
    → IsWalked s b (ids.Node.step pick kind c.args.act (ids.children_of cs)) w)) (sym c.in-Used.is) c.used_step.ensures
