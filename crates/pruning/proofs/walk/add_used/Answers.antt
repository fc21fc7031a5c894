use Rattle.std.proofs.Common.{◌∙◌, ap, sym}
use Rattle.param_store.specs.View.{forms_of}
use Rattle.branch.specs.Ids.{child_ids}
use Rattle.branch.specs.Tableau.{without}
use Rattle.pruning.proofs.Walked.{child_added}
use Rattle.pruning.proofs.walk.add_used.Goals as goal

pub returns : goal.returns
returns c = λ b is.
    let s = c.args.store.now in
    child_added s b (child_ids c.args.child.now) c.args.entered c.args.used.now (record { trees = c.push.new.self; uses = c.append.new.self })
    c.in_ok-tree.tree c.in_ok-more.more is c.in_ok-push.ensures.ok c.in_ok-append.ensures c.in_ok-tree.ensures
    (c.in_ok-more.ensures.forms ∙ (ap (λ ids. without (forms_of s ids) (forms_of s c.as_slice-2.result.now)) c.as_slice.ensures
    ∙ ap (λ ids. without (forms_of s c.args.entered.fresh) (forms_of s ids)) c.as_slice-2.ensures)) c.in_ok-more.ensures.has
