use Rattle.std.proofs.Common.{◌≡◌, sym, subst}
use Rattle.param_store.specs.View.{HasForms}
use Rattle.branch.proofs.entering.number_all.Goals as goal

pub returns-in-Err-clause-has : goal.returns-in-Err-clause-has
returns-in-Err-clause-has c =
    let e : c.keep_first.new.self ≡ c.args.params.now = cc in
    subst (HasForms c.args.store.now) (sym e) c.requires.numbered
