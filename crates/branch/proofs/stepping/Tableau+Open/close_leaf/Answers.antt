use Rattle.std.proofs.Common.{is_some, ap, sym, subst, ◌∙◌}
use Rattle.branch.specs.Stepped.{IsOpen}
use Rattle.branch.proofs.States.{open_some}
use Rattle.branch.proofs.stepping.Tableau+Open.close_leaf.Goals as goal

pub unwrap-current-requires : goal.unwrap-current-requires
unwrap-current-requires c =
    let o = open_some _ c.self.invariant (subst IsOpen (sym c.self.view_is) c.requires.open) in
    c.as_ref.ensures.variant ∙ ap is_some o.1
