use Rattle.std.proofs.Common.{◌≡◌, Some, ap, sym, ◌∙◌}
use Rattle.std.specs.Option.{option_copied}
use Rattle.branch.proofs.States.{some_noted, branch_is}
use Rattle.branch.proofs.tableau.Tableau+Open.branch.Goals as goal

pub unwrap-requires : goal.unwrap-requires
unwrap-requires c = c.as_ref.ensures.variant ∙ some_noted _ c.args.self.now c.self.view_is c.self.invariant c.requires

pub returns : goal.returns
returns c =
    let e : Some c.unwrap.result.now ≡ c.self.inside.current = sym (ap option_copied c.unwrap.ensures) ∙ c.as_ref.ensures.value in
    branch_is _ c.args.self.now c.unwrap.result.now c.self.view_is c.self.invariant e
