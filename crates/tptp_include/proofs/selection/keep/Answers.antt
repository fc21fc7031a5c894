use Rattle.std.proofs.Common.{sym, ap, ◌∙◌}
use Rattle.std.specs.Option.{option_copied}
use Rattle.tptp_include.specs.Gathering.{has_a_name}
use Rattle.tptp_include.proofs.Lists.{filter_placed, all_filtered, kept_named}
use Rattle.tptp_include.proofs.selection.keep.Goals as goal

pub returns-clause-told : goal.returns-clause-told
returns-clause-told c = λ count.
    let found = rw (c.deref.ensures.value, c.as_slice.ensures) at c.in_ok-name.ensures in
    kept_named _ c.in-Some.names c.args.list.items _ count c.in-Some.is
    (sym found ∙ ap option_copied c.in_default-2.is)
    (rw c.as_slice-2.ensures at c.in_ok-keep_named.ensures)

pub returns-clause-gathered : goal.returns-clause-gathered
returns-clause-gathered c = λ all.
    rw (c.in_ok-keep_named.ensures, filter_placed c.as_slice-2.result.now c.args.list.items) (all_filtered (has_a_name _) _ all)
