use Rattle.std.proofs.Common.{rules, sym, ◌∙◌, ap}
use Rattle.lp_terms.specs.View.{entries_of}
use Rattle.dk_text.specs.Text.{file_text}
use Rattle.dk_text.proofs.OneReading.{text_reads, one_reading}
use Rattle.dk_printer.proofs.Joined.{went_on, broke_off, ended}
use Rattle.dk_printer.proofs.Kept.{this_entry_printable}
use Rattle.dk_printer.proofs.Loops.{next_entry, entry_and_rest, all_entries}
use Rattle.dk_printer.proofs.file.print.Goals as goal

pub print_line-requires : goal.print_line-requires
print_line-requires g c =
    let items = c.entries-entry-items in
    this_entry_printable items.result.now c.args.file.now c.loop-entry.entry-index c.entry-item.result items.ensures.in_order items.ensures.entries
    c.loop-entry-test.true c.entry-item.is

pub loop-entry-preserved : goal.loop-entry-preserved
loop-entry-preserved g c =
    went_on _ c.loop-entry.invariant c.print_line.ensures (search rules)
    (next_entry c.entries-entry-items.result.now c.loop-entry.entry-index c.entry-item.result c.loop-entry-test.true c.entry-item.is)

pub returns-in_err-print_line : goal.returns-in_err-print_line
returns-in_err-print_line g c =
    let items = c.entries-entry-items in
    let same = ap (λ xs. file_text (entries_of xs)) (sym items.ensures.entries) in
    record {
      printed = broke_off _ _ c.loop-entry.invariant c.print_line.ensures (search rules) (search rules)
          (same ∙ entry_and_rest items.result.now c.loop-entry.entry-index c.entry-item.result c.loop-entry-test.true c.entry-item.is);
      one_reading = record {
        reads = text_reads (entries_of c.args.file.now) items.ensures.in_order;
        alone = λ ds r. one_reading (entries_of c.args.file.now) ds items.ensures.in_order r;
      };
    }

pub returns : goal.returns
returns g c =
    let items = c.entries-entry-items in
    let same = ap (λ xs. file_text (entries_of xs)) (sym items.ensures.entries) in
    record {
      printed = ended _ c.loop-entry.invariant (search rules) (same ∙ all_entries items.result.now c.loop-entry.entry-index c.loop-entry-test.false);
      one_reading = record {
        reads = text_reads (entries_of c.args.file.now) items.ensures.in_order;
        alone = λ ds r. one_reading (entries_of c.args.file.now) ds items.ensures.in_order r;
      };
    }
