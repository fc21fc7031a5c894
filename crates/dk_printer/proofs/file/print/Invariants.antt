use Rattle.std.proofs.Common.{take}
use Rattle.lp_terms.specs.View.{entries_of}
use Rattle.dk_text.specs.Text.{file_text}
use Rattle.dk_printer.specs.Writes.{Wrote}
use Rattle.dk_printer.proofs.file.print.Given as goal

-- the entries so far are written
abbrev pub invariant-loop-entry : goal.invariant-loop-entry
invariant-loop-entry g l = Wrote g.K.Sink (file_text (entries_of (take l.entry-index l.entry-items))) l.initial.sink l.sink
