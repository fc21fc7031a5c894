use Rattle.std.proofs.Common.{◌≡◌, take}
use Rattle.lp_terms.specs.View.{terms_of}
use Rattle.dk_text.specs.Text.{bindings_text}
use Rattle.dk_printer.specs.Writes.{Wrote}
use Rattle.dk_printer.proofs.file.print_bindings.Given as goal

-- the variables so far are written
abbrev pub invariant-loop-ty : goal.invariant-loop-ty
invariant-loop-ty g l = record {
  depth : l.depth ≡ l.ty-index;
  written : Wrote g.K.Sink (bindings_text 0 (terms_of (take l.ty-index l.context))) l.initial.sink l.sink;
}
