use Rattle.std.proofs.Common.{◌≡◌, take, min, ◌-◌, ◌^◌}
use Rattle.tptp_reader.specs.Raw.{raw_terms_depth}
use Rattle.tptp_reader.specs.View.{raw_terms_tree}
use Rattle.tptp_reader.proofs.depths.+raw_term_depth.Given as goal

abbrev pub invariant-terms_depth-loop-u : goal.invariant-terms_depth-loop-u
invariant-terms_depth-loop-u l = l.all ≡ min (raw_terms_depth (raw_terms_tree (take l.u-index l.u-items))) (2 ^ 32 - 1)
