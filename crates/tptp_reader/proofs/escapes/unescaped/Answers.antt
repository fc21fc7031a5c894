use Rattle.std.proofs.Common.{sym, ◌∙◌, subst}
use Rattle.std.specs.Str.{IsUtf8}
use Rattle.tptp_reader.proofs.Unescaped.{unescaped_text}
use Rattle.tptp_reader.proofs.escapes.unescaped.Goals as goal

pub unreachable-requires : goal.unreachable-requires
unreachable-requires c = c.in-Err.ensures.cases.0 (subst IsUtf8 (sym (c.as_slice.ensures.value ∙ c.in_ok-bytes.ensures)) (unescaped_text c.as_bytes.result.now c.as_bytes.ensures.utf8))
