-- The reader's limits on statements.
use Rattle.std.specs.Prelude.{◌≤◌}
use Rattle.tptp_reader.specs.Raw.{RawForm, RawStatement, raw_type_depth, raw_types_depth, raw_term_depth, written_depth, raw_depth}

-- A level of a term or a type needs a bracket, and 200 brackets nest: each is at most 201 deep.
abbrev pub IsNested : RawForm → Type 0
IsNested RawForm.truth = Unit {0}
IsNested RawForm.falsity = Unit {0}
IsNested (RawForm.plain u) = raw_term_depth u ≤ 201
IsNested (RawForm.equal a b) = (raw_term_depth a ≤ 201) × (raw_term_depth b ≤ 201)
IsNested (RawForm.negation f) = IsNested f
IsNested (RawForm.binary c f g) = IsNested f × IsNested g
IsNested (RawForm.quantified q v f) = (written_depth v.type ≤ 201) × IsNested f

-- within the reader's limits: a formula is at most 1000 deep
abbrev pub IsWithinLimits : RawStatement → Type 0
IsWithinLimits (RawStatement.formula name role f) = IsNested f × (raw_depth f ≤ 1000)
IsWithinLimits (RawStatement.typing name subject top) = (raw_types_depth top.arguments ≤ 201) × (raw_type_depth top.result ≤ 201)
IsWithinLimits (RawStatement.inclusion file names) = Unit {0}
