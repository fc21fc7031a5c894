-- The leftmost innermost step in the parts of a formula, its root left aside.
use Rattle.std.specs.Prelude.{List, Option, None}
use Rattle.zm_logic.specs.Tree.{Form, Rule}
use Rattle.rule_index.specs.Matching.{or_else}
use Rattle.normaliser.specs.NextStep.{under, next_term, next_terms, next_step}

abbrev pub part_step : List Rule → Form → Option Form
part_step rules Form.truth = None
part_step rules Form.falsity = None
part_step rules (Form.atom p ts us) = under (Form.atom p ts) (next_terms rules us)
part_step rules (Form.equal t a b) = or_else (under (λ c. Form.equal t c b) (next_term rules a)) (under (Form.equal t a) (next_term rules b))
part_step rules (Form.negation f) = under Form.negation (next_step rules f)
part_step rules (Form.binary c f g) =
    or_else (under (λ h. Form.binary c h g) (next_step rules f)) (under (Form.binary c f) (next_step rules g))
part_step rules (Form.quantified q t f) = under (Form.quantified q t) (next_step rules f)
part_step rules (Form.quantified_types q f) = under (Form.quantified_types q) (next_step rules f)
