use Rattle.std.proofs.Common.{◌≡◌}
use Rattle.zm_logic.specs.Measure.{type_size}
use Rattle.term_store.specs.Trees.{HasType, type_of}
use Rattle.branch.specs.Listed.{capped}
use Rattle.branch.proofs.Sizing.{type_kept}
use Rattle.branch.proofs.sizes.keep_type.Goals as goal

pub returns-clause-knows : goal.returns-clause-knows
returns-clause-knows c = λ s has sized knows.
    let known = type_kept (λ i n. HasType s i × (n ≡ capped (type_size (type_of s i)))) c.args.kept.now.types c.insert.new.self c.args.id c.args.size
    c.in_ok-insert.ensures.updates.0 knows.types (has, sized) in
    record { types = known; terms = knows.terms; forms = knows.forms }
