use Rattle.std.proofs.Common.{◌≡◌}
use Rattle.zm_logic.specs.Measure.{term_size}
use Rattle.term_store.specs.Trees.{HasTerm, term_of}
use Rattle.branch.specs.Listed.{capped}
use Rattle.branch.proofs.Sizing.{term_kept}
use Rattle.branch.proofs.sizes.keep_term.Goals as goal

pub returns-clause-knows : goal.returns-clause-knows
returns-clause-knows c = λ s has sized knows.
    let known = term_kept (λ i n. HasTerm s i × (n ≡ capped (term_size (term_of s i)))) c.args.kept.now.terms c.insert.new.self c.args.id c.args.size
    c.in_ok-insert.ensures.updates.0 knows.terms (has, sized) in
    record { types = knows.types; terms = known; forms = knows.forms }
