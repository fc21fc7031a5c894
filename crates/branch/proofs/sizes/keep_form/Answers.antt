use Rattle.std.proofs.Common.{◌≡◌}
use Rattle.zm_logic.specs.Measure.{size}
use Rattle.term_store.specs.Trees.{HasForm, form_of}
use Rattle.branch.specs.Listed.{capped}
use Rattle.branch.proofs.Sizing.{form_kept}
use Rattle.branch.proofs.sizes.keep_form.Goals as goal

pub returns-clause-knows : goal.returns-clause-knows
returns-clause-knows c = λ s has sized knows.
    let known = form_kept (λ i n. HasForm s i × (n ≡ capped (size (form_of s i)))) c.args.kept.now.forms c.insert.new.self c.args.id c.args.size
    c.in_ok-insert.ensures.updates.0 knows.forms (has, sized) in
    record { types = knows.types; terms = knows.terms; forms = known }
