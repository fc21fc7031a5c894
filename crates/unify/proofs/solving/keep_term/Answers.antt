use Rattle.std.proofs.Common.{List, ap, sym, subst, ◌∙◌}
use Rattle.term_store.specs.Change.{IsTermId}
use Rattle.term_store.specs.Trees.{HasTerm, term_of}
use Rattle.term_store.specs.declared.ids.TermId.{TermId}
use Rattle.term_store.proofs.Kept.{still_term, kept_term}
use Rattle.unify.specs.Binding.{Binding, solved_term}
use Rattle.unify.specs.View.{latest}
use Rattle.unify.specs.Solving.{KnowsSolved}
use Rattle.unify.specs.declared.solving.Solved.{Solved}
use Rattle.unify.proofs.Building.{latest_kept, knows_kept, terms_kept_more}
use Rattle.unify.proofs.solving.keep_term.Goals as goal

pub returns-clause-knows : goal.returns-clause-knows
returns-clause-knows c =
    let s = c.args.store.now in let t = c.mk_term.new.self in let made = c.args.made.now in let kept = c.args.kept.now in
    let x = c.mk_term.ensures.kept in let head = c.args.head in let whole = c.in-Ok.id in let before : List Binding = latest s made in
    let known = knows_kept s t x before kept c.requires.knows in
    let more : Solved = record { types = kept.types; terms = c.insert.new.self } in
    let P : TermId → TermId → Type 0 = λ i r. HasTerm t i × IsTermId t (solved_term before (term_of t i)) r in
    let tree = c.in-Ok.ensures.tree ∙ c.requires.solved ∙ ap (solved_term before) (sym (kept_term s t x head c.requires.has)) in
    let knows : KnowsSolved t before more = record {
      types = known.types;
      terms = terms_kept_more P kept.terms c.insert.new.self head whole c.in_ok-insert.ensures.updates.0 known.terms (still_term s t x head c.requires.has, (c.in-Ok.ensures.has, tree));
    } in
    subst (λ (bs : List Binding). KnowsSolved t bs more) (sym (latest_kept s t x made c.requires.have)) knows
