use Rattle.std.proofs.Common.{List, ap, sym, subst, ◌∙◌}
use Rattle.term_store.specs.Change.{IsTypeId}
use Rattle.term_store.specs.Trees.{HasType, type_of}
use Rattle.term_store.specs.declared.ids.TyId.{TyId}
use Rattle.term_store.proofs.Kept.{still_type, kept_type}
use Rattle.unify.specs.Binding.{Binding, solved_type}
use Rattle.unify.specs.View.{latest}
use Rattle.unify.specs.Solving.{KnowsSolved}
use Rattle.unify.specs.declared.solving.Solved.{Solved}
use Rattle.unify.proofs.Building.{latest_kept, knows_kept, types_kept_more}
use Rattle.unify.proofs.solving.keep_ty.Goals as goal

pub returns-clause-knows : goal.returns-clause-knows
returns-clause-knows c =
    let s = c.args.store.now in let t = c.mk_ty.new.self in let made = c.args.made.now in let kept = c.args.kept.now in
    let x = c.mk_ty.ensures.kept in let head = c.args.head in let whole = c.in-Ok.id in let before : List Binding = latest s made in
    let known = knows_kept s t x before kept c.requires.knows in
    let more : Solved = record { types = c.insert.new.self; terms = kept.terms } in
    let P : TyId → TyId → Type 0 = λ i r. HasType t i × IsTypeId t (solved_type before (type_of t i)) r in
    let tree = c.in-Ok.ensures.tree ∙ c.requires.solved ∙ ap (solved_type before) (sym (kept_type s t x head c.requires.has)) in
    let knows : KnowsSolved t before more = record {
      types = types_kept_more P kept.types c.insert.new.self head whole c.in_ok-insert.ensures.updates.0 known.types (still_type s t x head c.requires.has, (c.in-Ok.ensures.has, tree));
      terms = known.terms;
    } in
    subst (λ (bs : List Binding). KnowsSolved t bs more) (sym (latest_kept s t x made c.requires.have)) knows
