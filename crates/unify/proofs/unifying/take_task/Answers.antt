use Rattle.std.proofs.Common.{◌≡◌, ◌++◌, ◌∷◌, [], sym, subst}
use Rattle.term_store.specs.Trees.{type_of, term_of}
use Rattle.unify.specs.Binding.{solved_type, solved_term}
use Rattle.unify.specs.View.{latest}
use Rattle.unify.specs.Task.{Knows, IsState, GivesWay}
use Rattle.unify.specs.declared.task.Task.{Task}
use Rattle.unify.specs.declared.task.Task.TheVariants.{TypesDone, TermsDone}
use Rattle.unify.specs.declared.task.Pair.{Pair}
use Rattle.unify.specs.declared.task.Known.{Known}
use Rattle.unify.proofs.HeadSteps.{id_of}
use Rattle.unify.proofs.TermWalk.{term_id}
use Rattle.unify.proofs.Onward.{pair_of, pair_more, types_noted, terms_noted, types_done, terms_done}
use Rattle.unify.proofs.unifying.take_task.Goals as goal

pub returns-in_ok-insert-in-TypesDone : goal.returns-in_ok-insert-in-TypesDone
returns-in_ok-insert-in-TypesDone c =
    let s = c.args.store.now in let made = c.args.made.now in let known = c.args.known.now in let rest = c.args.tasks.now.items in
    let i = c.in-TypesDone.left in let j = c.in-TypesDone.right in
    let more : Known = record { types = c.insert.new.self; terms = known.terms } in
    let l : IsState s made known (rest ++ TypesDone i j ∷ []) = subst (λ (t : Task). IsState s made known (rest ++ t ∷ [])) c.in-TypesDone.is c.requires.state in
    let equal : Pair → Type 0 = λ p. solved_type (latest s made) (type_of s (id_of p.left)) ≡ solved_type (latest s made) (type_of s (id_of p.right)) in
    let k : Knows s (latest s made) more = record {
      types = pair_more equal known.types c.insert.new.self (pair_of i.0 j.0) c.in_ok-insert-in-TypesDone.ensures.updates.0 l.known.types (types_noted s made known rest i j l);
      terms = l.known.terms;
    } in
    subst (λ (t : Task). GivesWay s made (rest ++ t ∷ []) more rest) (sym c.in-TypesDone.is) (types_done s made known rest more i j l k)

pub returns-in_ok-insert-in-TermsDone : goal.returns-in_ok-insert-in-TermsDone
returns-in_ok-insert-in-TermsDone c =
    let s = c.args.store.now in let made = c.args.made.now in let known = c.args.known.now in let rest = c.args.tasks.now.items in
    let i = c.in-TermsDone.left in let j = c.in-TermsDone.right in
    let more : Known = record { types = known.types; terms = c.insert-in-TermsDone.new.self } in
    let l : IsState s made known (rest ++ TermsDone i j ∷ []) = subst (λ (t : Task). IsState s made known (rest ++ t ∷ [])) c.in-TermsDone.is c.requires.state in
    let equal : Pair → Type 0 = λ p. solved_term (latest s made) (term_of s (term_id p.left)) ≡ solved_term (latest s made) (term_of s (term_id p.right)) in
    let k : Knows s (latest s made) more = record {
      types = l.known.types;
      terms = pair_more equal known.terms c.insert-in-TermsDone.new.self (pair_of i.0 j.0) c.in_ok-insert-in-TermsDone.ensures.updates.0 l.known.terms (terms_noted s made known rest i j l);
    } in
    subst (λ (t : Task). GivesWay s made (rest ++ t ∷ []) more rest) (sym c.in-TermsDone.is) (terms_done s made known rest more i j l k)
