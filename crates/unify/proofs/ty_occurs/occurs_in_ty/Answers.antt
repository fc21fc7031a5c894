use Rattle.std.proofs.Common.{◌++◌, ◌∷◌, [], ap, subst, ◌∙◌}
use Rattle.unify.specs.View.{latest}
use Rattle.unify.specs.Occurs.{IfFound, TypeLacks, EntersType}
use Rattle.unify.proofs.TypeWalk.{walk_found, walk_has, walk_enters, enters_lighter, walk_leaves, left_lacks, leaves_lighter, known_more}
use Rattle.unify.proofs.ty_occurs.occurs_in_ty.Goals as goal

pub loop-visit-smaller-in_ok-insert-in-Leave : goal.loop-visit-smaller-in_ok-insert-in-Leave
loop-visit-smaller-in_ok-insert-in-Leave c =
    let s = c.args.store.now in let bs = latest s c.args.made.now in let rest = c.pop.new.self.items in
    let e = c.in-Some.ensures.items ∙ ap (λ v. rest ++ (v ∷ [])) c.in-Leave.is in
    leaves_lighter s bs c.args.meta c.args.within c.loop-visit.path.items rest c.in-Leave.id e

pub loop-visit-preserved-in_ok-insert-in-Leave : goal.loop-visit-preserved-in_ok-insert-in-Leave
loop-visit-preserved-in_ok-insert-in-Leave c =
    let s = c.args.store.now in let bs = latest s c.args.made.now in let rest = c.pop.new.self.items in
    let e = c.in-Some.ensures.items ∙ ap (λ v. rest ++ (v ∷ [])) c.in-Leave.is in
    record {
      walks = walk_leaves s bs c.args.meta c.args.within c.loop-visit.path.items rest c.in-Leave.id e c.loop-visit.invariant.walks;
      known = known_more s bs c.args.meta c.loop-visit.lacking c.insert.new.self c.in-Leave.id c.in_ok-insert-in-Leave.ensures.updates.0 c.loop-visit.invariant.known
          (left_lacks s bs c.args.meta c.args.within c.loop-visit.path.items rest c.in-Leave.id e c.loop-visit.invariant.walks);
    }

pub enter-requires-clause-has : goal.enter-requires-clause-has
enter-requires-clause-has c =
    let s = c.args.store.now in let bs = latest s c.args.made.now in let rest = c.pop.new.self.items in
    let e = c.in-Some.ensures.items ∙ ap (λ v. rest ++ (v ∷ [])) c.in-Enter.is in
    walk_has s bs c.args.meta c.args.within c.loop-visit.path.items rest c.in-Enter.id e c.loop-visit.invariant.walks

pub returns-then-branch : goal.returns-then-branch
returns-then-branch c =
    let s = c.args.store.now in let bs = latest s c.args.made.now in let rest = c.pop.new.self.items in
    let e = c.in-Some.ensures.items ∙ ap (λ v. rest ++ (v ∷ [])) c.in-Enter.is in
    let f = subst (IfFound (TypeLacks s bs c.args.meta c.in-Enter.id → ⊥) (EntersType s bs c.args.meta c.in-Enter.id rest c.enter.new.path.items)) c.if-branch.true c.in_ok-enter-in-Enter.ensures in
    walk_found s bs c.args.meta c.args.within c.loop-visit.path.items rest c.in-Enter.id e c.loop-visit.invariant.walks f

pub loop-visit-smaller : goal.loop-visit-smaller
loop-visit-smaller c =
    let s = c.args.store.now in let bs = latest s c.args.made.now in let rest = c.pop.new.self.items in
    let e = c.in-Some.ensures.items ∙ ap (λ v. rest ++ (v ∷ [])) c.in-Enter.is in
    let n = subst (IfFound (TypeLacks s bs c.args.meta c.in-Enter.id → ⊥) (EntersType s bs c.args.meta c.in-Enter.id rest c.enter.new.path.items)) c.if-branch.false c.in_ok-enter-in-Enter.ensures in
    enters_lighter s bs c.args.meta c.args.within c.loop-visit.path.items rest c.in-Enter.id c.enter.new.path.items e n

pub loop-visit-preserved : goal.loop-visit-preserved
loop-visit-preserved c =
    let s = c.args.store.now in let bs = latest s c.args.made.now in let rest = c.pop.new.self.items in
    let e = c.in-Some.ensures.items ∙ ap (λ v. rest ++ (v ∷ [])) c.in-Enter.is in
    let n = subst (IfFound (TypeLacks s bs c.args.meta c.in-Enter.id → ⊥) (EntersType s bs c.args.meta c.in-Enter.id rest c.enter.new.path.items)) c.if-branch.false c.in_ok-enter-in-Enter.ensures in
    record {
      walks = walk_enters s bs c.args.meta c.args.within c.loop-visit.path.items rest c.in-Enter.id c.enter.new.path.items e c.loop-visit.invariant.walks n;
      known = c.loop-visit.invariant.known;
    }
