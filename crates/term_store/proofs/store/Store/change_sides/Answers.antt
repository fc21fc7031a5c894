-- What was made stays while more is made.
use Rattle.std.proofs.Common.{◌<◌, max, ap, subst, arith, rules}
use Rattle.zm_logic.specs.Measure.{type_depth, term_depth}
use Rattle.term_store.specs.Trees.{type_of, term_of}
use Rattle.term_store.specs.Change.{changed_type, changed_term, change_of, IsTermId}
use Rattle.term_store.specs.Fault.{IfTooDeep}
use Rattle.term_store.proofs.Kept.{extends_more, still_term}
use Rattle.term_store.proofs.Stays.{type_id_stays, term_id_stays, if_deeper}
use Rattle.term_store.proofs.Changes.{change_stays, term_goal}
use Rattle.term_store.proofs.store.Store.change_sides.Goals as goal

pub change_term-requires-clause-has : goal.change_term-requires-clause-has
change_term-requires-clause-has c = still_term c.args.self.now c.change_ty.new.self c.in_ok-ty.ensures.kept c.args.sides.1 c.requires.has_left

pub change_term-requires-clause-part : goal.change_term-requires-clause-part
change_term-requires-clause-part c = change_stays c.args.self.now c.change_ty.new.self c.in_ok-ty.ensures.kept c.args.change.now c.requires.part

pub returns-in_err-left-clause-deep : goal.returns-in_err-left-clause-deep
returns-in_err-left-clause-deep c =
    let s = c.args.self.now in
    let m = c.change_ty.new.self in
    let k = c.args.at in
    let same = ap term_depth (term_goal s m c.in_ok-ty.ensures.kept c.args.change.now c.requires.part k c.args.sides.1 c.requires.has_left) in
    let ty = type_depth (changed_type k (change_of s c.args.change.now) (type_of s c.args.sides.0)) in
    let left = term_depth (changed_term k (change_of s c.args.change.now) (term_of s c.args.sides.1)) in
    let right = term_depth (changed_term k (change_of s c.args.change.now) (term_of s c.args.sides.2)) in
    let deep : IfTooDeep (2000 < max ty (max left right)) c.in_err-left.field-0.0 =
    if_deeper (2000 < term_depth (changed_term k (change_of m c.args.change.now) (term_of m c.args.sides.1))) _ (λ h. omega (arith, h, same)) c.in_err-left.field-0.0 c.in_err-left.ensures.deep in
    search rules

pub returns-in_err-left-clause-kept : goal.returns-in_err-left-clause-kept
returns-in_err-left-clause-kept c =
    extends_more c.args.self.now c.change_ty.new.self c.change_term.new.self c.in_ok-ty.ensures.kept c.in_err-left.ensures.kept

pub change_term-requires-2-clause-has : goal.change_term-requires-2-clause-has
change_term-requires-2-clause-has c =
    let kept = extends_more c.args.self.now c.change_ty.new.self c.change_term.new.self c.in_ok-ty.ensures.kept c.in_ok-left.ensures.kept in
    still_term c.args.self.now c.change_term.new.self kept c.args.sides.2 c.requires.has_right

pub change_term-requires-2-clause-part : goal.change_term-requires-2-clause-part
change_term-requires-2-clause-part c =
    let kept = extends_more c.args.self.now c.change_ty.new.self c.change_term.new.self c.in_ok-ty.ensures.kept c.in_ok-left.ensures.kept in
    change_stays c.args.self.now c.change_term.new.self kept c.args.change.now c.requires.part

pub returns-in_err-right-clause-deep : goal.returns-in_err-right-clause-deep
returns-in_err-right-clause-deep c =
    let s = c.args.self.now in
    let m = c.change_term.new.self in
    let k = c.args.at in
    let kept = extends_more s c.change_ty.new.self m c.in_ok-ty.ensures.kept c.in_ok-left.ensures.kept in
    let same = ap term_depth (term_goal s m kept c.args.change.now c.requires.part k c.args.sides.2 c.requires.has_right) in
    let ty = type_depth (changed_type k (change_of s c.args.change.now) (type_of s c.args.sides.0)) in
    let left = term_depth (changed_term k (change_of s c.args.change.now) (term_of s c.args.sides.1)) in
    let right = term_depth (changed_term k (change_of s c.args.change.now) (term_of s c.args.sides.2)) in
    let deep : IfTooDeep (2000 < max ty (max left right)) c.in_err-right.field-0.0 =
    if_deeper (2000 < term_depth (changed_term k (change_of m c.args.change.now) (term_of m c.args.sides.2))) _ (λ h. omega (arith, h, same)) c.in_err-right.field-0.0 c.in_err-right.ensures.deep in
    search rules

pub returns-clause-made : goal.returns-clause-made
returns-clause-made c =
    let a = c.change_ty.new.self in
    let d = c.change_term-2.new.self in
    let kept = extends_more a c.change_term.new.self d c.in_ok-left.ensures.kept c.in_ok-right.ensures.kept in
    let goal = changed_type c.args.at (change_of c.args.self.now c.args.change.now) (type_of c.args.self.now c.args.sides.0) in
    type_id_stays a d kept goal c.in_ok-ty.ty c.in_ok-ty.ensures.made

pub returns-clause-made_left : goal.returns-clause-made_left
returns-clause-made_left c =
    let s = c.args.self.now in
    let a = c.change_ty.new.self in
    let b = c.change_term.new.self in
    let d = c.change_term-2.new.self in
    let same = term_goal s a c.in_ok-ty.ensures.kept c.args.change.now c.requires.part c.args.at c.args.sides.1 c.requires.has_left in
    let goal = changed_term c.args.at (change_of s c.args.change.now) (term_of s c.args.sides.1) in
    term_id_stays b d c.in_ok-right.ensures.kept goal c.in_ok-left.left (subst (λ x. IsTermId b x c.in_ok-left.left) same c.in_ok-left.ensures.made)

pub returns-clause-made_right : goal.returns-clause-made_right
returns-clause-made_right c =
    let s = c.args.self.now in
    let b = c.change_term.new.self in
    let kept = extends_more s c.change_ty.new.self b c.in_ok-ty.ensures.kept c.in_ok-left.ensures.kept in
    let same = term_goal s b kept c.args.change.now c.requires.part c.args.at c.args.sides.2 c.requires.has_right in
    subst (λ x. IsTermId c.change_term-2.new.self x c.in_ok-right.right) same c.in_ok-right.ensures.made
