-- The left child stays while the right one is made.
use Rattle.std.proofs.Common.{◌≡◌, ◌<◌, max, [], ◌∷◌, ap, sym, subst, arith, rules}
use Rattle.term_store.specs.declared.opening.Redex.TheVariants.{OfForm}
use Rattle.term_store.proofs.Kept.{extends_more}
use Rattle.param_store.specs.Depth.{deepest_form}
use Rattle.param_store.specs.Fault.{IfDeepAt}
use Rattle.param_store.specs.View.{AreForms, AreLists}
use Rattle.tableau_rules.specs.Split.{child_of}
use Rattle.tableau_rules.proofs.Made.{child_still, child_stays, two_children}
use Rattle.tableau_rules.proofs.Refused.{deep_more}
use Rattle.tableau_rules.proofs.children.beta.Goals as goal

pub child-requires-2 : goal.child-requires-2
child-requires-2 c = child_still c.args.store.now c.child.new.store c.in_ok-left.ensures.kept c.args.d c.requires.right

pub returns-in_err-left-clause-deep : goal.returns-in_err-left-clause-deep
returns-in_err-left-clause-deep c =
    let s = c.args.store.now in
    let left = deepest_form (child_of s c.args.c) in
    let right = deepest_form (child_of s c.args.d) in
    let deep : IfDeepAt (λ at. (at ≡ OfForm c.args.acted) × (2000 < max left right)) c.in_err-left.field-0.0 =
    deep_more (OfForm c.args.acted) (2000 < left) _ (λ h. omega (arith, h)) c.in_err-left.field-0.0 c.in_err-left.ensures.deep in
    search rules

pub returns-in_err-right-clause-deep : goal.returns-in_err-right-clause-deep
returns-in_err-right-clause-deep c =
    let s = c.args.store.now in
    let m = c.child.new.store in
    let left = deepest_form (child_of s c.args.c) in
    let right = deepest_form (child_of s c.args.d) in
    let same = ap deepest_form (child_stays s m c.in_ok-left.ensures.kept c.args.d c.requires.right) in
    let deep : IfDeepAt (λ at. (at ≡ OfForm c.args.acted) × (2000 < max left right)) c.in_err-right.field-0.0 =
    deep_more (OfForm c.args.acted) (2000 < deepest_form (child_of m c.args.d)) _ (λ h. omega (arith, h, same)) c.in_err-right.field-0.0 c.in_err-right.ensures.deep in
    search rules

pub returns-in_err-right-clause-kept : goal.returns-in_err-right-clause-kept
returns-in_err-right-clause-kept c =
    extends_more c.args.store.now c.child.new.store c.child-2.new.store c.in_ok-left.ensures.kept c.in_err-right.ensures.kept

pub returns-clause-lists : goal.returns-clause-lists
returns-clause-lists c =
    let s = c.args.store.now in
    let m = c.child.new.store in
    let t = c.child-2.new.store in
    let left = c.in_ok-left.ensures in
    let right = c.in_ok-right.ensures in
    let same = child_stays s m left.kept c.args.d c.requires.right in
    let made = subst (λ fs. AreForms t fs c.in_ok-right.right) same right.forms in
    let both = two_children m t right.kept (child_of s c.args.c) (child_of s c.args.d) c.in_ok-left.left c.in_ok-right.right left.forms made in
    subst (AreLists t (child_of s c.args.c ∷ child_of s c.args.d ∷ [])) (sym c.in_ok-both.ensures) both

pub returns-clause-bounded : goal.returns-clause-bounded
returns-clause-bounded c =
    let s = c.args.store.now in
    let same = ap deepest_form (child_stays s c.child.new.store c.in_ok-left.ensures.kept c.args.d c.requires.right) in
    omega (arith, same, c.in_ok-left.ensures.bounded, c.in_ok-right.ensures.bounded)
