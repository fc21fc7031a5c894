-- The first formula stays while the second is made.
use Rattle.std.proofs.Common.{◌≡◌, ◌<◌, max, ap, ◌∙◌, arith, rules}
use Rattle.zm_logic.specs.Measure.{depth}
use Rattle.term_store.specs.declared.opening.Redex.TheVariants.{OfForm}
use Rattle.term_store.proofs.Kept.{extends_more, still_form}
use Rattle.param_store.specs.Fault.{IfDeepAt}
use Rattle.tableau_rules.specs.Split.{signed_of}
use Rattle.tableau_rules.proofs.Made.{signed_stays, two_forms}
use Rattle.tableau_rules.proofs.Refused.{deep_more}
use Rattle.tableau_rules.proofs.children.pair_signed.Goals as goal

pub signed-requires-2 : goal.signed-requires-2
signed-requires-2 c = still_form c.args.store.now c.signed.new.store c.in_ok-first.ensures.kept c.args.y.form c.requires.second

pub returns-in_err-first-clause-deep : goal.returns-in_err-first-clause-deep
returns-in_err-first-clause-deep c =
    let s = c.args.store.now in
    let x = depth (signed_of s c.args.x) in
    let y = depth (signed_of s c.args.y) in
    let deep : IfDeepAt (λ at. (at ≡ OfForm c.args.acted) × (2000 < max x y)) c.in_err-first.field-0.0 =
    deep_more (OfForm c.args.acted) (2000 < x) _ (λ h. omega (arith, h)) c.in_err-first.field-0.0 c.in_err-first.ensures.deep in
    search rules

pub returns-in_err-second-clause-deep : goal.returns-in_err-second-clause-deep
returns-in_err-second-clause-deep c =
    let s = c.args.store.now in
    let m = c.signed.new.store in
    let x = depth (signed_of s c.args.x) in
    let y = depth (signed_of s c.args.y) in
    let same = ap depth (signed_stays s m c.in_ok-first.ensures.kept c.args.y c.requires.second) in
    let deep : IfDeepAt (λ at. (at ≡ OfForm c.args.acted) × (2000 < max x y)) c.in_err-second.field-0.0 =
    deep_more (OfForm c.args.acted) (2000 < depth (signed_of m c.args.y)) _ (λ h. omega (arith, h, same)) c.in_err-second.field-0.0 c.in_err-second.ensures.deep in
    search rules

pub returns-in_err-second-clause-kept : goal.returns-in_err-second-clause-kept
returns-in_err-second-clause-kept c =
    extends_more c.args.store.now c.signed.new.store c.signed-2.new.store c.in_ok-first.ensures.kept c.in_err-second.ensures.kept

pub returns-clause-forms : goal.returns-clause-forms
returns-clause-forms c =
    let s = c.args.store.now in
    let m = c.signed.new.store in
    let first = c.in_ok-first.ensures in
    let second = c.in_ok-second.ensures in
    let same = second.tree ∙ signed_stays s m first.kept c.args.y c.requires.second in
    two_forms m c.signed-2.new.store second.kept (signed_of s c.args.x) (signed_of s c.args.y) c.in_ok-first.first c.in_ok-second.second first.has first.tree second.has same

pub returns-clause-kept : goal.returns-clause-kept
returns-clause-kept c =
    extends_more c.args.store.now c.signed.new.store c.signed-2.new.store c.in_ok-first.ensures.kept c.in_ok-second.ensures.kept

pub returns-clause-bounded : goal.returns-clause-bounded
returns-clause-bounded c =
    let s = c.args.store.now in
    let same = ap depth (signed_stays s c.signed.new.store c.in_ok-first.ensures.kept c.args.y c.requires.second) in
    omega (arith, same, c.in_ok-first.ensures.bounded, c.in_ok-second.ensures.bounded)
