use Rattle.std.proofs.Common.{◌≡◌, Bool, true, false, None, get_or, length, ap, sym, subst, ◌∙◌}
use Rattle.zm_logic.specs.Tree.{Form}
use Rattle.term_store.specs.Trees.{form_of}
use Rattle.term_store.specs.declared.ids.FormId.{FormId}
use Rattle.param_store.specs.View.{forms_of}
use Rattle.equality_rules.specs.Pairs.{opposites}
use Rattle.branch.specs.Left.{form_at}
use Rattle.branch.specs.Lookup.{ArePaired, is_plain, is_denial}
use Rattle.branch.proofs.Adding.{map_at}
use Rattle.branch.proofs.Held.{held_at}
use Rattle.branch.proofs.Opposed.{plain_none, denial_none, other_none}
use Rattle.branch.proofs.Skipped.{skips_weaker}
use Rattle.branch.proofs.lookup.opposed.Goals as goal

abbrev none : FormId
none = record { 0 = 0 }

pub is_plain-requires : goal.is_plain-requires
is_plain-requires c = held_at c.args.store.now c.args.forms.now c.args.place none c.requires.has c.requires.within

pub is_denial-requires : goal.is_denial-requires
is_denial-requires c = held_at c.args.store.now c.args.forms.now c.args.place none c.requires.has c.requires.within

pub returns-then-is_plain : goal.returns-then-is_plain
returns-then-is_plain c =
    let s = c.args.store.now in
    let b = forms_of s c.args.forms.now in
    let n = length c.args.forms.now in
    let f = form_at b c.args.place in
    let e : is_plain f ≡ true = ap is_plain (map_at s c.args.forms.now c.args.place none c.requires.within) ∙ (sym c.is_plain.ensures ∙ c.if-is_plain.true) in
    subst (λ is. ArePaired b c.args.place is n) (sym c.as_slice.ensures)
    (skips_weaker (λ i. is_denial (form_at b i) ≡ false) (λ i. opposites (form_at b i) f ≡ None) (λ k h. plain_none (form_at b k) f e h) 0
    c.args.lookup.now.denied n c.requires.lookup.denied)

pub returns-then-is_denial : goal.returns-then-is_denial
returns-then-is_denial c =
    let s = c.args.store.now in
    let b = forms_of s c.args.forms.now in
    let n = length c.args.forms.now in
    let f = form_at b c.args.place in
    let e : is_denial f ≡ true = ap is_denial (map_at s c.args.forms.now c.args.place none c.requires.within) ∙ (sym c.is_denial.ensures ∙ c.if-is_denial.true) in
    subst (λ is. ArePaired b c.args.place is n) (sym c.as_slice-then-is_denial.ensures)
    (skips_weaker (λ i. is_plain (form_at b i) ≡ false) (λ i. opposites (form_at b i) f ≡ None) (λ k h. denial_none (form_at b k) f e h) 0
    c.args.lookup.now.plain n c.requires.lookup.plain)
