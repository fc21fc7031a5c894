-- Where tableaux aren't pruned no node is Skipped.
use Rattle.std.proofs.Common.{◌≡◌, Bool, true, false, ◌&&◌, ◌||◌, refl, subst, List}
use Rattle.zm_logic.specs.Tree.{Form}
use Rattle.branch.specs.Branch.{extend}
use Rattle.branch.specs.Setting.{Setting}
use Rattle.branch.specs.Tableau.{Node, Children, is_idle, is_skipped, uses, enter_child, after, IsLawful, AreLawful}
use Rattle.branch.specs.Laws as laws

never_skips : (prunes idle : Bool) → prunes ≡ false → (false || (idle && prunes)) ≡ false
never_skips prunes true e = e
never_skips prunes false e = refl

module _ (s : Setting) (unpruned : s.prunes ≡ false) where
  mutual
    none_skipped : (n : Node) (t b : List Form) → is_skipped n ≡ false → IsLawful s t b n → laws.HasNoSkipped n
    none_skipped (Node.step k c a ns) t b e l = none_are_skipped ns t b l.2
    none_skipped (Node.closed c) t b e l = tt
    none_skipped Node.opened t b e l = tt
    none_skipped Node.skipped t b e l = absurd (let q = e in cc)

    none_are_skipped : (ns : Children) (t b : List Form) → AreLawful s t b false ns → laws.HaveNoSkipped ns
    none_are_skipped Children.none t b l = tt
    none_are_skipped (Children.more r f n ns) t b l = (
      none_skipped n (enter_child t f n) (extend b f) l.0 l.1,
      none_are_skipped ns (after (enter_child t f n) n) b
          (subst (λ v. AreLawful s (after (enter_child t f n) n) b v ns) (never_skips s.prunes (is_idle b f n (uses (extend b f) n)) unpruned) l.2),
    )

pub unpruned : laws.UnprunedTableauxHaveNoSkipped
unpruned s root tree e t = none_skipped s e tree _ root t.entered t.lawful
