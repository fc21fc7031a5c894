-- A Closed leaf in the place of the first Open one leaves one Open leaf fewer.
use Rattle.std.proofs.Common.{◌≡◌, suc, ◌+◌, Bool, true, false, ◌&&◌, cond, refl, List, arith}
use Rattle.std.proofs.lemmas.Bool.{and_right}
use Rattle.zm_logic.specs.Tree.{Form}
use Rattle.branch.specs.Branch.{Closing, extend}
use Rattle.branch.specs.Tableau.{Node, Children, is_finished, are_finished, is_idle, uses, skips}
use Rattle.branch.specs.Replaced.{skipping, replaced, replaced_in}
use Rattle.search.specs.OpenLeaves.{open_leaves, open_leaves_of}

kept_open : (w : Bool) (ns : Children) → w ≡ false → open_leaves_of (cond w (skipping ns) ns) ≡ open_leaves_of ns
kept_open true ns e = absurd (let q = e in cc)
kept_open false ns e = refl

mutual
  pub closed_fewer : (n : Node) (b : List Form) (c : Closing) → is_finished n ≡ false → suc (open_leaves (replaced false b (Node.closed c) n)) ≡ open_leaves n
  closed_fewer (Node.step k t a ns) b c e = closed_fewer_of ns b c e
  closed_fewer (Node.closed d) b c e = absurd (let q = e in cc)
  closed_fewer Node.opened b c e = refl
  closed_fewer Node.skipped b c e = absurd (let q = e in cc)

  closed_fewer_of : (ns : Children) (b : List Form) (c : Closing) → are_finished ns ≡ false
      → suc (open_leaves_of (replaced_in false b (Node.closed c) ns)) ≡ open_leaves_of ns
  closed_fewer_of Children.none b c e = absurd (let q = e in cc)
  closed_fewer_of (Children.more r f n ns) b c e = go (is_finished n) e (closed_fewer_of ns b c) (λ q. closed_fewer n (extend b f) c q) refl
    where
      m : Node
      m = replaced false (extend b f) (Node.closed c) n

      go : (v : Bool) → (v && are_finished ns) ≡ false
          → (are_finished ns ≡ false → suc (open_leaves_of (replaced_in false b (Node.closed c) ns)) ≡ open_leaves_of ns)
          → (is_finished n ≡ false → suc (open_leaves (replaced false (extend b f) (Node.closed c) n)) ≡ open_leaves n)
          → is_finished n ≡ v
          → suc (open_leaves_of (cond v (Children.more r f n (replaced_in false b (Node.closed c) ns))
          (Children.more r f (replaced false (extend b f) (Node.closed c) n) (cond (skips false b f (replaced false (extend b f) (Node.closed c) n)) (skipping ns) ns))))
          ≡ open_leaves n + open_leaves_of ns
      go true e later here q = let h = later e in omega arith
      go false e later here q =
          let h = here q in
          let k = kept_open (skips false b f m) ns (and_right (is_idle b f m (uses (extend b f) m)) false refl) in
          omega arith
