-- Without rules a tree has no more nodes on a branch than the tableau has Steps, and a leaf.
use Rattle.std.proofs.Common.{◌≡◌, ℕ, ◌+◌, ◌≤◌, max, Bool, true, false, cond, ◌||◌, refl, sym, subst, List, [], inl, inr, arith, Option, None, Some}
use Rattle.std.proofs.Math.Nat.{le-max_left, le-max_right, max-le}
use Rattle.std.proofs.lemmas.Option.{same_Some}
use Rattle.zm_logic.specs.Tree.{Form}
use Rattle.branch.specs.Branch.{extend}
use Rattle.branch.specs.Setting.{Setting}
use Rattle.branch.specs.Tableau.{Node, Children, given, height, height_all, is_idle, skips, uses, enter, enter_child, after, IsLawful, AreLawful, IsTableau}
use Rattle.branch.proofs.Lists.{cond-cases}
use Rattle.branch.proofs.Made.{AreMade, offer_made}
use Rattle.branch.proofs.Root.{roots_reached}
use Rattle.sequent_proof.specs.Tree.{DTree, depth, depth_all}
use Rattle.pruning.specs.Steps.{step_rule}
use Rattle.pruning.specs.Trees.{or_else, derivation_tree, idle_tree, derivation_trees, tableau_derivation}
use Rattle.pruning.specs.Laws as laws
use Rattle.pruning.proofs.Converted.{unconverted}

one_more : (d h : ℕ) → d ≤ 1 + h → 1 + d ≤ 1 + (1 + h)
one_more d h l = omega arith

no_more : (d h : ℕ) → d ≤ 1 + h → d ≤ 1 + (1 + h)
no_more d h l = omega arith

through : (d h m : ℕ) → d ≤ 1 + h → h ≤ m → d ≤ 1 + m
through d h m l k = omega arith

-- both of two trees
both_within : (d e h k : ℕ) → d ≤ 1 + h → e ≤ 1 + k → max d e ≤ 1 + max h k
both_within d e h k l m = max-le (through d h (max h k) l (le-max_left h k)) (through e k (max h k) m (le-max_right h k))

module _ (s : Setting) (none : s.rules ≡ []) where
  mutual
    depth_within : (n : Node) (table b g : List Form) → IsLawful s table b n → depth (derivation_tree b g n) ≤ 1 + height n
    depth_within (Node.step k t a ns) table b g l =
        let m = offer_made s table b k t a (given ns) l.1 in
        go (idle_tree b g ns) (idle_depth ns table b g false m.made l.2) (each_depth ns table b false m.made l.2)
      where
        go : (o : Option DTree) → ((u : DTree) → o ≡ Some u → depth u ≤ 1 + height_all ns) → depth_all (derivation_trees b ns) ≤ 1 + height_all ns
            → depth (or_else o (DTree.node g (step_rule a) a.first a.second a.part (derivation_trees b ns))) ≤ 1 + (1 + height_all ns)
        go None h e = one_more (depth_all (derivation_trees b ns)) (height_all ns) e
        go (Some u) h e = no_more (depth u) (height_all ns) (h u refl)
    depth_within (Node.closed c) table b g l = omega arith
    depth_within Node.opened table b g l = omega arith
    depth_within Node.skipped table b g l = omega arith

    idle_depth : (ns : Children) (table b g : List Form) (i : Bool) → AreMade s (given ns) → AreLawful s table b i ns
        → (u : DTree) → idle_tree b g ns ≡ Some u → depth u ≤ 1 + height_all ns
    idle_depth Children.none table b g i made l u e = cc
    idle_depth (Children.more r f n ns) table b g i made l u e =
        let x = uses (extend b f) n in
        elim (cond-cases (is_idle b f n x) (Some (derivation_tree (extend b f) g n)) (idle_tree b g ns) (Some u) e) [
          | inl j ↦ subst (λ y. depth y ≤ 1 + max (height n) (height_all ns)) (same_Some (derivation_tree (extend b f) g n) u j.1)
              (through (depth (derivation_tree (extend b f) g n)) (height n) (max (height n) (height_all ns))
              (depth_within n (enter_child table f n) (extend b f) g l.1) (le-max_left (height n) (height_all ns)))
          | inr j ↦ through (depth u) (height_all ns) (max (height n) (height_all ns))
              (idle_depth ns (after (enter_child table f n) n) b g (i || skips s.prunes b f n) made.1 l.2 u j.1) (le-max_right (height n) (height_all ns))
        ]

    each_depth : (ns : Children) (table b : List Form) (i : Bool) → AreMade s (given ns) → AreLawful s table b i ns
        → depth_all (derivation_trees b ns) ≤ 1 + height_all ns
    each_depth Children.none table b i made l = omega arith
    each_depth (Children.more r f n ns) table b i made l =
        let tree : List Form → DTree = λ g. derivation_tree (extend b f) g n in
        subst (λ y. max (depth y) (depth_all (derivation_trees b ns)) ≤ 1 + max (height n) (height_all ns)) (sym (unconverted s none r r f made.0 tree))
        (both_within (depth (derivation_tree (extend b f) r n)) (depth_all (derivation_trees b ns)) (height n) (height_all ns)
        (depth_within n (enter_child table f n) (extend b f) r l.1)
        (each_depth ns (after (enter_child table f n) n) b (i || skips s.prunes b f n) made.1 l.2))

shallow : (d h : ℕ) → d ≤ 1 + h → h ≤ 512 → d ≤ 513
shallow d h l k = omega arith

pub derivations_are_shallow : laws.DerivationsAreShallow
derivations_are_shallow s given root tree none is t =
    let b = extend [] is.normal in
    let l = subst (λ r. IsTableau s r tree) (sym is.distinct) t in
    let above : List Form → DTree = λ g. derivation_tree b g tree in
    subst (λ y. depth y ≤ 513) (sym (unconverted s none given given is.normal (roots_reached s given is.normal is.reached refl) above))
    (shallow (depth (derivation_tree b given tree)) (height tree) (depth_within s none tree (enter [] b) b given l.lawful) l.high)
