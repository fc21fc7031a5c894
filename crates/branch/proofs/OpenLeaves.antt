-- A finished node has no current leaf, an unfinished one has one, and Open leaves have no picks.
use Rattle.std.proofs.Common.{◌≡◌, ℕ, ◌+◌, Bool, true, false, ◌&&◌, refl, ap, ◌∙◌, List, [], None, Some}
use Rattle.std.specs.Option.{option_or}
use Rattle.std.proofs.lemmas.Bool.{and_parts}
use Rattle.zm_logic.specs.Tree.{Form}
use Rattle.branch.specs.Branch.{extend}
use Rattle.branch.specs.Tableau.{Node, Children, is_finished, are_finished, are_open, Leaf, enter_child, after, current, current_of, picks_all}

mutual
  pub finished_current : (n : Node) (t b : List Form) (d : ℕ) → is_finished n ≡ true → current t b d n ≡ None
  finished_current (Node.step k c a ns) t b d e = finished_current_of ns t b (d + 1) e
  finished_current (Node.closed c) t b d e = refl
  finished_current Node.opened t b d e = cc
  finished_current Node.skipped t b d e = refl

  pub finished_current_of : (ns : Children) (t b : List Form) (d : ℕ) → are_finished ns ≡ true → current_of t b d ns ≡ None
  finished_current_of Children.none t b d e = refl
  finished_current_of (Children.more r f n ns) t b d e =
      let p = and_parts (is_finished n) (are_finished ns) e in
      rw (finished_current n (enter_child t f n) (extend b f) d p.0) (finished_current_of ns (after (enter_child t f n) n) b d p.1)

pub open_picks : (ns : Children) → are_open ns ≡ true → picks_all ns ≡ []
open_picks Children.none e = refl
open_picks (Children.more r f (Node.step k c a ms) ns) e = cc
open_picks (Children.more r f (Node.closed c) ns) e = cc
open_picks (Children.more r f Node.opened ns) e = open_picks ns e
open_picks (Children.more r f Node.skipped ns) e = cc

-- an unfinished node has a current leaf
mutual
  pub unfinished_current : (n : Node) (t b : List Form) (d : ℕ) → is_finished n ≡ false → (leaf : Leaf) × (current t b d n ≡ Some leaf)
  unfinished_current (Node.step k c a ns) t b d e = unfinished_current_of ns t b (d + 1) e
  unfinished_current (Node.closed c) t b d e = absurd (let q = e in cc)
  unfinished_current Node.opened t b d e = (record { branch = b; above = d; table = t }, refl)
  unfinished_current Node.skipped t b d e = absurd (let q = e in cc)

  pub unfinished_current_of : (ns : Children) (t b : List Form) (d : ℕ) → are_finished ns ≡ false → (leaf : Leaf) × (current_of t b d ns ≡ Some leaf)
  unfinished_current_of Children.none t b d e = absurd (let q = e in cc)
  unfinished_current_of (Children.more r f n ns) t b d e =
      go (is_finished n) refl (unfinished_current n (enter_child t f n) (extend b f) d)
      (λ z. unfinished_current_of ns (after (enter_child t f n) n) b d z) e
    where
      go : (v : Bool) → is_finished n ≡ v → (is_finished n ≡ false → (leaf : Leaf) × (current (enter_child t f n) (extend b f) d n ≡ Some leaf))
          → (are_finished ns ≡ false → (leaf : Leaf) × (current_of (after (enter_child t f n) n) b d ns ≡ Some leaf))
          → (v && are_finished ns) ≡ false → (leaf : Leaf) × (option_or (current (enter_child t f n) (extend b f) d n) (current_of (after (enter_child t f n) n) b d ns) ≡ Some leaf)
      go true q x y e =
          let z = y e in
          (z.0, ap (λ o. option_or o (current_of (after (enter_child t f n) n) b d ns)) (finished_current n (enter_child t f n) (extend b f) d q) ∙ z.1)
      go false q x y e = let z = x q in (z.0, ap (λ o. option_or o (current_of (after (enter_child t f n) n) b d ns)) z.1)
