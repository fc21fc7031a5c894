-- A tree stops for one cause.
use Rattle.std.proofs.Common.{◌≡◌, ℕ, ◌+◌, refl, ap, sym, subst, ◌∙◌, arith, List, [], ◌∷◌, ◌++◌, inl, inr, Some}
use Rattle.std.proofs.lemmas.Option.{same_Some}
use Rattle.zm_logic.specs.Tree.{Form}
use Rattle.zm_logic.proofs.Sames.{Contains-here, Contains-there}
use Rattle.branch.specs.Branch.{extend}
use Rattle.branch.specs.Setting.{Setting}
use Rattle.branch.specs.Sound.{IsSound, AreGiven}
use Rattle.branch.specs.Normal.{Fault, Made, Normalizes, MakesAll}
use Rattle.branch.specs.Offers.{Offer, AreOffers, HasFault}
use Rattle.branch.specs.Tableau.{Node, Children, Leaf, IsTableau, enter, enter_child, after, current, current_of, current_leaf, count}
use Rattle.branch.specs.Stopping.{IsRoot, Cause, by_fault, StopsAt, StopsInside, StopsAtRoot, Stopped}
use Rattle.branch.specs.Introduced.{Above, HasFacts}
use Rattle.branch.specs.Facts.{EachBranch, EachBelow}
use Rattle.branch.proofs.Lists.{or-cases}
use Rattle.branch.proofs.Kept.{made_is}
use Rattle.branch.proofs.Determined.{one_all, one_made, one_offers, fault_is, fault_is_not_made}
use Rattle.branch.proofs.Everywhere.{tableau_facts}
use Rattle.branch.proofs.Root.{root_given}

-- what holds on each branch holds at the current leaf
module _ (P : List Form → List Above → List Form → Type 0) where
  abbrev AtLeaf : Leaf → Type 0
  AtLeaf leaf = (above : List Above) × P leaf.table above leaf.branch

  mutual
    pub at_current : (n : Node) (t : List Form) (above : List Above) (b : List Form) (d : ℕ) (leaf : Leaf) → EachBranch P t above b n → current t b d n ≡ Some leaf → AtLeaf leaf
    at_current (Node.step k c a ns) t above b d leaf h e = at_current_of ns t (record { kind = c; act = a } ∷ above) b (d + 1) leaf h.1 e
    at_current (Node.closed c) t above b d leaf h e = cc
    at_current Node.opened t above b d leaf h e = subst AtLeaf (same_Some (record { branch = b; above = d; table = t }) leaf e) (above, h)
    at_current Node.skipped t above b d leaf h e = cc

    pub at_current_of : (ns : Children) (t : List Form) (above : List Above) (b : List Form) (d : ℕ) (leaf : Leaf) → EachBelow P t above b ns → current_of t b d ns ≡ Some leaf → AtLeaf leaf
    at_current_of Children.none t above b d leaf h e = cc
    at_current_of (Children.more r f n ns) t above b d leaf h e =
        elim (or-cases (current (enter_child t f n) (extend b f) d n) (current_of (after (enter_child t f n) n) b d ns) leaf e) [
          | inl i ↦ at_current n (enter_child t f n) above (extend b f) d leaf h.0 i
          | inr i ↦ at_current_of ns (after (enter_child t f n) n) above b d leaf h.1 i
        ]

module _ (s : Setting) (sound : IsSound s) where
  -- normal forms of given formulas are one list, or have one first fault
  one_normal_list : (given : List Form) → AreGiven s given → (x y : Made (List Form)) → MakesAll (Normalizes s) given x → MakesAll (Normalizes s) given y → x ≡ y
  one_normal_list given h x y m n = one_all (Normalizes s) (λ f i a b. sound.determined f a b (h.typed f i)) m n

  pub one_root : (given root also : List Form) → AreGiven s given → IsRoot s given root → IsRoot s given also → root ≡ also
  one_root given root also h x y =
      let e = made_is x.normal y.normal (one_normal_list given h (Made.made x.normal) (Made.made y.normal) x.reached y.reached) in
      sym x.distinct ∙ ap (λ z. extend [] z) e ∙ y.distinct

  module _ (t : List Form) (above : List Above) (b : List Form) (facts : HasFacts s t above b) where
    made_and_fault : (os : List Offer) (e : Fault) → AreOffers s t b os → HasFault s t b e → ⊥
    made_and_fault os e x y =
        fault_is_not_made e x.all (Made.made x.all) (one_made s sound t above b facts x.entries y.entries (Made.made x.all) (Made.fault e) x.raw y.raw x.made y.first) refl

    one_fault : (d e : Fault) → HasFault s t b d → HasFault s t b e → d ≡ e
    one_fault d e x y =
        fault_is d e (one_made s sound t above b facts x.entries y.entries (Made.fault d) (Made.fault e) x.raw y.raw x.first y.first)

    none_and_some : AreOffers s t b [] → (os : List Offer) → AreOffers s t b os → (os ≡ [] → ⊥) → ⊥
    none_and_some x os y n = n (one_offers s sound t above b facts os [] y x)

  one_stop : (budget used : ℕ) (leaf : Leaf) (above : List Above) → HasFacts s leaf.table above leaf.branch → (why also : Cause)
      → StopsAt s budget used leaf why → StopsAt s budget used leaf also → why ≡ also
  one_stop budget used leaf above facts (Cause.rewrites f) (Cause.rewrites g) x y =
      ap by_fault (one_fault leaf.table above leaf.branch facts (Fault.rewrites f) (Fault.rewrites g) x y)
  one_stop budget used leaf above facts (Cause.rewrites f) (Cause.deep at) x y =
      ap by_fault (one_fault leaf.table above leaf.branch facts (Fault.rewrites f) (Fault.deep at) x y)
  one_stop budget used leaf above facts (Cause.rewrites f) Cause.saturated x y = absurd (made_and_fault leaf.table above leaf.branch facts [] (Fault.rewrites f) y x)
  one_stop budget used leaf above facts (Cause.rewrites f) Cause.steps x y = absurd (made_and_fault leaf.table above leaf.branch facts y.0.0 (Fault.rewrites f) y.0.1 x)
  one_stop budget used leaf above facts (Cause.rewrites f) Cause.branch_length x y = absurd (made_and_fault leaf.table above leaf.branch facts y.0.0 (Fault.rewrites f) y.0.1 x)
  one_stop budget used leaf above facts (Cause.deep at) (Cause.rewrites g) x y =
      ap by_fault (one_fault leaf.table above leaf.branch facts (Fault.deep at) (Fault.rewrites g) x y)
  one_stop budget used leaf above facts (Cause.deep at) (Cause.deep to) x y =
      ap by_fault (one_fault leaf.table above leaf.branch facts (Fault.deep at) (Fault.deep to) x y)
  one_stop budget used leaf above facts (Cause.deep at) Cause.saturated x y = absurd (made_and_fault leaf.table above leaf.branch facts [] (Fault.deep at) y x)
  one_stop budget used leaf above facts (Cause.deep at) Cause.steps x y = absurd (made_and_fault leaf.table above leaf.branch facts y.0.0 (Fault.deep at) y.0.1 x)
  one_stop budget used leaf above facts (Cause.deep at) Cause.branch_length x y = absurd (made_and_fault leaf.table above leaf.branch facts y.0.0 (Fault.deep at) y.0.1 x)
  one_stop budget used leaf above facts Cause.saturated (Cause.rewrites g) x y = absurd (made_and_fault leaf.table above leaf.branch facts [] (Fault.rewrites g) x y)
  one_stop budget used leaf above facts Cause.saturated (Cause.deep to) x y = absurd (made_and_fault leaf.table above leaf.branch facts [] (Fault.deep to) x y)
  one_stop budget used leaf above facts Cause.saturated Cause.saturated x y = refl
  one_stop budget used leaf above facts Cause.saturated Cause.steps x y = absurd (none_and_some leaf.table above leaf.branch facts x y.0.0 y.0.1 y.0.2)
  one_stop budget used leaf above facts Cause.saturated Cause.branch_length x y = absurd (none_and_some leaf.table above leaf.branch facts x y.0.0 y.0.1 y.0.2)
  one_stop budget used leaf above facts Cause.steps (Cause.rewrites g) x y = absurd (made_and_fault leaf.table above leaf.branch facts x.0.0 (Fault.rewrites g) x.0.1 y)
  one_stop budget used leaf above facts Cause.steps (Cause.deep to) x y = absurd (made_and_fault leaf.table above leaf.branch facts x.0.0 (Fault.deep to) x.0.1 y)
  one_stop budget used leaf above facts Cause.steps Cause.saturated x y = absurd (none_and_some leaf.table above leaf.branch facts y x.0.0 x.0.1 x.0.2)
  one_stop budget used leaf above facts Cause.steps Cause.steps x y = refl
  one_stop budget used leaf above facts Cause.steps Cause.branch_length x y = absurd (let p = x.1 in let q = y.1 in omega arith)
  one_stop budget used leaf above facts Cause.branch_length (Cause.rewrites g) x y = absurd (made_and_fault leaf.table above leaf.branch facts x.0.0 (Fault.rewrites g) x.0.1 y)
  one_stop budget used leaf above facts Cause.branch_length (Cause.deep to) x y = absurd (made_and_fault leaf.table above leaf.branch facts x.0.0 (Fault.deep to) x.0.1 y)
  one_stop budget used leaf above facts Cause.branch_length Cause.saturated x y = absurd (none_and_some leaf.table above leaf.branch facts y x.0.0 x.0.1 x.0.2)
  one_stop budget used leaf above facts Cause.branch_length Cause.steps x y = absurd (let p = x.1 in let q = y.1 in omega arith)
  one_stop budget used leaf above facts Cause.branch_length Cause.branch_length x y = refl

  -- where all given formulas have normal forms, none of them has a fault
  faulty : (before after : List Form) (f : Form) (e : Fault) (normal : List Form) → AreGiven s (before ++ f ∷ after) → Normalizes s f (Made.fault e)
      → MakesAll (Normalizes s) (before ++ f ∷ after) (Made.made normal) → ⊥
  faulty [] after f e normal h d (MakesAll.more {y = g} m ms) =
      fault_is_not_made e g (Made.made g) (sound.determined f (Made.made g) (Made.fault e) (h.typed f (Contains-here f after)) m d) refl
  faulty (b ∷ before) after f e normal h d (MakesAll.more {ys = ys} m ms) =
      faulty before after f e ys
      (record { typed = λ g i. h.typed g (Contains-there b (before ++ f ∷ after) g i); parameters = λ g i. h.parameters g (Contains-there b (before ++ f ∷ after) g i) }) d ms

  no_root_fault : (given root also : List Form) (e : Fault) → AreGiven s given → IsRoot s given root → StopsAtRoot s given also e → ⊥
  no_root_fault given root also e h is at =
      faulty at.before at.after at.formula e is.normal (subst (AreGiven s) at.order h) at.faulty (subst (λ z. MakesAll (Normalizes s) z (Made.made is.normal)) at.order is.reached)

  inside : (given : List Form) (budget : ℕ) (root : List Form) (tree : Node) (why also : Cause) → AreGiven s given → IsRoot s given root → IsTableau s root tree
      → StopsInside s given budget tree why → StopsInside s given budget tree also → why ≡ also
  inside given budget root tree why also h is t x y =
      let e = one_root given x.root root h x.is_root is in
      let g = one_root given y.root root h y.is_root is in
      let i : current_leaf root tree ≡ Some x.leaf = subst (λ z. current_leaf z tree ≡ Some x.leaf) e x.is_current in
      let j : current_leaf root tree ≡ Some y.leaf = subst (λ z. current_leaf z tree ≡ Some y.leaf) g y.is_current in
      let l : y.leaf ≡ x.leaf = (let k = sym j ∙ i in cc) in
      let facts = at_current (HasFacts s) tree (enter [] root) [] root 0 x.leaf (tableau_facts s sound root tree (root_given s sound given root h is) t) i in
      one_stop budget (count tree) x.leaf facts.0 facts.1 why also x.stops (subst (λ z. StopsAt s budget (count tree) z also) l y.stops)

  -- the first fault of given formulas
  first_fault : (before after normal : List Form) (f : Form) (e : Fault) {x : Made (List Form)} → MakesAll (Normalizes s) before x → x ≡ Made.made normal
      → Normalizes s f (Made.fault e) → MakesAll (Normalizes s) (before ++ f ∷ after) (Made.fault e)
  first_fault [] after normal f e MakesAll.none q d = MakesAll.first d
  first_fault (b ∷ before) after normal f e (MakesAll.more {y = g} {ys = ys} m ms) q d = MakesAll.later m (first_fault before after ys f e ms refl d)
  first_fault (b ∷ before) after normal f e (MakesAll.first m) q d = cc
  first_fault (b ∷ before) after normal f e (MakesAll.later m ms) q d = cc

  one_root_fault : (given root also : List Form) (d e : Fault) → AreGiven s given → StopsAtRoot s given root d → StopsAtRoot s given also e → d ≡ e
  one_root_fault given root also d e h x y =
      fault_is d e (one_normal_list given h (Made.fault d) (Made.fault e) (all_of_them d root x) (all_of_them e also y))
    where
      all_of_them : (e : Fault) (root : List Form) → StopsAtRoot s given root e → MakesAll (Normalizes s) given (Made.fault e)
      all_of_them e root z =
          subst (λ fs. MakesAll (Normalizes s) fs (Made.fault e)) (sym z.order)
          (first_fault z.before z.after z.is_root.normal z.formula e z.is_root.reached refl z.faulty)

  pub one_cause : (given : List Form) (budget : ℕ) (tree : Node) (why also : Cause) → AreGiven s given
      → ((root : List Form) → IsRoot s given root → IsTableau s root tree) → Stopped s given budget tree why → Stopped s given budget tree also → why ≡ also
  one_cause given budget tree why also h t (Stopped.inside x) (Stopped.inside y) = inside given budget x.root tree why also h x.is_root (t x.root x.is_root) x y
  one_cause given budget tree why also h t (Stopped.inside x) (Stopped.at_root r e y q) = absurd (no_root_fault given x.root r e h x.is_root y)
  one_cause given budget tree why also h t (Stopped.at_root r e y q) (Stopped.inside x) = absurd (no_root_fault given x.root r e h x.is_root y)
  one_cause given budget tree why also h t (Stopped.at_root r d x p) (Stopped.at_root k e y q) = sym p ∙ ap by_fault (one_root_fault given r k d e h x y) ∙ q
