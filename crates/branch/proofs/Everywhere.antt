-- The facts of a branch hold on every branch of a lawful tree.
use Rattle.std.proofs.Common.{◌≡◌, ℕ, Bool, true, false, ◌||◌, refl, sym, subst, List, [], ◌∷◌, ◌++◌, Contains}
use Rattle.zm_logic.specs.Tree.{Form}
use Rattle.zm_logic.specs.Parameter.{IsFresh}
use Rattle.zm_logic.proofs.Sames.{Contains-here, Contains-there, Contains-none}
use Rattle.branch.specs.Branch.{extend}
use Rattle.branch.specs.Setting.{Setting}
use Rattle.branch.specs.Sound.{IsSound, AreGiven}
use Rattle.param_store.specs.RawOffers.{Act, own_part, at_part, number_of}
use Rattle.branch.specs.BranchOffers.{Kind, split_kind}
use Rattle.branch.specs.Offers.{Child, IsOfferAt}
use Rattle.branch.specs.Tableau.{Node, Children, given, is_skipped, skips, enter, enter_child, after, IsLawful, AreLawful, IsTableau}
use Rattle.branch.specs.Offered.{Offered}
use Rattle.branch.specs.Introduced.{Above, HasFacts}
use Rattle.branch.specs.Facts.{EachBranch, EachBelow}
use Rattle.branch.proofs.Made.{AreMade, raws, offer_made}
use Rattle.branch.proofs.Sequent.{IsBranch, facts_of, of_facts}
use Rattle.branch.proofs.Grows.{Keeps, own_typed, child_branch, fresh_number}
use Rattle.branch.proofs.Rules.{useful_is_new, IsNew}
use Rattle.branch.proofs.Derived.{entered, next_keeps, root_branch}

module _ (s : Setting) (sound : IsSound s) where
  mutual
    pub everywhere : (n : Node) (t : List Form) (above : List Above) (b sequent : List Form) → IsBranch s t above b sequent → IsLawful s t b n
        → EachBranch (HasFacts s) t above b n
    everywhere (Node.step k c a ns) t above b sequent is l =
        let m = offer_made s t b k c a (given ns) l.1 in
        (facts_of s t above b sequent is, everywhere_below ns t t above b sequent is (λ i g q. q) m.offered m.made (λ r h. h) false l.2)
    everywhere (Node.closed c) t above b sequent is l = facts_of s t above b sequent is
    everywhere Node.opened t above b sequent is l = facts_of s t above b sequent is
    everywhere Node.skipped t above b sequent is l = tt

    pub everywhere_below : (ns : Children) (t u : List Form) (above : List Above) (b sequent : List Form) → IsBranch s t above b sequent → Keeps t u
        → {k : Kind} {a : Act} {cs : List (List Form)} → Offered s t b k a cs → AreMade s (given ns) → ((r : List Form) → Contains (raws (given ns)) r → Contains cs r)
        → (i : Bool) → AreLawful s u b i ns → EachBelow (HasFacts s) u (record { kind = k; act = a } ∷ above) b ns
    everywhere_below Children.none t u above b sequent is keeps offered made sub i l = tt
    everywhere_below (Children.more r f n ns) t u above b sequent is keeps {k} {a} {cs} offered made sub i l =
        let ys : List Above = record { kind = k; act = a } ∷ above in (
          child n u f ys b (is_skipped n) refl
              (λ q. everywhere n (enter u f) (record { kind = k; act = a } ∷ above) (extend b f) (f ++ (r ++ sequent))
              (child_branch s sound t above b sequent is u keeps offered r f (sub r (Contains-here r (raws (given ns)))) made.0)
              (subst (λ y. IsLawful s y (extend b f) n) (entered u f n q) l.1)),
          everywhere_below ns t (after (enter_child u f n) n) above b sequent is (next_keeps t u f n keeps) offered made.1
              (λ y h. sub y (Contains-there r (raws (given ns)) y h)) (i || skips s.prunes b f n) l.2,
        )
      where
        at_skipped : (n : Node) (t : List Form) (ys : List Above) (b : List Form) → is_skipped n ≡ true → EachBranch (HasFacts s) t ys b n
        at_skipped (Node.step k c a ns) t ys b q = absurd (let p = q in cc)
        at_skipped (Node.closed c) t ys b q = absurd (let p = q in cc)
        at_skipped Node.opened t ys b q = absurd (let p = q in cc)
        at_skipped Node.skipped t ys b q = tt

        child : (n : Node) (u f : List Form) (ys : List Above) (b : List Form) (v : Bool) → is_skipped n ≡ v
            → (is_skipped n ≡ false → EachBranch (HasFacts s) (enter u f) ys (extend b f) n) → EachBranch (HasFacts s) (enter_child u f n) ys (extend b f) n
        child n u f ys b true q rest = at_skipped n (enter_child u f n) ys (extend b f) q
        child n u f ys b false q rest = subst (λ y. EachBranch (HasFacts s) y ys (extend b f) n) (sym (entered u f n q)) (rest q)

  -- from the root, whose formulas are well typed and without parameters
  pub tableau_facts : (root : List Form) (tree : Node) → AreGiven s root → IsTableau s root tree → EachBranch (HasFacts s) (enter [] root) [] root tree
  tableau_facts root tree h t =
      everywhere tree (enter [] root) [] root (root ++ []) (root_branch s sound [] root (λ f m. absurd (Contains-none f m)) (λ f m. (h.typed f m, h.parameters f m))) t.lawful

  not_split : (cs : List (List Form)) → split_kind cs ≡ Kind.delta → ⊥
  not_split [] e = cc
  not_split (c ∷ []) e = cc
  not_split (c ∷ d ∷ cs) e = cc

  offered_fresh : (t : List Form) (above : List Above) (b sequent : List Form) → IsBranch s t above b sequent → {k : Kind} {a : Act} {cs : List (List Form)} → Offered s t b k a cs
      → k ≡ Kind.delta → IsNew s b cs → (h : Form) → Contains sequent h → IsFresh (number_of t a.first) h
  offered_fresh t above b sequent is (Offered.splits {cs = cs} f h e n) d new = absurd (not_split cs d)
  offered_fresh t above b sequent is (Offered.opens f q h e) d new =
      fresh_number s sound t above b sequent is f q h e (λ g r c. new (at_part q (own_part (number_of t f) q)) g refl (own_typed s sound t above b sequent is f q h e) r c)
  offered_fresh t above b sequent is (Offered.at_term n r u f q made h m i e j) d new = absurd (let z = d in cc)
  offered_fresh t above b sequent is (Offered.at_type n u f q made h m e j) d new = absurd (let z = d in cc)
  offered_fresh t above b sequent is (Offered.values r f ts us vs h) d new = absurd (let z = d in cc)
  offered_fresh t above b sequent is (Offered.arguments p ts us vs h k) d new = absurd (let z = d in cc)
  offered_fresh t above b sequent is (Offered.first_sides r p q c e h k) d new = absurd (let z = d in cc)
  offered_fresh t above b sequent is (Offered.second_sides r p q c e h k) d new = absurd (let z = d in cc)

  -- the number of a delta offer doesn't occur on the branch
  pub delta_is_fresh : (t : List Form) (above : List Above) (b : List Form) → HasFacts s t above b → (k : ℕ) (act : Act) (children : List Child)
      → IsOfferAt s t b k Kind.delta act children → (h : Form) → Contains b h → IsFresh (number_of t act.first) h
  delta_is_fresh t above b facts k act children at =
      let m = offer_made s t b k Kind.delta act children at in
      offered_fresh t above b b (of_facts s t above b facts) m.offered refl (useful_is_new s sound b children m.made m.offer m.same_children m.useful)
