-- The tree of a lawful node without an Open leaf is a derivation.
use Rattle.std.proofs.Common.{◌≡◌, Bool, true, false, cond, not, ◌&&◌, ◌||◌, refl, sym, subst, List, [], ◌∷◌, ◌++◌, inl, inr, Contains, Option, None, Some}
use Rattle.std.proofs.lemmas.List.Elements.{Contains-append_left, Contains-append_right}
use Rattle.std.proofs.lemmas.Option.{same_Some}
use Rattle.std.proofs.lemmas.Bool.{not-true, and_parts}
use Rattle.zm_logic.specs.Tree.{Form}
use Rattle.zm_logic.specs.Typing.{WellTyped}
use Rattle.zm_logic.proofs.Sames.{Contains-here, Contains-there}
use Rattle.branch.specs.Branch.{extend}
use Rattle.branch.specs.Setting.{Setting}
use Rattle.branch.specs.Sound.{IsSound}
use Rattle.param_store.specs.RawOffers.{Act}
use Rattle.branch.specs.BranchOffers.{Kind}
use Rattle.branch.specs.Tableau.{Node, Children, given, is_finished, are_finished, is_skipped, fresh, without, is_apart, acted, is_idle, skips, used_or, uses, uses_all, idle_uses, enter, enter_child, after, IsLawful, AreLawful}
use Rattle.branch.specs.Offered.{Offered}
use Rattle.branch.specs.Introduced.{Above}
use Rattle.branch.proofs.Lists.{cond-cases}
use Rattle.branch.proofs.Branches.{closing-source}
use Rattle.branch.proofs.Closings.{IsWithin}
use Rattle.branch.proofs.Made.{AreMade, raws, offer_made}
use Rattle.branch.proofs.Sequent.{IsBranch}
use Rattle.branch.proofs.Grows.{Keeps, child_branch}
use Rattle.branch.proofs.Rules.{useful_is_new}
use Rattle.branch.proofs.Derived.{entered, next_keeps, within_all}
use Rattle.branch.proofs.Uses.{kept_uses}
use Rattle.sequent_proof.specs.Tree.{DTree, DTrees, added, IsDerivation, AreAbove}
use Rattle.pruning.specs.Steps.{step_rule, closing_rule}
use Rattle.pruning.specs.Trees.{or_else, derivation_tree, idle_tree, derivation_trees}
use Rattle.pruning.proofs.Members.{all_within}
use Rattle.pruning.proofs.Closings.{closing_applies}
use Rattle.pruning.proofs.Applied.{offered_applies}
use Rattle.pruning.proofs.Converted.{converted_adds, converted_derives}

unskipped : (prunes idle : Bool) → idle ≡ false → (false || (idle && prunes)) ≡ false
unskipped prunes true e = cc
unskipped prunes false e = refl

mutual
  -- the tree adds what it is given to add
  pub tree_adds : (n : Node) (b g : List Form) → added (derivation_tree b g n) ≡ g
  tree_adds (Node.step k t a ns) b g = go (idle_tree b g ns) (idle_adds ns b g)
    where
      go : (o : Option DTree) → ((u : DTree) → o ≡ Some u → added u ≡ g) → added (or_else o (DTree.node g (step_rule a) a.first a.second a.part (derivation_trees b ns))) ≡ g
      go None h = refl
      go (Some u) h = h u refl
  tree_adds (Node.closed c) b g = refl
  tree_adds Node.opened b g = refl
  tree_adds Node.skipped b g = refl

  idle_adds : (ns : Children) (b g : List Form) (u : DTree) → idle_tree b g ns ≡ Some u → added u ≡ g
  idle_adds Children.none b g u e = cc
  idle_adds (Children.more r f n ns) b g u e =
      let x = uses (extend b f) n in
      elim (cond-cases (is_idle b f n x) (Some (derivation_tree (extend b f) g n)) (idle_tree b g ns) (Some u) e) [
        | inl j ↦ subst (λ y. added y ≡ g) (same_Some (derivation_tree (extend b f) g n) u j.1) (tree_adds n (extend b f) g)
        | inr j ↦ idle_adds ns b g u j.1
      ]

-- without an idle child there is no idle child's tree
pub no_idle : (ns : Children) (b g : List Form) (rest : DTree) → idle_uses b ns ≡ None → or_else (idle_tree b g ns) rest ≡ rest
no_idle Children.none b g rest e = refl
no_idle (Children.more r f n ns) b g rest e =
    let x = uses (extend b f) n in
    elim (cond-cases (is_idle b f n x) (Some x) (idle_uses b ns) None e) [
      | inl j ↦ absurd (let z = j.1 in cc)
      | inr j ↦ subst (λ v. or_else (cond v (Some (derivation_tree (extend b f) g n)) (idle_tree b g ns)) rest ≡ rest) (sym j.0) (no_idle ns b g rest j.1)
    ]

module _ (s : Setting) (sound : IsSound s) where
  abbrev pub Derives : List Form → DTree → Type 0
  Derives below t = IsDerivation s.symbols s.rules below t

  mutual
    -- each sequent between what a finished node uses and the one there is derived by the node's tree
    pub derives : (n : Node) (table : List Form) (above : List Above) (b sequent below g : List Form) → IsBranch s table above b sequent → IsLawful s table b n
        → is_finished n ≡ true → is_skipped n ≡ false → IsWithin (uses b n) (g ++ below) → IsWithin (g ++ below) sequent
        → Derives below (derivation_tree b g n)
    derives (Node.step k t a ns) table above b sequent below g is l e skip w v =
        let m = offer_made s table b k t a (given ns) l.1 in
        let node = DTree.node g (step_rule a) a.first a.second a.part (derivation_trees b ns) in
        go (idle_uses b ns) refl
        (λ used q u. derives_idle ns table table above b sequent below g is (λ i h p. p) m.offered m.made (λ r h. h) false l.2 e v used q u node)
        (λ none all. subst (Derives below) (sym (no_idle ns b g node none)) (
          all_within (WellTyped s.symbols) (g ++ below) (λ x h. is.typed x (v x h)),
          (
            raws (given ns),
            offered_applies s sound table above b sequent is (g ++ below) v m.offered
                (λ x h. all x (Contains-append_left (acted a) (uses_all b ns) x h))
                (useful_is_new s sound b (given ns) m.made m.offer m.same_children m.useful),
            derives_each ns table table above b sequent (g ++ below) is (λ i h p. p) m.offered m.made (λ r h. h) l.2 e none
                (λ x h. all x (Contains-append_right (acted a) (uses_all b ns) x h)) v,
          ),
        )) w
      where
        go : (o : Option (List Form)) → idle_uses b ns ≡ o
            → ((used : List Form) → idle_uses b ns ≡ Some used → IsWithin used (g ++ below) → Derives below (derivation_tree b g (Node.step k t a ns)))
            → (idle_uses b ns ≡ None → IsWithin (acted a ++ uses_all b ns) (g ++ below) → Derives below (derivation_tree b g (Node.step k t a ns)))
            → IsWithin (used_or o (acted a ++ uses_all b ns)) (g ++ below) → Derives below (derivation_tree b g (Node.step k t a ns))
        go None q x y w = y q w
        go (Some used) q x y w = x used q w
    derives (Node.closed c) table above b sequent below g is l e skip w v = (
      all_within (WellTyped s.symbols) (g ++ below) (λ x h. is.typed x (v x h)),
      ([], closing_applies s (g ++ below) b c w (closing-source [] b c l), tt),
    )
    derives Node.opened table above b sequent below g is l e skip w v = absurd (let q = e in cc)
    derives Node.skipped table above b sequent below g is l e skip w v = absurd (let q = skip in cc)

    -- the first idle child's tree serves the Step
    derives_idle : (ns : Children) (table u : List Form) (above : List Above) (b sequent below g : List Form) → IsBranch s table above b sequent → Keeps table u
        → {k : Kind} {a : Act} {cs : List (List Form)} → Offered s table b k a cs → AreMade s (given ns) → ((r : List Form) → Contains (raws (given ns)) r → Contains cs r)
        → (i : Bool) → AreLawful s u b i ns → are_finished ns ≡ true → IsWithin (g ++ below) sequent
        → (used : List Form) → idle_uses b ns ≡ Some used → IsWithin used (g ++ below) → (rest : DTree) → Derives below (or_else (idle_tree b g ns) rest)
    derives_idle Children.none table u above b sequent below g is keeps offered made sub i l e v used q w rest = absurd (let p = q in cc)
    derives_idle (Children.more r f n ns) table u above b sequent below g is keeps {k} {a} {cs} offered made sub i l e v used q w rest =
        let p = and_parts (is_finished n) (are_finished ns) e in
        let x = uses (extend b f) n in
        let P : Bool → Type 0 = λ y. Derives below (or_else (cond y (Some (derivation_tree (extend b f) g n)) (idle_tree b g ns)) rest) in
        elim (cond-cases (is_idle b f n x) (Some x) (idle_uses b ns) (Some used) q) [
          | inl j ↦
              let Q : List Form → Type 0 = λ y. IsLawful s y (extend b f) n in
              let R : List Form → Type 0 = λ y. IsWithin y (g ++ below) in
              let z = and_parts (is_finished n) (not (is_skipped n) && is_apart (fresh b f) x) j.0 in
              let skip = not-true (is_skipped n) (and_parts (not (is_skipped n)) (is_apart (fresh b f) x) z.1).0 in
              subst P (sym j.0)
              (derives n (enter u f) (record { kind = k; act = a } ∷ above) (extend b f) (f ++ (r ++ sequent)) below g
              (child_branch s sound table above b sequent is u keeps offered r f (sub r (Contains-here r (raws (given ns)))) made.0)
              (subst Q (entered u f n skip) l.1) p.0 skip (subst R (sym (same_Some x used j.1)) w)
              (λ y h. Contains-append_right f (r ++ sequent) y (Contains-append_right r sequent y (v y h))))
          | inr j ↦ subst P (sym j.0)
              (derives_idle ns table (after (enter_child u f n) n) above b sequent below g is (next_keeps table u f n keeps) offered made.1
              (λ y h. sub y (Contains-there r (raws (given ns)) y h)) (i || skips s.prunes b f n) l.2 p.1 v used j.1 w rest)
        ]

    -- without an idle child each child has its tree
    derives_each : (ns : Children) (table u : List Form) (above : List Above) (b sequent gamma : List Form) → IsBranch s table above b sequent → Keeps table u
        → {k : Kind} {a : Act} {cs : List (List Form)} → Offered s table b k a cs → AreMade s (given ns) → ((r : List Form) → Contains (raws (given ns)) r → Contains cs r)
        → AreLawful s u b false ns → are_finished ns ≡ true → idle_uses b ns ≡ None → IsWithin (uses_all b ns) gamma → IsWithin gamma sequent
        → AreAbove s.symbols s.rules gamma (raws (given ns)) (derivation_trees b ns)
    derives_each Children.none table u above b sequent gamma is keeps offered made sub l e q w v = tt
    derives_each (Children.more r f n ns) table u above b sequent gamma is keeps {k} {a} {cs} offered made sub l e q w v =
        let p = and_parts (is_finished n) (are_finished ns) e in
        let x = uses (extend b f) n in
        let tree : List Form → DTree = λ g. derivation_tree (extend b f) g n in
        let child = child_branch s sound table above b sequent is u keeps offered r f (sub r (Contains-here r (raws (given ns)))) made.0 in
        elim (cond-cases (is_idle b f n x) (Some x) (idle_uses b ns) None q) [
          | inl j ↦ absurd (let z = j.1 in cc)
          | inr j ↦
              let Q : List Form → Type 0 = λ y. IsLawful s y (extend b f) n in
              let R : Bool → Type 0 = λ i. AreLawful s (after (enter_child u f n) n) b i ns in (
                converted_adds tree (λ g. tree_adds n (extend b f) g) r r f,
                converted_derives s sound tree (λ g. tree_adds n (extend b f) g) x (f ++ (r ++ sequent)) child.typed
                    (λ below g low high. derives n (enter u f) (record { kind = k; act = a } ∷ above) (extend b f) (f ++ (r ++ sequent)) below g child
                    (subst Q (entered u f n l.0) l.1) p.0 l.0 low high)
                    r r f gamma made.0 (λ y m. Contains-append_left r gamma y m)
                    (λ y m. elim (kept_uses b f x y m) [
                      | inl z ↦ Contains-append_left f (r ++ gamma) y z
                      | inr z ↦ Contains-append_right f (r ++ gamma) y (Contains-append_right r gamma y (w y (Contains-append_left (without (fresh b f) x) (uses_all b ns) y z)))
                    ])
                    (within_all r f gamma sequent v),
                derives_each ns table (after (enter_child u f n) n) above b sequent gamma is (next_keeps table u f n keeps) offered made.1
                    (λ y m. sub y (Contains-there r (raws (given ns)) y m)) (subst R (unskipped s.prunes (is_idle b f n x) j.0) l.2) p.1 j.1
                    (λ y m. w y (Contains-append_right (without (fresh b f) x) (uses_all b ns) y m)) v,
              )
        ]
