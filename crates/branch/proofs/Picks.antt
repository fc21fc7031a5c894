-- Picks determine the tree: two lawful trees with the same picks, whose current branches aren't closed, are equal.
use Rattle.std.proofs.Common.{◌≡◌, ℕ, ◌+◌, Bool, true, false, ◌||◌, cond, refl, ap, sym, subst, ◌∙◌, List, [], ◌∷◌, ◌++◌, Option, None, Some, append_assoc}
use Rattle.std.specs.Option.{option_or}
use Rattle.std.proofs.lemmas.Bool.{and_right, and_left, and_parts}
use Rattle.zm_logic.specs.Tree.{Form}
use Rattle.branch.specs.Branch.{Closing, closing, extend}
use Rattle.branch.specs.Setting.{Setting}
use Rattle.branch.specs.Sound.{IsSound, AreGiven}
use Rattle.param_store.specs.RawOffers.{Act}
use Rattle.branch.specs.BranchOffers.{Kind}
use Rattle.branch.specs.Offers.{Child, IsOfferAt}
use Rattle.branch.specs.Tableau.{Node, Children, given, is_finished, are_finished, is_skipped, is_open, are_open, skips, enter, enter_child, after, IsLawful, AreLawful, Leaf, current, current_of, picks, picks_all}
use Rattle.branch.specs.Introduced.{Above, HasFacts}
use Rattle.branch.specs.Facts.{EachBranch, EachBelow}
use Rattle.branch.specs.Stopping.{IsRun}
use Rattle.branch.proofs.OpenLeaves.{finished_current, open_picks}
use Rattle.branch.proofs.Determined.{one_at}
use Rattle.branch.proofs.Everywhere.{tableau_facts}

opened_is : (n : Node) → is_open n ≡ true → n ≡ Node.opened
opened_is (Node.step k c a ms) e = cc
opened_is (Node.closed c) e = cc
opened_is Node.opened e = refl
opened_is Node.skipped e = cc

list_is : {A : Type 0} (x y : A) (xs ys : List A) → x ∷ xs ≡ y ∷ ys → (x ≡ y) × (xs ≡ ys)
list_is x y xs ys e = (cc, cc)

child_is : (r f u g : List Form) (xs ys : List Child) → ◌≡◌ {A = List Child} (record { raw = r; normal = f } ∷ xs) (record { raw = u; normal = g } ∷ ys)
    → (r ≡ u) × (f ≡ g) × (xs ≡ ys)
child_is r f u g xs ys e =
    let c : Child = record { raw = r; normal = f } in
    let d : Child = record { raw = u; normal = g } in
    let p = list_is c d xs ys e in (ap (λ x. x.raw) p.0, ap (λ x. x.normal) p.0, p.1)

open_children : (ns ms : Children) → given ns ≡ given ms → are_open ns ≡ true → are_open ms ≡ true → ns ≡ ms
open_children Children.none Children.none e h k = refl
open_children Children.none (Children.more u g m ms) e h k = cc
open_children (Children.more r f n ns) Children.none e h k = cc
open_children (Children.more r f n ns) (Children.more u g m ms) e h k =
    let p = and_parts (is_open n) (are_open ns) h in
    let q = and_parts (is_open m) (are_open ms) k in
    let c = child_is r f u g (given ns) (given ms) e in
    let x = opened_is n p.0 in
    let y = opened_is m q.0 in
    let z = open_children ns ms c.2 p.1 q.1 in
    let i = c.0 in let j = c.1 in cc

-- the current branch, if there is one, isn't closed
abbrev pub IsUnclosed : List Form → List Form → ℕ → Node → Type 0
IsUnclosed t b d n = (leaf : Leaf) → current t b d n ≡ Some leaf → closing leaf.branch ≡ None

abbrev pub AreUnclosed : List Form → List Form → ℕ → Children → Type 0
AreUnclosed t b d ns = (leaf : Leaf) → current_of t b d ns ≡ Some leaf → closing leaf.branch ≡ None

-- a node or its siblings after it, where the current leaf is
first_unclosed : (t b r f : List Form) (d : ℕ) (n : Node) (ns : Children) → AreUnclosed t b d (Children.more r f n ns) → IsUnclosed (enter_child t f n) (extend b f) d n
first_unclosed t b r f d n ns u leaf e = u leaf (ap (λ o. option_or o (current_of (after (enter_child t f n) n) b d ns)) e)

later_unclosed : (t b r f : List Form) (d : ℕ) (n : Node) (ns : Children) → is_finished n ≡ true → AreUnclosed t b d (Children.more r f n ns)
    → AreUnclosed (after (enter_child t f n) n) b d ns
later_unclosed t b r f d n ns h u leaf e =
    u leaf (ap (λ o. option_or o (current_of (after (enter_child t f n) n) b d ns)) (finished_current n (enter_child t f n) (extend b f) d h) ∙ e)

closed_is : (o : Option Closing) (c d : Closing) → o ≡ Some c → o ≡ Some d → c ≡ d
closed_is o c d e h = cc

no_steps : (k : ℕ) (xs ys ls : List ℕ) → (k ∷ xs) ++ ys ≡ ls → ls ≡ [] → ⊥
no_steps k xs ys ls e h = cc

module _ (s : Setting) (sound : IsSound s) where
  mutual
    -- the nodes agree, and so does what follows of the picks
    pub same_node : (n m : Node) (t : List Form) (above : List Above) (b : List Form) (d : ℕ) (ks ls : List ℕ) → EachBranch (HasFacts s) t above b n → IsLawful s t b n → IsLawful s t b m → is_skipped n ≡ is_skipped m
        → IsUnclosed t b d n → IsUnclosed t b d m → (is_finished n ≡ false → ks ≡ []) → (is_finished m ≡ false → ls ≡ [])
        → picks n ++ ks ≡ picks m ++ ls → (n ≡ m) × (ks ≡ ls)
    same_node (Node.step k v a ns) (Node.step j w c ms) t above b d ks ls facts l h z u x p q e =
        let i = list_is k j (picks_all ns ++ ks) (picks_all ms ++ ls) e in
        let o = one_at s sound t above b facts.0 j v w a c (given ns) (given ms) (subst (λ y. IsOfferAt s t b y v a (given ns)) i.0 l.1) h.1 in
        let r = same_children ns ms t (record { kind = v; act = a } ∷ above) b (d + 1) ks ls false facts.1 l.2 h.2 o.2 u x p q i.1 in
        (same_step k j v w a c ns ms i.0 o.0 o.1 r.0, r.1)
      where
        same_step : (k j : ℕ) (v w : Kind) (a c : Act) (ns ms : Children) → k ≡ j → v ≡ w → a ≡ c → ns ≡ ms → Node.step k v a ns ≡ Node.step j w c ms
        same_step k j v w a c ns ms e f g h = cc
    same_node (Node.step k v a ns) (Node.closed c) t above b d ks ls facts l h z u x p q e = absurd (let i : None ≡ Some c = sym l.0 ∙ h in cc)
    same_node (Node.step k v a ns) Node.opened t above b d ks ls facts l h z u x p q e = absurd (no_steps k (picks_all ns) ks ls e (q refl))
    same_node (Node.step k v a ns) Node.skipped t above b d ks ls facts l h z u x p q e = absurd (let i = z in cc)
    same_node (Node.closed c) (Node.step j w a ms) t above b d ks ls facts l h z u x p q e = absurd (let i : None ≡ Some c = sym h.0 ∙ l in cc)
    same_node (Node.closed c) (Node.closed g) t above b d ks ls facts l h z u x p q e = (ap Node.closed (closed_is (closing b) c g l h), e)
    same_node (Node.closed c) Node.opened t above b d ks ls facts l h z u x p q e =
        absurd (let i : None ≡ Some c = sym (x (record { branch = b; above = d; table = t }) refl) ∙ l in cc)
    same_node (Node.closed c) Node.skipped t above b d ks ls facts l h z u x p q e = absurd (let i = z in cc)
    same_node Node.opened (Node.step j w a ms) t above b d ks ls facts l h z u x p q e = absurd (no_steps j (picks_all ms) ls ks (sym e) (p refl))
    same_node Node.opened (Node.closed c) t above b d ks ls facts l h z u x p q e =
        absurd (let i : None ≡ Some c = sym (u (record { branch = b; above = d; table = t }) refl) ∙ h in cc)
    same_node Node.opened Node.opened t above b d ks ls facts l h z u x p q e = (refl, e)
    same_node Node.opened Node.skipped t above b d ks ls facts l h z u x p q e = absurd (let i = z in cc)
    same_node Node.skipped (Node.step j w a ms) t above b d ks ls facts l h z u x p q e = absurd (let i = z in cc)
    same_node Node.skipped (Node.closed c) t above b d ks ls facts l h z u x p q e = absurd (let i = z in cc)
    same_node Node.skipped Node.opened t above b d ks ls facts l h z u x p q e = absurd (let i = z in cc)
    same_node Node.skipped Node.skipped t above b d ks ls facts l h z u x p q e = (refl, e)

    pub same_children : (ns ms : Children) (t : List Form) (above : List Above) (b : List Form) (d : ℕ) (ks ls : List ℕ) (i : Bool) → EachBelow (HasFacts s) t above b ns → AreLawful s t b i ns → AreLawful s t b i ms → given ns ≡ given ms
        → AreUnclosed t b d ns → AreUnclosed t b d ms → (are_finished ns ≡ false → ks ≡ []) → (are_finished ms ≡ false → ls ≡ [])
        → picks_all ns ++ ks ≡ picks_all ms ++ ls → (ns ≡ ms) × (ks ≡ ls)
    same_children Children.none Children.none t above b d ks ls i facts l h g u x p q e = (refl, e)
    same_children Children.none (Children.more r f m ms) t above b d ks ls i facts l h g u x p q e = absurd (let j = g in cc)
    same_children (Children.more r f n ns) Children.none t above b d ks ls i facts l h g u x p q e = absurd (let j = g in cc)
    same_children (Children.more r f n ns) (Children.more v w m ms) t above b d ks ls i facts l h g u x p q e =
        let c = child_is r f v w (given ns) (given ms) g in
        let P : List Form → Type 0 = λ y. AreLawful s t b i (Children.more v y m ms) in
        let Q : List Form → Type 0 = λ y. AreUnclosed t b d (Children.more v y m ms) in
        let h' = subst P (sym c.1) h in
        let x' = subst Q (sym c.1) x in
        let tn = enter_child t f n in
        let first = same_node_in n m t b f d (picks_all ns ++ ks) (picks_all ms ++ ls) i l.0 h'.0
        (same_node n m (enter_child t f n) above (extend b f) d (picks_all ns ++ ks) (picks_all ms ++ ls) facts.0 l.1)
        h'.1 (first_unclosed t b r f d n ns u) (first_unclosed t b v f d m ms x')
        (λ z. rest_none ns ks (l.3 z) (p (and_left (is_finished n) (are_finished ns) z)))
        (λ z. rest_none ms ls (h'.3 z) (q (and_left (is_finished m) (are_finished ms) z)))
        (sym (append_assoc (picks n) (picks_all ns) ks) ∙ e ∙ append_assoc (picks m) (picks_all ms) ls) in
        let R : Node → Type 0 = λ y. AreLawful s (after (enter_child t f y) y) b (i || skips s.prunes b f y) ms in
        let S : Node → Type 0 = λ y. AreUnclosed t b d (Children.more v f y ms) in
        let T : Node → Type 0 = λ y. are_finished (Children.more v f y ms) ≡ false → ls ≡ [] in
        let V : Node → Type 0 = λ y. is_finished y ≡ false → are_open ms ≡ true in
        let q' : are_finished (Children.more v f m ms) ≡ false → ls ≡ [] = q in
        let later = go (is_finished n) n refl ns ms t b r f v d ks ls i c.2 first.1
        (subst V (sym first.0) h'.3) l.3 p (subst T (sym first.0) q')
        (λ y. same_children ns ms (after (enter_child t f n) n) above b d ks ls (i || skips s.prunes b f n) facts.1 l.2 (subst R (sym first.0) h'.2) c.2
        (later_unclosed t b r f d n ns y u) (later_unclosed t b v f d n ms y (subst S (sym first.0) x'))) in
        (same_more r v f w n m ns ms c.0 c.1 first.0 later.0, later.1)
      where
        same_more : (r v f w : List Form) (n m : Node) (ns ms : Children) → r ≡ v → f ≡ w → n ≡ m → ns ≡ ms → Children.more r f n ns ≡ Children.more v w m ms
        same_more r v f w n m ns ms e f' g h = cc

        rest_none : (ns : Children) (ks : List ℕ) → are_open ns ≡ true → ks ≡ [] → picks_all ns ++ ks ≡ []
        rest_none ns ks h e = rw (open_picks ns h) e

        -- the other node, at the same table
        same_node_in : (n m : Node) (t b f : List Form) (d : ℕ) (ks ls : List ℕ) (i : Bool) → is_skipped n ≡ i → is_skipped m ≡ i
            → (IsLawful s (enter_child t f n) (extend b f) m → is_skipped n ≡ is_skipped m → IsUnclosed (enter_child t f n) (extend b f) d n → IsUnclosed (enter_child t f n) (extend b f) d m
            → (is_finished n ≡ false → ks ≡ []) → (is_finished m ≡ false → ls ≡ []) → picks n ++ ks ≡ picks m ++ ls → (n ≡ m) × (ks ≡ ls))
            → IsLawful s (enter_child t f m) (extend b f) m → IsUnclosed (enter_child t f n) (extend b f) d n → IsUnclosed (enter_child t f m) (extend b f) d m
            → (is_finished n ≡ false → ks ≡ []) → (is_finished m ≡ false → ls ≡ []) → picks n ++ ks ≡ picks m ++ ls → (n ≡ m) × (ks ≡ ls)
        same_node_in n m t b f d ks ls i z y rec l u x p q e =
            let j : enter_child t f m ≡ enter_child t f n = ap (λ v. cond v t (enter t f)) (y ∙ sym z) in
            let A : List Form → Type 0 = λ y. IsLawful s y (extend b f) m in
            let B : List Form → Type 0 = λ y. IsUnclosed y (extend b f) d m in
            rec (subst A j l) (z ∙ sym y) u (subst B j x) p q e

        go : (v : Bool) (n : Node) → is_finished n ≡ v → (ns ms : Children) (t b r f w : List Form) (d : ℕ) (ks ls : List ℕ) (i : Bool) → given ns ≡ given ms
            → picks_all ns ++ ks ≡ picks_all ms ++ ls → (is_finished n ≡ false → are_open ms ≡ true) → (is_finished n ≡ false → are_open ns ≡ true)
            → (are_finished (Children.more r f n ns) ≡ false → ks ≡ []) → (are_finished (Children.more w f n ms) ≡ false → ls ≡ [])
            → (is_finished n ≡ true → (are_finished ns ≡ false → ks ≡ []) → (are_finished ms ≡ false → ls ≡ []) → picks_all ns ++ ks ≡ picks_all ms ++ ls → (ns ≡ ms) × (ks ≡ ls))
            → (ns ≡ ms) × (ks ≡ ls)
        go true n e ns ms t b r f w d ks ls i g h x y p q rec =
            rec e (λ z. p (and_right (is_finished n) (are_finished ns) z)) (λ z. q (and_right (is_finished n) (are_finished ms) z)) h
        go false n e ns ms t b r f w d ks ls i g h x y p q rec =
            (open_children ns ms g (y e) (x e), p (and_left (is_finished n) (are_finished ns) e) ∙ sym (q (and_left (is_finished n) (are_finished ms) e)))

pub picks_determine : (s : Setting) → IsSound s → (root : List Form) → AreGiven s root → (ks : List ℕ) (n m : Node) → IsRun s root ks n → IsRun s root ks m → n ≡ m
picks_determine s sound root given ks n m x y =
    (same_node s sound n m (enter [] root) [] root 0 [] [] (tableau_facts s sound root n given x.tableau) x.tableau.lawful y.tableau.lawful
    (x.tableau.entered ∙ sym y.tableau.entered) x.unclosed y.unclosed (λ e. refl) (λ e. refl) (ap (λ z. z ++ []) (x.picked ∙ sym y.picked))).0
